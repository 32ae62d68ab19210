-- Open settings filled in a payoff's node table.
pub mod Settle
pub mod Sums
