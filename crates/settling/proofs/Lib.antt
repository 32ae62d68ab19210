-- Laws of filling a payoff's open settings.
pub mod FilledFound
pub mod MappedFields
pub mod NodePasses
pub mod PayoffNodes
pub mod PayoffSettles
pub mod PlainRows
pub mod RowSettles
pub mod SettingSums
