-- What checking answers, and the plan that stands in the node table.
pub mod Accepting
pub mod Answers
pub mod Measured
pub mod Quick
pub mod Standing
