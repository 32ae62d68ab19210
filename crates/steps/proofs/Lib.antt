-- Laws of the month step in the node table.
pub mod Changes
pub mod DueArms
pub mod Looked
pub mod Restored
pub mod RowSteps
pub mod StepArms
pub mod StepKept
pub mod StepParts
pub mod StepReady
pub mod Stepped
pub mod Tested
