-- Laws of the node table.
pub mod AmountsFound
pub mod BlocksLaid
pub mod Counts
pub mod Fields
pub mod Laid
pub mod Passes
pub mod PayoffsFound
pub mod PlansFound
pub mod Settings
pub mod Signed
pub mod TestLetters
pub mod TreePasses
