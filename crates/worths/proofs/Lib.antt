-- Laws of evaluation.
pub mod Bounds
pub mod FourWaits
pub mod LeafLaws
pub mod WaitLoop
pub mod WorthArms
pub mod WorthNodes
pub mod WorthParts
