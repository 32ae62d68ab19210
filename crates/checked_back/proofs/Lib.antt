-- Laws of the way back.
pub mod CheckedWay
