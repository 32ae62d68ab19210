-- Laws of compiling in the node table.
pub mod CompileArms
pub mod CompileParts
pub mod Compiled
pub mod Delays
pub mod MonthRows
