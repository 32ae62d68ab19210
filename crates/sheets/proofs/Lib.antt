-- Laws about the sheet's answers.
pub mod Accepted
pub mod AnswerTexts
pub mod Refusals
pub mod Rooms
pub mod SheetReads
