-- Laws of the reader.
pub mod LetterLaws
pub mod LetterCounts
pub mod OpenLaws
pub mod RowLaws
pub mod QuickLaws
pub mod PackedLaws
pub mod Nesting
pub mod NestingLaws
pub mod WholeLaws
pub mod TextLaws
pub mod SettingBytes
