-- Laws of the writer: callers cite `Counts`, `Payoffs`, `Plans`, `Settings`, `Tables` and `Values`.

pub mod Built
pub mod Decimal
pub mod FieldTexts
pub mod Letters
pub mod Numbers
pub mod Pairs
pub mod Payoffs
pub mod Plans
pub mod Puts
pub mod RowTexts
pub mod SettingTexts
pub mod Splits
pub mod Tables
pub mod Texts
pub mod Values
pub mod Whole
