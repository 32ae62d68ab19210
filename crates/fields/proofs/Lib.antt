-- Laws of numbers, settings and fields.
pub mod Positions
pub mod NumberLaws
pub mod FewDigits
pub mod ClassLaws
pub mod FieldLaws
pub mod SettingLaws
pub mod MonthParts
pub mod MonthLaws
