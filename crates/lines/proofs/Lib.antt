-- Laws about a sheet's lines.
pub mod FigureLaws
pub mod IndexLaws
pub mod IndexLists
pub mod LineLaws
pub mod LineParts
pub mod NumberFields
pub mod SheetLaws
pub mod SheetParts
pub mod SpanMonths
pub mod WordLaws
