pub mod NumberLaws
pub mod Results
pub mod WordLaws
pub mod OptionLaws
pub mod Choices
pub mod Rows
pub mod Ranges
pub mod Grammar
