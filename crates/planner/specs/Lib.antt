pub mod Sorts
pub mod Fronts
pub mod Cells
pub mod Cuts
pub mod Choices
pub mod Rows
pub mod Tables
pub mod inner
