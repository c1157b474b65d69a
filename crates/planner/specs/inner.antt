pub mod Growing
pub mod Cutting
pub mod Steps
pub mod Built
pub mod Shapes
