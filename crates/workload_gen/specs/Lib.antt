pub mod Draws
pub mod Tables
pub mod Statements
pub mod Texts
