pub mod Rents
pub mod Cutting
