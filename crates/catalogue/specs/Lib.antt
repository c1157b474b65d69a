pub mod Paths
pub mod Values
pub mod Keys
pub mod Content
pub mod Catalogue
