pub mod Rents
