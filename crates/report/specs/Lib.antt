pub mod Paths
pub mod Listings
pub mod Words
pub mod Sweeps
pub mod Advised
pub mod Retuned
pub mod Texts
pub mod Advices
