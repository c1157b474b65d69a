pub mod Numbering
pub mod Templates
pub mod Caches
pub mod inner
