pub mod Combinations
pub mod Caches
pub mod Kept
pub mod Parts
pub mod Laws
pub mod inner
