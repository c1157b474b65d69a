pub mod Rented
pub mod Bounds
pub mod Rents
pub mod Laws
pub mod ListedPrices
pub mod CandidateUses
pub mod Ledgers
pub mod inner
