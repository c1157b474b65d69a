pub mod CallerLemmas
pub mod Entries
pub mod Feeding
pub mod Fronts
pub mod MemoryCalls
