-- What retells the loops of the code; nothing above this crate cites it.
pub mod Caches
pub mod Renewing
pub mod Weights
