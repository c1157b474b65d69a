-- What retells the loops of the code; nothing above this crate cites it.
pub mod Every
pub mod Prices
pub mod Offered
pub mod Readers
