-- What retells the code of the sweep; nothing above this crate cites it.
pub mod Passes
