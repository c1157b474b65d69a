-- What retells how the code holds proposals; nothing above this crate cites it.
pub mod Known
