-- What retells how the code finds the group of a statement; nothing above this crate cites it.
pub mod Digests
pub mod Gathering
