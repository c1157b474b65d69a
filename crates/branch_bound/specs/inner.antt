-- What retells the code of the search; nothing above this crate cites it.
pub mod Runs
pub mod Climbs
pub mod Proposals
