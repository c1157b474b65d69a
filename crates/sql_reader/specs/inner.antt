-- How the code reads, apart from what it reads.
pub mod Ahead
pub mod Kept
pub mod Reads
pub mod Remaining
pub mod Room
pub mod Surveyed
