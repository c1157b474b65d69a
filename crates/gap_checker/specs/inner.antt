-- What retells the checker's steps.
pub mod Parts
pub mod Rows
pub mod Nodes
pub mod Sums
pub mod Charges
pub mod Earnings
pub mod Uses
pub mod Kept
pub mod Claims
pub mod Judges
pub mod Walks
pub mod Searches
pub mod Changes
pub mod Memos
pub mod AtFaults
pub mod Readings
