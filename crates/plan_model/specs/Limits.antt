-- The limits that the types keep.
pub mod Tasks
