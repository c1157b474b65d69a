-- What retells the steps of the reader and the writer.
pub mod Words
pub mod Outlines
pub mod Steps
pub mod Drafts
pub mod Runs
pub mod Pieces
pub mod States
pub mod Writing
