pub mod Columns
pub mod Proposals
pub mod Candidates
pub mod Growing
pub mod inner
