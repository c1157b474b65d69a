pub mod Reading
pub mod Limits
pub mod Parting
pub mod Counting
mod SameLists
pub mod OneProgramme
pub mod Cached
pub mod SlotParts
pub mod Statements
