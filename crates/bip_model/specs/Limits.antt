-- The limits that the types keep.
pub mod Grants
pub mod SlotParts
pub mod Parts
pub mod Programmes
pub mod Spaces
