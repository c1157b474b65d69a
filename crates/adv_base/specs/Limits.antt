-- The limits that the types keep.
pub mod Numbers
pub mod Tests
pub mod Tables
pub mod Catalogues
pub mod Blocks
pub mod Works
pub mod Settings
