pub mod Lists
pub mod Loops
pub mod Documents
pub mod KeyLists
pub mod BoundLists
pub mod IndexLists
pub mod KeyFaults
