-- What retells how the code keeps offers; nothing above this crate cites it.
pub mod Paths
pub mod SlotOffers
pub mod Readers
