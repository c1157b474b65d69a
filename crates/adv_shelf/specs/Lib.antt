pub mod Faults
pub mod Memory
pub mod Shelf
pub mod Sink
pub mod System
pub mod Taker
