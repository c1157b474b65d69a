pub mod Ahead
pub mod Byte
pub mod Cut
pub mod Form
pub mod Front
pub mod Span
pub mod Weight
