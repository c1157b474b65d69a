-- What retells the loops of the code; nothing above this crate cites it.
pub mod Cells
pub mod Passes
pub mod Tops
pub mod Pricing
