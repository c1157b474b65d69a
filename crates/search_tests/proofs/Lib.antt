pub mod Programmes
pub mod Ledgers
