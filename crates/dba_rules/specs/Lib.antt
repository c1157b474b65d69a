pub mod Faults
pub mod Lines
pub mod Names
pub mod Rules
pub mod Settled
pub mod Laws
