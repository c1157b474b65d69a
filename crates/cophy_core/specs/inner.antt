-- What retells the loops of the code; nothing above this crate cites it.
pub mod Parts
pub mod EditSteps
pub mod PointCertificates
pub mod Work
