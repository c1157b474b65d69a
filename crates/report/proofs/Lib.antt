pub mod CostLines
pub mod CandidateLines
pub mod PickLines
pub mod PointLines
pub mod TunedTexts
pub mod TwoParts
pub mod ToldAlone
