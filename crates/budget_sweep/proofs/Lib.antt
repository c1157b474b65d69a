pub mod Points
pub mod CurveLaws
pub mod Passing
