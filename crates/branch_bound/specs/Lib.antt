pub mod Sides
pub mod Rooms
pub mod Answers
pub mod inner
