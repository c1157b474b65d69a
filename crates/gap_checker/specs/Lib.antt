pub mod Views
pub mod Visits
pub mod Faults
pub mod At
pub mod Laws
pub mod inner
