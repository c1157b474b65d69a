pub mod ConfigOffers
pub mod Labels
pub mod inner
