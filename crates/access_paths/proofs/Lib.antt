pub mod MatchLemmas
pub mod TaskLemmas
pub mod PathLemmas
pub mod OfferLemmas
