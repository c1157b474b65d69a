pub mod ListLemmas
pub mod KnownLemmas
pub mod FreshLaws
pub mod Once
pub mod Growing
pub mod SoundLaws
