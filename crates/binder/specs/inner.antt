-- What the code computes on its way, told as it computes it; no public clause rests on it.
pub mod Labels
