-- Entries in their order, searched for a use.
use Rattle.std.specs.Prelude.{◌≡◌, ℕ, ◌<◌, ◌≤◌, List, length, Option, Some, None, slice_get, if◌then◌else◌}
use Rattle.certificate.specs.declared.cert.Entry.{Entry}
use Rattle.certificate.specs.Limits.{entry_place}
use Rattle.gap_checker.specs.Views.{is_entry_of}

-- all entries below `from` stand before a place, and none from `to` on
pub record IsCut (entries : List Entry) (place from to : ℕ) : Type 0 where
  pub before : (k : ℕ) (entry : Entry) → k < from → slice_get entries k ≡ Some entry → entry_place entry < place
  pub behind : (k : ℕ) (entry : Entry) → to ≤ k → slice_get entries k ≡ Some entry → place ≤ entry_place entry
  pub order : from ≤ to
  pub within : to ≤ length entries

-- what the entry at a place gives a use
abbrev pub rent_of : Option Entry → ℕ → ℕ → ℕ → ℕ
rent_of (Some entry) q s a = if is_entry_of entry q s a then entry.lambda else 0
rent_of None q s a = 0
