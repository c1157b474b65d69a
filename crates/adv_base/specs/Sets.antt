-- Sets of slots as numbers: slot s is in the set where its binary digit of weight 2 ^ s is one. So the union of
-- disjoint sets is their sum.
use Rattle.std.specs.Prelude.{◌≡◌, ℕ, ◌+◌, ◌-◌, ◌^◌, ◌<◌, ◌==◌, bit_and, Bool, true, ◌&&◌, ◌||◌, not, List}
use Rattle.std.specs.List.{list_any}

-- all slots below n
abbrev pub all_slots : ℕ → ℕ
all_slots n = 2 ^ n - 1

abbrev pub has_slot : ℕ → ℕ → Bool
has_slot set slot = not (bit_and set (2 ^ slot) == 0)

-- an edge with one end in each of two sets
abbrev pub is_crossing : ℕ → ℕ → ℕ × ℕ → Bool
is_crossing a b ends = (has_slot a ends.0 && has_slot b ends.1) || (has_slot a ends.1 && has_slot b ends.0)

-- the edges connect the slots below n: whichever way these are cut in two, some edge crosses the cut
abbrev pub IsConnected : ℕ → List (ℕ × ℕ) → Type 0
IsConnected n edges = (a b : ℕ) → 0 < a → 0 < b → a + b ≡ all_slots n → bit_and a b ≡ 0 → list_any (is_crossing a b) edges ≡ true
