-- Items of orders, and lists of them.
use Rattle.std.specs.Prelude.{◌≡◌, ℕ, nat_lt, ◌==◌, Bool, true, false, ◌&&◌, List, [], ◌∷◌, length, take, All, AllPairs}
use Rattle.std.specs.List.{list_all}
use Rattle.adv_base.specs.declared.workload.parts.Item.{Item}
use Rattle.adv_base.specs.declared.workload.parts.Item.TheVariants.{Up, Down, Made}

-- what rows are sorted by, the leading item first
abbrev pub Order : Type 0
Order = List Item

-- the order o begins with the order r
abbrev pub BeginsWith : Order → Order → Type 0
BeginsWith o r = take (length r) o ≡ r

-- a column of a slot below n; a made item is of none
abbrev pub is_within_slots : ℕ → Item → Bool
is_within_slots n (Up slot column) = nat_lt slot n
is_within_slots n (Down slot column) = nat_lt slot n
is_within_slots n (Made number) = true

abbrev pub AreWithinSlots : ℕ → List Item → Type 0
AreWithinSlots n items = All (λ item. is_within_slots n item ≡ true) items

-- the same column, whichever way each goes
abbrev pub is_same_column : Item → Item → Bool
is_same_column (Up s c) (Up t d) = (s == t) && (c == d)
is_same_column (Up s c) (Down t d) = (s == t) && (c == d)
is_same_column (Down s c) (Up t d) = (s == t) && (c == d)
is_same_column (Down s c) (Down t d) = (s == t) && (c == d)
is_same_column x y = false

-- the same item, one that is no column by its number
abbrev pub is_same_item : Item → Item → Bool
is_same_item (Up s c) (Up t d) = (s == t) && (c == d)
is_same_item (Down s c) (Down t d) = (s == t) && (c == d)
is_same_item (Made m) (Made n) = m == n
is_same_item x y = false

abbrev pub is_same_order : Order → Order → Bool
is_same_order [] [] = true
is_same_order (x ∷ xs) (y ∷ ys) = is_same_item x y && is_same_order xs ys
is_same_order xs ys = false

-- no column stands twice
abbrev pub AreApart : List Item → Type 0
AreApart items = AllPairs (λ x y. is_same_column x y ≡ false) items

abbrev pub is_upward : Item → Bool
is_upward (Up s c) = true
is_upward other = false

-- each item is a column upwards
abbrev pub AreUpward : List Item → Type 0
AreUpward items = All (λ item. is_upward item ≡ true) items

-- an upward column of the slot
abbrev pub is_up_of : ℕ → Item → Bool
is_up_of slot (Up s c) = s == slot
is_up_of slot other = false

-- a list that isn't empty, of upward columns of one slot
abbrev pub is_own_list : ℕ → Order → Bool
is_own_list slot [] = false
is_own_list slot (x ∷ xs) = list_all (is_up_of slot) (x ∷ xs)
