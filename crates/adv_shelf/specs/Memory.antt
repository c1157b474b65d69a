-- A shelf and a sink in memory, and the calls that are to fail on them.
use Rattle.std.specs.Prelude.{◌≡◌, ℕ, ◌+◌, ◌-◌, min, ◌==◌, IsTrue, List, [], ◌++◌, map, take, drop, length, refl}
use Rattle.std.specs.List.{list_any}
use Rattle.std.specs.FinMap.{code, empty, from_entries}
use Rattle.std.specs.Coded.{Coded, code_by, coded×, coded_ℕ, coded_list}
use Rattle.adv_shelf.specs.Shelf.{Files}

-- a count after one fault more: it stops at the end of 64 bits
abbrev pub next_count : ℕ → ℕ
next_count count = min (count + 1) 18446744073709551615

-- the next call is to fail: each number says how many calls from now one is, and 0 is past
abbrev pub IsDue : List ℕ → Type 0
IsDue failing = IsTrue (list_any (λ calls. calls == 1) failing)

-- the numbers after a call
abbrev pub after_call : List ℕ → List ℕ
after_call failing = map (λ calls. calls - 1) failing

-- the files of a list of names with their bytes, of which the first of a name counts
abbrev pub files_of : List (List ℕ × List ℕ) → Files
files_of entries = from_entries entries

-- what a shelf in memory holds: its files, the calls that are to fail, and its two counts of faults
pub record ShelfState : Type 0 where
  pub files : Files
  pub failing : List ℕ
  pub read_faults : ℕ
  pub put_faults : ℕ

-- it is stored as the tuple of its fields
abbrev pub shelf_code : Coded ShelfState
shelf_code =
    code_by (Files × (List ℕ × (ℕ × ℕ)))
    (coded× (code (coded_list coded_ℕ) (coded_list coded_ℕ)) (coded× (coded_list coded_ℕ) (coded× coded_ℕ coded_ℕ)))
    (λ s. (s.files, (s.failing, (s.read_faults, s.put_faults))))
    (λ p. record { files = p.0; failing = p.1.0; read_faults = p.1.1.0; put_faults = p.1.1.1 })
    (λ _. refl)

-- no file, no fault and no call that is to fail
abbrev pub new_shelf : ShelfState
new_shelf = record { files = empty; failing = []; read_faults = 0; put_faults = 0 }

-- what a sink in memory holds: how many bytes it may take in all, those that it has, the calls that are to fail, and its count of faults
pub record SinkState : Type 0 where
  pub capacity : ℕ
  pub bytes : List ℕ
  pub failing : List ℕ
  pub faults : ℕ

-- no byte, no fault and no call that is to fail
abbrev pub new_sink : ℕ → SinkState
new_sink capacity = record { capacity = capacity; bytes = []; failing = []; faults = 0 }

-- a read of all that the file has from a place on and the buffer has room for; the buffer's other bytes stay
pub record IsWholeRead (file : List ℕ) (from : ℕ) (old : List ℕ) (n : ℕ) (new : List ℕ) : Type 0 where
  pub count : n ≡ min (length old) (length file - from)
  pub bytes : new ≡ take n (drop from file) ++ drop n old
