-- Room for what is counted while terminals are read.
use Rattle.std.specs.Prelude.{ℕ, ◌+◌, ◌<◌, ◌≤◌, ◌^◌, length, Result, OnOk}
use Rattle.sql_reader.specs.declared.cursor.Cursor.{Cursor}
use Rattle.sql_reader.specs.inner.Remaining.{remaining}
use Rattle.sql_reader.specs.declared.cursor.Unread.{Unread}

-- each terminal that is left may count one more
abbrev pub Fits : ℕ → Cursor → Type 0
Fits count cursor = count + length (remaining cursor) < 2 ^ 32

-- at most as many more were counted as terminals were taken
abbrev pub Spends : ℕ → Cursor → ℕ → Cursor → Type 0
Spends count cursor new_count new =
    (length (remaining new) ≤ length (remaining cursor)) × (new_count + length (remaining new) ≤ count + length (remaining cursor))

-- no terminal was put back, and one at least was taken unless reading stopped
abbrev pub TakesSome : {X : Type 0} → Result X Unread → Cursor → Cursor → Type 0
TakesSome result cursor new =
    (length (remaining new) ≤ length (remaining cursor)) × OnOk result (length (remaining new) < length (remaining cursor))
