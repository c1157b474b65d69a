-- The order of a set's entries.
use Rattle.std.specs.Prelude.{◌≡◌, ◌<◌, ◌⊎◌}
use Rattle.certificate.specs.declared.cert.Entry.{Entry}

-- an entry stands before another by statement, then slot, then candidate
abbrev pub IsBefore : Entry → Entry → Type 0
IsBefore d e =
    (d.statement < e.statement)
    ⊎ ((d.statement ≡ e.statement) × ((d.slot < e.slot) ⊎ ((d.slot ≡ e.slot) × (d.candidate < e.candidate))))
