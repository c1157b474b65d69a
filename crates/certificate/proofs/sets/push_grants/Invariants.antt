use Rattle.std.proofs.Common.{◌≡◌, ◌++◌, map, drop}
use Rattle.certificate.specs.Answers.{entries_of}
use Rattle.certificate.specs.inner.Writing.{grant_place, entries_text}
use Rattle.certificate.proofs.sets.push_grants.Given as goal

-- the lines so far, and those of the grants that are left, are those of all
abbrev pub invariant-grants : goal.invariant-grants
invariant-grants l =
    l.out.items ++ entries_text (entries_of (map (grant_place l.statement l.slot) (drop l.at l.grants)) (drop l.at l.rents))
    ≡ l.initial.out.items ++ entries_text (entries_of (map (grant_place l.statement l.slot) l.grants) l.rents)
