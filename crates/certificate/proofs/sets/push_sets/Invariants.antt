use Rattle.std.proofs.Common.{◌≡◌, ◌++◌, drop}
use Rattle.certificate.specs.inner.Writing.{sets_text}
use Rattle.certificate.proofs.sets.push_sets.Given as goal

-- the lines so far, and those of the sets that are left, are those of all
abbrev pub invariant-sets : goal.invariant-sets
invariant-sets l = l.out.items ++ sets_text l.prog (drop l.at l.sets) ≡ l.initial.out.items ++ sets_text l.prog l.sets
