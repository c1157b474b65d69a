use Rattle.std.proofs.Common.{◌≡◌, ◌+◌, ◌++◌, drop}
use Rattle.report.specs.Retuned.{tuned_texts}
use Rattle.report.proofs.retuned.push_all.Given as goal

-- the texts so far, and those of the advice that is left, are those of all
abbrev pub invariant-tuned : goal.invariant-tuned
invariant-tuned l =
    l.out.items ++ tuned_texts l.cat (l.at + 1) (drop l.at l.tuned) ≡ l.initial.out.items ++ tuned_texts l.cat 1 l.tuned
