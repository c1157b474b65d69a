use Rattle.std.proofs.Common.{◌≡◌, ◌++◌, drop}
use Rattle.workload_fold.specs.Texts.{folded_text}
use Rattle.workload_fold.proofs.writing.fold_text.Given as goal

-- what is written and the groups that are left are all
abbrev pub invariant-groups : goal.invariant-groups
invariant-groups l =
    l.out.items ++ folded_text l.parsed.text.now l.parsed.statements (drop l.at l.first) (drop l.at l.weights)
    ≡ folded_text l.parsed.text.now l.parsed.statements l.first l.weights
