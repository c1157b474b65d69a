use Rattle.std.proofs.Common.{◌≡◌, ◌++◌, take, codes}
use Rattle.std.specs.List.{flat_map}
use Rattle.report.specs.Listings.{column_words}
use Rattle.report.proofs.listed.push_keys.Given as goal

abbrev pub invariant-loop-key : goal.invariant-loop-key
invariant-loop-key l =
    l.out.items ≡ l.initial.out.items ++ flat_map (λ k. codes ", " ++ column_words l.table k) (take l.key-index l.rest)
