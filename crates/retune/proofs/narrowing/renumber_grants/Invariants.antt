use Rattle.std.specs.Prelude.{slice_index_or}
use Rattle.retune.specs.inner.Renewing.{IsGrantBehind}
use Rattle.retune.proofs.Partly.{IsPartly}
use Rattle.retune.proofs.narrowing.renumber_grants.Given as goal

abbrev pub invariant-loop-grant : goal.invariant-loop-grant
invariant-loop-grant l = IsPartly (IsGrantBehind (λ n. slice_index_or l.numbers.of n 0)) l.grant-index l.initial.grant-items l.grant-items
