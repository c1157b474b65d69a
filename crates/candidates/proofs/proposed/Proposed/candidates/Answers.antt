use Rattle.std.proofs.Common.{◌≡◌, ◌-◌, List, ℕ, length, ap, ◌∙◌, arith}
use Rattle.std.specs.Prelude.{min, take}
use Rattle.adv_base.specs.declared.limits.TheConstants.{MOST_CANDIDATES}
use Rattle.candidates.specs.Proposals.{Proposal}
use Rattle.candidates.proofs.ListLemmas.{take-least}
use Rattle.candidates.proofs.proposed.Proposed.candidates.Goals as goal

pub returns-clause-list : goal.returns-clause-list
returns-clause-list c =
    let fresh : List Proposal = c.args.self.now.fresh in
    let kept : ℕ = c.min-kept.result in
    let least : kept ≡ min (length fresh) MOST_CANDIDATES = c.min-kept.ensures ∙ ap (λ (k : ℕ). min k MOST_CANDIDATES) c.len-count.ensures in
    let places : kept - 0 ≡ kept = omega arith in
    c.in_ok-list.ensures.same ∙ ap (λ (k : ℕ). take k fresh) places ∙ take-least fresh kept MOST_CANDIDATES least
