-- What statements propose, behind one more that went again.
use Rattle.std.proofs.Common.{◌≡◌, ◌∙◌, ℕ, ◌≤◌, List, [], ◌∷◌, ◌++◌, length, length-append, take, sym, ap, arith}
use Rattle.std.proofs.Math.Seq.{take-append_seam}
use Rattle.adv_base.specs.declared.catalogue.Catalogue.{Catalogue}
use Rattle.adv_base.specs.declared.workload.Statement.{Statement}
use Rattle.candidates.specs.Candidates.{fresh_proposals}
use Rattle.candidates.specs.Growing.{TheProposed, the_proposed, IsProposed}
use Rattle.candidates.specs.Proposals.{Proposal}
use Rattle.candidates.proofs.Growing.{fresh-more}

-- what one statement more proposes stands behind
pub shorter : (cat : Catalogue) (statements : List Statement) (statement : Statement) (old new : TheProposed) → IsProposed cat statements old → IsProposed cat (statements ++ statement ∷ []) new → length old.fresh ≤ length new.fresh
shorter cat statements statement old new was is =
    let grows = fresh-more cat statements statement in
    omega (arith, ap length was.fresh_are, ap length is.fresh_are, ap length grows.1, length-append (fresh_proposals cat statements) grows.0)

pub shortened : (cat : Catalogue) (statements : List Statement) (statement : Statement) (old new left : TheProposed) (count : ℕ) → IsProposed cat statements old → IsProposed cat (statements ++ statement ∷ []) new →
    count ≡ length old.fresh → left ≡ the_proposed new.existing (take count new.fresh) → IsProposed cat statements left
shortened cat statements statement old new left count was is counted gone =
    let grows = fresh-more cat statements statement in
    let all : List Proposal = fresh_proposals cat statements in
    record {
      existing_are = ap (λ (p : TheProposed). p.existing) gone ∙ is.existing_are;
      fresh_are =
          ap (λ (p : TheProposed). p.fresh) gone ∙ ap (take count) (is.fresh_are ∙ grows.1)
          ∙ ap (λ (n : ℕ). take n (all ++ grows.0)) (counted ∙ ap length was.fresh_are) ∙ take-append_seam all grows.0;
    }
