use Rattle.std.proofs.Common.{◌∙◌, ℕ, zero, suc, ◌≤◌, [], ◌∷◌, List, ◌≡◌, ◌++◌, All, take, sym, ap, subst, arith}
use Rattle.bip_model.specs.declared.multipliers.Multipliers.{Multipliers}
use Rattle.bip_model.specs.declared.programme.Programme.{Programme}
use Rattle.bip_model.specs.Views.{AreMultipliers}
use Rattle.branch_bound.specs.inner.Proposals.{AreProposed}
use Rattle.branch_bound.proofs.proposing.keep_first.Goals as goal

one-set : (programme : Programme) (most : ℕ) (set : Multipliers) → 1 ≤ most → AreMultipliers programme set → AreProposed programme most (set ∷ [])
one-set programme most set some fits = record { some = omega arith; few = some; fit = alone }
  where
    alone : All (AreMultipliers programme) (set ∷ [])
    alone zero d within = fits
    alone (suc k) d within = absurd (omega (arith, within))

pub returns-clause-sets : goal.returns-clause-sets
returns-clause-sets c =
    let first : Multipliers = c.improve.new.mult in
    let start : c.keep.new.sets.items ≡ first ∷ [] = c.keep.ensures.items ∙ ap (λ (front : List Multipliers). front ++ first ∷ []) c.requires.empty in
    record {
      first = first;
      front = ap (take 1) start;
      proposed = subst (λ (sets : List Multipliers). AreProposed c.args.task.now.programme.now c.args.task.now.most sets) (sym start) (one-set c.args.task.now.programme.now c.args.task.now.most first c.requires.some c.improve.ensures.within);
      tried = c.improve.ensures.tried;
    }
