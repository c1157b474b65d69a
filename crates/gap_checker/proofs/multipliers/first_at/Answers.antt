use Rattle.std.proofs.Common.{◌≡◌, ℕ, ◌<◌, length, subst, arith}
use Rattle.std.proofs.lemmas.Option.{slice_get_within}
use Rattle.gap_checker.specs.inner.Searches.{IsCut}
use Rattle.gap_checker.proofs.multipliers.first_at.Goals as goal

pub halve-init : goal.halve-init
halve-init c =
    record {
      before = λ k e below there. absurd (omega (arith, below));
      behind = λ k e past there. let within : k < length c.args.entries.now = slice_get_within c.args.entries.now k e there in absurd (omega (arith, within, past));
      order = omega arith;
      within = omega arith;
    }

pub returns : goal.returns
returns c =
    let same : c.halve.to ≡ c.halve.from = omega (arith, c.halve-test.false, c.halve.invariant.order) in
    subst (λ (to : ℕ). IsCut c.args.entries.now c.args.place c.halve.from to) same c.halve.invariant
