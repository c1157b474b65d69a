use Rattle.std.proofs.Common.{◌≡◌, ◌∙◌, inl, inr, length, refl, sym, ap, subst, arith}
use Rattle.std.specs.Prelude.{slice_get}
use Rattle.std.proofs.lemmas.Bool.{cases_lt}
use Rattle.std.proofs.lemmas.Option.{slice_get_read, slice_get_within, same_Some}
use Rattle.adv_base.specs.declared.limits.TheConstants.{MOST_CANDIDATES}
use Rattle.bip_model.specs.declared.point.Point.{Point}
use Rattle.cophy_core.proofs.commands.sweep.have_all_flags.Goals as goal

pub points-preserved : goal.points-preserved
points-preserved c = λ i point less found.
    let points = c.args.points.now in
    let own = c.index-points-at.result in
    elim (cases_lt i c.points.at) [
      | inl before ↦ c.points.invariant i point before found
      | inr later ↦
          let same : i ≡ c.points.at = omega (arith, less, later) in
          let here = slice_get_read points (length points) c.points.at own refl c.points-test.true c.index-points-at.is in
          let element = same_Some own point (sym here ∙ (ap (slice_get points) (sym same) ∙ found)) in
          subst (λ (p : Point). length p.answer.config.on ≡ MOST_CANDIDATES) (sym c.index-points-at.is ∙ element) c.has_all_flags.ensures
    ]

pub returns : goal.returns
returns c = λ i point found.
    let within = slice_get_within c.args.points.now i point found in
    c.points.invariant i point (omega (arith, within, c.points-test.false)) found
