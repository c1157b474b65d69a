use Rattle.std.proofs.Common.{◌≡◌, ◌∙◌, ◌+◌, ◌*◌, ◌≤◌, ◌++◌, ◌∷◌, [], ℕ, get_or, length, take, sym, ap, arith}
use Rattle.std.specs.Prelude.{List}
use Rattle.std.proofs.lemmas.List.Elements.{All-push}
use Rattle.adv_base.specs.declared.limits.TheConstants.{MOST_RENT, MOST_SLOTS, MOST_STATEMENTS, MOST_WEIGHT}
use Rattle.adv_base.specs.declared.catalogue.index.IndexShape.{IndexShape}
use Rattle.plan_model.specs.Lagrangian as lagrangian
use Rattle.gap_checker.specs.inner.Earnings as earning
use Rattle.gap_checker.proofs.Adding.{earned-more}
use Rattle.gap_checker.proofs.Lists.{take-next, length-front}
use Rattle.gap_checker.proofs.multipliers.earned.Goals as goal

pub loop-a-preserved : goal.loop-a-preserved
loop-a-preserved c =
    let shapes = c.args.setting.now.shapes.now in
    let statements = c.args.setting.now.statements.now in
    let a = c.loop-a.a in
    let rent : ℕ → ℕ → ℕ → ℕ = earning.rent_of c.args.rents.now in
    let shape = get_or shapes a c.index-setting-a.result in
    let is : shape ≡ get_or shapes a shape = ap (λ (s : IndexShape). get_or shapes a s) c.index-setting-a.is in
    let place : a + 1 ≡ 1 + length (take a shapes) = omega (arith, length-front shapes a (omega (arith, c.loop-a-test.true))) in
    let own = c.weighted_rents.ensures.exact ∙ ap (λ (n : ℕ). lagrangian.weighted_rents (λ q s. rent q s n) shape.table 1 statements) place in
    let old : List ℕ = earning.earned_from rent statements 1 (take a shapes) in
    record {
      are =
          c.in_ok-push.ensures.items ∙ ap (λ (list : List ℕ). list ++ c.weighted_rents.result ∷ []) c.loop-a.invariant.are ∙ ap (λ (n : ℕ). old ++ n ∷ []) own
          ∙ sym (earned-more rent statements 1 (take a shapes) shape) ∙ ap (earning.earned_from rent statements 1) (sym (take-next shapes a shape c.loop-a-test.true is));
      most = rw c.in_ok-push.ensures.items (All-push (λ (sum : ℕ). sum ≤ MOST_STATEMENTS * (MOST_WEIGHT * (MOST_SLOTS * MOST_RENT))) c.loop-a.list.items c.weighted_rents.result c.loop-a.invariant.most c.weighted_rents.ensures.most);
    }
