use Rattle.std.proofs.Common.{◌≡◌, ◌∙◌, length, All, List, ℕ, sym, ap, subst, arith}
use Rattle.std.proofs.Math.Seq.{take-length}
use Rattle.std.proofs.lemmas.List.{length-map}
use Rattle.adv_base.specs.declared.workload.Statement.{Statement}
use Rattle.adv_base.specs.Settings.{TheSetting, the_setting}
use Rattle.adv_base.specs.Sizes.{shape_pages}
use Rattle.plan_model.specs.Lagrangian.{weighted_upkeep}
use Rattle.bip_model.specs.Limits.Programmes.{GrantsWithin}
use Rattle.bip_model.specs.StandsFor.{AreEach, IsPart, blocked_from}
use Rattle.programme_parts.proofs.Statements.{parts-few, all-within}
use Rattle.programme_parts.proofs.whole.programme_with_parts.Goals as goal

pub invariant_of-result : goal.invariant_of-result
invariant_of-result c =
    let now = c.args.setting.now in
    let setting : TheSetting = the_setting now in
    let parts = c.args.parts in
    let are = subst (λ (statements : List Statement). AreEach (IsPart setting) (blocked_from 1 statements) parts) (take-length now.statements.now) c.requires.parts_are in
    let sizes : length c.in_ok-figures.figures.sizes ≡ length now.shapes.now = ap length c.in_ok-figures.ensures.sizes_are ∙ length-map now.shapes.now (shape_pages now.cat.now) in
    let upkeeps : length c.in_ok-figures.figures.upkeep ≡ length now.shapes.now = ap length c.in_ok-figures.ensures.upkeep_is ∙ length-map now.shapes.now (weighted_upkeep setting) in
    record {
      limits =
          record {
            sizes_most = omega (arith, sizes, now.limits.shapes_most);
            pages_most = c.in_ok-figures.ensures.sizes_most;
            upkeep_each = omega (arith, sizes, upkeeps);
            upkeep_most = c.in_ok-figures.ensures.upkeep_most;
            kept_most = c.in_ok-figures.ensures.kept_most;
            parts_most = omega (arith, parts-few setting now.statements.now parts are, now.limits.statements_most);
            candidates = subst (λ (n : ℕ). All (GrantsWithin n) parts) (sym sizes) (all-within setting (blocked_from 1 now.statements.now) parts are);
          };
    }
