use Rattle.std.proofs.Common.{◌≡◌, ◌∙◌, ◌≤◌, ℕ, length, ap, subst, sym, arith}
use Rattle.std.specs.Prelude.{All}
use Rattle.std.proofs.lemmas.List.{length-map}
use Rattle.adv_base.specs.declared.limits.TheConstants.{MOST_INDEX_PAGES}
use Rattle.adv_base.specs.Sizes.{shape_pages}
use Rattle.gap_checker.proofs.judge.Judge.new.Goals as goal

pub kept_sets-requires : goal.kept_sets-requires
kept_sets-requires c = record { limits = c.requires.limits.each }

pub invariant_of-space : goal.invariant_of-space
invariant_of-space c =
    let sizes = c.args.figures.now.sizes in
    let few : length sizes ≡ length c.args.setting.now.shapes.now = ap length c.requires.figures_are.sizes_are ∙ length-map c.args.setting.now.shapes.now (shape_pages c.args.setting.now.cat.now) in
    record {
      limits =
          record {
            sizes_most = omega (arith, ap length c.as_slice.ensures, few, c.args.setting.now.limits.shapes_most);
            pages_most = subst (All (λ (size : ℕ). size ≤ MOST_INDEX_PAGES)) (sym c.as_slice.ensures) c.requires.figures_are.sizes_most;
          };
    }
