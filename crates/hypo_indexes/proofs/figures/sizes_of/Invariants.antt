use Rattle.std.proofs.Common.{◌≡◌, ◌≤◌, map, take}
use Rattle.std.specs.Prelude.{All}
use Rattle.adv_base.specs.Sizes.{shape_pages}
use Rattle.adv_base.specs.declared.limits.TheConstants.{MOST_INDEX_PAGES}
use Rattle.hypo_indexes.proofs.figures.sizes_of.Given as goal

abbrev pub invariant-loop-shape : goal.invariant-loop-shape
invariant-loop-shape l =
    record {
      are : l.sizes.items ≡ map (shape_pages l.setting.cat.now) (take l.shape-index l.setting.shapes.now);
      most : All (λ size. size ≤ MOST_INDEX_PAGES) l.sizes.items;
    }
