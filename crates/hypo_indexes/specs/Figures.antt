-- The figures of a setting: what its candidates take and cost.
use Rattle.std.specs.Prelude.{◌≡◌, ◌*◌, ◌≤◌, map, All}
use Rattle.adv_base.specs.declared.limits.TheConstants.{MOST_INDEXES, MOST_INDEX_PAGES, MOST_STATEMENTS, MOST_UPKEEP, MOST_WEIGHT}
use Rattle.adv_base.specs.Settings.{TheSetting}
use Rattle.adv_base.specs.Sizes.{shape_pages}
use Rattle.adv_base.specs.Upkeep.{weighted_upkeep, weighted_kept}
use Rattle.hypo_indexes.specs.declared.figures.Figures.{Figures}

-- the pages and the weighted upkeep of each candidate, and that of the indexes that exist
pub record AreFigures (setting : TheSetting) (figures : Figures) : Type 0 where
  pub sizes_are : figures.sizes ≡ map (shape_pages setting.cat) setting.shapes
  pub sizes_most : All (λ size. size ≤ MOST_INDEX_PAGES) figures.sizes
  pub upkeep_is : figures.upkeep ≡ map (weighted_upkeep setting) setting.shapes
  pub upkeep_most : All (λ cost. cost ≤ MOST_STATEMENTS * (MOST_WEIGHT * MOST_UPKEEP)) figures.upkeep
  pub kept_is : figures.kept ≡ weighted_kept setting
  pub kept_most : figures.kept ≤ MOST_STATEMENTS * (MOST_WEIGHT * (MOST_INDEXES * MOST_UPKEEP))
