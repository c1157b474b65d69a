-- Which templates the parts of a programme have.
use Rattle.std.specs.Prelude.{◌≡◌, ℕ, ◌≤◌, All, length}
use Rattle.adv_base.specs.declared.catalogue.Catalogue.{Catalogue}
use Rattle.adv_base.specs.declared.limits.TheConstants.{MOST_SLOTS}
use Rattle.plan_model.specs.declared.task.Task.{Task}
use Rattle.plan_model.specs.declared.template.Template.{Template}
use Rattle.plan_model.specs.BlockTask.{IsTaskOf}
use Rattle.plan_model.specs.Combinations.{AreKept}
use Rattle.bip_model.specs.declared.part.Part.{Part}
use Rattle.bip_model.specs.StandsFor.{Blocked}
use Rattle.bip_model.specs.Values.{need}
use Rattle.inum_cache.specs.Templates.{AreInOrder}

-- a template asks nothing past the slots
abbrev pub AsksNothingPast : ℕ → Template → Type 0
AsksNothingPast slots template = (s : ℕ) → slots ≤ s → need template s ≡ 0

-- a template has a place for each slot that there may be, as the array of each value has
abbrev pub HasAllPlaces : Template → Type 0
HasAllPlaces template = length template.needs ≡ MOST_SLOTS

-- those of the combinations of its block's task that no weaker one replaces, in increasing order from the first slot; none
-- asks anything past the last
pub record HasKept (cat : Catalogue) (blocked : Blocked) (part : Part) : Type 0 where
  pub task : Task
  pub task_is : IsTaskOf cat blocked.block task
  pub kept : AreKept task part.templates
  pub in_order : AreInOrder part.templates
  pub past : All (AsksNothingPast task.slots) part.templates
  pub places : All HasAllPlaces part.templates
