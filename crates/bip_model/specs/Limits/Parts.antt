-- Limits of parts of programmes.
use Rattle.std.specs.Prelude.{◌≡◌, ℕ, ◌<◌, ◌≤◌, List, length, All, Some, slice_get, slice_index_or}
use Rattle.adv_base.specs.declared.limits.TheConstants.{MOST_SLOTS, MOST_STATEMENTS, MOST_WEIGHT}
use Rattle.plan_model.specs.declared.plan.TheConstants.{MOST_COST}
use Rattle.plan_model.specs.declared.template.Template.{Template}
use Rattle.bip_model.specs.declared.slot_part.SlotPart.{SlotPart}

-- an internal cost is that of a plan, and each slot has the needed order
pub record TemplateLimits (slots : List SlotPart) (template : Template) : Type 0 where
  pub internal_most : template.internal < MOST_COST
  pub needs_within : (s : ℕ) (slot : SlotPart) → slice_get slots s ≡ Some slot → slice_index_or template.needs s 0 < length slot.base

-- the number and weight of a statement, templates, and 1 to 8 slots
pub record PartLimits (statement weight : ℕ) (templates : List Template) (slots : List SlotPart) : Type 0 where
  pub statement_least : 1 ≤ statement
  pub statement_most : statement ≤ MOST_STATEMENTS
  pub weight_least : 1 ≤ weight
  pub weight_most : weight ≤ MOST_WEIGHT
  pub slots_some : 1 ≤ length slots
  pub slots_most : length slots ≤ MOST_SLOTS
  pub templates_limits : All (TemplateLimits slots) templates
