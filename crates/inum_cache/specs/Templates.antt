-- What templates keep, and how they stand in a list.
use Rattle.std.specs.Prelude.{◌≡◌, ℕ, ◌<◌, ◌≤◌, List, length, Some, slice_get, slice_index_or}
use Rattle.adv_base.specs.Items.{Order}
use Rattle.plan_model.specs.declared.plan.TheConstants.{MOST_COST}
use Rattle.plan_model.specs.declared.template.Template.{Template}
use Rattle.inum_cache.specs.Numbering.{size_in}

-- a template's cost is that of a plan, and its places are those of orders; past the slots they are 0
pub record FitsOrders (orders : List (List Order)) (template : Template) : Type 0 where
  pub most : template.internal < MOST_COST
  pub within : (slot : ℕ) → slot < length orders → slice_index_or template.needs slot 0 < size_in orders slot
  pub past : (slot : ℕ) → length orders ≤ slot → slice_index_or template.needs slot 0 ≡ 0

-- the places of the first template are less at some slot, and the same at all slots before
pub record StandsBefore (first second : Template) : Type 0 where
  pub slot : ℕ
  pub less : slice_index_or first.needs slot 0 < slice_index_or second.needs slot 0
  pub same : (s : ℕ) → s < slot → slice_index_or first.needs s 0 ≡ slice_index_or second.needs s 0

-- templates in increasing order of the places of what they need, read from the first slot
abbrev pub AreInOrder : List Template → Type 0
AreInOrder templates =
    (i j : ℕ) (first second : Template) → i < j → slice_get templates i ≡ Some first → slice_get templates j ≡ Some second → StandsBefore first second
