-- Predicates by the kind of their test, and the columns that they bind.
use Rattle.std.specs.Prelude.{ℕ, ◌==◌, Bool, true, false, ◌&&◌, List, filter}
use Rattle.std.specs.List.{list_any}
use Rattle.adv_base.specs.declared.workload.parts.Item.{Item}
use Rattle.adv_base.specs.declared.workload.parts.Item.TheVariants.{Up, Down, Made}
use Rattle.adv_base.specs.declared.workload.predicate.Pred.{Pred}
use Rattle.adv_base.specs.declared.workload.predicate.Test.{Test}
use Rattle.adv_base.specs.declared.workload.predicate.Test.TheVariants.{Equal, Below, Above, Between, OneOf}

-- `column = literal`
abbrev pub is_equality : Test → Bool
is_equality Equal = true
is_equality other = false

-- `column = literal` or IN
abbrev pub is_point : Test → Bool
is_point Equal = true
is_point (OneOf items) = true
is_point other = false

-- `<`, `<=`, `>`, `>=` or BETWEEN
abbrev pub is_range : Test → Bool
is_range (Below v) = true
is_range (Above v) = true
is_range (Between v w) = true
is_range other = false

-- a predicate on a column of a slot, with a test of the kind
abbrev pub is_pred_on : (Test → Bool) → ℕ → ℕ → Pred → Bool
is_pred_on kind s c pred = (pred.slot == s && pred.column == c) && kind pred.test

-- such predicates, as they are written
abbrev pub preds_on : (Test → Bool) → List Pred → ℕ → ℕ → List Pred
preds_on kind preds s c = filter (is_pred_on kind s c) preds

abbrev pub has_pred : (Test → Bool) → List Pred → ℕ → ℕ → Bool
has_pred kind preds s c = list_any (is_pred_on kind s c) preds

-- a column is bound where a predicate gives it a literal
abbrev pub is_bound : List Pred → ℕ → ℕ → Bool
is_bound preds s c = has_pred is_equality preds s c

-- an item whose column is bound
abbrev pub is_bound_item : List Pred → Item → Bool
is_bound_item preds (Up slot column) = is_bound preds slot column
is_bound_item preds (Down slot column) = is_bound preds slot column
is_bound_item preds (Made number) = false
