use Rattle.std.proofs.Common.{◌≡◌, drop}
use Rattle.std.specs.List.{list_all}
use Rattle.plan_model.specs.Plans.{is_column_of}
use Rattle.planner.proofs.front.are_columns.Given as goal

abbrev pub invariant-loop-item : goal.invariant-loop-item
invariant-loop-item l = list_all (is_column_of l.set) (drop l.item-index l.order) ≡ list_all (is_column_of l.set) l.order
