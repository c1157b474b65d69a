use Rattle.std.proofs.Common.{◌≡◌, ◌||◌, filter}
use Rattle.std.specs.List.{list_any, range_with_len}
use Rattle.binder.specs.Needed.{is_at}
use Rattle.binder.proofs.needed.needed_columns.Given as goal

-- the columns so far are those that are mentioned
abbrev pub invariant-loop-column : goal.invariant-loop-column
invariant-loop-column l = l.columns ≡ filter (λ c. l.whole || list_any (is_at l.slot c) l.mentions) (range_with_len 0 l.column)
