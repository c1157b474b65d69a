use Rattle.std.proofs.Common.{◌≡◌, ℕ, List, drop}
use Rattle.std.specs.List.{position_from}
use Rattle.binder.specs.Lookups.{find_in}
use Rattle.binder.specs.Items.{has_alias}
use Rattle.binder.proofs.orders.index_aliases.Given as goal

-- the index tells the aliases of the items from this one on
abbrev pub invariant-loop-number : goal.invariant-loop-number
invariant-loop-number l = (word : List ℕ) → find_in l.index word ≡ position_from (has_alias l.text word) l.number (drop l.number l.items)
