use Rattle.std.proofs.Common.{◌≡◌, take}
use Rattle.std.specs.List.{flat_map}
use Rattle.binder.specs.Items.{item_mentions}
use Rattle.binder.proofs.items.mentions_of.Given as goal

abbrev pub invariant-loop-item : goal.invariant-loop-item
invariant-loop-item l = l.mentions.items ≡ flat_map item_mentions (take l.item-index l.items)
