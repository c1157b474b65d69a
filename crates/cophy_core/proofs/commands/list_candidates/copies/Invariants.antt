use Rattle.std.proofs.Common.{◌≡◌, take}
use Rattle.cophy_core.proofs.commands.list_candidates.copies.Given as goal

abbrev pub invariant-shapes : goal.invariant-shapes
invariant-shapes l = l.items.items ≡ take l.shape-index l.shapes
