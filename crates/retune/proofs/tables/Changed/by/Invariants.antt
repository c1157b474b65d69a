use Rattle.std.proofs.Common.{◌≡◌, true, take}
use Rattle.std.specs.Prelude.{All}
use Rattle.retune.specs.inner.Renewing.{has_changed}
use Rattle.retune.proofs.tables.Changed.by.Given as goal

-- the tables of the shapes so far
abbrev pub invariant-loop-shape : goal.invariant-loop-shape
invariant-loop-shape l = All (λ shape. has_changed l.changed shape.table ≡ true) (take l.shape-index l.shapes)
