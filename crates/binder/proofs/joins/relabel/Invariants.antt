use Rattle.std.proofs.Common.{◌≡◌, ◌++◌, map, take, drop}
use Rattle.binder.specs.inner.Labels.{renamed}
use Rattle.binder.proofs.joins.relabel.Given as goal

-- the labels so far are renamed, and the others are as they were
abbrev pub invariant-loop-label : goal.invariant-loop-label
invariant-loop-label l = l.labels ≡ map (renamed l.from l.to) (take l.label-index l.initial.labels) ++ drop l.label-index l.initial.labels
