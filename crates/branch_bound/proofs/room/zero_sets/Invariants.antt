use Rattle.std.proofs.Common.{All}
use Rattle.bip_model.specs.Views.{AreMultipliers}
use Rattle.branch_bound.proofs.room.zero_sets.Given as goal

abbrev pub invariant-loop-round : goal.invariant-loop-round
invariant-loop-round l = All (AreMultipliers l.programme) l.sets.items
