use Rattle.std.proofs.Common.{◌≡◌, take}
use Rattle.bip_model.specs.StandsFor.{candidates_on}
use Rattle.retune.proofs.numbers.next_on.Given as goal

-- none so far is on the table
abbrev pub invariant-loop-at : goal.invariant-loop-at
invariant-loop-at l = candidates_on (take l.at l.shapes) l.table ≡ candidates_on (take l.from l.shapes) l.table
