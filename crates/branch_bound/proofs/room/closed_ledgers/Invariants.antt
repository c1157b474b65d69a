use Rattle.std.proofs.Common.{◌≡◌, All, length}
use Rattle.lagrange_bound.specs.Ledgers.{HasRoom}
use Rattle.branch_bound.proofs.room.closed_ledgers.Given as goal

abbrev pub invariant-loop-round : goal.invariant-loop-round
invariant-loop-round l = record { all : All (HasRoom l.programme) l.ledgers.items; count : length l.ledgers.items ≡ l.round }
