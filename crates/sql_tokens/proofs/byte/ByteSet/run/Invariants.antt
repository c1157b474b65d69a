use Rattle.std.proofs.Common.{length, ◌-◌, ◌≡◌, ◌≤◌, drop, ◌+◌}
use Rattle.sql_tokens.specs.Byte.{has}
use Rattle.std.specs.List.{prefix_len}
use Rattle.sql_tokens.proofs.byte.ByteSet.run.Given as goal

-- the bytes so far are in the set, and the run goes on with that of the rest
abbrev pub invariant-loop-count : goal.invariant-loop-count
invariant-loop-count l =
    (l.count ≤ length l.bytes)
    × (l.count + prefix_len (has l.self) (drop l.count l.bytes) ≡ prefix_len (has l.self) l.bytes)

abbrev pub decreases-loop-count : goal.decreases-loop-count
decreases-loop-count l = length l.bytes - l.count
