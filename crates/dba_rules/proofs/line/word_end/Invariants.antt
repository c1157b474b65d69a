use Rattle.std.proofs.Common.{◌≡◌, ℕ, ◌<◌, true, get_or}
use Rattle.dba_rules.specs.Lines.{is_name_byte}
use Rattle.dba_rules.proofs.line.word_end.Given as goal

-- each byte so far is one of a name
abbrev pub invariant-loop-i : goal.invariant-loop-i
invariant-loop-i l = (k : ℕ) → k < l.i → is_name_byte (get_or l.bytes k 0) ≡ true
