use Rattle.std.proofs.Common.{◌≡◌, ℕ, ◌<◌, false}
use Rattle.dba_rules.specs.Rules.{opposes}
use Rattle.dba_rules.proofs.rules.contrary.Given as goal

-- no candidate so far is fixed the other way
abbrev pub invariant-loop-place : goal.invariant-loop-place
invariant-loop-place l = (k : ℕ) → k < l.place → opposes l.target l.to l.shapes l.root k ≡ false
