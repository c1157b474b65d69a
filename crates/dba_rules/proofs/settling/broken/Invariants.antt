use Rattle.std.proofs.Common.{◌≡◌, ℕ, ◌<◌, ◌≤◌, false}
use Rattle.bip_model.specs.Views.{node_of}
use Rattle.dba_rules.specs.Settled.{is_broken}
use Rattle.dba_rules.proofs.settling.broken.Given as goal

-- no candidate so far is broken
abbrev pub invariant-loop-number : goal.invariant-loop-number
invariant-loop-number l = (k : ℕ) → 1 ≤ k → k < l.number → is_broken (node_of l.root) l.config k ≡ false
