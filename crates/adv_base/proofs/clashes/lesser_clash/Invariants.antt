use Rattle.std.proofs.Common.{◌≡◌, ℕ, ◌<◌, ◌≤◌, false}
use Rattle.adv_base.specs.Configs.{clashes}
use Rattle.adv_base.proofs.clashes.lesser_clash.Given as goal

-- no lesser number so far clashes
abbrev pub invariant-loop-first : goal.invariant-loop-first
invariant-loop-first l = (k : ℕ) → 1 ≤ k → k < l.first → clashes l.shapes l.config k l.second ≡ false
