use Rattle.std.proofs.Common.{◌≡◌, ℕ, ◌<◌, length, get_or}
use Rattle.bip_model.specs.declared.fix.State.TheVariants.{Free}
use Rattle.dba_rules.specs.Rules.{state_behind}
use Rattle.dba_rules.proofs.rules.root_behind.Given as goal

abbrev pub invariant-loop-place : goal.invariant-loop-place
invariant-loop-place l =
    record {
      count : length l.state ≡ 256;
      done : (k : ℕ) → k < l.place → get_or l.state k Free ≡ state_behind l.target l.to l.shapes l.root k;
    }
