use Rattle.std.proofs.Common.{◌≡◌, ℕ, ◌*◌, ◌^◌, ◌<◌, ◌≤◌, ◌==◌, false, not, bit_and, sym, ap, ◌∙◌, arith}
use Rattle.std.proofs.Math.Pow.{pow_mono}
use Rattle.std.proofs.lemmas.Bool.{le-ltb}
use Rattle.std.proofs.lemmas.Nat.Bits.{and_pow, bit_at_above}
use Rattle.adv_base.specs.Sets.{has_slot}
use Rattle.adv_base.proofs.sets.has_slot.Goals as goal

far : (set slot : ℕ) → set < 2 ^ 64 → 64 ≤ slot → has_slot set slot ≡ false
far set slot fits above =
    let more : 2 ^ 64 ≤ 2 ^ slot = pow_mono above in
    let none : bit_and set (2 ^ slot) ≡ 0 = and_pow set slot ∙ ap (λ t. t * 2 ^ slot) (bit_at_above set slot slot (omega arith) (omega arith)) ∙ omega arith in
    ap (λ t. not (t == 0)) none

pub returns-else-slot-lt64 : goal.returns-else-slot-lt64
returns-else-slot-lt64 c =
    le-ltb c.args.slot 64 (omega arith) ∙ sym (far c.args.set c.args.slot c.ranges.set.fits (omega arith))
