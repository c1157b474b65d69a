use Rattle.std.proofs.Common.{◌≡◌, ◌∙◌, ℕ, List, [], ◌∷◌, ◌++◌, length, length-append, sym, ap, arith}
use Rattle.std.specs.Prelude.{Option}
use Rattle.bip_model.specs.declared.part.Part.{Part}
use Rattle.retune.specs.inner.Renewing.{put_one, put_over}
use Rattle.retune.proofs.PutOver.{one-length, put-over-last}
use Rattle.retune.proofs.renewing.put_renewed.Goals as goal

pub loop-own-preserved : goal.loop-own-preserved
loop-own-preserved c =
    let parts = c.loop-own.parts.items in
    let left = c.pop.new.self.items in
    let own = c.in-Some.own in
    let place : c.len.result ≡ length left = omega (arith, c.len.ensures, c.pop.new.self.ok.0) in
    let put : c.put_own.new.parts.items ≡ put_one own (length left) parts = c.put_own.ensures ∙ ap (λ (n : ℕ). put_one own n parts) place in
    let before : c.loop-own.left.items ≡ left ++ own ∷ [] = c.in-Some.ensures.items in
    record {
      few = omega (arith, c.loop-own.invariant.few, ap length before, length-append left (own ∷ []), ap length put, one-length own (length left) parts);
      over = ap (put_over left) put ∙ sym (put-over-last left own parts) ∙ sym (ap (λ (r : List (Option Part)). put_over r parts) before) ∙ c.loop-own.invariant.over;
    }
