use Rattle.std.proofs.Common.{◌≡◌, ◌∙◌, ◌++◌, ◌∷◌, [], ℕ, ◌+◌, ◌<◌, List, length, length-append, sym, ap, subst, arith}
use Rattle.std.specs.Prelude.{Option, slice_index_or}
use Rattle.bip_model.specs.declared.part.Part.{Part}
use Rattle.retune.specs.inner.Renewing.{ArePutBehind, IsPutAt}
use Rattle.retune.proofs.PutBehind.{before-stay, behind-last}
use Rattle.retune.proofs.narrowing.put_or_renumber.Goals as goal

pub loop-own-preserved : goal.loop-own-preserved
loop-own-preserved c =
    let gone = c.args.gone in
    let number : ℕ → ℕ = λ n. slice_index_or c.args.numbers.now.of n 0 in
    let front = c.pop.new.self.items in
    let own : Option Part = c.in-Some.own in
    let olds = c.loop-own.parts in
    let parts = c.put_or_keep.new.parts in
    let split : c.loop-own.left.items ≡ front ++ own ∷ [] = c.in-Some.ensures.items in
    let long : length c.loop-own.left.items ≡ length front + 1 = omega (arith, ap length split, length-append front (own ∷ [])) in
    let place : c.len.result ≡ length front = c.len.ensures ∙ c.pop.new.self.ok.0 in
    let within : length front < length olds = omega (arith, long, c.loop-own.invariant.few) in
    let put : IsPutAt gone number own (length front) olds parts = subst (λ (at : ℕ). IsPutAt gone number own at olds parts) place c.put_or_keep.ensures in
    record {
      few = omega (arith, within, c.put_or_keep.auto.parts);
      stays = λ k d low same.
          c.loop-own.invariant.stays k d (omega (arith, low, long)) (sym (ap (λ (part : Part). part.statement) (before-stay gone number own (length front) olds parts k d low put)) ∙ same);
      put = λ news are.
          c.loop-own.invariant.put news (subst (λ (renewed : List (Option Part)). ArePutBehind gone number renewed olds news) (sym split) (behind-last gone number front own olds parts news within put are));
    }
