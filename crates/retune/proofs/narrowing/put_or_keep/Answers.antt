use Rattle.std.proofs.Common.{ℕ, set, refl, sym, subst}
use Rattle.std.specs.Prelude.{Option, slice_index_or}
use Rattle.std.proofs.lemmas.List.{get_or_default}
use Rattle.bip_model.specs.declared.part.Part.{Part}
use Rattle.retune.specs.inner.Renewing.{IsPartBehind, IsPutAt, number_without}
use Rattle.retune.proofs.narrowing.put_or_keep.Goals as goal

pub returns-in-None : goal.returns-in-None
returns-in-None c =
    let number : ℕ → ℕ = λ n. slice_index_or c.args.numbers.now.of n 0 in
    let parts = c.args.parts.now in
    let at = c.args.at in
    let new : Part = c.renumber.new.part in
    subst (λ (own : Option Part). IsPutAt c.args.gone number own at parts (set parts at new)) (sym c.in-None.is)
    (record {
      part = new;
      is = λ d.
          subst (λ (old : Part). IsPartBehind (number_without c.args.gone old.statement) number old new) (get_or_default parts at c.index-parts-at.result d c.requires.within) c.renumber.ensures;
      others = refl;
    })

pub returns-in-Some : goal.returns-in-Some
returns-in-Some c =
    let number : ℕ → ℕ = λ n. slice_index_or c.args.numbers.now.of n 0 in
    let parts = c.args.parts.now in
    let at = c.args.at in
    subst (λ (own : Option Part). IsPutAt c.args.gone number own at parts (set parts at c.in-Some.own)) (sym c.in-Some.is)
    (record { part = c.in-Some.own; is = λ d. refl; others = refl })
