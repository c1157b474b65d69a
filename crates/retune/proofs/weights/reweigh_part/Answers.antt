use Rattle.std.proofs.Common.{◌≡◌, ◌∙◌, inl, inr, ℕ, ◌<◌, List, length, All, get_or, sym, ap, subst, arith}
use Rattle.std.proofs.lemmas.Option.{slice_get_cases}
use Rattle.bip_model.specs.declared.part.Part.{Part}
use Rattle.bip_model.specs.StandsFor.{AreEach}
use Rattle.retune.specs.inner.Weights.{IsPartBy}
use Rattle.retune.proofs.PartWeights.{parts-same}
use Rattle.retune.proofs.weights.reweigh_part.Goals as goal

pub returns-in-Some : goal.returns-in-Some
returns-in-Some c =
    let parts = c.args.parts.now in
    let at = c.in-Some.at in
    elim (slice_get_cases parts at).1 [
      | inl there ↦
          let d : Part = there.0 in
          let own : (get_or c.parts.inside.items.items at d).statement ≡ c.args.number =
          ap (λ (ps : List Part). (get_or ps at d).statement) (c.parts.view_is ∙ sym c.as_slice.ensures) ∙ c.in-Some.ensures.number d in
          let are = subst (λ (n : ℕ). AreEach (IsPartBy n c.args.weight) c.parts.inside.items.items c.set_part.new.parts.items) own (c.set_part.ensures d) in
          subst (λ (ps : List Part). AreEach (IsPartBy c.args.number c.args.weight) ps c.set_part.new.parts.items) c.parts.view_is are
      | inr past ↦
          let within : at < length parts = subst (λ (ps : List Part). at < length ps) c.as_slice.ensures c.in-Some.ensures.there in
          absurd (omega (arith, past.0, within))
    ]

pub returns-in-None : goal.returns-in-None
returns-in-None c =
    parts-same c.args.number c.args.weight c.args.parts.now (subst (All (λ (part : Part). ¬ (part.statement ≡ c.args.number))) c.as_slice.ensures c.in-None.ensures.none)
