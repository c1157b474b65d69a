use Rattle.std.proofs.Common.{◌≡◌, ◌∙◌, ◌<◌, List, length, get_or, All, subst}
use Rattle.bip_model.specs.declared.part.Part.{Part}
use Rattle.retune.proofs.Gone.{IsOther, others-stay, one-goes}
use Rattle.retune.proofs.narrowing.remove_part.Goals as goal

pub returns-in-None : goal.returns-in-None
returns-in-None c = others-stay c.args.gone c.args.parts.now.items (subst (All (IsOther c.args.gone)) c.as_slice.ensures.value c.in-None.ensures.none)

pub returns-in-Some : goal.returns-in-Some
returns-in-Some c =
    let parts = c.args.parts.now.items in
    let at = c.in-Some.at in
    let within : at < length parts = subst (λ (ps : List Part). at < length ps) c.as_slice.ensures.value c.in-Some.ensures.there in
    let own : (d : Part) → (get_or parts at d).statement ≡ c.args.gone =
    subst (λ (ps : List Part). (d : Part) → (get_or ps at d).statement ≡ c.args.gone) c.as_slice.ensures.value c.in-Some.ensures.number in
    c.remove-gone.ensures.items ∙ one-goes c.args.gone 1 at parts c.requires within own
