use Rattle.std.proofs.Common.{◌≡◌, ◌∙◌, get_or, refl, ap}
use Rattle.std.proofs.lemmas.List.{get_or_default}
use Rattle.bip_model.specs.declared.part.Part.{Part}
use Rattle.retune.proofs.PartWeights.{part-set, parts-set}
use Rattle.retune.proofs.weights.set_part.Goals as goal

pub returns : goal.returns
returns c = λ d.
    let parts = c.args.parts.now.items in
    let at = c.args.at in
    let old = c.index_mut-part.result.now in
    let same : old ≡ get_or parts at d = c.index_mut-part.ensures.value ∙ get_or_default parts at old d c.requires.within in
    parts-set 1 c.args.weight at parts _ d c.requires.rise c.requires.within
    (part-set c.args.weight (get_or parts at d) _ (ap (λ (p : Part). p.statement) same) refl (ap (λ (p : Part). p.templates) same) (ap (λ (p : Part). p.slots) same))
