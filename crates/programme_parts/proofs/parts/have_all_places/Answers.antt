use Rattle.std.proofs.Common.{subst, arith}
use Rattle.std.specs.Prelude.{All}
use Rattle.std.proofs.lemmas.List.{take_all}
use Rattle.std.proofs.lemmas.List.Elements.{All-more}
use Rattle.programme_parts.specs.Kept.{HasAllPlaces}
use Rattle.programme_parts.proofs.parts.have_all_places.Goals as goal

pub loop-template-preserved : goal.loop-template-preserved
loop-template-preserved c =
    All-more HasAllPlaces c.args.templates.now c.loop-template.template-index _ (omega arith) c.loop-template.invariant c.has_all_places.ensures

pub returns : goal.returns
returns c = subst (All HasAllPlaces) (take_all c.loop-template.template-index c.args.templates.now (omega arith)) c.loop-template.invariant
