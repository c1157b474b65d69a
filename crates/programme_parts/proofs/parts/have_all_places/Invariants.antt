use Rattle.std.proofs.Common.{take}
use Rattle.std.specs.Prelude.{All}
use Rattle.programme_parts.specs.Kept.{HasAllPlaces}
use Rattle.programme_parts.proofs.parts.have_all_places.Given as goal

-- each of the templates so far
abbrev pub invariant-loop-template : goal.invariant-loop-template
invariant-loop-template l = All HasAllPlaces (take l.template-index l.templates)
