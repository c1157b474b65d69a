use Rattle.std.proofs.Common.{◌≡◌, ◌++◌, length, drop}
use Rattle.std.specs.Prelude.{sum_by}
use Rattle.bip_model.specs.Values.{part_grants}
use Rattle.bip_model.specs.Views.{part_places}
use Rattle.certificate.specs.Answers.{entries_of}
use Rattle.certificate.specs.inner.Writing.{entries_text}
use Rattle.certificate.proofs.sets.push_parts.Given as goal

-- the rents that are left are those of the parts that are left; the lines so far and theirs are those of all
abbrev pub invariant-parts : goal.invariant-parts
invariant-parts l = record {
  left : length l.rest ≡ sum_by part_grants (drop l.at l.parts);
  text : l.out.items ++ entries_text (entries_of (part_places (drop l.at l.parts)) l.rest)
      ≡ l.initial.out.items ++ entries_text (entries_of (part_places l.parts) l.rents);
}
