use Rattle.std.proofs.Common.{◌≡◌, ◌++◌, length, drop}
use Rattle.std.specs.Prelude.{sum_by}
use Rattle.bip_model.specs.Views.{slot_places}
use Rattle.certificate.specs.Answers.{entries_of}
use Rattle.certificate.specs.inner.Writing.{entries_text}
use Rattle.certificate.proofs.sets.push_slots.Given as goal

-- the rents that are left are those of the slots that are left; the lines so far and theirs are those of all
abbrev pub invariant-slots : goal.invariant-slots
invariant-slots l = record {
  left : length l.rest ≡ sum_by (λ slot. length slot.grants) (drop l.s l.slots);
  text : l.out.items ++ entries_text (entries_of (slot_places l.statement l.s (drop l.s l.slots)) l.rest)
      ≡ l.initial.out.items ++ entries_text (entries_of (slot_places l.statement 0 l.slots) l.rents);
}
