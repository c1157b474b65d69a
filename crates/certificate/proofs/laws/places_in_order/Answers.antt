use Rattle.std.proofs.Common.{◌≡◌, ◌<◌, inl, inr, arith}
use Rattle.std.proofs.lemmas.Bool.{cases_lt}
use Rattle.certificate.specs.Limits.{EntryLimits, entry_place}
use Rattle.certificate.specs.Order.{IsBefore}
use Rattle.certificate.specs.declared.cert.Entry.{Entry}
use Rattle.certificate.proofs.laws.places_in_order.Goals as goal

before : (d e : Entry) → EntryLimits d → EntryLimits e → entry_place d < entry_place e → IsBefore d e
before d e h g less =
    elim (cases_lt d.statement e.statement) [
      | inl lower ↦ inl lower
      | inr from ↦
          elim (cases_lt d.slot e.slot) [
            | inl low ↦ inr (omega (arith, h.slot_most, g.slot_least, h.candidate_most, g.candidate_most, h.slot_least, g.slot_most, h.candidate_least), inl low)
            | inr more ↦
                let statement : d.statement ≡ e.statement = omega (arith, g.slot_most, h.slot_least, g.candidate_most, h.candidate_least) in
                let slot : d.slot ≡ e.slot = omega (arith, g.candidate_most, h.candidate_least) in
                inr (statement, inr (slot, omega arith))
          ]
    ]

less : (d e : Entry) → EntryLimits d → EntryLimits e → IsBefore d e → entry_place d < entry_place e
less d e h g (inl lower) = omega (arith, h.slot_most, g.slot_least, h.candidate_most, g.candidate_least)
less d e h g (inr at) =
    elim at.1 [
      | inl low ↦ omega (arith, at.0, h.candidate_most, g.candidate_least)
      | inr last ↦ omega (arith, at.0, last.0, last.1)
    ]

pub returns : goal.returns
returns c = λ d e h g. (before d e h g, less d e h g)
