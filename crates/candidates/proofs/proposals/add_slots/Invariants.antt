use Rattle.std.proofs.Common.{◌≡◌, drop}
use Rattle.std.specs.List.{flat_map, enumerate_from}
use Rattle.candidates.specs.inner.Known.{as_proposals, with_all}
use Rattle.candidates.specs.Proposals.{slot_proposals}
use Rattle.candidates.proofs.proposals.add_slots.Given as goal

abbrev pub invariant-slots : goal.invariant-slots
invariant-slots l =
    with_all (as_proposals l.known.keys) (flat_map (λ numbered. slot_proposals l.cat l.block numbered.0 numbered.1) (enumerate_from l.at (drop l.at l.slots)))
    ≡ with_all (as_proposals l.initial.known.keys) (flat_map (λ numbered. slot_proposals l.cat l.block numbered.0 numbered.1) (enumerate_from 0 l.slots))
