use Rattle.std.proofs.Common.{◌≡◌, ◌==◌, ◌<◌, List, [], ◌∷◌, length, Option, Some, None, refl, arith}
use Rattle.std.specs.Prelude.{slice_get}
use Rattle.std.specs.List.{find}
use Rattle.std.specs.Option.{option_map_or}
use Rattle.adv_base.specs.Offers.{Offer}
use Rattle.plan_tests.specs.declared.table.Reads.{Reads}
use Rattle.plan_tests.proofs.caches.costs.Goals as goal

offers-of : Option Reads → List Offer
offers-of o = option_map_or (λ reads. ([], reads.heap) ∷ (reads.first.keys, reads.first.price) ∷ (reads.second.keys, reads.second.price) ∷ []) o (([], 0) ∷ [])

some-offer : (o : Option Reads) → 0 < length (offers-of o)
unfolding offers-of
some-offer None = omega arith
some-offer (Some r) = omega arith

first-plain : (o : Option Reads) → option_map_or (λ (o : Offer). o.0) (slice_get (offers-of o) 0) [] ≡ []
unfolding offers-of
first-plain None = refl
first-plain (Some r) = refl

pub cost-requires : goal.cost-requires
unfolding offers-of
cost-requires c = λ slot within.
    let o = find (λ (reads : Reads). reads.slot == slot) c.args.table.now.slots.items in
    record { number = 0; within = some-offer o; no_order = first-plain o }
