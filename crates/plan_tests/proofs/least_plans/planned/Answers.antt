use Rattle.std.proofs.Common.{◌==◌, ◌<◌, [], ◌∷◌, length, Option, Some, None, arith}
use Rattle.std.specs.List.{find}
use Rattle.std.specs.Option.{option_map_or}
use Rattle.adv_base.specs.Offers.{Offer}
use Rattle.plan_tests.specs.declared.table.Reads.{Reads}
use Rattle.plan_tests.proofs.least_plans.planned.Goals as goal

some-offer : (o : Option Reads) → 0 < length {A = Offer} (option_map_or (λ reads. ([], reads.heap) ∷ (reads.first.keys, reads.first.price) ∷ (reads.second.keys, reads.second.price) ∷ []) o (([], 0) ∷ []))
some-offer None = omega arith
some-offer (Some r) = omega arith

pub least-requires : goal.least-requires
least-requires c = λ slot within. some-offer (find (λ reads. reads.slot == slot) c.args.table.now.slots.items)
