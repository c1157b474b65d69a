use Rattle.std.proofs.Common.{ℕ, refl, subst}
use Rattle.std.proofs.lemmas.Option.{same_Some}
use Rattle.planner.specs.Choices.{IsRead}
use Rattle.planner.specs.Rows.{order_of}
use Rattle.planner.proofs.again.find_read.Goals as goal

pub returns-in-Some-clause-found : goal.returns-in-Some-clause-found
returns-in-Some-clause-found g c =
    λ x e.
    subst (λ (r : ℕ × ℕ). IsRead c.args.ways.now.task.now (g.O.Offers.table c.args.offers.now) (order_of c.args.ways.now c.args.f) c.args.set c.args.cost r.0 r.1) (same_Some (c.loop-slot.slot, c.in-Some.offer) x e) (c.in-Some.ensures.found c.in-Some.offer refl)
