use Rattle.std.proofs.Common.{inl, inr, refl, ap, subst, ◌∙◌, arith}
use Rattle.planner.specs.Cells.{cost_at, row_of}
use Rattle.planner.specs.Choices.{IsOffered, IsRead}
use Rattle.planner.specs.Rows.{width, cuts_of, order_of, IsJoined}
use Rattle.planner.specs.inner.Built.{IsJoinChoice}
use Rattle.planner.proofs.Choosing.{join_chosen}
use Rattle.planner.proofs.again.choice_of.Goals as goal

pub returns-in-Some : goal.returns-in-Some
returns-in-Some g c =
    let ways = c.args.ways.now in
    let same = c.cost_of-cost.ensures ∙ ap (λ r. cost_at r c.args.front) c.row_in.ensures.row in
    subst (λ cost. IsRead ways.task.now (g.O.Offers.table c.args.offers.now) (order_of ways c.args.front) c.args.set cost c.in-Some.slot c.in-Some.offer) same (c.in-Some.ensures.found (c.in-Some.slot, c.in-Some.offer) refl)

pub find_join-requires-clause-done : goal.find_join-requires-clause-done
find_join-requires-clause-done g c =
    λ s h. (c.requires.done.each s (omega (arith, h, c.requires.set_in))).capped

pub unreachable-requires : goal.unreachable-requires
unreachable-requires g c =
    let ways = c.args.ways.now in
    let rows = row_of (width ways) c.args.cells.now in
    let same = c.cost_of-cost.ensures ∙ ap (λ r. cost_at r c.args.front) c.row_in.ensures.row in
    let offered = subst (λ cost. ¬ (IsOffered ways.task.now (g.O.Offers.table c.args.offers.now) (order_of ways c.args.front) c.args.set cost)) same (c.find_read.ensures.none c.in_default.is) in
    let joined = subst (λ cost. ¬ (IsJoined ways rows (cuts_of ways c.args.set) c.args.front cost)) same (c.find_join.ensures.none c.in-None.is) in
    elim ((c.requires.done.each c.args.set c.requires.set_in).made c.args.front c.requires.front_in) [
      | inl none ↦ absurd (omega (arith, none, c.requires.possible))
      | inr made ↦
          elim made [
            | inl h ↦ absurd (offered h)
            | inr h ↦ absurd (joined h)
          ]
    ]

pub returns : goal.returns
returns g c =
    let ways = c.args.ways.now in
    let rows = row_of (width ways) c.args.cells.now in
    let same = c.cost_of-cost.ensures ∙ ap (λ r. cost_at r c.args.front) c.row_in.ensures.row in
    join_chosen ways (g.O.Offers.table c.args.offers.now) rows c.args.set c.args.front c.requires.set_in c.requires.front_in (cost_at (rows c.args.set) c.args.front) c.in-Some-find_join.choice (subst (λ cost. IsJoinChoice ways rows (cuts_of ways c.args.set) c.args.front cost c.in-Some-find_join.choice) same (c.in-Some-find_join.ensures.found c.in-Some-find_join.choice refl))
