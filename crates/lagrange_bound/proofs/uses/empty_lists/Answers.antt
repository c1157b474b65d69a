use Rattle.std.proofs.Common.{◌≡◌, ◌∙◌, [], ◌∷◌, ◌++◌, List, get_or, length, length-append, ap, arith}
use Rattle.lagrange_bound.specs.declared.uses.WeightedGrant.{WeightedGrant}
use Rattle.lagrange_bound.proofs.FlatSlots.{empty-push}
use Rattle.lagrange_bound.proofs.uses.empty_lists.Goals as goal

pub loop-init : goal.loop-init
loop-init c = record { long = ap length c.new-all.ensures.items; empty = λ a. ap (λ (all : List (List WeightedGrant)). get_or all a []) c.new-all.ensures.items }

pub loop-preserved : goal.loop-preserved
loop-preserved c =
    let none : c.new.result ≡ [] = c.new.ensures in
    let items : c.push.new.self.items ≡ c.loop.all.items ++ [] ∷ [] = c.in_ok-push.ensures.items ∙ ap (λ (uses : List WeightedGrant). c.loop.all.items ++ uses ∷ []) none in
    record {
      long = omega (arith, ap length items, length-append c.loop.all.items ([] ∷ []), c.loop.invariant.long);
      empty = λ a. ap (λ (all : List (List WeightedGrant)). get_or all a []) items ∙ empty-push c.loop.all.items c.loop.invariant.empty a;
    }

pub returns-clause-long : goal.returns-clause-long
returns-clause-long c = omega (arith, c.loop.invariant.long, c.loop-test.false, c.loop.auto.counter-end)

pub returns-clause-empty : goal.returns-clause-empty
returns-clause-empty c = c.loop.invariant.empty
