use Rattle.std.proofs.Common.{◌∙◌, ◌+◌, ◌-◌, ◌*◌, ◌∷◌, [], length, sym, ap, subst, arith}
use Rattle.std.proofs.lemmas.List.{length-append}
use Rattle.budget_sweep.specs.inner.Passes as passes
use Rattle.budget_sweep.proofs.Passing.{backward-pushed}
use Rattle.budget_sweep.proofs.sweeping.backward.Goals as goal

pub loop-turn-preserved : goal.loop-turn-preserved
loop-turn-preserved c =
    let answers = c.loop-turn.answers.items in
    let answer = c.in_ok-answer.answer in
    let kept = c.loop-turn.invariant in
    let programme = c.args.programme.now in
    let shapes = c.args.shapes.now in
    let first = c.args.first in
    let step = c.args.step in
    let count = c.args.count in
    let nodes = c.args.nodes in
    let items = c.in_ok-push.ensures.items in
    let budget_is = c.budget_at-budget.ensures.budget ∙ ap (λ k. first + step * (count - 1 - k)) (sym kept.count) in
    let own = subst (λ budget. passes.IsFreeBest programme shapes budget nodes answer) budget_is c.in_ok-answer.ensures in
    record {
      count = let long = length-append answers (answer ∷ []) in omega (arith, ap length items, long, kept.count);
      best =
          subst (passes.AreBackward programme shapes first step count nodes) (sym items)
          (backward-pushed programme shapes first step count nodes answers answer kept.best own);
    }
