use Rattle.std.proofs.Common.{◌≡◌, ◌∙◌, ◌+◌, ◌-◌, ◌*◌, ◌∷◌, [], List, length, sym, ap, subst, arith}
use Rattle.std.proofs.lemmas.List.{length-append}
use Rattle.bip_model.specs.declared.answer.Answer.{Answer}
use Rattle.bip_model.specs.declared.point.Point.{Point}
use Rattle.budget_sweep.specs.inner.Passes as passes
use Rattle.budget_sweep.proofs.Passing.{least-pushed, answered-pushed, backward-front, backward-last}
use Rattle.budget_sweep.proofs.sweeping.forward.Goals as goal

pub loop-number-preserved : goal.loop-number-preserved
loop-number-preserved c =
    let points = c.loop-number.points.items in
    let point = c.next_point-point.result in
    let answer = c.next_answer-answer.result in
    let rest = c.next_answer-answer.new.answers.items in
    let kept = c.loop-number.invariant in
    let programme = c.args.programme.now in
    let shapes = c.args.shapes.now in
    let first = c.args.first in
    let step = c.args.step in
    let count = c.args.count in
    let nodes = c.args.nodes in
    let items = c.in_ok-push.ensures.items in
    let parts = c.next_answer-answer.ensures in
    let left : length rest + 1 + c.loop-number.number ≡ count =
    let long = length-append rest (answer ∷ []) in omega (arith, ap length parts, long, kept.left) in
    let all = subst (passes.AreBackward programme shapes first step count nodes) parts kept.best in
    let number_is : count - 1 - length rest ≡ length points = omega (arith, left, kept.count) in
    let budget_is : point.budget ≡ first + step * length points =
    c.next_point-point.ensures.budget ∙ c.budget_at-budget.ensures.budget ∙ ap (λ n. first + step * n) (sym kept.count) in
    let own : passes.IsFreeBest programme shapes point.budget nodes answer =
    subst (λ budget. passes.IsFreeBest programme shapes budget nodes answer) (ap (λ n. first + step * n) number_is ∙ sym budget_is)
    (backward-last programme shapes first step count nodes rest answer all) in
    let next = subst (λ (xs : List Point). passes.IsNextLeast xs point) c.as_slice.ensures.value c.next_point-point.ensures.best in
    let answered : passes.IsAnswered programme shapes first step nodes (length points) point =
    record {
      budget_is = budget_is;
      answer_is = subst (λ (a : Answer). passes.IsFreeBest programme shapes point.budget nodes a) (sym c.next_point-point.ensures.answer) own;
    } in
    record {
      left = omega (arith, left);
      best = backward-front programme shapes first step count nodes rest answer all;
      count = let long = length-append points (point ∷ []) in omega (arith, ap length items, long, kept.count);
      answered =
          subst (passes.AreAnswered programme shapes first step nodes) (sym items)
          (answered-pushed programme shapes first step nodes points point kept.answered answered);
      least = subst passes.AreLeast (sym items) (least-pushed points point kept.least next);
    }
