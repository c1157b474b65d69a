use Rattle.std.proofs.Common.{arith}
use Rattle.plan_model.proofs.Bounds.{set-small, union-within}
use Rattle.plan_model.proofs.judge.judge_hash.Goals as goal

pub overflow_add-covers : goal.overflow_add-covers
overflow_add-covers c =
    let slots = c.args.task.now.slots in
    let few = c.args.task.now.limits.slots_most in
    omega (arith, set-small c.args.left.covers slots c.requires.left.within few, set-small c.args.right.covers slots c.requires.right.within few)

pub hash_price-price-requires : goal.hash_price-price-requires
hash_price-price-requires c =
    omega (arith, union-within c.args.left.covers c.args.right.covers c.args.task.now.slots c.requires.left.within c.requires.right.within c.if-left-right-ne0.false, c.args.task.now.limits.rows_each)
