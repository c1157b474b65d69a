use Rattle.std.proofs.Common.{◌≡◌, ◌≤◌, true, false, length, rules}
use Rattle.bip_model.specs.Views.{state_at}
use Rattle.branch_bound.specs.Sides.{is_free_state}
use Rattle.branch_bound.specs.inner.Climbs.{flag_at}
use Rattle.branch_bound.proofs.Climbing.{free-is, removed-trial, added-trial}
use Rattle.branch_bound.proofs.climb.tried.Goals as goal

pub returns-then-from-index : goal.returns-then-from-index
returns-then-from-index c =
    let free : is_free_state (state_at c.args.task.now.root.now c.args.index) ≡ true = search rules in
    let on : flag_at c.args.from.now.config c.args.index ≡ true = search rules in
    removed-trial c.args.task.now.programme.now c.args.task.now.shapes.now c.args.task.now.budget c.args.task.now.root.now c.args.from.now c.args.index c.removed.result c.requires.sound (free-is (state_at c.args.task.now.root.now c.args.index) free) c.requires.within on
    c.removed.ensures

pub returns-else-from-index : goal.returns-else-from-index
returns-else-from-index c =
    let free : is_free_state (state_at c.args.task.now.root.now c.args.index) ≡ true = search rules in
    let off : flag_at c.args.from.now.config c.args.index ≡ false = search rules in
    let few : length c.args.task.now.programme.now.sizes ≤ 256 = search rules in
    added-trial c.args.task.now.programme.now c.args.task.now.shapes.now c.args.task.now.budget c.args.task.now.root.now c.args.from.now c.args.index c.added.result few c.requires.sound (free-is (state_at c.args.task.now.root.now c.args.index) free) c.requires.within off
    c.added.ensures
