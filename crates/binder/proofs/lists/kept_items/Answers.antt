use Rattle.std.proofs.Common.{get_or}
use Rattle.adv_base.specs.declared.workload.parts.Item.TheVariants.{Up}
use Rattle.binder.specs.Lists.{kept_items}
use Rattle.binder.specs.Plain.{plain_preds}
use Rattle.binder.proofs.Marked.{Marks-kept, kept-turn}
use Rattle.binder.proofs.lists.kept_items.Goals as goal

pub loop-item-preserved : goal.loop-item-preserved
loop-item-preserved c =
    let preds = plain_preds c.args.preds.now in
    let kept = c.loop-item.kept in
    let after = c.keep.new.kept in
    record {
      marks = Marks-kept preds (get_or c.args.items.now c.loop-item.item-index (Up 0 0)) kept.items after.items kept.marked.keys after.marked.keys c.loop-item.invariant.marks c.in_ok-keep.ensures;
      so_far = kept-turn preds c.args.items.now c.loop-item.item-index (Up 0 0) kept.items after.items (kept_items preds c.args.items.now) kept.marked.keys after.marked.keys
          c.loop-item-test.true c.loop-item.invariant.marks c.in_ok-keep.ensures c.loop-item.invariant.so_far;
    }
