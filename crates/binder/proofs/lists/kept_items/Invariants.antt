use Rattle.std.proofs.Common.{◌≡◌, drop, fold}
use Rattle.binder.specs.Lists.{keep, kept_items}
use Rattle.binder.specs.Marks.{Marks}
use Rattle.binder.specs.Plain.{plain_preds}
use Rattle.binder.proofs.lists.kept_items.Given as goal

-- the items kept so far are marked, and with those of the rest they are all that are kept
abbrev pub invariant-loop-item : goal.invariant-loop-item
invariant-loop-item l = record {
  marks : Marks (plain_preds l.preds) l.kept.items l.kept.marked.keys;
  so_far : fold (keep (plain_preds l.preds)) l.kept.items (drop l.item-index l.items) ≡ kept_items (plain_preds l.preds) l.items;
}
