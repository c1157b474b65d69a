-- Digests of what alike statements share.
use Rattle.std.specs.Prelude.{ℕ, ◌+◌, ◌*◌, ◌%◌, ◌^◌, List, Option, Some, None, fold}
use Rattle.adv_base.specs.declared.catalogue.Catalogue.{Catalogue}
use Rattle.adv_base.specs.declared.workload.Work.{Work}
use Rattle.adv_base.specs.declared.workload.Work.TheVariants.{Select, Update, Delete, Insert}
use Rattle.adv_base.specs.declared.workload.block.Block.{Block}
use Rattle.adv_base.specs.declared.workload.parts.Edge.{Edge}
use Rattle.adv_base.specs.declared.workload.parts.Item.{Item}
use Rattle.adv_base.specs.declared.workload.parts.Item.TheVariants.{Up, Down, Made}
use Rattle.adv_base.specs.declared.workload.parts.Slot.{Slot}
use Rattle.adv_base.specs.declared.workload.predicate.Pred.{Pred}
use Rattle.adv_base.specs.Parts.{pred_part}
use Rattle.workload_fold.specs.Alike.{test_number}

-- a digest with one number more, by Knuth's multiplier of 64 bits
unfoldable pub mixed : ℕ → ℕ → ℕ
mixed digest n = ((digest * 6364136223846793005) % 2 ^ 64 + n) % 2 ^ 64

abbrev pub with_slot : ℕ → Slot → ℕ
with_slot digest slot = fold mixed (mixed digest slot.table) slot.needed

abbrev pub with_pred : Catalogue → Block → ℕ → Pred → ℕ
with_pred cat block digest pred =
    mixed (mixed (mixed (mixed digest pred.slot) pred.column) (test_number pred.test)) (pred_part cat block pred)

abbrev pub with_edge : ℕ → Edge → ℕ
with_edge digest edge = mixed (mixed (mixed (mixed digest edge.left) edge.left_column) edge.right) edge.right_column

abbrev pub with_item : ℕ → Item → ℕ
with_item digest (Up s c) = mixed (mixed (mixed digest 0) s) c
with_item digest (Down s c) = mixed (mixed (mixed digest 1) s) c
with_item digest (Made n) = mixed (mixed digest 2) n

abbrev pub with_items : ℕ → List Item → ℕ
with_items digest items = fold with_item (mixed digest 3) items

abbrev pub with_group : ℕ → Option (List Item) → ℕ
with_group digest None = mixed digest 4
with_group digest (Some items) = with_items digest items

unfoldable pub with_block : Catalogue → Block → ℕ → ℕ
with_block cat block digest =
    with_items (with_group (fold with_edge (fold (with_pred cat block) (fold with_slot digest block.slots) block.preds) block.edges) block.group) block.order

-- the digest of what a statement does
abbrev pub digest_of : Catalogue → Work → ℕ
digest_of cat (Select block) = with_block cat block 1
digest_of cat (Update block columns) = fold mixed (with_block cat block 2) columns
digest_of cat (Delete block) = with_block cat block 3
digest_of cat (Insert table rows) = mixed (mixed 4 table) rows
