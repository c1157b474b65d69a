use Rattle.std.proofs.Common.{◌≡◌, ◌<◌, length, get_or, ap, ◌∙◌, rules}
use Rattle.std.proofs.lemmas.List.{get_or-map}
use Rattle.adv_base.specs.declared.workload.parts.Edge.{Edge}
use Rattle.adv_base.specs.Parts.{edge_part}
use Rattle.adv_base.proofs.RowBounds.{IsPart, edge_part-bounds}
use Rattle.cardinality.proofs.ties.Ties.through.Goals as goal

is_part : (c : goal.After-row_known-1) → IsPart c.index.result.now
is_part c =
    let self = c.args.self.now in
    let same : c.deref-edge-items.result.now ≡ self.block.now.edges = search rules in
    let within : c.loop-i.i < length self.block.now.edges = rw same at c.loop-i-test.true in
    let edge : Edge = get_or self.block.now.edges c.loop-i.i c.edge-item.result in
    let at : c.index.result.now ≡ edge_part self.cat.now self.block.now edge =
    c.index.ensures
    ∙ ap (λ ps. get_or ps c.loop-i.i c.index.result.now) self.exact
    ∙ get_or-map (edge_part self.cat.now self.block.now) self.block.now.edges c.loop-i.i c.edge-item.result c.index.result.now within in
    rw at (edge_part-bounds self.cat.now self.block.now edge)

pub rows_after-left-requires-clause-part_some : goal.rows_after-left-requires-clause-part_some
rows_after-left-requires-clause-part_some c = (is_part c).least

pub rows_after-left-requires-clause-part_most : goal.rows_after-left-requires-clause-part_most
rows_after-left-requires-clause-part_most c = (is_part c).most
