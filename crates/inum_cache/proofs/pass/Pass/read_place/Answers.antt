use Rattle.std.proofs.Common.{◌≡◌, true, sym, ◌∙◌}
use Rattle.planner.specs.Fronts.{begins_test}
use Rattle.planner.specs.Rows.{order_of}
use Rattle.std.proofs.lemmas.Bool.{false≢true}
use Rattle.inum_cache.specs.Numbering.{order_in}
use Rattle.inum_cache.specs.inner.Passes.{IsLeaf}
use Rattle.inum_cache.proofs.Taking.{leaf-like, takes-like, takes-unless, takes-when}
use Rattle.inum_cache.proofs.pass.Pass.read_place.Goals as goal

pub returns-then-not-serves_at : goal.returns-then-not-serves_at
returns-then-not-serves_at c =
    let self = c.args.self.now in
    let orders = self.choices.now.orders in
    takes-unless orders (begins_test (order_in orders c.args.slot c.args.place) (order_of self.ways c.args.front) ≡ true) (IsLeaf c.args.slot c.args.place) c.args.cell.now.items
    (λ so. false≢true (c.if-not-serves_at.ensures ∙ so))

pub returns : goal.returns
returns c =
    let self = c.args.self.now in
    let orders = self.choices.now.orders in
    let made = c.leaf.ensures in
    takes-when orders (begins_test (order_in orders c.args.slot c.args.place) (order_of self.ways c.args.front) ≡ true) (IsLeaf c.args.slot c.args.place) c.args.cell.now.items c.insert.new.cell.items
    (sym c.if-not-serves_at.ensures)
    (takes-like orders (IsLeaf c.args.slot c.args.place) c.args.cell.now.items c.insert.new.cell.items c.leaf.result made (λ t h. leaf-like orders c.args.slot c.args.place c.leaf.result t made h) c.in_ok-insert.ensures)
