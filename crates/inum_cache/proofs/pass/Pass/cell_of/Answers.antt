use Rattle.std.proofs.Common.{List, sym, subst}
use Rattle.plan_model.specs.declared.template.Template.{Template}
use Rattle.planner.specs.Rows.{cuts_of}
use Rattle.inum_cache.specs.inner.Cells.{Takes}
use Rattle.inum_cache.specs.inner.Passes.{row_in, AreRowsOf, CutsGive, IsGiven, ReadGives, SortGives}
use Rattle.inum_cache.proofs.Passing.{cell-for, cell-small, every-limits, rows-small}
use Rattle.inum_cache.proofs.Taking.{takes-both}
use Rattle.inum_cache.proofs.pass.Pass.cell_of.Goals as goal

pub join-requires-clause-small : goal.join-requires-clause-small
join-requires-clause-small c =
    let self = c.args.self.now in
    let orders = self.choices.now.orders in
    rows-small self.ways orders c.args.rows.now (every-limits orders self.choices.now.own) (subst (AreRowsOf self.ways orders c.args.rows.now) (sym c.requires.count) c.requires.done)

pub sort-requires-clause-small : goal.sort-requires-clause-small
sort-requires-clause-small c =
    let self = c.args.self.now in
    let orders = self.choices.now.orders in
    λ some. cell-small self.ways orders c.args.set 0 c.args.input.now (every-limits orders self.choices.now.own) (c.requires.input some)

pub returns : goal.returns
returns c =
    let self = c.args.self.now in
    let ways = self.ways in
    let orders = self.choices.now.orders in
    let rows = row_in c.args.rows.now in
    let set = c.args.set in
    let front = c.args.front in
    let first = takes-both orders (SortGives ways set front c.args.input.now) (ReadGives ways orders set front) c.new-cell.result.items c.sort.new.cell.items c.read.new.cell.items c.in_ok-sort.ensures c.in_ok-read.ensures in
    let all = takes-both orders _ (CutsGive ways rows front (cuts_of ways set)) c.new-cell.result.items c.read.new.cell.items c.join.new.cell.items first c.in_ok-join.ensures in
    let takes = subst (λ (xs : List Template). Takes orders (IsGiven ways orders rows c.args.input.now set front) xs c.join.new.cell.items) c.new-cell.ensures.items all in
    record {
      takes = takes;
      plans = cell-for c.args.alloc ways orders rows set c.requires.set_in (λ s less. (c.requires.done.each s less).plans) front c.requires.front_in c.args.input.now c.requires.input c.join.new.cell.items takes;
    }
