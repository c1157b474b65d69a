use Rattle.std.proofs.Common.{◌≡◌, ◌<◌, length, ap, ◌∙◌, subst, arith}
use Rattle.std.proofs.lemmas.List.{get_or_default}
use Rattle.planner.specs.declared.cuts.Cut.{Cut}
use Rattle.planner.specs.Cuts.{cut_at, no_cut}
use Rattle.planner.specs.Rows.{cuts_of}
use Rattle.planner.proofs.Tabling.{cut_is, hash_small, merge_small}
use Rattle.inum_cache.specs.inner.Cells.{Takes}
use Rattle.inum_cache.specs.inner.Passes.{row_in, CutGives}
use Rattle.inum_cache.proofs.Taking.{takes-all, takes-more, takes-start}
use Rattle.inum_cache.proofs.pass.Pass.join.Goals as goal

pub loop-cut-init : goal.loop-cut-init
loop-cut-init c =
    let self = c.args.self.now in
    takes-start self.choices.now.orders (λ k. CutGives self.ways (row_in c.args.rows.now) c.args.front (cut_at (cuts_of self.ways c.args.set) k)) c.args.cell.now.items

pub join_cut-requires : goal.join_cut-requires
join_cut-requires c =
    let ways = c.args.self.now.ways in
    let set = c.args.set in
    let cuts = c.cuts_at-cuts.result.now in
    let k = c.loop-cut.cut-index in
    let within : k < length cuts = omega (arith, c.loop-cut-test.true, c.loop-cut.auto.cut-index-end) in
    let inside : k < length (cuts_of ways set) = omega (arith, within, ap length c.cuts_at-cuts.ensures) in
    let cut : Cut = cut_at cuts k in
    let is : cut ≡ cut_at (cuts_of ways set) k = ap (λ cs. cut_at cs k) c.cuts_at-cuts.ensures in
    let facts = cut_is ways set k cut c.requires.set_in inside is in
    let hash = hash_small ways set k cut c.requires.set_in inside is in
    let merge = merge_small ways set k cut c.requires.set_in inside is in
    let some = facts.some in
    record {
      small = c.requires.small;
      hash_price = omega (arith, hash);
      merge_price = omega (arith, merge);
      from = omega (arith, some);
      to = facts.within;
    }

pub loop-cut-preserved : goal.loop-cut-preserved
loop-cut-preserved c =
    let self = c.args.self.now in
    let orders = self.choices.now.orders in
    let cuts = c.cuts_at-cuts.result.now in
    let k = c.loop-cut.cut-index in
    let within : k < length cuts = omega (arith, c.loop-cut-test.true, c.loop-cut.auto.cut-index-end) in
    let is = get_or_default cuts k _ no_cut within ∙ ap (λ cs. cut_at cs k) c.cuts_at-cuts.ensures in
    takes-more orders (λ j. CutGives self.ways (row_in c.args.rows.now) c.args.front (cut_at (cuts_of self.ways c.args.set) j)) k c.args.cell.now.items c.loop-cut.cell.items c.join_cut.new.cell.items c.loop-cut.invariant
    (subst (λ (x : Cut). Takes orders (CutGives self.ways (row_in c.args.rows.now) c.args.front x) c.loop-cut.cell.items c.join_cut.new.cell.items) is c.in_ok-join_cut.ensures)

pub returns : goal.returns
returns c =
    let self = c.args.self.now in
    takes-all self.choices.now.orders (λ j. CutGives self.ways (row_in c.args.rows.now) c.args.front (cut_at (cuts_of self.ways c.args.set) j)) c.loop-cut.cut-index (length (cuts_of self.ways c.args.set)) c.args.cell.now.items c.loop-cut.cell.items
    (omega (arith, c.loop-cut-test.false, c.loop-cut.auto.cut-index-end, ap length c.cuts_at-cuts.ensures)) c.loop-cut.invariant
