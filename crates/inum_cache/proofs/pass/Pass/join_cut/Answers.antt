use Rattle.planner.specs.Rows.{merges_in}
use Rattle.inum_cache.specs.inner.Passes.{row_in, HashGives, MergesGive}
use Rattle.inum_cache.proofs.Taking.{takes-both}
use Rattle.inum_cache.proofs.pass.Pass.join_cut.Goals as goal

pub returns : goal.returns
returns c =
    let self = c.args.self.now in
    takes-both self.choices.now.orders (HashGives self.ways (row_in c.args.rows.now) c.args.front c.args.cut.now) (MergesGive self.ways (row_in c.args.rows.now) c.args.front c.args.cut.now (merges_in self.ways c.args.cut.now)) c.args.cell.now.items c.join_hash.new.cell.items c.join_merges.new.cell.items c.in_ok-join_hash.ensures c.in_ok-join_merges.ensures
