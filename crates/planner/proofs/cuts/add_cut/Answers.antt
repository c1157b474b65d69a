use Rattle.std.proofs.Common.{◌≡◌, length, sym, ◌∙◌, arith}
use Rattle.planner.proofs.Cutting.{adds_none, adds_uncrossed, adds_cut}
use Rattle.planner.proofs.cuts.add_cut.Goals as goal

pub returns-then-not-are_covered : goal.returns-then-not-are_covered
returns-then-not-are_covered c =
    adds_none c.args.task.now c.args.links.now c.args.covered.now c.args.set c.args.right c.args.cuts.now.items c.args.merges.now.items c.requires.parts (sym c.are_covered.ensures ∙ c.if-not-are_covered.true)

pub returns-then-from-to : goal.returns-then-from-to
returns-then-from-to c =
    let same : length c.args.merges.now.items ≡ length c.add_merges.new.merges.items = omega (arith, c.args.merges.now.ok.0, c.add_merges.new.merges.ok.0, c.len-from.ensures, c.len-to.ensures, c.if-from-to.true) in
    adds_uncrossed c.args.task.now c.args.links.now c.args.covered.now c.args.set c.args.right c.args.cuts.now.items c.args.merges.now.items c.add_merges.new.merges.items c.requires.parts c.in_ok-add_merges.ensures same

pub returns : goal.returns
returns c =
    let from : c.len-from.result ≡ length c.args.merges.now.items = omega (arith, c.args.merges.now.ok.0, c.len-from.ensures) in
    let to : c.len-to.result ≡ length c.add_merges.new.merges.items = omega (arith, c.add_merges.new.merges.ok.0, c.len-to.ensures) in
    adds_cut c.args.task.now c.args.links.now c.args.covered.now c.args.set c.args.right c.args.cuts.now.items c.push.new.self.items c.args.merges.now.items c.add_merges.new.merges.items c.len-from.result c.len-to.result c.hash_price.result c.merge_price.result c.requires.parts c.in_ok-push.ensures.items c.in_ok-add_merges.ensures from to c.if-from-to.false c.hash_price.ensures.exact c.merge_price.ensures.exact
