use Rattle.std.proofs.Common.{◌-◌, ◌+◌, arith}
use Rattle.planner.proofs.Cutting.{adds_skip, adds_then}
use Rattle.planner.proofs.cuts.add_cuts.Goals as goal

pub parts-init : goal.parts-init
parts-init c =
    let next = c.part_below-right.ensures in
    record {
      within = next.within;
      apart = next.apart;
      proper = λ some. omega (arith, next.within, next.less (omega (arith, next.within, some)));
      adds = adds_skip c.args.task.now c.args.links.now c.args.covered.now c.args.set 1 c.args.set c.part_below-right.result c.args.cuts.now.items c.args.merges.now.items (omega arith) (omega arith) next.none_between;
    }

pub parts-preserved : goal.parts-preserved
parts-preserved c =
    let task = c.args.task.now in
    let links = c.args.links.now in
    let covered = c.args.covered.now in
    let set = c.args.set in
    let right = c.parts.right in
    let left = c.args.set - c.parts.right in
    let next = c.part_below-right-in-parts.ensures in
    let some = c.parts-test.true in
    let within = c.parts.invariant.within in
    let here = adds_then task links covered set 1 left (left + 1) c.args.cuts.now.items c.parts.cuts.items c.add_cut.new.cuts.items c.args.merges.now.items c.parts.merges.items c.add_cut.new.merges.items c.parts.invariant.adds c.in_ok-add_cut.ensures in
    let skip = adds_skip task links covered set (left + 1) right c.part_below-right-in-parts.result c.add_cut.new.cuts.items c.add_cut.new.merges.items within (omega arith) next.none_between in
    record {
      within = next.within;
      apart = next.apart;
      proper = λ more. omega (arith, next.less some, within);
      adds = adds_then task links covered set 1 (left + 1) (c.args.set - c.part_below-right-in-parts.result) c.args.cuts.now.items c.add_cut.new.cuts.items c.add_cut.new.cuts.items c.args.merges.now.items c.add_cut.new.merges.items c.add_cut.new.merges.items here skip;
    }
