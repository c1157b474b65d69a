use Rattle.std.proofs.Common.{◌+◌, ◌++◌, drop, ap, sym, ◌∙◌, append_assoc, append-nil}
use Rattle.report.specs.Listings.{pick_line, pick_lines}
use Rattle.report.proofs.PickLines.{pick_lines-turn, pick_lines-end}
use Rattle.report.proofs.advised.push_picks.Goals as goal

pub shapes-preserved : goal.shapes-preserved
shapes-preserved c =
    let i = c.shapes.at in
    let cat = c.args.cat.now in
    let config = c.args.config.now in
    let shapes = c.args.shapes.now in
    let shape = c.index-shapes-at.result in
    let rest = pick_lines cat config (i + 1 + 1) (drop (i + 1) shapes) in
    let turn = pick_lines-turn cat config (i + 1) i shapes shape c.shapes-test.true c.index-shapes-at.is in
    let e = ap (λ xs. c.shapes.out.items ++ xs) (sym turn) in
    rw c.in_ok-push_pick.ensures (append_assoc c.shapes.out.items (pick_line cat config (i + 1) shape) rest ∙ e ∙ c.shapes.invariant)

pub returns : goal.returns
returns c =
    let end = pick_lines-end c.args.cat.now c.args.config.now (c.shapes.at + 1) c.shapes.at c.args.shapes.now c.shapes-test.false in
    sym (append-nil c.shapes.out.items) ∙ ap (λ xs. c.shapes.out.items ++ xs) (sym end) ∙ c.shapes.invariant
