use Rattle.std.proofs.Common.{◌+◌, ◌++◌, drop, ap, sym, ◌∙◌, append_assoc, append-nil}
use Rattle.adv_base.specs.Settings.{the_setting}
use Rattle.report.specs.Sweeps.{point_line, point_lines}
use Rattle.report.proofs.PointLines.{point_lines-turn, point_lines-end}
use Rattle.report.proofs.swept.push_points.Goals as goal

pub points-preserved : goal.points-preserved
points-preserved c =
    let i = c.points.at in
    let setting = the_setting c.args.setting.now in
    let points = c.args.points.now in
    let point = c.index-points-at.result in
    let rest = point_lines setting (i + 1 + 1) (drop (i + 1) points) in
    let turn = point_lines-turn setting (i + 1) i points point c.points-test.true c.index-points-at.is in
    let e = ap (λ xs. c.points.out.items ++ xs) (sym turn) in
    rw c.in_ok-push_point.ensures (append_assoc c.points.out.items (point_line setting (i + 1) point) rest ∙ e ∙ c.points.invariant)

pub returns : goal.returns
returns c =
    let end = point_lines-end (the_setting c.args.setting.now) (c.points.at + 1) c.points.at c.args.points.now c.points-test.false in
    sym (append-nil c.points.out.items) ∙ ap (λ xs. c.points.out.items ++ xs) (sym end) ∙ c.points.invariant
