use Rattle.std.proofs.Common.{sym, ◌∙◌}
use Rattle.planner.proofs.Cutting.{merges_skip}
use Rattle.planner.proofs.cuts.add_merge.Goals as goal

pub returns-then-not-crosses : goal.returns-then-not-crosses
returns-then-not-crosses c =
    merges_skip c.args.link.now c.args.a c.args.b c.args.merges.now.items (sym c.crosses.ensures ∙ c.if-not-crosses.true)
