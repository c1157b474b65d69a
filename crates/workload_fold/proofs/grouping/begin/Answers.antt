use Rattle.std.proofs.Common.{ap, ◌∙◌, subst, sym}
use Rattle.std.specs.Prelude.{All}
use Rattle.std.proofs.lemmas.List.Elements.{All-push}
use Rattle.workload_fold.specs.inner.Gathering.{IsKept, plain_groups}
use Rattle.workload_fold.proofs.Gathering.{untaken}
use Rattle.workload_fold.proofs.grouping.begin.Goals as goal

pub returns-clause-joined : goal.returns-clause-joined
returns-clause-joined c =
    ap plain_groups c.in_ok-push.ensures.items
    ∙ untaken c.args.cat.now c.args.statement.now c.args.number c.args.groups.now.items c.args.at c.begun.result c.requires.place c.requires.past c.begun.ensures.plain

pub returns-clause-kept : goal.returns-clause-kept
returns-clause-kept c =
    subst (All (IsKept c.args.cat.now)) (sym c.in_ok-push.ensures.items)
    (All-push (IsKept c.args.cat.now) c.args.groups.now.items c.begun.result c.requires.kept (c.begun.ensures.kept c.args.cat.now c.requires.named c.requires.told))
