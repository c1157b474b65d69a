use Rattle.std.proofs.Common.{◌≡◌, get_or, ap, ◌∙◌}
use Rattle.workload_fold.specs.inner.Gathering.{plain_groups}
use Rattle.workload_fold.proofs.Gathering.{taken_at, kept_at}
use Rattle.workload_fold.proofs.grouping.grow.Goals as goal

pub grown-joined-requires : goal.grown-joined-requires
grown-joined-requires c =
    let own : c.group_at-group.result ≡ get_or c.args.groups.now.items c.args.at c.group_at-group.result = cc (c.group_at-group.ensures, c.as_slice.ensures.value) in
    (taken_at c.args.cat.now c.args.statement.now 0 c.args.groups.now.items c.args.at c.group_at-group.result c.requires.place c.requires.there own).room

pub returns-clause-joined : goal.returns-clause-joined
returns-clause-joined c = λ n.
    let own : c.group_at-group.result ≡ get_or c.args.groups.now.items c.args.at c.group_at-group.result = cc (c.group_at-group.ensures, c.as_slice.ensures.value) in
    ap plain_groups c.put.ensures
    ∙ (taken_at c.args.cat.now c.args.statement.now n c.args.groups.now.items c.args.at c.group_at-group.result c.requires.place c.requires.there own).joins c.grown-joined.result c.grown-joined.ensures.plain

pub returns-clause-kept : goal.returns-clause-kept
returns-clause-kept c =
    let own : c.group_at-group.result ≡ get_or c.args.groups.now.items c.args.at c.group_at-group.result = cc (c.group_at-group.ensures, c.as_slice.ensures.value) in
    kept_at c.args.cat.now c.args.groups.now.items c.put.new.groups.items c.args.at c.group_at-group.result c.grown-joined.result c.requires.kept c.requires.there own c.grown-joined.ensures.kept c.put.ensures
