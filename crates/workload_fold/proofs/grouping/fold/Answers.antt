use Rattle.std.proofs.Common.{◌≡◌, ◌+◌, ◌≤◌, List, length, map, ap, ◌∙◌, arith}
use Rattle.workload_fold.specs.declared.gathered.Gathered.{Gathered}
use Rattle.workload_fold.specs.Groups.{Group, joined, groups_of}
use Rattle.workload_fold.specs.inner.Gathering.{plain_groups}
use Rattle.workload_fold.proofs.Gathering.{groups_turn, groups_end, numbers_plain, weights_plain}
use Rattle.workload_fold.proofs.grouping.fold.Goals as goal

pub statements-preserved : goal.statements-preserved
statements-preserved c =
    let at = c.statements.at in
    let x = c.index-statements-at.result in
    let put : plain_groups c.join.new.groups.items ≡ joined c.args.cat.now (plain_groups c.statements.groups.items) (at + 1, x) = cc (c.in_ok-join.ensures.joined) in
    record {
      so_far = groups_turn c.args.cat.now c.args.statements.now at x (plain_groups c.statements.groups.items) (plain_groups c.join.new.groups.items) _ (omega arith) c.index-statements-at.is put c.statements.invariant.so_far;
      kept = c.in_ok-join.ensures.kept;
    }

pub returns-clause-first : goal.returns-clause-first
returns-clause-first c =
    let groups : List Gathered = c.statements.groups.items in
    let value : c.as_slice.result.now ≡ groups = cc (c.as_slice.ensures.value) in
    let past : length c.args.statements.now ≤ c.statements.at = omega arith in
    let whole : plain_groups groups ≡ groups_of c.args.cat.now c.args.statements.now
    = groups_end c.args.cat.now c.args.statements.now c.statements.at (plain_groups groups) (groups_of c.args.cat.now c.args.statements.now) past c.statements.invariant.so_far in
    c.in_ok-first.ensures ∙ ap (λ (gs : List Gathered). map (λ (g : Gathered). g.number) gs) value ∙ numbers_plain groups ∙ ap (λ (gs : List Group). map (λ (g : Group). g.number) gs) whole

pub returns-clause-weights : goal.returns-clause-weights
returns-clause-weights c =
    let groups : List Gathered = c.statements.groups.items in
    let value : c.as_slice-2.result.now ≡ groups = cc (c.as_slice-2.ensures.value) in
    let past : length c.args.statements.now ≤ c.statements.at = omega arith in
    let whole : plain_groups groups ≡ groups_of c.args.cat.now c.args.statements.now
    = groups_end c.args.cat.now c.args.statements.now c.statements.at (plain_groups groups) (groups_of c.args.cat.now c.args.statements.now) past c.statements.invariant.so_far in
    c.in_ok-weights.ensures ∙ ap (λ (gs : List Gathered). map (λ (g : Gathered). g.weight) gs) value ∙ weights_plain groups ∙ ap (λ (gs : List Group). map (λ (g : Group). g.weight) gs) whole
