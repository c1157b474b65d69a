use Rattle.std.proofs.Common.{◌≡◌, List, suc, drop, map, sym, subst, take, arith}
use Rattle.std.proofs.lemmas.List.{length-map, length-reverse}
use Rattle.std.proofs.lemmas.Result.{err_from_is_err_and}
use Rattle.bip_model.specs.Views.{node_of}
use Rattle.bip_model.specs.declared.answer.Node.{Node}
use Rattle.certificate.specs.Limits.{AreTrees}
use Rattle.gap_checker.specs.Faults.{IsFault}
use Rattle.gap_checker.specs.inner.Judges as judges
use Rattle.gap_checker.specs.inner.Nodes as kept
use Rattle.gap_checker.proofs.Lists.{take-at, take-whole}
use Rattle.gap_checker.proofs.Walking.{walk-some, walk-end, cut-at, number-at}
use Rattle.gap_checker.proofs.judge.Judge.judge_tree.Goals as goal

pub judge_next-requires-clause-some : goal.judge_next-requires-clause-some
judge_next-requires-clause-some c =
    let items = c.loop-i.starts.items in
    let tree = c.args.tree.now in
    let node = c.node_at-node.result in
    let are = subst (AreTrees 1) (cut-at tree c.loop-i.i node c.node_at-node.ensures) c.requires.tree in
    omega (
      arith,
      walk-some c.args.self.now (take c.loop-i.i tree) (kept.starts_of items) node (drop (suc c.loop-i.i) tree) c.loop-i.invariant.walk are,
      length-reverse (map node_of items),
      length-map items node_of,
    )

pub loop-i-preserved : goal.loop-i-preserved
loop-i-preserved c =
    let tree = c.args.tree.now in
    record {
      walk = rw (take-at tree c.loop-i.i c.node_at-node.result c.node_at-node.ensures) (c.in_ok-judge_next.ensures.walk (take c.loop-i.i tree) c.loop-i.invariant.walk);
      memo_is = c.in_ok-judge_next.ensures.memo;
    }

pub returns-in_err-judge_next-clause-fault : goal.returns-in_err-judge_next-clause-fault
returns-in_err-judge_next-clause-fault c =
    let judge = c.args.self.now in
    let tree = c.args.tree.now in
    let i = c.loop-i.i in
    let node = c.node_at-node.result in
    let p = err_from_is_err_and c.from_residual-in_err-judge_next.result c.from_residual-in_err-judge_next.ensures.1 in
    let same : p.0 ≡ c.in_err-judge_next.field-0.0 = cc (p.2) in
    rw p.1
    (subst (λ (list : List Node). IsFault (judges.setting_of judge) (judges.root_of judge) (judges.cert_of judge list) p.0) (sym (cut-at tree i node c.node_at-node.ensures))
    (rw same
    (c.in_err-judge_next.ensures.fault (take i tree) (drop (suc i) tree) c.requires.sound c.loop-i.invariant.walk (number-at tree i node c.node_at-node.ensures))))

pub returns-clause-proof : goal.returns-clause-proof
returns-clause-proof c =
    let judge = c.args.self.now in
    let tree = c.args.tree.now in
    let whole : take c.loop-i.i tree ≡ tree = take-whole tree c.loop-i.i (omega (arith, c.loop-i-test.false)) in
    walk-end judge tree (kept.starts_of c.loop-i.starts.items) c.requires.sound c.requires.tree
    (subst (λ (read : List Node). judges.IsWalk judge read (kept.starts_of c.loop-i.starts.items)) whole c.loop-i.invariant.walk)
