use Rattle.std.proofs.Common.{◌≡◌, ◌∙◌, ℕ, suc, ◌∷◌, [], List, length, length-append, map, sym, ap, subst, arith}
use Rattle.std.proofs.lemmas.List.{length-map, length-reverse}
use Rattle.std.proofs.lemmas.Result.{err_from_is_err_and}
use Rattle.adv_base.specs.Nodes as nodes
use Rattle.bip_model.specs.declared.fix.Fix.{Fix}
use Rattle.bip_model.specs.Views.{node_of}
use Rattle.gap_checker.specs.inner.Judges as judges
use Rattle.gap_checker.specs.inner.Nodes as kept
use Rattle.gap_checker.specs.inner.Walks.{sides, trees_after}
use Rattle.gap_checker.proofs.Walking.{starts-put, sides-count, walk-step, wrong-fault}
use Rattle.gap_checker.proofs.judge.Judge.judge_next.Goals as goal

pub returns-clause-count : goal.returns-clause-count
returns-clause-count c =
    let at = c.next_start-at.result in
    let rest = c.next_start-at.new.starts.items in
    let counted : (items : List Fix) → length (kept.starts_of items) ≡ length items = λ items. length-reverse (map node_of items) ∙ length-map items node_of in
    let old : suc (length (kept.starts_of rest)) ≡ length c.args.starts.now.items = omega (arith, counted rest, ap length c.next_start-at.ensures, length-append rest (at ∷ [])) in
    sym (counted _) ∙ ap length c.in_ok-keep_sides.ensures ∙ sides-count (node_of at) c.args.node (kept.starts_of rest) ∙ ap (λ (n : ℕ). trees_after n c.args.node) old

pub returns-clause-walk : goal.returns-clause-walk
returns-clause-walk c =
    let judge = c.args.self.now in
    let at = c.next_start-at.result in
    let rest = c.next_start-at.new.starts.items in
    let starts : kept.starts_of c.args.starts.now.items ≡ node_of at ∷ kept.starts_of rest = ap kept.starts_of c.next_start-at.ensures ∙ starts-put rest at in
    subst (judges.WalksOn judge (kept.starts_of c.args.starts.now.items) c.args.node) (sym c.in_ok-keep_sides.ensures)
    (subst (λ (old : List nodes.Node). judges.WalksOn judge old c.args.node (sides (node_of at) c.args.node (kept.starts_of rest))) (sym starts)
    (walk-step judge (node_of at) (kept.starts_of rest) c.args.node c.in_ok-judge_node.ensures.right))

pub returns-in_err-judge_node-clause-fault : goal.returns-in_err-judge_node-clause-fault
returns-in_err-judge_node-clause-fault c =
    let judge = c.args.self.now in
    let at = c.next_start-at.result in
    let rest = c.next_start-at.new.starts.items in
    let starts : kept.starts_of c.args.starts.now.items ≡ node_of at ∷ kept.starts_of rest = ap kept.starts_of c.next_start-at.ensures ∙ starts-put rest at in
    let p = err_from_is_err_and c.from_residual.result c.from_residual.ensures.1 in
    let same : p.0 ≡ c.in_err-judge_node.field-0.0 = cc (p.2) in
    rw p.1
    (subst (judges.IsNextFault judge (kept.starts_of c.args.starts.now.items) c.args.number c.args.node) (sym same)
    (subst (λ (old : List nodes.Node). judges.IsNextFault judge old c.args.number c.args.node c.in_err-judge_node.field-0.0) (sym starts)
    (wrong-fault judge (node_of at) (kept.starts_of rest) c.args.number c.args.node c.in_err-judge_node.field-0.0 c.in_err-judge_node.ensures.wrong)))
