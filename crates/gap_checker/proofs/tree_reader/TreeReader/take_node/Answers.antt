use Rattle.std.proofs.Common.{◌≡◌, ◌∙◌, ℕ, List, length, sym, ap, subst, arith}
use Rattle.std.proofs.lemmas.Result.{err_from_is_err_and}
use Rattle.bip_model.specs.declared.fix.Fix.{Fix}
use Rattle.certificate.specs.Limits.{NodeLimits}
use Rattle.gap_checker.specs.declared.fault.AtFault.TheVariants as at_faults
use Rattle.gap_checker.specs.declared.tree_reader.TreeReader.{TreeReader}
use Rattle.gap_checker.specs.inner.Judges.{WalksOn}
use Rattle.gap_checker.specs.inner.Nodes.{starts_of}
use Rattle.gap_checker.specs.inner.Walks.{trees_after}
use Rattle.gap_checker.proofs.Reading.{not-done, stands, line-breaks, node-fault, takes-node, whole-line, same-sets, fit-moved}
use Rattle.gap_checker.proofs.TreeBreaks.{no-trees}
use Rattle.gap_checker.proofs.tree_reader.TreeReader.take_node.Goals as goal

pub returns-then-not-trees_fit-clause-fault : goal.returns-then-not-trees_fit-clause-fault
returns-then-not-trees_fit-clause-fault c =
    let judge = c.args.judge.now in
    let head = c.args.head.now in
    let r = c.args.self.now in
    let undone = not-done head r c.requires.fits c.requires.more in
    let same : c.trees_after-trees.result ≡ trees_after (length r.starts.items) c.args.node = c.trees_after-trees.ensures ∙ ap (λ (n : ℕ). trees_after n c.args.node) c.trees.ensures in
    line-breaks judge head r _ c.requires.fits c.requires.judge undone (ap at_faults.Malformed c.number.ensures)
    (λ text more h. no-trees head h.read (length r.starts.items) _ r.partial more c.args.node (stands judge head r text c.requires.fits h) (omega (arith, c.requires.more, h.count)) (whole-line r.partial more h.plain) c.requires.limits c.requires.line
    (λ fit. c.trees_fit.ensures.not c.if-not-trees_fit.true (fit-moved _ _ _ _ (sym same) (omega (arith, h.count, c.left-left.ensures)) fit)))

pub judge_next-requires-clause-limits : goal.judge_next-requires-clause-limits
judge_next-requires-clause-limits c = subst (λ (n : _). NodeLimits n c.args.node) (sym (same-sets c.args.judge.now c.args.head.now c.requires.judge)) c.requires.limits

pub returns-in_err-judge_next-clause-fault : goal.returns-in_err-judge_next-clause-fault
returns-in_err-judge_next-clause-fault c =
    let judge = c.args.judge.now in
    let head = c.args.head.now in
    let r = c.args.self.now in
    let undone = not-done head r c.requires.fits c.requires.more in
    let same : c.trees_after-trees.result ≡ trees_after (length r.starts.items) c.args.node = c.trees_after-trees.ensures ∙ ap (λ (n : ℕ). trees_after n c.args.node) c.trees.ensures in
    let fit = c.trees_fit.ensures.fits c.if-not-trees_fit.false in
    let p = err_from_is_err_and c.from_residual.result c.from_residual.ensures.1 in
    rw p.1
    (node-fault judge head r c.args.node c.in_err-judge_next.field-0.0 p.0 c.requires.fits c.requires.judge undone c.requires.line c.requires.limits c.requires.more
    (fit-moved _ _ _ _ same (omega (arith, c.left-left.ensures)) fit)
    c.in_err-judge_next.ensures.fault p.2)

pub returns-clause-taken : goal.returns-clause-taken
returns-clause-taken c =
    let judge = c.args.judge.now in
    let head = c.args.head.now in
    let r = c.args.self.now in
    let undone = not-done head r c.requires.fits c.requires.more in
    let same : c.trees_after-trees.result ≡ trees_after (length r.starts.items) c.args.node = c.trees_after-trees.ensures ∙ ap (λ (n : ℕ). trees_after n c.args.node) c.trees.ensures in
    let fit = c.trees_fit.ensures.fits c.if-not-trees_fit.false in
    takes-node judge head r c.count_node.new.self c.args.node c.requires.fits undone c.requires.line c.requires.limits c.requires.more
    (fit-moved _ _ _ _ same (omega (arith, c.left-left.ensures)) fit)
    (ap (λ (x : TreeReader). x.partial) c.count_node.ensures) (ap (λ (x : TreeReader). x.read) c.count_node.ensures) (ap (λ (x : TreeReader). x.is_done) c.count_node.ensures) (ap (λ (x : TreeReader). length x.starts.items) c.count_node.ensures ∙ c.in_ok-judge_next.ensures.count) (subst (λ (items : List Fix). WalksOn judge (starts_of r.starts.items) c.args.node (starts_of items)) (sym (ap (λ (x : TreeReader). x.starts.items) c.count_node.ensures)) c.in_ok-judge_next.ensures.walk)
