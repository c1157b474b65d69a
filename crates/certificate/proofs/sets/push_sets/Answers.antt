use Rattle.std.proofs.Common.{◌∙◌, ◌+◌, ◌++◌, ℕ, List, drop, sym, ap, append_assoc, append-nil}
use Rattle.certificate.specs.Answers.{sparse_set}
use Rattle.certificate.specs.Texts.{text_of, set_lines}
use Rattle.certificate.specs.inner.Writing.{sets_text}
use Rattle.certificate.proofs.WriteLaws.{sets-turn, sets-end}
use Rattle.certificate.proofs.sets.push_sets.Goals as goal

pub sets-preserved : goal.sets-preserved
sets-preserved c =
    let i = c.sets.at in
    let prog = c.args.prog.now in
    let all = c.args.sets.now in
    let set = c.index-sets-at.result in
    let turn = sets-turn prog i all set set c.sets-test.true c.index-sets-at.is in
    let e = ap (λ (xs : List ℕ). c.sets.out.items ++ xs) (sym turn) in
    rw c.in_ok-push_set.ensures (append_assoc c.sets.out.items (text_of (set_lines (sparse_set prog set))) (sets_text prog (drop (i + 1) all)) ∙ e ∙ c.sets.invariant)

pub returns : goal.returns
returns c =
    let end = sets-end c.args.prog.now c.sets.at c.args.sets.now c.sets-test.false in
    sym (append-nil c.sets.out.items) ∙ ap (λ (xs : List ℕ). c.sets.out.items ++ xs) (sym end) ∙ c.sets.invariant
