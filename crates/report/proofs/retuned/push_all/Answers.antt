use Rattle.std.proofs.Common.{◌+◌, ◌++◌, drop, ap, sym, ◌∙◌, append_assoc, append-nil}
use Rattle.report.specs.Retuned.{tuned_text, tuned_texts}
use Rattle.report.proofs.TunedTexts.{tuned_texts-turn, tuned_texts-end}
use Rattle.report.proofs.retuned.push_all.Goals as goal

pub tuned-preserved : goal.tuned-preserved
tuned-preserved c =
    let i = c.tuned.at in
    let cat = c.args.cat.now in
    let all = c.args.tuned.now in
    let tuned = c.index-tuned-at.result in
    let rest = tuned_texts cat (i + 1 + 1) (drop (i + 1) all) in
    let turn = tuned_texts-turn cat (i + 1) i all tuned c.tuned-test.true c.index-tuned-at.is in
    let e = ap (λ xs. c.tuned.out.items ++ xs) (sym turn) in
    rw c.in_ok-push_tuned.ensures (append_assoc c.tuned.out.items (tuned_text cat (i + 1) tuned) rest ∙ e ∙ c.tuned.invariant)

pub returns : goal.returns
returns c =
    let end = tuned_texts-end c.args.cat.now (c.tuned.at + 1) c.tuned.at c.args.tuned.now c.tuned-test.false in
    sym (append-nil c.tuned.out.items) ∙ ap (λ xs. c.tuned.out.items ++ xs) (sym end) ∙ c.tuned.invariant
