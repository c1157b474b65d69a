use Rattle.std.proofs.Common.{◌+◌, ◌++◌, ◌∷◌, [], drop, ap, sym, ◌∙◌, append_assoc, append-nil}
use Rattle.report.specs.Listings.{candidate_words, candidate_lines}
use Rattle.report.proofs.CandidateLines.{candidate_lines-turn, candidate_lines-end}
use Rattle.report.proofs.listed.push_candidates.Goals as goal

pub shapes-preserved : goal.shapes-preserved
shapes-preserved c =
    let i = c.shapes.at in
    let cat = c.args.cat.now in
    let shapes = c.args.shapes.now in
    let shape = c.index-shapes-at.result in
    let rest = candidate_lines cat (i + 1 + 1) (drop (i + 1) shapes) in
    let words = candidate_words cat (i + 1) shape in
    let turn = candidate_lines-turn cat (i + 1) i shapes shape c.shapes-test.true c.index-shapes-at.is in
    let e = ap (λ xs. c.shapes.out.items ++ xs) (sym turn) in
    rw c.in_ok-push_line.ensures (append_assoc c.shapes.out.items (words ++ 10 ∷ []) rest ∙ e ∙ c.shapes.invariant)

pub returns : goal.returns
returns c =
    let end = candidate_lines-end c.args.cat.now (c.shapes.at + 1) c.shapes.at c.args.shapes.now c.shapes-test.false in
    sym (append-nil c.shapes.out.items) ∙ ap (λ xs. c.shapes.out.items ++ xs) (sym end) ∙ c.shapes.invariant
