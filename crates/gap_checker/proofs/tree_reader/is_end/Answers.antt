use Rattle.std.proofs.Common.{◌≡◌, ◌∙◌, ℕ, List, ◌++◌, [], length, length-append, sym, ap, arith}
use Rattle.std.specs.Prelude.{codes, ◌==◌}
use Rattle.std.proofs.lemmas.Bool.{eqb-true, false≢true}
use Rattle.certificate.specs.Texts.{end_line}
use Rattle.certificate.proofs.WordLaws.{no-front, front-is}
use Rattle.gap_checker.proofs.TreeTexts.{no-bytes}
use Rattle.gap_checker.proofs.tree_reader.is_end.Goals as goal

pub returns-in-None-clause-not : goal.returns-in-None-clause-not
unfolding end_line
returns-in-None-clause-not c = λ no e. no-front c.args.line.now c.as_slice.result.now [] c.in-None.ensures.cases (e ∙ sym (ap (λ (w : List ℕ). w ++ []) c.as_slice.ensures))

pub returns-in-Some-clause-end : goal.returns-in-Some-clause-end
unfolding end_line
returns-in-Some-clause-end c = λ whole.
    let rest : List ℕ = c.in-Some.rest.now in
    let front = front-is c.args.line.now c.as_slice.result.now rest c.in-Some.ensures.cases.0 c.in-Some.ensures.cases.1 in
    let none : length rest ≡ 0 = eqb-true (length rest) 0 (sym c.is_empty.ensures ∙ whole) in
    front ∙ ap (λ (w : List ℕ). w ++ rest) c.as_slice.ensures ∙ ap (λ (r : List ℕ). codes "end" ++ r) (no-bytes rest none)

pub returns-in-Some-clause-not : goal.returns-in-Some-clause-not
unfolding end_line
returns-in-Some-clause-not c = λ more e.
    let rest : List ℕ = c.in-Some.rest.now in
    let front = front-is c.args.line.now c.as_slice.result.now rest c.in-Some.ensures.cases.0 c.in-Some.ensures.cases.1 in
    let whole : codes "end" ≡ codes "end" ++ rest = sym e ∙ front ∙ ap (λ (w : List ℕ). w ++ rest) c.as_slice.ensures in
    let none : length rest ≡ 0 = omega (arith, ap length whole, length-append (codes "end") rest) in
    absurd (false≢true (sym more ∙ c.is_empty.ensures ∙ ap (λ (n : ℕ). n == 0) none))
