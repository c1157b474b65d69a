use Rattle.std.proofs.Common.{◌≡◌, ◌∙◌, ◌%◌, ℕ, sym, ap, refl, arith}
use Rattle.std.proofs.lemmas.Bool.{false≢true}
use Rattle.certificate.specs.Texts.{tree_line}
use Rattle.certificate.proofs.Taken.{one-tree}
use Rattle.certificate.proofs.outline.Outline.take_tree.Goals as goal

pub returns-in-None : goal.returns-in-None
unfolding tree_line
returns-in-None c = λ tree f h. c.in-None.ensures h.0 (record { parts = h.3; low = omega (arith, h.2); high = h.1 })

pub returns-then-not-is_odd : goal.returns-then-not-is_odd
unfolding tree_line
returns-then-not-is_odd c = λ tree f h.
    let same : h.0 ≡ c.in-Some.count = one-tree h.0 c.in-Some.count h.1 c.in-Some.ensures.high (sym h.3 ∙ c.in-Some.ensures.parts) in
    false≢true (sym c.if-not-is_odd.true ∙ c.is_odd.ensures.1 (ap (λ (n : ℕ). n % 2) (sym same) ∙ h.2))

pub returns-else-not-is_odd : goal.returns-else-not-is_odd
unfolding tree_line
returns-else-not-is_odd c = λ tree. (c.in-Some.count, c.in-Some.ensures.high, c.is_odd.ensures.0 c.if-not-is_odd.false, c.in-Some.ensures.parts, refl)
