use Rattle.std.proofs.Common.{◌≡◌, ℕ, ◌∷◌, ◌++◌, drop, decimal, None, Some, ap, sym, ◌∙◌, rules, arith}
use Rattle.edit_script.specs.Scripts.{Weigh}
use Rattle.edit_script.specs.inner.Fronts.{SaysEdit}
use Rattle.edit_script.proofs.Numbers.{one_number}
use Rattle.edit_script.proofs.line.weighed.Goals as goal

-- what follows the number of a statement is no weight
pub returns-in_err-weight : goal.returns-in_err-weight
returns-in_err-weight c =
    let none : (number weight : ℕ) → ¬ (SaysEdit c.args.line.now (Weigh number weight)) =
    λ number weight h.
    let found = c.in_ok-number.ensures in
    let text : decimal number ++ 32 ∷ decimal weight ≡ decimal c.in_ok-number.number ++ 32 ∷ c.in_ok-number.more.now = ap (drop 6) (sym h.text ∙ c.in_ok-rest.ensures) ∙ found.text in
    let same = one_number number c.in_ok-number.number (decimal weight) c.in_ok-number.more.now (omega (arith, h.range.0.1)) (omega (arith, found.high)) text in
    absurd (let read : None ≡ Some weight = (c.in_err-weight.ensures.exact weight).1 (record { digits = sym same.1; low = h.range.1.0; high = h.range.1.1 }) in cc) in
    search (rules, none)
