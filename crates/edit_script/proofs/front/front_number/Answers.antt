use Rattle.std.proofs.Common.{◌≡◌, ℕ, List, None, Some, rules, arith, ◌∙◌}
use Rattle.std.proofs.lemmas.List.{take_rest}
use Rattle.edit_script.specs.inner.Fronts.{BeginsWithNumber}
use Rattle.edit_script.proofs.Numbers.{number-parts}
use Rattle.edit_script.proofs.front.front_number.Goals as goal

abbrev None_begins : ℕ → List ℕ → Type 0
None_begins most text = (n : ℕ) (rest : List ℕ) → ¬ (BeginsWithNumber most text n rest)

-- no space stands behind the digits
pub returns-in_err-rest : goal.returns-in_err-rest
returns-in_err-rest c =
    let none : None_begins c.args.most c.args.text.now =
    λ n rest h.
    let parts = number-parts c.args.text.now n rest c.digits_len-len.result (omega (arith, h.high, c.ranges.most.fits)) c.digits_len-len.ensures.exact h.text in
    c.in_err-rest.ensures rest (take_rest c.args.text.now c.digits_len-len.result ∙ parts.1) in
    search (rules, none)

-- the digits are no number in range
pub returns-in_err-number : goal.returns-in_err-number
returns-in_err-number c =
    let none : None_begins c.args.most c.args.text.now =
    λ n rest h.
    let parts = number-parts c.args.text.now n rest c.digits_len-len.result (omega (arith, h.high, c.ranges.most.fits)) c.digits_len-len.ensures.exact h.text in
    absurd (let found : None ≡ Some n = (c.in_err-number.ensures.exact n).1 (record { digits = parts.0; low = h.low; high = h.high }) in cc) in
    search (rules, none)
