use Rattle.std.proofs.Common.{◌≡◌, ◌∷◌, ◌++◌, length, drop, decimal, ap, sym, ◌∙◌, arith}
use Rattle.std.proofs.lemmas.Bool.Decides.{nat_tests}
use Rattle.edit_script.proofs.Numbers.{one_number}
use Rattle.edit_script.proofs.line.added.Goals as goal

-- nothing follows the weight
pub returns-then-is_empty : goal.returns-then-is_empty
returns-then-is_empty c = λ weight sql h.
    let found = c.in_ok-weight.ensures in
    let text : decimal weight ++ 32 ∷ sql ≡ decimal c.in_ok-weight.weight ++ 32 ∷ c.in_ok-weight.sql.now = ap (drop 4) (sym h.text ∙ c.in_ok-rest.ensures) ∙ found.text in
    let same = (one_number weight c.in_ok-weight.weight sql c.in_ok-weight.sql.now (omega (arith, h.range.0.1)) (omega (arith, found.high)) text).1 in
    let none : length c.in_ok-weight.sql.now ≡ 0 = grind (arith, nat_tests) in
    omega (arith, h.range.1, ap length same)
