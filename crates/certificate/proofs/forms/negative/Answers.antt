use Rattle.std.proofs.Common.{◌≡◌, ◌≤◌, ◌<◌, ◌^◌, ◌∙◌, suc, ◌-◌, ◌∷◌, ap, arith}
use Rattle.std.specs.Prelude.{decimal}
use Rattle.std.proofs.lemmas.Int.{ints}
use Rattle.certificate.proofs.forms.negative.Goals as goal

pub returns-in-Some-number : goal.returns-in-Some-number
returns-in-Some-number c =
    let v = c.in-Some-number.value in
    let low : 1 ≤ v = c.in-Some-number.ensures.low in
    let high : v < 2 ^ 127 = omega (arith, c.in-Some-number.ensures.high) in
    let same : v ≡ suc (v - 1) = omega arith in (
      v - 1,
      omega (arith, ints),
      omega (arith, c.in-Some-number.ensures.high),
      c.in-Some.ensures ∙ ap (λ d. 32 ∷ 45 ∷ d) (c.in-Some-number.ensures.digits ∙ ap decimal same),
    )
