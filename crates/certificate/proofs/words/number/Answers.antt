use Rattle.std.proofs.Common.{◌≡◌, ◌∙◌, sym, arith}
use Rattle.certificate.proofs.WideDigits.{wide-injective}
use Rattle.certificate.proofs.words.number.Goals as goal

pub returns-then-value-least : goal.returns-then-value-least
returns-then-value-least c = λ n is.
    let same : c.in_ok-value.value ≡ n = wide-injective c.in_ok-value.value n c.in_ok-value.ensures.0 (omega (arith, c.ranges.most.fits, is.high)) (sym c.in_ok-value.ensures.1 ∙ is.digits) in
    omega (arith, same, is.low, c.if-value-least.true)

pub returns-then-most-value : goal.returns-then-most-value
returns-then-most-value c = λ n is.
    let same : c.in_ok-value.value ≡ n = wide-injective c.in_ok-value.value n c.in_ok-value.ensures.0 (omega (arith, c.ranges.most.fits, is.high)) (sym c.in_ok-value.ensures.1 ∙ is.digits) in
    omega (arith, same, is.high, c.if-most-value.true)
