use Rattle.std.proofs.Common.{◌≡◌, ◌∙◌, sym, ap, arith}
use Rattle.std.specs.Prelude.{decimal}
use Rattle.std.proofs.lemmas.Fmt.{decimal_injective}
use Rattle.adv_base.proofs.decimal.read_number.Goals as goal

pub returns-in-Some-clause-exact : goal.returns-in-Some-clause-exact
returns-in-Some-clause-exact c = λ n. (
  λ e.
      let read = (c.within.ensures.exact n).0 e in
      record { digits = c.in-Some.ensures.1 ∙ ap decimal read.0; low = read.1; high = read.2 },
  λ number.
      let same : c.in-Some.value ≡ n = decimal_injective c.in-Some.value n c.in-Some.ensures.0 (omega (arith, c.ranges.most.fits, number.high)) (sym c.in-Some.ensures.1 ∙ number.digits) in
      (c.within.ensures.exact n).1 (same, number.low, number.high),
)
