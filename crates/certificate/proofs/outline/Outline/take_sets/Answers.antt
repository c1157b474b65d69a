use Rattle.std.proofs.Common.{refl, arith}
use Rattle.certificate.specs.Texts.{sets_line}
use Rattle.certificate.proofs.outline.Outline.take_sets.Goals as goal

pub returns-in-None : goal.returns-in-None
unfolding sets_line
returns-in-None c = λ tree f h. c.in-None.ensures h.0 (record { parts = h.2; low = omega arith; high = omega (arith, h.1) })

pub returns-in-Some : goal.returns-in-Some
unfolding sets_line
returns-in-Some c = λ tree. (c.in-Some.count, omega (arith, c.in-Some.ensures.high), c.in-Some.ensures.parts, refl)
