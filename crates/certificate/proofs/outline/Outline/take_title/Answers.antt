use Rattle.std.proofs.Common.{refl, arith}
use Rattle.certificate.specs.Texts.{title_line}
use Rattle.certificate.proofs.outline.Outline.take_title.Goals as goal

pub returns-in-None : goal.returns-in-None
unfolding title_line
returns-in-None c = λ tree f h. c.in-None.ensures h.0 (record { parts = h.3; low = omega (arith, h.1); high = omega (arith, h.2) })

pub returns-in-Some : goal.returns-in-Some
unfolding title_line
returns-in-Some c = λ tree. (c.in-Some.version, omega (arith, c.in-Some.ensures.low), omega (arith, c.in-Some.ensures.high), c.in-Some.ensures.parts, refl)
