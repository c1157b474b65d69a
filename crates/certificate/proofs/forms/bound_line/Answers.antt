use Rattle.std.proofs.Common.{◌∙◌, pos, negsuc, refl, arith, rules}
use Rattle.std.proofs.lemmas.Int.{to_z_pos, to_z-of_z}
use mir.Syntax.{w128}
use Rattle.certificate.proofs.FormLaws.{no-bound, bound-neither, bound-is}
use Rattle.certificate.proofs.forms.bound_line.Goals as goal

pub returns-in-None : goal.returns-in-None
returns-in-None c = λ z small. no-bound c.args.line.now c.in-None.ensures z

pub returns-in-None-negative : goal.returns-in-None-negative
returns-in-None-negative c = bound-neither _ c.args.line.now c.in-Some.rest.now refl c.in-Some.ensures c.in-None-last_number.ensures c.in-None-negative.ensures

pub returns-in-Some-negative : goal.returns-in-Some-negative
returns-in-Some-negative c =
    let found = c.in-Some-negative.ensures in
    bound-is c.args.line.now c.in-Some.rest.now (negsuc found.0) _ (to_z-of_z w128 c.in-Some-negative.value (search rules) ∙ found.1) c.in-Some.ensures found.3 found.2

pub returns-in-Some-last_number : goal.returns-in-Some-last_number
returns-in-Some-last_number c =
    let v = c.in-Some-last_number.value in
    bound-is c.args.line.now c.in-Some.rest.now (pos v) _ (to_z_pos w128 v (omega (arith, c.in-Some-last_number.ensures.high))) c.in-Some.ensures
    c.in-Some-last_number.ensures.parts (omega (arith, c.in-Some-last_number.ensures.high))
