use Rattle.certificate.proofs.FormLaws.{entry-statement, entry-slot, entry-candidate, entry-lambda, entry-is}
use Rattle.certificate.proofs.forms.entry_line.Goals as goal

pub returns-in-None : goal.returns-in-None
returns-in-None c = λ e h is. c.in-None.ensures e.statement _ (entry-statement c.args.line.now e h is)

pub returns-in-None-next_number : goal.returns-in-None-next_number
returns-in-None-next_number c = λ e h is.
    c.in-None-next_number.ensures e.slot _ (entry-slot c.args.line.now c.in-Some.found.1.now c.in-Some.found.0 c.in-Some.ensures e h is)

pub returns-in-None-next_number-2 : goal.returns-in-None-next_number-2
returns-in-None-next_number-2 c = λ e h is.
    c.in-None-next_number-2.ensures e.candidate _ (entry-candidate c.args.line.now c.in-Some.found.1.now c.in-Some-next_number.found.1.now c.in-Some.found.0 c.in-Some-next_number.found.0
    c.in-Some.ensures c.in-Some-next_number.ensures e h is)

pub returns-in-None-last_number : goal.returns-in-None-last_number
returns-in-None-last_number c = λ e h is.
    c.in-None-last_number.ensures e.lambda (entry-lambda c.args.line.now c.in-Some.found.1.now c.in-Some-next_number.found.1.now c.in-Some-next_number-2.found.1.now
    c.in-Some.found.0 c.in-Some-next_number.found.0 c.in-Some-next_number-2.found.0 c.in-Some.ensures c.in-Some-next_number.ensures c.in-Some-next_number-2.ensures e h is)

pub returns-in-Some-last_number : goal.returns-in-Some-last_number
returns-in-Some-last_number c =
    entry-is c.args.line.now c.in-Some.found.1.now c.in-Some-next_number.found.1.now c.in-Some-next_number-2.found.1.now _
    c.in-Some.ensures c.in-Some-next_number.ensures c.in-Some-next_number-2.ensures c.in-Some-last_number.ensures
