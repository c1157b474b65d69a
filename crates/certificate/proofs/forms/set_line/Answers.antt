use Rattle.certificate.proofs.FormLaws.{set-none, set-price, set-count, set-is}
use Rattle.certificate.proofs.forms.set_line.Goals as goal

pub returns-in-None : goal.returns-in-None
returns-in-None c = set-none c.args.most c.args.line.now c.in-None.ensures

pub returns-in-None-next_number : goal.returns-in-None-next_number
returns-in-None-next_number c = λ mu count h.
    c.in-None-next_number.ensures mu _ (set-price c.args.most c.args.line.now c.in-Some.numbers.now c.in-Some.ensures mu count h)

pub returns-in-None-last_number : goal.returns-in-None-last_number
returns-in-None-last_number c = λ mu count h.
    c.in-None-last_number.ensures count (set-count c.args.most c.args.line.now c.in-Some.numbers.now c.in-Some-next_number.found.1.now c.in-Some-next_number.found.0 c.in-Some.ensures c.in-Some-next_number.ensures mu count h)

pub returns-in-Some-last_number : goal.returns-in-Some-last_number
returns-in-Some-last_number c =
    set-is c.args.most c.args.line.now c.in-Some.numbers.now c.in-Some-next_number.found.1.now c.in-Some-next_number.found.0 c.in-Some-last_number.count c.in-Some.ensures c.in-Some-next_number.ensures c.in-Some-last_number.ensures
