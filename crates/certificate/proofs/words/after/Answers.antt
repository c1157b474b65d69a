use Rattle.certificate.proofs.WordLaws.{no-front, front-is}
use Rattle.certificate.proofs.words.after.Goals as goal

pub returns-in-None : goal.returns-in-None
returns-in-None c = λ rest. no-front c.args.text.now c.args.word.now rest c.in-None.ensures.cases

pub returns-in-Some : goal.returns-in-Some
returns-in-Some c = front-is c.args.text.now c.args.word.now c.in-Some.rest.now c.in-Some.ensures.cases.0 c.in-Some.ensures.cases.1
