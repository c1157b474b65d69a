use Rattle.gap_checker.proofs.OneFault.{one-answer}
use Rattle.gap_checker.proofs.laws.answers_are_one.Goals as goal

pub returns : goal.returns
returns c = one-answer
