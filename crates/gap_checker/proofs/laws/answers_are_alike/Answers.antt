use Rattle.gap_checker.proofs.Alike.{told-of-certificates, answers-alike}
use Rattle.gap_checker.proofs.laws.answers_are_alike.Goals as goal

pub returns-clause-told : goal.returns-clause-told
returns-clause-told c = told-of-certificates

pub returns-clause-alike : goal.returns-clause-alike
returns-clause-alike c = answers-alike
