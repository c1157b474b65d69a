use Rattle.cophy_core.proofs.OneRefusal.{check_alone, ruled_check_alone}
use Rattle.cophy_core.proofs.laws.checks_stand_alone.Goals as goal

pub returns-clause-check : goal.returns-clause-check
returns-clause-check c = check_alone c.checks_have_one_answer.ensures.check

pub returns-clause-ruled : goal.returns-clause-ruled
returns-clause-ruled c = ruled_check_alone c.checks_have_one_answer.ensures.ruled
