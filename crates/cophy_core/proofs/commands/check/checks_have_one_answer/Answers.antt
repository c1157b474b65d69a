use Rattle.cophy_core.proofs.Checking.{Laws, one-answer, one-ruled-answer}
use Rattle.cophy_core.proofs.commands.check.checks_have_one_answer.Goals as goal

pub returns-clause-check : goal.returns-clause-check
returns-clause-check c =
    let laws : Laws = record { one = c.texts_are_one.ensures.certificate; lines = c.breaks_are_one.ensures; answers = c.answers_are_one.ensures; broken = c.one_answer.ensures.broken } in
    one-answer laws

pub returns-clause-ruled : goal.returns-clause-ruled
returns-clause-ruled c =
    let laws : Laws = record { one = c.texts_are_one.ensures.certificate; lines = c.breaks_are_one.ensures; answers = c.answers_are_one.ensures; broken = c.one_answer.ensures.broken } in
    one-ruled-answer laws
