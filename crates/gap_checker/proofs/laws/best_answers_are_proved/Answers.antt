use Rattle.gap_checker.proofs.Answering.{best-proved}
use Rattle.gap_checker.proofs.laws.best_answers_are_proved.Goals as goal

pub returns : goal.returns
returns c = best-proved
