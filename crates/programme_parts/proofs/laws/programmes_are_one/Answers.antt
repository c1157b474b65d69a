use Rattle.programme_parts.proofs.OneProgramme.{one-programme}
use Rattle.programme_parts.proofs.laws.programmes_are_one.Goals as goal

pub returns : goal.returns
returns c = one-programme
