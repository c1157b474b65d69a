use Rattle.cophy_core.proofs.Certified.{Laws}
use Rattle.cophy_core.proofs.SweptAccepting.{accepted}
use Rattle.cophy_core.proofs.laws.swept_certificates_are_accepted.Goals as goal

pub returns : goal.returns
returns c =
    let laws : Laws = record {
      fit = c.written_certificates_fit.ensures;
      one = c.texts_are_one.ensures.certificate;
      proved = c.best_answers_are_proved.ensures;
      exclude = c.faults_exclude_proofs.ensures;
    } in
    accepted laws c.checks_stand_alone.ensures.check
