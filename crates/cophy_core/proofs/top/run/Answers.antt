use Rattle.cophy_core.proofs.CauseLemmas as cause
use Rattle.cophy_core.proofs.Certified as certified
use Rattle.cophy_core.proofs.Gaps.{gap}
use Rattle.cophy_core.proofs.Headlines.{Laws, headline}
use Rattle.cophy_core.proofs.LeftFiles.{left}
use Rattle.cophy_core.proofs.top.run.Goals as goal

pub returns-clause-answer : goal.returns-clause-answer
returns-clause-answer g c = cause.answer c.carry_out-done.ensures.run

pub returns-clause-usage : goal.returns-clause-usage
returns-clause-usage g c = cause.usage c.carry_out-done.ensures.run

pub returns-clause-usage_always : goal.returns-clause-usage_always
returns-clause-usage_always g c = cause.usage_always c.carry_out-done.ensures.run

pub returns-clause-read_fault : goal.returns-clause-read_fault
returns-clause-read_fault g c = cause.read_fault c.carry_out-done.ensures.run

pub returns-clause-write_fault : goal.returns-clause-write_fault
returns-clause-write_fault g c = cause.write_fault c.carry_out-done.ensures.run

pub returns-clause-refused : goal.returns-clause-refused
returns-clause-refused g c = cause.refused c.carry_out-done.ensures.run

pub returns-clause-not_proved : goal.returns-clause-not_proved
returns-clause-not_proved g c = cause.not_proved c.carry_out-done.ensures.run

pub returns-clause-gap : goal.returns-clause-gap
returns-clause-gap g c = gap c.carry_out-done.ensures.run

pub returns-clause-memory : goal.returns-clause-memory
returns-clause-memory g c = cause.memory c.carry_out-done.ensures.run

pub returns-clause-soundness : goal.returns-clause-soundness
returns-clause-soundness g c = cause.soundness c.carry_out-done.ensures.run

pub returns-clause-completeness : goal.returns-clause-completeness
returns-clause-completeness g c = cause.completeness c.carry_out-done.ensures.run

pub returns-clause-text : goal.returns-clause-text
returns-clause-text g c = cause.text_written c.carry_out-done.ensures.run

pub returns-clause-files : goal.returns-clause-files
returns-clause-files g c = left c.carry_out-done.ensures.run

pub returns-clause-headline : goal.returns-clause-headline
returns-clause-headline g c =
    let certificates : certified.Laws = record {
      fit = c.written_certificates_fit.ensures;
      one = c.texts_are_one.ensures.certificate;
      proved = c.best_answers_are_proved.ensures;
      exclude = c.faults_exclude_proofs.ensures;
    } in
    let laws : Laws = record { certificates = certificates; alone = c.checks_stand_alone.ensures.check } in
    headline laws c.carry_out-done.ensures.run _ c.status.ensures
