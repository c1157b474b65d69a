use Rattle.adv_base.specs.Settings.{the_setting}
use Rattle.bip_model.proofs.Totalling.{value-total}
use Rattle.programme_parts.proofs.OneProgramme.{one-programme}
use Rattle.tuning.proofs.building.programme.Goals as goal

pub returns-clause-total : goal.returns-clause-total
returns-clause-total c = λ config. value-total (the_setting c.args.setting.now) _ config c.args.setting.now.limits c.in_ok-programme.ensures.stands

pub returns-clause-one : goal.returns-clause-one
returns-clause-one c = λ other is. one-programme (the_setting c.args.setting.now) other c.in_ok-programme.programme is
    (record { stands = c.in_ok-programme.ensures.stands; kept = c.in_ok-programme.ensures.kept })
