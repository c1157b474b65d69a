use Rattle.adv_base.specs.Settings.{the_setting}
use Rattle.cophy_core.proofs.Stopped.{tune_stops}
use Rattle.cophy_core.proofs.programmes.programme_of.Goals as goal

pub returns-in-Err-clause-stop : goal.returns-in-Err-clause-stop
returns-in-Err-clause-stop c = tune_stops (the_setting c.args.setting.now) c.in-Err.fault c.tune_stop.result c.in-Err.ensures.fault c.tune_stop.ensures
