-- Why the work for an answer stops, and what is answered then.
use Rattle.std.specs.Prelude.{◌≡◌, ◌≢◌}
use Rattle.adv_base.specs.Settings.{TheSetting}
use Rattle.tuning.specs.declared.fault.TuneFault.{TuneFault}
use Rattle.tuning.specs.declared.fault.TuneFault.TheVariants as tune
use Rattle.programme_parts.specs.Combinations.{IsFirstBeyond}
use Rattle.report.specs.declared.done.Done.{Done}
use Rattle.report.specs.declared.done.Done.TheVariants as answers
use Rattle.report.specs.declared.done.Refusal.{Refusal}
use Rattle.report.specs.declared.done.Refusal.TheVariants.{TooManyCombinations}
use Rattle.cophy_core.specs.declared.stop.Stop.{Stop}
use Rattle.cophy_core.specs.declared.stop.Stop.TheVariants.{Memory, Failed, Refused}

-- the answer that a stop is
abbrev pub done_of : Stop → Done
done_of Memory = answers.Memory
done_of (Failed role) = answers.ReadFault role
done_of (Refused why) = answers.Refused why

-- the stop at a fault: want of memory is itself, every other is refused
pub record IsStopOf {F : Type 0} (memory : F) (refusal : F → Refusal) (fault : F) (stop : Stop) : Type 0 where
  pub wanted : fault ≡ memory → stop ≡ Memory
  pub refused : fault ≢ memory → stop ≡ Refused (refusal fault)

-- a stop for want of memory, or at a refusal that has P
abbrev pub StopsAt : (Refusal → Type 0) → Stop → Type 0
StopsAt P Memory = Unit {0}
StopsAt P (Failed role) = ⊥
StopsAt P (Refused why) = P why

-- why a setting has no programme: the first statement with more combinations of interesting orders than a cache of plans takes
abbrev pub LacksProgramme : TheSetting → Refusal → Type 0
LacksProgramme setting (TooManyCombinations number count) = IsFirstBeyond setting.cat setting.statements number count
LacksProgramme setting why = ⊥

-- the stop where a setting has no programme
abbrev pub IsTuneStop : TuneFault → Stop → Type 0
IsTuneStop tune.Memory stop = stop ≡ Memory
IsTuneStop (tune.TooManyCombinations number count) stop = stop ≡ Refused (TooManyCombinations number count)
