-- Stops for want of memory or at a refusal.
use Rattle.std.proofs.Common.{◌≡◌, ◌≢◌, sym, subst}
use Rattle.adv_base.specs.Settings.{TheSetting}
use Rattle.report.specs.declared.done.Refusal.{Refusal}
use Rattle.tuning.specs.declared.fault.TuneFault.{TuneFault}
use Rattle.tuning.specs.declared.fault.TuneFault.TheVariants as tune
use Rattle.tuning.specs.Refusals.{IsCause}
use Rattle.cophy_core.specs.declared.stop.Stop.{Stop}
use Rattle.cophy_core.specs.declared.stop.Stop.TheVariants.{Memory, Failed, Refused}
use Rattle.cophy_core.specs.Stops.{IsStopOf, StopsAt, LacksProgramme, IsTuneStop}

-- the stop at a fault stops at a refusal with P, where the fault has it
pub stops_at : {F : Type 0} (P : Refusal → Type 0) (memory : F) (refusal : F → Refusal) (fault : F) (stop : Stop) → IsStopOf memory refusal fault stop → (fault ≢ memory → P (refusal fault)) → StopsAt P stop
stops_at P memory refusal fault Memory of why = tt
stops_at P memory refusal fault (Failed role) of why =
    let apart : fault ≢ memory = λ e. let wanted = of.wanted e in cc in
    absurd (let refused = of.refused apart in cc)
stops_at P memory refusal fault (Refused r) of why =
    let apart : fault ≢ memory = λ e. let wanted = of.wanted e in cc in
    let refused = of.refused apart in
    let same : refusal fault ≡ r = cc in
    subst P same (why apart)

-- the stop where a setting has no programme
pub tune_stops : (setting : TheSetting) (fault : TuneFault) (stop : Stop) → IsCause setting fault → IsTuneStop fault stop → StopsAt (LacksProgramme setting) stop
tune_stops setting tune.Memory stop cause is = subst (StopsAt (LacksProgramme setting)) (sym is) tt
tune_stops setting (tune.TooManyCombinations number count) stop cause is = subst (StopsAt (LacksProgramme setting)) (sym is) cause
