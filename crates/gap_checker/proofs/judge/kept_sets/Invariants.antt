use Rattle.std.proofs.Common.{◌∷◌, take}
use Rattle.bip_model.specs.StandsFor.{AreEach}
use Rattle.adv_base.specs.Settings.{the_setting}
use Rattle.gap_checker.specs.inner.Kept as keeping
use Rattle.gap_checker.proofs.judge.kept_sets.Given as goal

abbrev pub invariant-loop-set : goal.invariant-loop-set
invariant-loop-set l = AreEach (keeping.IsKept (the_setting l.setting)) (keeping.zero_set ∷ take l.set-index l.sets) l.kept.items
