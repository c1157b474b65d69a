use Rattle.std.proofs.Common.{◌≡◌, ◌<◌, ℕ}
use Rattle.std.specs.Prelude.{Some, slice_get}
use Rattle.certificate.specs.declared.cert.Entry.{Entry}
use Rattle.gap_checker.specs.Faults as faults
use Rattle.adv_base.specs.Settings.{the_setting}
use Rattle.gap_checker.proofs.uses.bad_entry.Given as goal

abbrev pub invariant-loop-i : goal.invariant-loop-i
invariant-loop-i l = (k : ℕ) (earlier : Entry) → k < l.i → slice_get l.set.entries k ≡ Some earlier → faults.NamesPair (the_setting l.setting) earlier
