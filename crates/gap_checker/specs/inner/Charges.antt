-- The rents of a statement's uses, as a search is charged them.
use Rattle.std.specs.Prelude.{ℕ}
use Rattle.gap_checker.specs.Views.{rent_in}
use Rattle.gap_checker.specs.declared.multipliers.Terms.{Terms}

abbrev pub charge_of : Terms → ℕ → ℕ → ℕ → ℕ
charge_of terms q s a = rent_in terms.rents.entries.now q s a
