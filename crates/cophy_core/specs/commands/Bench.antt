-- What `bench` answers: advice on a workload that is made, and how large that is.
use Rattle.std.specs.Prelude.{◌≡◌, ℕ, length, sum_by}
use Rattle.adv_base.specs.Limits.Settings.{slot_count}
use Rattle.adv_base.specs.Settings.{TheSetting}
use Rattle.report.specs.declared.done.Bench.{Bench}
use Rattle.report.specs.declared.done.Done.{Done}
use Rattle.report.specs.declared.done.Done.TheVariants.{Benched}
use Rattle.cophy_core.specs.commands.Advise.{IsAdvice}

-- the tables, the statements and the slots are those of the setting, and the advice on it is that of a search of 20000 nodes
pub record IsBenched (budget : ℕ) (setting : TheSetting) (bench : Bench) : Type 0 where
  pub tables_are : bench.tables ≡ length setting.cat.tables
  pub statements_are : bench.statements ≡ length setting.statements
  pub slots_are : bench.slots ≡ sum_by (λ statement. slot_count statement.work) setting.statements
  pub advice_is : IsAdvice budget 20000 setting bench.advice

-- advice on what was made
abbrev pub Gives : ℕ → TheSetting → Done → Type 0
Gives budget setting (Benched bench) = IsBenched budget setting bench
Gives budget setting done = ⊥
