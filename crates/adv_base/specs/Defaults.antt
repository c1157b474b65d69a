-- The rates of a catalogue that names none.
use Rattle.std.specs.Prelude.{◌≡◌}
use Rattle.adv_base.specs.declared.catalogue.rates.Rates.{Rates}

pub record AreDefaults (rates : Rates) : Type 0 where
  pub seq_page : rates.seq_page ≡ 1000
  pub rand_page : rates.rand_page ≡ 4000
  pub row_cpu : rates.row_cpu ≡ 10
  pub sort_cpu : rates.sort_cpu ≡ 5
  pub merge_cpu : rates.merge_cpu ≡ 5
  pub hash_cpu : rates.hash_cpu ≡ 8
  pub group_cpu : rates.group_cpu ≡ 5
