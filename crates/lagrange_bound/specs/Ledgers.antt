-- What is kept of the bounds under one set of multipliers, and for which parts a candidate counts.
use Rattle.std.specs.Prelude.{◌≡◌, ℕ, suc, ◌*◌, ◌<◌, ◌≤◌, All, Some, length, take, sum_by, slice_get, slice_index_or}
use Rattle.adv_base.specs.declared.limits.TheConstants.{MOST_CANDIDATES, MOST_STATEMENTS}
use Rattle.bip_model.specs.declared.part.Part.{Part}
use Rattle.bip_model.specs.declared.programme.Programme.{Programme}
use Rattle.bip_model.specs.declared.multipliers.Multipliers.{Multipliers}
use Rattle.bip_model.specs.Values.{part_grants}
use Rattle.lagrange_bound.specs.Bounds.{part_rents}
use Rattle.lagrange_bound.specs.CandidateUses.{AreAllUses}
use Rattle.lagrange_bound.specs.ListedPrices.{ArePrices, slots_of}
use Rattle.lagrange_bound.specs.Rented.{plan_costs, weighted_costs}
use Rattle.lagrange_bound.specs.inner.Limits.{MOST_RENTS}
use Rattle.lagrange_bound.specs.inner.Marks.{AreNoted}
use Rattle.lagrange_bound.specs.declared.ledger.Ledger.{Ledger}
use Rattle.lagrange_bound.specs.declared.ledger.PriceRows.{PriceRows}
use Rattle.lagrange_bound.specs.declared.cheaper.CheaperParts.{CheaperParts}

-- the flag of each candidate is on for each part that it can make cheaper, each part has the place of its first grant,
-- prices stand in lists, and each candidate has its grants
pub record AreCheaperParts (programme : Programme) (cheaper : CheaperParts) : Type 0 where
  pub flags_each : length cheaper.flags.items ≡ MOST_CANDIDATES * MOST_STATEMENTS
  pub starts_each : length cheaper.starts.items ≡ length programme.parts
  pub starts_are : (i : ℕ) → i < length programme.parts → slice_index_or cheaper.starts.items i 0 ≡ sum_by part_grants (take i programme.parts)
  pub noted : (i : ℕ) (part : Part) → slice_get programme.parts i ≡ Some part → All (AreNoted cheaper.flags.items i) part.slots
  pub prices : ArePrices (slots_of programme.parts) cheaper.prices
  pub uses : AreAllUses programme.parts cheaper.uses.items

-- a ledger has a place for each part, twice
pub record HasRoom (programme : Programme) (ledger : Ledger) : Type 0 where
  pub places : length ledger.least.items ≡ length programme.parts
  pub marks : length ledger.marks.items ≡ length programme.parts

-- there is a place for the price of each order
abbrev pub HasPlaces : CheaperParts → PriceRows → Type 0
HasPlaces cheaper rows = length rows.least.items ≡ length cheaper.prices.bases.items

-- it keeps the plan costs where some candidates may be used, their weighted sum, and the rents of each candidate
pub record IsLedger (programme : Programme) (multipliers : Multipliers) (ledger : Ledger) : Type 0 where
  pub costs : ledger.least.items ≡ plan_costs ledger.config programme.parts multipliers.lambda
  pub plans : ledger.plans ≡ weighted_costs programme.parts ledger.least.items
  pub marks : length ledger.marks.items ≡ length programme.parts
  pub rents : (a : ℕ) → a < MOST_CANDIDATES → slice_index_or ledger.earned a 0 ≡ part_rents (suc a) programme.parts multipliers.lambda
  pub most : All (λ sum. sum ≤ MOST_RENTS) ledger.earned
