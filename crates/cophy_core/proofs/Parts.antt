-- The parts of a programme, read one statement after the other.
use Rattle.std.proofs.Common.{◌≡◌, ◌∙◌, ℕ, suc, ◌+◌, ◌-◌, ◌<◌, ◌≤◌, List, [], ◌∷◌, drop, take, get_or, length, add-one, drop-cons, refl, sym, ap, subst, arith}
use Rattle.std.specs.Prelude.{Option, Some, None, slice_get}
use Rattle.std.proofs.lemmas.List.{take_rest}
use Rattle.std.proofs.lemmas.Option.{slice_get_within, get_or_from_slice_get}
use Rattle.adv_base.specs.declared.catalogue.Catalogue.{Catalogue}
use Rattle.adv_base.specs.declared.catalogue.index.IndexShape.{IndexShape}
use Rattle.adv_base.specs.declared.setting.Config.{Config}
use Rattle.adv_base.specs.declared.workload.Statement.{Statement}
use Rattle.adv_base.specs.declared.workload.block.Block.{Block}
use Rattle.adv_base.specs.Named.{NamesWork}
use Rattle.adv_base.specs.Offers.{offers}
use Rattle.adv_base.specs.Settings.{TheSetting, KeepsLimits}
use Rattle.adv_base.proofs.OfferBounds.{offers-limits}
use Rattle.plan_model.specs.Totals.{block_of, IsBlockCost}
use Rattle.plan_model.specs.declared.plan.TheConstants.{MOST_COST}
use Rattle.plan_model.proofs.CostBound.{whole_cost-most}
use Rattle.bip_model.specs.declared.part.Part.{Part}
use Rattle.bip_model.specs.Laws.{PartCostIsLeast}
use Rattle.bip_model.specs.StandsFor.{AreEach, Blocked, IsPart, blocked_in, blocked_from}
use Rattle.bip_model.specs.Values.{part_cost}
use Rattle.cophy_core.specs.inner.Parts.{ArePartsFrom}
use Rattle.cophy_core.proofs.Blocks.{block_named}

-- ## Parts and statements

-- the statements with a block from a place on: that one, where it has a block, and those behind it
blocked_next : (statements : List Statement) (at : ℕ) (statement : Statement) → slice_get statements at ≡ Some statement →
    blocked_from (at + 1) (drop at statements) ≡ blocked_in (at + 1) statement.weight (block_of statement.work) (blocked_from (at + 1 + 1) (drop (at + 1) statements))
blocked_next statements at statement found =
    let within : at < length statements = slice_get_within statements at statement found in
    let read : get_or statements at statement ≡ statement = get_or_from_slice_get statements at statement statement found in
    let split : drop at statements ≡ statement ∷ drop (suc at) statements = drop-cons statements at statement within ∙ ap (λ (s : Statement). s ∷ drop (suc at) statements) read in
    let there : drop at statements ≡ statement ∷ drop (at + 1) statements = rw add-one split in
    let next : suc (at + 1) ≡ at + 1 + 1 = sym (add-one (at + 1)) in
    ap (blocked_from (at + 1)) there
    ∙ ap (λ (n : ℕ). blocked_in (at + 1) statement.weight (block_of statement.work) (blocked_from n (drop (at + 1) statements))) next

-- a statement without a block has no part
pub parts_same : (setting : TheSetting) (at : ℕ) (statement : Statement) (parts : List Part) → slice_get setting.statements at ≡ Some statement → block_of statement.work ≡ None → ArePartsFrom setting at parts → ArePartsFrom setting (at + 1) parts
parts_same setting at statement parts found none are =
    let same = blocked_next setting.statements at statement found ∙ ap (λ (b : Option Block). blocked_in (at + 1) statement.weight b (blocked_from (at + 1 + 1) (drop (at + 1) setting.statements))) none in
    subst (λ (bs : List Blocked). AreEach (IsPart setting) bs parts) same are

-- one with a block has the first, and those behind it have the rest
pub record HasFirstPart (setting : TheSetting) (at : ℕ) (statement : Statement) (block : Block) (parts : List Part) : Type 0 where
  pub part : Part
  pub rest : List Part
  pub parts_are : parts ≡ part ∷ rest
  pub part_is : IsPart setting (record { number = at + 1; weight = statement.weight; block = block }) part
  pub rest_are : ArePartsFrom setting (at + 1) rest

taken : (setting : TheSetting) (at : ℕ) (statement : Statement) (block : Block) (parts : List Part) →
    AreEach (IsPart setting) (blocked_in (at + 1) statement.weight (Some block) (blocked_from (at + 1 + 1) (drop (at + 1) setting.statements))) parts → HasFirstPart setting at statement block parts
taken setting at statement block [] are = absurd are
taken setting at statement block (part ∷ rest) are = record { part = part; rest = rest; parts_are = refl; part_is = are.0; rest_are = are.1 }

pub parts_taken : (setting : TheSetting) (at : ℕ) (statement : Statement) (block : Block) (parts : List Part) → slice_get setting.statements at ≡ Some statement → block_of statement.work ≡ Some block → ArePartsFrom setting at parts → HasFirstPart setting at statement block parts
parts_taken setting at statement block parts found is are =
    let same = blocked_next setting.statements at statement found ∙ ap (λ (b : Option Block). blocked_in (at + 1) statement.weight b (blocked_from (at + 1 + 1) (drop (at + 1) setting.statements))) is in
    taken setting at statement block parts (subst (λ (bs : List Blocked). AreEach (IsPart setting) bs parts) same are)

-- there is one
pub parts_some : (setting : TheSetting) (at : ℕ) (statement : Statement) (block : Block) (parts : List Part) → slice_get setting.statements at ≡ Some statement → block_of statement.work ≡ Some block → ArePartsFrom setting at parts → 1 ≤ length parts
parts_some setting at statement block parts found is are =
    let own = parts_taken setting at statement block parts found is are in
    let count : length parts ≡ suc (length own.rest) = ap length own.parts_are in
    omega (arith, count)

-- those behind the first
pub parts_behind : (setting : TheSetting) (at : ℕ) (statement : Statement) (block : Block) (parts : List Part) → slice_get setting.statements at ≡ Some statement → block_of statement.work ≡ Some block → ArePartsFrom setting at parts →
    ArePartsFrom setting (at + 1) (take (length parts - 1) (drop 1 parts))
parts_behind setting at statement block parts found is are =
    let own = parts_taken setting at statement block parts found is are in
    let behind : drop 1 parts ≡ own.rest = ap (drop 1) own.parts_are in
    subst (ArePartsFrom setting (at + 1)) (sym (take_rest parts 1 ∙ behind)) own.rest_are

-- ## What a part tells

-- the names of a statement of a setting exist
pub statement_named : (setting : TheSetting) (at : ℕ) (statement : Statement) → KeepsLimits setting → slice_get setting.statements at ≡ Some statement → NamesWork setting.cat statement.work
statement_named setting at statement limits found =
    subst (λ (s : Statement). NamesWork setting.cat s.work) (get_or_from_slice_get setting.statements at statement statement found)
    (limits.statements_named at statement (slice_get_within setting.statements at statement found))

-- the cost of the first part is that of a least plan of the statement's block
pub part_tells : PartCostIsLeast → (setting : TheSetting) (config : Config) (at : ℕ) (statement : Statement) (block : Block) (parts : List Part) (part : Part) → KeepsLimits setting → slice_get setting.statements at ≡ Some statement → block_of statement.work ≡ Some block → ArePartsFrom setting at parts → part ≡ get_or parts 0 part →
    IsBlockCost setting.cat setting.shapes config block (part_cost part config)
part_tells law setting config at statement block parts part limits found is are read =
    let own = parts_taken setting at statement block parts found is are in
    let first : part ≡ own.part = read ∙ ap (λ (ps : List Part). get_or ps 0 part) own.parts_are in
    let blocked : Blocked = record { number = at + 1; weight = statement.weight; block = block } in
    let named = block_named setting.cat statement.work block (statement_named setting at statement limits found) is in
    subst (λ (p : Part). IsBlockCost setting.cat setting.shapes config block (part_cost p config)) (sym first)
    (law setting blocked own.part config named own.part_is)

-- a least plan of a block costs less than 10^21
pub block_below : (cat : Catalogue) (shapes : List IndexShape) (config : Config) (block : Block) (cost : ℕ) → IsBlockCost cat shapes config block cost → cost < MOST_COST
block_below cat shapes config block cost is =
    let plan = is.least.plan in
    omega (arith, whole_cost-most is.task (offers cat block shapes config) plan.whole (offers-limits cat block shapes config) plan.valid, plan.costs)
