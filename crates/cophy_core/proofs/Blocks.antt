-- Statements with a block, and without one.
use Rattle.std.proofs.Common.{◌≡◌, ℕ, Bool, false, List, replicate, Some, None, refl, ap, subst}
use Rattle.adv_base.specs.declared.catalogue.Catalogue.{Catalogue}
use Rattle.adv_base.specs.declared.catalogue.index.IndexShape.{IndexShape}
use Rattle.adv_base.specs.declared.limits.TheConstants.{MOST_CANDIDATES}
use Rattle.adv_base.specs.declared.setting.Config.{Config}
use Rattle.adv_base.specs.declared.workload.Work.{Work}
use Rattle.adv_base.specs.declared.workload.Work.TheVariants.{Select, Update, Delete, Insert}
use Rattle.adv_base.specs.declared.workload.block.Block.{Block}
use Rattle.adv_base.specs.Named.{NamesBlock, NamesWork}
use Rattle.plan_model.specs.Totals as totals

same_block : (a b : Block) → Some a ≡ Some b → a ≡ b
same_block a b e = cc

no_block : (a : Block) → Some a ≡ None → ⊥
no_block a e = cc

not_none : (a : Block) → None ≡ Some a → ⊥
not_none a e = cc

-- the block of a statement that names what the catalogue has
pub block_named : (cat : Catalogue) (work : Work) (block : Block) → NamesWork cat work → totals.block_of work ≡ Some block → NamesBlock cat block
block_named cat (Select b) block named is = subst (NamesBlock cat) (same_block b block is) (named.selects b refl)
block_named cat (Update b columns) block named is = subst (NamesBlock cat) (same_block b block is) (named.updates b columns refl).block_named
block_named cat (Delete b) block named is = subst (NamesBlock cat) (same_block b block is) (named.deletes b refl)
block_named cat (Insert table rows) block named is = absurd (not_none block is)

-- a statement with a block costs a least plan of it
pub planned_cost : (cat : Catalogue) (shapes : List IndexShape) (config : Config) (work : Work) (block : Block) (cost : ℕ) → totals.block_of work ≡ Some block → totals.IsBlockCost cat shapes config block cost → totals.IsPlanCost cat shapes config work cost
planned_cost cat shapes config (Select b) block cost is plan = rw (same_block b block is) plan
planned_cost cat shapes config (Update b columns) block cost is plan = rw (same_block b block is) plan
planned_cost cat shapes config (Delete b) block cost is plan = rw (same_block b block is) plan
planned_cost cat shapes config (Insert table rows) block cost is plan = absurd (not_none block is)

-- one without a block costs no plan
pub unplanned_cost : (cat : Catalogue) (shapes : List IndexShape) (config : Config) (work : Work) → totals.block_of work ≡ None → totals.IsPlanCost cat shapes config work 0
unplanned_cost cat shapes config (Select b) none = absurd (no_block b none)
unplanned_cost cat shapes config (Update b columns) none = absurd (no_block b none)
unplanned_cost cat shapes config (Delete b) none = absurd (no_block b none)
unplanned_cost cat shapes config (Insert table rows) none = refl

-- a configuration whose flags are all off has no candidates
pub has_none : (config : Config) → config.on ≡ replicate MOST_CANDIDATES false → config ≡ totals.no_candidates
has_none config off = ap (λ (on : List Bool). let made : Config = record { on = on } in made) off
