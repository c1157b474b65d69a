-- Alike statements cost the same.
use Rattle.std.proofs.Common.{◌≡◌, ◌↔◌, ℕ, ◌+◌, ◌*◌, ◌==◌, true, false, ◌&&◌, List, Option, refl, sym, ap, ◌∙◌, subst}
use Rattle.std.proofs.Math.Path.{fun_ext}
use Rattle.std.specs.Prelude.{nat_eq, sum_by, if◌then◌else◌}
use Rattle.std.specs.Option.{option_map_or}
use Rattle.std.specs.Cmp.Lexicographic.{pointwise, same_text}
use Rattle.std.proofs.lemmas.Bool.{and_parts, false≢true}
use Rattle.std.proofs.lemmas.Bool.Decides.{Decides-eqb}
use Rattle.adv_base.specs.declared.catalogue.Catalogue.{Catalogue}
use Rattle.adv_base.specs.declared.catalogue.index.IndexShape.{IndexShape}
use Rattle.adv_base.specs.declared.setting.Config.{Config}
use Rattle.adv_base.specs.declared.workload.Work.{Work}
use Rattle.adv_base.specs.declared.workload.Work.TheVariants.{Select, Update, Delete, Insert}
use Rattle.adv_base.specs.declared.workload.block.Block.{Block}
use Rattle.adv_base.specs.declared.workload.parts.Slot.{Slot}
use Rattle.adv_base.specs.Configs.{candidates_in}
use Rattle.adv_base.specs.Offers.{OfferTable, offers}
use Rattle.adv_base.specs.Upkeep.{is_on_table, holds_some, write_cost, upkeep, kept_upkeep, config_upkeep}
use Rattle.candidates.specs.Proposals.{work_proposals}
use Rattle.plan_model.specs.declared.task.Task.{Task}
use Rattle.plan_model.specs.BlockTask.{IsTaskOf}
use Rattle.plan_model.specs.Least.{Least}
use Rattle.plan_model.specs.Totals.{IsBlockCost, IsPlanCost, IsCost}
use Rattle.workload_fold.specs.Alike.{alike_blocks, is_alike}
use Rattle.workload_fold.proofs.Pairs.{pairs_at}
use Rattle.workload_fold.proofs.SameBlocks.{SameSlot, SameBlocks, blocks_told, blocks_turned}
use Rattle.workload_fold.proofs.Rows.{same_filtered, same_task}
use Rattle.workload_fold.proofs.Paths.{same_offer_table}
use Rattle.workload_fold.proofs.Proposing.{same_block_proposals}

-- What holds of statements of one kind whose blocks have all in common, and that set or add the same, holds of alike
-- statements.
pub alike_works : (cat : Catalogue) (P : Work → Work → Type 0)
    → ((a b : Block) → SameBlocks cat a b → P (Select a) (Select b))
    → ((a b : Block) (set : List ℕ) → SameBlocks cat a b → P (Update a set) (Update b set))
    → ((a b : Block) → SameBlocks cat a b → P (Delete a) (Delete b))
    → ((t rows : ℕ) → P (Insert t rows) (Insert t rows))
    → (p q : Work) → is_alike cat p q ≡ true → P p q
alike_works cat P s u d n (Select a) (Select b) h = s a b (blocks_told cat a b h)
alike_works cat P s u d n (Select a) (Update b set) h = absurd (false≢true h)
alike_works cat P s u d n (Select a) (Delete b) h = absurd (false≢true h)
alike_works cat P s u d n (Select a) (Insert t rows) h = absurd (false≢true h)
alike_works cat P s u d n (Update a set) (Select b) h = absurd (false≢true h)
alike_works cat P s u d n (Update a set) (Update b other) h =
    let both = and_parts (alike_blocks cat a b) (pointwise nat_eq set other) h in
    subst (λ (columns : List ℕ). P (Update a set) (Update b columns)) (same_text set other (sym both.1)) (u a b set (blocks_told cat a b both.0))
alike_works cat P s u d n (Update a set) (Delete b) h = absurd (false≢true h)
alike_works cat P s u d n (Update a set) (Insert t rows) h = absurd (false≢true h)
alike_works cat P s u d n (Delete a) (Select b) h = absurd (false≢true h)
alike_works cat P s u d n (Delete a) (Update b set) h = absurd (false≢true h)
alike_works cat P s u d n (Delete a) (Delete b) h = d a b (blocks_told cat a b h)
alike_works cat P s u d n (Delete a) (Insert t rows) h = absurd (false≢true h)
alike_works cat P s u d n (Insert t rows) (Select b) h = absurd (false≢true h)
alike_works cat P s u d n (Insert t rows) (Update b set) h = absurd (false≢true h)
alike_works cat P s u d n (Insert t rows) (Delete b) h = absurd (false≢true h)
alike_works cat P s u d n (Insert t rows) (Insert v more) h =
    let both = and_parts (t == v) (rows == more) h in
    subst (λ (x : ℕ). P (Insert t rows) (Insert x more)) ((Decides-eqb t v).0 both.0)
    (subst (λ (y : ℕ). P (Insert t rows) (Insert t y)) ((Decides-eqb rows more).0 both.1) (n t rows))

-- ## Proposals

pub same_work_proposals : (cat : Catalogue) (p q : Work) → is_alike cat p q ≡ true → work_proposals cat p ≡ work_proposals cat q
unfolding work_proposals
same_work_proposals cat p q h =
    alike_works cat (λ x y. work_proposals cat x ≡ work_proposals cat y) (λ a b same. same_block_proposals cat a b same) (λ a b set same. same_block_proposals cat a b same)
    (λ a b same. same_block_proposals cat a b same) (λ t rows. refl) p q h

-- ## Upkeep

same_on_index : (cat : Catalogue) (a b : Block) → SameBlocks cat a b → (shape : IndexShape) → is_on_table a shape ≡ is_on_table b shape
same_on_index cat a b same shape =
    pairs_at SameSlot (λ (x : Option Slot). option_map_or (λ slot. slot.table == shape.table) x false) (λ (x : Option Slot). option_map_or (λ slot. slot.table == shape.table) x false) refl
    (λ x y h. ap (λ (n : ℕ). n == shape.table) h.table) a.slots b.slots same.slots 0

pub same_upkeep : (cat : Catalogue) (p q : Work) (shape : IndexShape) → is_alike cat p q ≡ true → upkeep cat p shape ≡ upkeep cat q shape
unfolding upkeep
same_upkeep cat p q shape h =
    alike_works cat (λ x y. upkeep cat x shape ≡ upkeep cat y shape) (λ a b same. refl)
    (λ a b set same. (let on = same_on_index cat a b same shape in
    let rows = same_filtered cat a b same 0 in
    λ i. if on i && holds_some shape.keys set then 2 * (rows i * write_cost cat shape) else 0))
    (λ a b same. (let on = same_on_index cat a b same shape in
    let rows = same_filtered cat a b same 0 in
    λ i. if on i then 1 * (rows i * write_cost cat shape) else 0))
    (λ t rows. refl) p q h

upkeeps : (cat : Catalogue) (p q : Work) → is_alike cat p q ≡ true → upkeep cat p ≡ upkeep cat q
upkeeps cat p q h = fun_ext (λ shape. same_upkeep cat p q shape h)

same_kept : (cat : Catalogue) (p q : Work) → is_alike cat p q ≡ true → kept_upkeep cat p ≡ kept_upkeep cat q
unfolding kept_upkeep
same_kept cat p q h = ap (λ (f : IndexShape → ℕ). sum_by (λ table. sum_by (λ index. f index.shape) table.indexes) cat.tables) (upkeeps cat p q h)

same_chosen : (cat : Catalogue) (shapes : List IndexShape) (config : Config) (p q : Work) → is_alike cat p q ≡ true → config_upkeep cat shapes config p ≡ config_upkeep cat shapes config q
unfolding config_upkeep
same_chosen cat shapes config p q h = ap (λ (f : IndexShape → ℕ). sum_by f (candidates_in shapes config)) (upkeeps cat p q h)

-- ## Plans and costs

block_over : (cat : Catalogue) (shapes : List IndexShape) (config : Config) (a b : Block) (cost : ℕ) → SameBlocks cat a b → IsBlockCost cat shapes config a cost → IsBlockCost cat shapes config b cost
block_over cat shapes config a b cost same is =
    record {
      task = is.task;
      task_is = same_task cat a b same is.task is.task_is;
      least = subst (λ (table : OfferTable). Least is.task table cost) (same_offer_table cat a b same shapes config) is.least;
    }

block_both : (cat : Catalogue) (shapes : List IndexShape) (config : Config) (a b : Block) (cost : ℕ) → SameBlocks cat a b → IsBlockCost cat shapes config a cost ↔ IsBlockCost cat shapes config b cost
block_both cat shapes config a b cost same = (block_over cat shapes config a b cost same, block_over cat shapes config b a cost (blocks_turned cat a b same))

same_plan : (cat : Catalogue) (shapes : List IndexShape) (config : Config) (cost : ℕ) (p q : Work) → is_alike cat p q ≡ true → IsPlanCost cat shapes config p cost ↔ IsPlanCost cat shapes config q cost
same_plan cat shapes config cost p q h =
    alike_works cat (λ x y. IsPlanCost cat shapes config x cost ↔ IsPlanCost cat shapes config y cost)
    (λ a b same. block_both cat shapes config a b cost same) (λ a b set same. block_both cat shapes config a b cost same)
    (λ a b same. block_both cat shapes config a b cost same) (λ t rows. (λ is. is, λ is. is)) p q h

pub same_cost : (cat : Catalogue) (shapes : List IndexShape) (config : Config) (p q : Work) (cost : ℕ) → is_alike cat p q ≡ true → IsCost cat shapes config p cost ↔ IsCost cat shapes config q cost
same_cost cat shapes config p q cost h =
    let kept = same_kept cat p q h in
    let chosen = same_chosen cat shapes config p q h in (
      λ is. record { plan = is.plan; plan_is = (same_plan cat shapes config is.plan p q h).0 is.plan_is; sum = is.sum ∙ (λ i. is.plan + (kept i + chosen i)) },
      λ is. record { plan = is.plan; plan_is = (same_plan cat shapes config is.plan p q h).1 is.plan_is; sum = is.sum ∙ (λ i. is.plan + (sym kept i + sym chosen i)) },
    )

pub one_task : (cat : Catalogue) (a b : Block) (task : Task) → alike_blocks cat a b ≡ true → IsTaskOf cat a task ↔ IsTaskOf cat b task
one_task cat a b task h =
    let same = blocks_told cat a b h in
    (same_task cat a b same task, same_task cat b a (blocks_turned cat a b same) task)

pub one_table : (cat : Catalogue) (shapes : List IndexShape) (config : Config) (a b : Block) → alike_blocks cat a b ≡ true → offers cat a shapes config ≡ offers cat b shapes config
one_table cat shapes config a b h = same_offer_table cat a b (blocks_told cat a b h) shapes config
