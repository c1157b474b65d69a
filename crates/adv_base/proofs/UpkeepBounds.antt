-- Bounds of upkeep. A statement's weighted upkeep of all indexes is at most (1000 + 256) * 6 * 10^24, so the sum over
-- 1000 statements is far below 2^128.
use Rattle.std.proofs.Common.{◌≡◌, ℕ, ◌+◌, ◌*◌, ◌≤◌, Bool, true, false, List, [], ◌∷◌, length, All, fold, refl, arith}
use Rattle.std.specs.Prelude.{if◌then◌else◌, sum_by, Option, Some, None}
use Rattle.std.specs.Option.{option_map_or}
use Rattle.std.proofs.Math.Nat.{mul-le-mul}
use Rattle.std.proofs.lemmas.Bool.Decides.{nat_tests}
use Rattle.std.proofs.lemmas.List.Sums.{sum_by-le, sum_by-le-sum_by}
use Rattle.adv_base.specs.declared.catalogue.Catalogue.{Catalogue}
use Rattle.adv_base.specs.declared.catalogue.index.Index.{Index}
use Rattle.adv_base.specs.declared.catalogue.index.IndexShape.{IndexShape}
use Rattle.adv_base.specs.declared.catalogue.table.Table.{Table}
use Rattle.adv_base.specs.declared.limits.TheConstants.{MOST_ROWS, MOST_RATE, MOST_UPKEEP, MOST_INDEXES, MOST_CANDIDATES}
use Rattle.adv_base.specs.declared.setting.Config.{Config}
use Rattle.adv_base.specs.declared.workload.Work.{Work}
use Rattle.adv_base.specs.declared.workload.Work.TheVariants.{Select, Update, Delete, Insert}
use Rattle.adv_base.specs.Configs.{candidates_in}
use Rattle.adv_base.specs.Limits.Works.{StatementLimits}
use Rattle.adv_base.specs.Lookups.{table_at}
use Rattle.adv_base.specs.Sizes.{index_levels}
use Rattle.adv_base.specs.Upkeep.{touches, changed_rows, writes_per_row, write_cost, upkeep, kept_upkeep, config_upkeep}
use Rattle.adv_base.proofs.ConfigLaws.{length-chosen}
use Rattle.adv_base.proofs.RowBounds.{filtered_rows-bounds}

-- an index has one level or two
pub index_levels-most : (table : Table) (keys : List ℕ) → index_levels table keys ≤ 2
unfolding index_levels
index_levels-most table keys = grind (arith, nat_tests)

levels-most : (keys : List ℕ) (table : Option Table) → option_map_or (λ table. index_levels table keys) table 0 ≤ 2
levels-most keys (Some table) = index_levels-most table keys
levels-most keys None = omega arith

pub write_cost-most : (cat : Catalogue) (shape : IndexShape) → write_cost cat shape ≤ 3 * MOST_RATE
write_cost-most cat shape =
    let levels = levels-most shape.keys (table_at cat shape.table) in
    let rand : cat.rates.rand_page ≤ MOST_RATE = cat.rates.limits.rand_page_most in
    let row : cat.rates.row_cpu ≤ MOST_RATE = cat.rates.limits.row_cpu_most in
    omega (arith, row, mul-le-mul rand levels)

-- a statement changes at most 10^12 rows
pub changed_rows-most : (cat : Catalogue) (weight : ℕ) (work : Work) → StatementLimits weight work → changed_rows cat work ≤ MOST_ROWS
changed_rows-most cat weight (Select block) l = omega arith
changed_rows-most cat weight (Update block columns) l = (filtered_rows-bounds cat block 0).most
changed_rows-most cat weight (Delete block) l = (filtered_rows-bounds cat block 0).most
changed_rows-most cat weight (Insert table rows) l = (l.inserts table rows refl).1

writes-most : (work : Work) → writes_per_row work ≤ 2
writes-most (Select block) = omega arith
writes-most (Update block columns) = omega arith
writes-most (Delete block) = omega arith
writes-most (Insert table rows) = omega arith

touched-most : (touched : Bool) (writes rows cost : ℕ) → writes ≤ 2 → rows ≤ MOST_ROWS → cost ≤ 3 * MOST_RATE → (if touched then writes * (rows * cost) else 0) ≤ MOST_UPKEEP
touched-most true writes rows cost w r c = omega (arith, mul-le-mul w (mul-le-mul r c))
touched-most false writes rows cost w r c = omega arith

-- the upkeep of one index by one statement
pub upkeep-most : (cat : Catalogue) (weight : ℕ) (work : Work) (shape : IndexShape) → StatementLimits weight work → upkeep cat work shape ≤ MOST_UPKEEP
unfolding upkeep
upkeep-most cat weight work shape l =
    touched-most (touches work shape) (writes_per_row work) (changed_rows cat work) (write_cost cat shape) (writes-most work) (changed_rows-most cat weight work l) (write_cost-most cat shape)

sums-most : {X : Type 0} (f : X → ℕ) (m n : ℕ) (xs : List X) → ((x : X) → f x ≤ m) → length xs ≤ n → sum_by f xs ≤ n * m
sums-most f m n xs each few =
    let all : All (λ x. f x ≤ m) xs = λ k d h. each _ in
    omega (arith, sum_by-le f m xs all, mul-le-mul few (refl-le m))
  where
    refl-le : (m : ℕ) → m ≤ m
    refl-le m = omega arith

-- that of a configuration's candidates
pub config_upkeep-most : (cat : Catalogue) (shapes : List IndexShape) (config : Config) (weight : ℕ) (work : Work) → StatementLimits weight work → length shapes ≤ MOST_CANDIDATES →
    config_upkeep cat shapes config work ≤ MOST_CANDIDATES * MOST_UPKEEP
unfolding config_upkeep
config_upkeep-most cat shapes config weight work l few =
    let less = length-chosen config.on shapes in
    sums-most (upkeep cat work) MOST_UPKEEP MOST_CANDIDATES (candidates_in shapes config) (λ shape. upkeep-most cat weight work shape l) (omega (arith, less))

table-most : (cat : Catalogue) (weight : ℕ) (work : Work) → StatementLimits weight work → (table : Table) →
    sum_by (λ index. upkeep cat work index.shape) table.indexes ≤ length table.indexes * MOST_UPKEEP
table-most cat weight work l table =
    sum_by-le (λ (index : Index). upkeep cat work index.shape) MOST_UPKEEP table.indexes (λ k d h. upkeep-most cat weight work _ l)

scaled : {X : Type 0} (f : X → ℕ) (m : ℕ) (xs : List X) → sum_by (λ x. f x * m) xs ≡ sum_by f xs * m
scaled f m xs = from 0 0 (omega arith) xs
  where
    from : (a b : ℕ) → a ≡ b * m → (xs : List _) → fold (λ s x. s + f x * m) a xs ≡ fold (λ s x. s + f x) b xs * m
    from a b e [] = e
    from a b e (x ∷ xs) = from (a + f x * m) (b + f x) (omega (arith, e)) xs

-- and that of the indexes that exist
pub kept_upkeep-most : (cat : Catalogue) (weight : ℕ) (work : Work) → StatementLimits weight work → kept_upkeep cat work ≤ MOST_INDEXES * MOST_UPKEEP
unfolding kept_upkeep
kept_upkeep-most cat weight work l =
    let each = sum_by-le-sum_by (λ (table : Table). sum_by (λ (index : Index). upkeep cat work index.shape) table.indexes) (λ (table : Table). length table.indexes * MOST_UPKEEP) cat.tables (table-most cat weight work l) in
    let whole = scaled (λ (table : Table). length table.indexes) MOST_UPKEEP cat.tables in
    let few : sum_by (λ (table : Table). length table.indexes) cat.tables ≤ MOST_INDEXES = cat.limits.indexes_most in
    omega (arith, each, whole, few)
