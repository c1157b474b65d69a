-- A block has one number of combinations: it has a task, where its names exist, and no other task. And what follows where
-- the number is within the limit.
use Rattle.std.proofs.Common.{◌≡◌, ◌∙◌, ℕ, ◌+◌, ◌-◌, ◌*◌, ◌^◌, ◌≤◌, List, [], ◌∷◌, length, take, map, refl, sym, ap, subst, arith}
use Rattle.std.specs.Prelude.{Option, Some, None, fold, option_and_then, slice_get, unwrap_or}
use Rattle.std.specs.List.{range_with_len}
use Rattle.std.specs.Option.{ForSome}
use Rattle.std.proofs.Math.Nat.{mul-le-mul}
use Rattle.std.proofs.lemmas.List.Elements.{All-map, All-push}
use Rattle.std.proofs.lemmas.List.FromFn.{get_or-map-range_with_len, length-map-range_with_len}
use Rattle.access_paths.proofs.TaskLemmas.{task_limits}
use Rattle.adv_base.specs.declared.catalogue.Catalogue.{Catalogue}
use Rattle.adv_base.specs.declared.catalogue.column.Column.{Column}
use Rattle.adv_base.specs.declared.catalogue.table.Table.{Table}
use Rattle.adv_base.specs.declared.limits.TheConstants.{MOST_COMBINATIONS}
use Rattle.adv_base.specs.declared.workload.Statement.{Statement}
use Rattle.adv_base.specs.declared.workload.block.Block.{Block}
use Rattle.adv_base.specs.declared.workload.parts.Item.{Item}
use Rattle.adv_base.specs.declared.workload.parts.Item.TheVariants.{Up, Down, Made}
use Rattle.adv_base.specs.Lookups.{slot_table, table_distinct}
use Rattle.adv_base.specs.Named.{NamesBlock}
use Rattle.adv_base.specs.Rows.{AreRows, set_rows, item_distinct, group_product, group_rows}
use Rattle.adv_base.specs.Sets.{all_slots}
use Rattle.adv_base.proofs.RowBounds.{set_rows-bounds}
use Rattle.cardinality.specs.Tables.{HoldsRows}
use Rattle.plan_model.specs.declared.task.Task.{Task}
use Rattle.plan_model.specs.BlockTask.{IsTaskOf, task_edge}
use Rattle.plan_model.specs.Limits.Tasks.{RowLimits}
use Rattle.plan_model.specs.Orders.{combinations}
use Rattle.plan_model.proofs.Unique.{one-task}
use Rattle.plan_model.specs.Totals.{block_of}
use Rattle.programme_parts.specs.Combinations.{HasCombinations, IsFew, HasFew, AreFew, IsBeyond, IsFirstBeyond}
use Rattle.programme_parts.proofs.Reading.{take-found}

-- ## Rows of groups

known : (distinct : Option ℕ) → ForSome distinct (λ d. 1 ≤ d) → 1 ≤ unwrap_or distinct 10
known None some = omega arith
known (Some d) some = some d refl

column-some : (column : Option Column) → 1 ≤ unwrap_or (option_and_then (λ c. c.distinct) column) 10
column-some None = omega arith
column-some (Some column) = known column.distinct column.limits.distinct_least

table-some : (table : Option Table) (c : ℕ) → 1 ≤ unwrap_or (option_and_then (λ t. table_distinct t c) table) 10
table-some None c = omega arith
table-some (Some table) c = column-some (slice_get table.columns c)

item-some : (cat : Catalogue) (block : Block) (item : Item) → 1 ≤ unwrap_or (item_distinct cat block item) 10
item-some cat block (Up slot column) = table-some (slot_table cat block slot) column
item-some cat block (Down slot column) = table-some (slot_table cat block slot) column
item-some cat block (Made number) = omega arith

product-some : {A : Type 0} (f : A → ℕ) → ((x : A) → 1 ≤ f x) → (start : ℕ) → 1 ≤ start → (xs : List A) → 1 ≤ fold ◌*◌ start (map f xs)
product-some f some start least [] = least
product-some f some start least (x ∷ xs) =
    let both : 1 * 1 ≤ start * f x = mul-le-mul least (some x) in
    product-some f some (start * f x) (omega arith) xs

group-limits : (cat : Catalogue) (block : Block) (items : List Item) → RowLimits (group_rows cat block items)
unfolding group_rows
group-limits cat block items =
    let product : 1 ≤ group_product cat block items = product-some (λ item. unwrap_or (item_distinct cat block item) 10) (item-some cat block) 1 (omega arith) items in
    let rows : AreRows (set_rows cat block (all_slots (length block.slots))) = set_rows-bounds cat block (all_slots (length block.slots)) in
    record { some = omega (arith, product, rows.least); most = omega (arith, rows.most) }

-- ## The task

table-of : (cat : Catalogue) (block : Block) → HoldsRows cat block (2 ^ length block.slots) (map (set_rows cat block) (range_with_len 0 (2 ^ length block.slots)))
table-of cat block =
    let sets : ℕ = 2 ^ length block.slots in
    record {
      count = length-map-range_with_len (set_rows cat block) 0 sets;
      exact = λ set below. let at : 0 + set ≡ set = omega arith in get_or-map-range_with_len (set_rows cat block) 0 sets set set 0 below at;
      bounds = All-map AreRows (set_rows cat block) (range_with_len 0 sets) (λ k d within. set_rows-bounds cat block _);
    }

task-of : (cat : Catalogue) (block : Block) → NamesBlock cat block → (task : Task) × IsTaskOf cat block task
task-of cat block named =
    let rows : List ℕ = map (set_rows cat block) (range_with_len 0 (2 ^ length block.slots)) in
    let groups : ℕ = group_rows cat block (unwrap_or block.group []) in
    let made : Task = record {
      slots = length block.slots;
      edges = map (task_edge block) block.edges;
      rows = rows;
      group = block.group;
      group_rows = groups;
      order = block.order;
      rates = cat.rates;
      limits = task_limits cat block named rows (table-of cat block) groups (group-limits cat block (unwrap_or block.group []));
    } in
    (made, record { slots_are = refl; edges_are = refl; rows_are = refl; group_is = refl; group_rows_are = refl; order_is = refl; rates_are = refl })

-- ## The number

pub some-count : (cat : Catalogue) (block : Block) → NamesBlock cat block → (count : ℕ) × HasCombinations cat block count
some-count cat block named =
    let own = task-of cat block named in
    (combinations own.0, record { task = own.0; task_is = own.1; count_is = refl })

pub one-count : (cat : Catalogue) (block : Block) (first second : ℕ) → HasCombinations cat block first → HasCombinations cat block second → first ≡ second
one-count cat block first second a b =
    sym a.count_is ∙ ap combinations (one-task cat block a.task b.task a.task_is b.task_is) ∙ b.count_is

-- ## Few

pub few-combinations : (cat : Catalogue) (block : Block) (task : Task) → IsTaskOf cat block task → combinations task ≤ MOST_COMBINATIONS → IsFew cat block
few-combinations cat block task is few = λ count has.
    let same : count ≡ combinations task = one-count cat block count (combinations task) has (record { task = task; task_is = is; count_is = refl }) in
    omega (arith, few, same)

-- of a statement with a block, and of one without
pub few-block : (cat : Catalogue) (statement : Statement) (block : Block) → block_of statement.work ≡ Some block → IsFew cat block → HasFew cat statement
few-block cat statement block is few = λ other other_is. let same : block ≡ other = (let both : Some block ≡ Some other = sym is ∙ other_is in cc) in subst (IsFew cat) same few

pub few-none : (cat : Catalogue) (statement : Statement) → block_of statement.work ≡ None → HasFew cat statement
few-none cat statement none = λ block is. let both : None ≡ Some block = sym none ∙ is in absurd (cc)

-- of one statement more
pub few-more : (cat : Catalogue) (statements : List Statement) (at : ℕ) (statement : Statement) → slice_get statements at ≡ Some statement → AreFew cat (take at statements) → HasFew cat statement → AreFew cat (take (at + 1) statements)
few-more cat statements at statement found before own =
    subst (AreFew cat) (sym (take-found statements at statement found)) (All-push (HasFew cat) (take at statements) statement before own)

-- ## The first that has more

pub first-beyond : (cat : Catalogue) (statements : List Statement) (at n count : ℕ) (statement : Statement) → slice_get statements at ≡ Some statement → AreFew cat (take at statements) → n ≡ at + 1 → IsBeyond cat statement count → IsFirstBeyond cat statements n count
first-beyond cat statements at n count statement found before number is =
    let place : at ≡ n - 1 = omega (arith, number) in
    record {
      from_one = omega (arith, number);
      statement = statement;
      found = subst (λ (i : ℕ). slice_get statements i ≡ Some statement) place found;
      is = is;
      few_before = subst (λ (i : ℕ). AreFew cat (take i statements)) place before;
    }
