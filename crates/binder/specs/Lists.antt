-- The lists by which a block groups and orders: no column in them is bound, and none stands twice.
use Rattle.std.specs.Prelude.{ℕ, ◌==◌, Bool, false, ◌&&◌, ◌||◌, if◌then◌else◌, List, [], ◌∷◌, ◌++◌, map, fold, Option, Some, None}
use Rattle.std.specs.List.{list_any, list_all, filter_map}
use Rattle.adv_base.specs.declared.workload.parts.Item.{Item}
use Rattle.adv_base.specs.declared.workload.parts.Item.TheVariants.{Up, Down, Made}
use Rattle.adv_base.specs.Items.{is_same_column}
use Rattle.adv_base.specs.Predicates.{is_equality}
use Rattle.sql_reader.specs.declared.parsed.ParsedOrder.{ParsedOrder}
use Rattle.binder.specs.declared.gathered.SlotColumn.{SlotColumn}
use Rattle.binder.specs.declared.gathered.BoundItem.{BoundItem}
use Rattle.binder.specs.Items.{item_column, is_plain, has_aggregate}
use Rattle.binder.specs.Plain.{PlainPred}

-- the predicate gives the column of this number a literal
abbrev pub binds : ℕ → ℕ → PlainPred → Bool
binds s c pred = (pred.slot == s && pred.column == c) && is_equality pred.test

-- an item whose column is bound
abbrev pub is_bound : List PlainPred → Item → Bool
is_bound preds (Up s c) = list_any (binds s c) preds
is_bound preds (Down s c) = list_any (binds s c) preds
is_bound preds (Made n) = false

-- an item behind those kept, unless its column is bound or stands among them
abbrev pub keep : List PlainPred → List Item → Item → List Item
keep preds kept item = if is_bound preds item || list_any (λ earlier. is_same_column earlier item) kept then kept else kept ++ item ∷ []

-- a list without bound columns, and each other column at its first place alone
abbrev pub kept_items : List PlainPred → List Item → List Item
kept_items preds items = fold (keep preds) [] items

abbrev pub upward : SlotColumn → Item
upward c = Up c.slot c.column

abbrev pub kept_columns : List PlainPred → List SlotColumn → List Item
kept_columns preds columns = kept_items preds (map upward columns)

-- an aggregate stands in a select item or an ORDER BY item
abbrev pub aggregates : List BoundItem → List ParsedOrder → Bool
aggregates items orders = list_any has_aggregate items || list_any (λ order. order.expr.aggregate) orders

-- DISTINCT over plain columns alone groups by them
abbrev pub distinct_group : Bool → List PlainPred → List BoundItem → Option (List Item)
distinct_group distinct preds items = if distinct && list_all is_plain items then Some (kept_columns preds (filter_map item_column items)) else None

-- the list to group by: that of GROUP BY; else none with an aggregate, and without one that of DISTINCT
abbrev pub group_list : Bool → Bool → List PlainPred → List SlotColumn → List BoundItem → Option (List Item)
group_list distinct aggregate preds [] items = if aggregate then None else distinct_group distinct preds items
group_list distinct aggregate preds (c ∷ cs) items = Some (kept_columns preds (c ∷ cs))

-- the list to order by: none where aggregates without GROUP BY leave one row
abbrev pub order_list : Bool → List PlainPred → List SlotColumn → List Item → List Item
order_list aggregate preds [] orders = if aggregate then [] else kept_items preds orders
order_list aggregate preds (c ∷ cs) orders = kept_items preds orders
