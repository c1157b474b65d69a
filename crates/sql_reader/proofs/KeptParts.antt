-- What parts of the statements of a text of n bytes keep.
use Rattle.std.proofs.Common.{◌≡◌, ℕ, ◌+◌, ◌^◌, ◌<◌, ◌≤◌, Bool, true, false, ◌&&◌, List, [], ◌∷◌, ◌++◌, length, nat_le, nat_lt, refl, ◌∙◌, arith, length-append, if◌then◌else◌}
use Rattle.std.specs.List.{list_all}
use Rattle.std.proofs.lemmas.List.Folds.{list_all-append}
use Rattle.std.proofs.lemmas.Bool.{le-leb, and_from, lt-ltb}
use Rattle.sql_reader.specs.declared.terminal.Terminal.{Terminal}
use Rattle.sql_reader.specs.declared.parsed.ParsedSelect.{ParsedSelect}
use Rattle.sql_reader.specs.declared.parsed.Body.{Body}
use Rattle.sql_reader.specs.declared.parts.InsertParts.{InsertParts}
use Rattle.sql_reader.specs.declared.parts.UpdateParts.{UpdateParts}
use Rattle.sql_reader.specs.declared.parts.Progress.{Progress}
use Rattle.sql_reader.specs.Values.{weight_of, with_statement, insert_body, update_body}
use Rattle.sql_reader.specs.Valid.{span_in, name_in, source_in, condition_in, item_in, order_item_in, select_in, rows_in, are_few, body_in, statement_in, items_in, sources_in, conditions_in, names_in, order_in}
use Rattle.sql_reader.specs.Words.{is_good_weight}
use Rattle.sql_reader.proofs.KeptExpressions.{Few, few_later, few_in, Loose}

-- a SELECT so far
pub record SelectSoFar (n k : ℕ) (s : ParsedSelect) : Type 0 where
  pub items : Few (item_in n) k s.items
  pub sources : Few (source_in n) k s.sources
  pub conditions : Few (condition_in n) k s.conditions
  pub group : Few (name_in n) k s.group
  pub having : Few (name_in n) k s.having
  pub order : Few (order_item_in n) k s.order

-- with at least one source
abbrev pub SelectKnown : ℕ → ℕ → ParsedSelect → Type 0
SelectKnown n k s = SelectSoFar n k s × (nat_le 1 (length s.sources) ≡ true)

-- an INSERT so far
pub record InsertSoFar (n k : ℕ) (p : InsertParts) : Type 0 where
  pub table : span_in n p.table ≡ true
  pub columns : Few (name_in n) k p.columns
  pub values : Loose n k p.found
  pub rows : p.rows ≤ k

abbrev pub InsertKnown : ℕ → ℕ → InsertParts → Type 0
InsertKnown n k p = InsertSoFar n k p × (nat_le 1 p.rows ≡ true)

-- an UPDATE so far
pub record UpdateKnown (n k : ℕ) (p : UpdateParts) : Type 0 where
  pub source : source_in n p.source ≡ true
  pub columns : Few (name_in n) k p.columns
  pub values : Loose n k p.found
  pub conditions : Few (condition_in n) k p.conditions

-- the statements so far, and the first terminal of the next
abbrev pub StatementsKnown : ℕ → ℕ → Progress → Type 0
StatementsKnown n k progress = list_all (statement_in n) progress.statements ≡ true

abbrev pub NextKnown : ℕ → ℕ → Progress × Terminal → Type 0
NextKnown n k s = StatementsKnown n k s.0 × (is_good_weight s.1.mark.weight ≡ true)

pub select_later : (n k j : ℕ) (s : ParsedSelect) → k ≤ j → SelectSoFar n k s → SelectSoFar n j s
select_later n k j s room known = record {
  items = few_later (item_in n) k j s.items room known.items;
  sources = few_later (source_in n) k j s.sources room known.sources;
  conditions = few_later (condition_in n) k j s.conditions room known.conditions;
  group = few_later (name_in n) k j s.group room known.group;
  having = few_later (name_in n) k j s.having room known.having;
  order = few_later (order_item_in n) k j s.order room known.order;
}

pub full_later : (n k j : ℕ) (s : ParsedSelect) → k ≤ j → SelectKnown n k s → SelectKnown n j s
full_later n k j s room known = (select_later n k j s room known.0, known.1)

pub insert_later : (n k j : ℕ) (p : InsertParts) → k ≤ j → InsertSoFar n k p → InsertSoFar n j p
insert_later n k j p room known = record {
  table = known.table;
  columns = few_later (name_in n) k j p.columns room known.columns;
  values = few_later (name_in n) k j p.found.uses room known.values;
  rows = omega (arith, room, known.rows);
}

pub update_later : (n k j : ℕ) (p : UpdateParts) → k ≤ j → UpdateKnown n k p → UpdateKnown n j p
update_later n k j p room known = record {
  source = known.source;
  columns = few_later (name_in n) k j p.columns room known.columns;
  values = few_later (name_in n) k j p.found.uses room known.values;
  conditions = few_later (condition_in n) k j p.conditions room known.conditions;
}

pub more_is_some : {X : Type 0} (xs : List X) (x : X) → nat_le 1 (length (xs ++ x ∷ [])) ≡ true
more_is_some xs x = le-leb 1 (length (xs ++ x ∷ [])) (omega (arith, length-append xs (x ∷ [])))

few_rows : (m k : ℕ) → m ≤ k → k < 2 ^ 32 → nat_lt m (2 ^ 32) ≡ true
few_rows m k h room = lt-ltb m (2 ^ 32) (omega (arith, h, room))

pub select_body : (n k : ℕ) (s : ParsedSelect) → k < 2 ^ 32 → SelectKnown n k s → select_in n s ≡ true
select_body n k s room known =
    and_from (items_in n s.items) (sources_in n s.sources && (conditions_in n s.conditions && (names_in n s.group && (names_in n s.having && order_in n s.order))))
    (few_in (item_in n) k s.items room known.0.items)
    (and_from (sources_in n s.sources) (conditions_in n s.conditions && (names_in n s.group && (names_in n s.having && order_in n s.order)))
    (and_from (nat_le 1 (length s.sources)) (are_few (length s.sources) && list_all (source_in n) s.sources) known.1 (few_in (source_in n) k s.sources room known.0.sources))
    (and_from (conditions_in n s.conditions) (names_in n s.group && (names_in n s.having && order_in n s.order)) (few_in (condition_in n) k s.conditions room known.0.conditions)
    (and_from (names_in n s.group) (names_in n s.having && order_in n s.order) (few_in (name_in n) k s.group room known.0.group)
    (and_from (names_in n s.having) (order_in n s.order) (few_in (name_in n) k s.having room known.0.having) (few_in (order_item_in n) k s.order room known.0.order)))))

pub insert_known : (n k : ℕ) (p : InsertParts) → k < 2 ^ 32 → InsertKnown n k p → body_in n (insert_body p) ≡ true
insert_known n k p room known =
    and_from (span_in n p.table) (names_in n p.columns && (names_in n p.found.uses && rows_in p.rows)) known.0.table
    (and_from (names_in n p.columns) (names_in n p.found.uses && rows_in p.rows) (few_in (name_in n) k p.columns room known.0.columns)
    (and_from (names_in n p.found.uses) (rows_in p.rows) (few_in (name_in n) k p.found.uses room known.0.values)
    (and_from (nat_le 1 p.rows) (are_few p.rows) known.1 (few_rows p.rows k known.0.rows room))))

pub update_known : (n k : ℕ) (p : UpdateParts) → k < 2 ^ 32 → UpdateKnown n k p → body_in n (update_body p) ≡ true
update_known n k p room known =
    and_from (source_in n p.source) (names_in n p.columns && (names_in n p.found.uses && conditions_in n p.conditions)) known.source
    (and_from (names_in n p.columns) (names_in n p.found.uses && conditions_in n p.conditions) (few_in (name_in n) k p.columns room known.columns)
    (and_from (names_in n p.found.uses) (conditions_in n p.conditions) (few_in (name_in n) k p.found.uses room known.values) (few_in (condition_in n) k p.conditions room known.conditions)))

good_weight_of : (before : ℕ) (p : Terminal) → is_good_weight p.mark.weight ≡ true → is_good_weight (weight_of before p) ≡ true
good_weight_of before p h = by_place (nat_lt before p.mark.place)
  where
    by_place : (b : Bool) → is_good_weight (if b then p.mark.weight else 1) ≡ true
    by_place true = h
    by_place false = refl

and_both : (a b x : Bool) → (a && b) ≡ true → x ≡ true → (a && (b && x)) ≡ true
and_both true b x h e = and_from b x h e
and_both false b x h e = cc

-- one statement more
pub one_more : (n k j : ℕ) (s : Progress × Terminal) (body : Body) → NextKnown n k s → body_in n body ≡ true → StatementsKnown n j (with_statement s.0 s.1 body)
one_more n k j s body known h =
    let w = weight_of s.0.before s.1 in
    list_all-append (statement_in n) s.0.statements _
    ∙ and_from (list_all (statement_in n) s.0.statements) _ known.0
    (and_from _ true (and_both (nat_le 1 w) (nat_le w 1000000) (body_in n body) (good_weight_of s.0.before s.1 known.1) h) refl)
