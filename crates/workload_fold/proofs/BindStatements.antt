-- Statements of two texts that are the same but for places mean the same.
use Rattle.std.proofs.Common.{◌≡◌, ℕ, zero, suc, ◌+◌, Bool, true, false, cond, ◌||◌, List, [], ◌∷◌, ◌++◌, length, Option, Some, None, Ok, refl, ap, ◌∙◌, subst}
use Rattle.std.specs.Prelude.{slice_get}
use Rattle.std.specs.List.{position_from, list_any}
use Rattle.sql_tokens.specs.declared.token.Span.{Span}
use Rattle.adv_base.specs.declared.catalogue.Catalogue.{Catalogue}
use Rattle.adv_base.specs.Readings.{◌>>=◌, where_holds}
use Rattle.sql_reader.specs.declared.parsed.Body.{Body}
use Rattle.sql_reader.specs.declared.parsed.Body.TheVariants as bodies
use Rattle.sql_reader.specs.declared.parsed.Condition.{Condition}
use Rattle.sql_reader.specs.declared.parsed.Expr.{Expr}
use Rattle.sql_reader.specs.declared.parsed.NameUse.{NameUse}
use Rattle.sql_reader.specs.declared.parsed.ParsedItem.{ParsedItem}
use Rattle.sql_reader.specs.declared.parsed.ParsedItem.TheVariants as parsed
use Rattle.sql_reader.specs.declared.parsed.ParsedOrder.{ParsedOrder}
use Rattle.sql_reader.specs.declared.parsed.ParsedSelect.{ParsedSelect}
use Rattle.sql_reader.specs.declared.parsed.Source.{Source}
use Rattle.binder.specs.declared.fault.BindFault.TheVariants.{NoColumn, Unjoined}
use Rattle.binder.specs.declared.gathered.BoundItem.{BoundItem}
use Rattle.binder.specs.declared.gathered.SlotColumn.{SlotColumn}
use Rattle.binder.specs.declared.gathered.SortKeys.{SortKeys}
use Rattle.binder.specs.declared.gathered.Term.{Term}
use Rattle.binder.specs.declared.gathered.Term.TheVariants as terms
use Rattle.binder.specs.declared.scope.Visible.{Visible}
use Rattle.binder.specs.Blocks.{PlainClauses, sort_keys_of, clauses_of, joined_clauses, clause_mentions, select_block, select_of, change_block, changed_block, written_column, written_columns, delete_of}
use Rattle.binder.specs.Conditions.{tests_of}
use Rattle.binder.specs.Faults.{both}
use Rattle.binder.specs.Items.{columns_of, items_of, is_alias, has_alias, aliased, has_aggregate}
use Rattle.binder.specs.Joins.{is_joined}
use Rattle.binder.specs.Lists.{group_list, order_list}
use Rattle.binder.specs.Lookups.{goes_by, column_of}
use Rattle.binder.specs.Names.{word_in, place}
use Rattle.binder.specs.Needed.{slots_from}
use Rattle.binder.specs.Orders.{SelectList, alias_meant, alias_or_column, term_of, with_mention, mention, mentions_from, term_column, ordinal_column, sorted_by_name, sorted_as, sorted_by, order_item, with_order, orders_from}
use Rattle.binder.specs.Plain.{PlainBlock, Select, Update, Delete, Insert}
use Rattle.binder.specs.Scopes.{Names, meaning}
use Rattle.binder.specs.Sources.{table_meant, visible, sources_of}
use Rattle.binder.specs.Statements.{first_table, without_names, update_of, insert_of, work_of}
use Rattle.workload_fold.specs.Pairs.{Pairs}
use Rattle.workload_fold.specs.Places.{Texts, SameSpan, SameMaybe, SameName, SameNames, SameSource, SameCondition, SameExpr, SameItem, SameOrder, SameSelect, SameBody}
use Rattle.workload_fold.proofs.Agreeing.{SameOk, ok_equal, ok_bind, ok_through, ok_fault, ok_where, ok_in_turn, ok_each, ok_both}
use Rattle.workload_fold.proofs.BindAlike.{same_word, same_name, table_ok, same_visible, sources_ok, meaning_ok, columns_ok, items_ok, tests_ok}
use Rattle.workload_fold.proofs.Pairs.{pairs_any}

-- ## Aliases

position_alike : {X Y : Type 0} (R : X → Y → Type 0) (p : X → Bool) (q : Y → Bool) → ((x : X) (y : Y) → R x y → p x ≡ q y) → (n : ℕ) (xs : List X) (ys : List Y) → Pairs R xs ys → position_from p n xs ≡ position_from q n ys
position_alike R p q same n [] [] h = refl
position_alike R p q same n [] (y ∷ ys) h = absurd h
position_alike R p q same n (x ∷ xs) [] h = absurd h
position_alike R p q same n (x ∷ xs) (y ∷ ys) h =
    let here = same x y h.0 in
    let later = position_alike R p q same (n + 1) xs ys h.1 in
    λ i. cond (here i) (Some n) (later i)

same_is_alias : (t : Texts) (word : List ℕ) (a b : Option Span) → SameMaybe t a b → is_alias t.one word a ≡ is_alias t.other word b
same_is_alias t word None None h = refl
same_is_alias t word None (Some u) h = absurd h
same_is_alias t word (Some s) None h = absurd h
same_is_alias t word (Some s) (Some u) h = ap (goes_by word) (same_name t s u h)

same_has_alias : (t : Texts) (word : List ℕ) (x y : ParsedItem) → SameItem t x y → has_alias t.one word x ≡ has_alias t.other word y
same_has_alias t word parsed.Star parsed.Star h = refl
same_has_alias t word parsed.Star (parsed.SlotStar u) h = absurd h
same_has_alias t word parsed.Star (parsed.Made f b) h = absurd h
same_has_alias t word (parsed.SlotStar s) parsed.Star h = absurd h
same_has_alias t word (parsed.SlotStar s) (parsed.SlotStar u) h = refl
same_has_alias t word (parsed.SlotStar s) (parsed.Made f b) h = absurd h
same_has_alias t word (parsed.Made d a) parsed.Star h = absurd h
same_has_alias t word (parsed.Made d a) (parsed.SlotStar u) h = absurd h
same_has_alias t word (parsed.Made d a) (parsed.Made f b) h = same_is_alias t word a b h.1

same_aliased : (t : Texts) (xs ys : List ParsedItem) → Pairs (SameItem t) xs ys → (s u : Span) → SameSpan t s u → aliased t.one xs (word_in t.one s) ≡ aliased t.other ys (word_in t.other u)
same_aliased t xs ys h s u e =
    position_alike (SameItem t) (has_alias t.one (word_in t.one s)) (has_alias t.other (word_in t.one s)) (same_has_alias t (word_in t.one s)) 0 xs ys h
    ∙ ap (aliased t.other ys) (same_word t s u e)

module _ (cat : Catalogue) (t : Texts) (sources : List Visible) where
  abbrev N : Names
  N = record { cat = cat; text = t.one; sources = sources }

  abbrev M : Names
  M = record { cat = cat; text = t.other; sources = sources }

  -- ## HAVING and ORDER BY

  module _ (bound : List BoundItem) (xs ys : List ParsedItem) (items : Pairs (SameItem t) xs ys) where
    abbrev K : SelectList
    K = record { written = xs; bound = bound }

    abbrev L : SelectList
    L = record { written = ys; bound = bound }

    same_alias_meant : (a b : Option Span) → SameMaybe t a b → (s u : Span) → SameSpan t s u → alias_meant t.one K a s ≡ alias_meant t.other L b u
    same_alias_meant None None q s u h = same_aliased t xs ys items s u h
    same_alias_meant None (Some b) q s u h = absurd q
    same_alias_meant (Some a) None q s u h = absurd q
    same_alias_meant (Some a) (Some b) q s u h = refl

    alias_or_ok : (u v : NameUse) → SameName t u v → (o : Option ℕ) → SameOk (alias_or_column N u o) (alias_or_column M v o)
    alias_or_ok u v h None = ok_bind (meaning N u) (meaning M v) (λ c. Ok (terms.Column c)) (λ c. Ok (terms.Column c)) (meaning_ok cat t sources u v h) (λ c x e. e)
    alias_or_ok u v h (Some n) = λ x e. e

    term_ok : (u v : NameUse) → SameName t u v → SameOk (term_of N K u) (term_of M L v)
    unfolding term_of
    term_ok u v h =
        subst (λ (o : Option ℕ). SameOk (alias_or_column N u (alias_meant t.one K u.qualifier u.name)) (alias_or_column M v o))
        (same_alias_meant u.qualifier v.qualifier h.qualifier u.name v.name h.name) (alias_or_ok u v h (alias_meant t.one K u.qualifier u.name))

    mention_ok : (mentions : List SlotColumn) (u v : NameUse) → SameName t u v → SameOk (mention N K mentions u) (mention M L mentions v)
    mention_ok mentions u v h = ok_bind (term_of N K u) (term_of M L v) (λ x. Ok (with_mention mentions x)) (λ x. Ok (with_mention mentions x)) (term_ok u v h) (λ x y e. e)

    mentions_ok : (mentions : List SlotColumn) (us vs : List NameUse) → SameNames t us vs → SameOk (mentions_from N K mentions us) (mentions_from M L mentions vs)
    mentions_ok mentions us vs h = ok_in_turn (SameName t) (mention N K) (mention M L) mention_ok mentions us vs h

    same_term_column : (x : Term) → term_column K x ≡ term_column L x
    same_term_column (terms.Column c) = refl
    same_term_column (terms.Alias n) = refl

    same_ordinal : (n : ℕ) → ordinal_column K n ≡ ordinal_column L n
    same_ordinal zero = refl
    same_ordinal (suc n) = refl

    by_name_ok : (mentions : List SlotColumn) (us vs : List NameUse) → SameNames t us vs → SameOk (sorted_by_name N K mentions (slice_get us 0)) (sorted_by_name M L mentions (slice_get vs 0))
    by_name_ok mentions [] [] h = λ x e. e
    by_name_ok mentions [] (v ∷ vs) h = absurd h
    by_name_ok mentions (u ∷ us) [] h = absurd h
    by_name_ok mentions (u ∷ us) (v ∷ vs) h =
        ok_bind (term_of N K u) (term_of M L v) (λ x. Ok (record { column = term_column K x; mentions = with_mention mentions x }))
        (λ x. Ok (record { column = term_column L x; mentions = with_mention mentions x })) (term_ok u v h.0)
        (λ x. (let column = same_term_column x in
        ok_equal (record { column = term_column K x; mentions = with_mention mentions x }) (record { column = term_column L x; mentions = with_mention mentions x }) (λ i. record { column = column i; mentions = with_mention mentions x })))

    sorted_ok : (mentions : List SlotColumn) (o : Option ℕ) (plain : Bool) (us vs : List NameUse) → SameNames t us vs → SameOk (sorted_as N K mentions o plain us) (sorted_as M L mentions o plain vs)
    sorted_ok mentions (Some n) plain us vs h =
        let column = same_ordinal n in
        ok_equal (record { column = ordinal_column K n; mentions = mentions }) (record { column = ordinal_column L n; mentions = mentions }) (λ i. record { column = column i; mentions = mentions })
    sorted_ok mentions None true us vs h = by_name_ok mentions us vs h
    sorted_ok mentions None false us vs h =
        ok_bind (mentions_from N K mentions us) (mentions_from M L mentions vs) (λ more. Ok (record { column = None; mentions = more })) (λ more. Ok (record { column = None; mentions = more }))
        (mentions_ok mentions us vs h) (λ more x e. e)

    sorted_by_ok : (mentions : List SlotColumn) (x y : Expr) → SameExpr t x y → SameOk (sorted_by N K mentions x) (sorted_by M L mentions y)
    unfolding sorted_by
    sorted_by_ok mentions x y h =
        subst (λ (o : Option ℕ). SameOk (sorted_as N K mentions x.ordinal x.plain x.uses) (sorted_as M L mentions o y.plain y.uses)) h.ordinal
        (subst (λ (b : Bool). SameOk (sorted_as N K mentions x.ordinal x.plain x.uses) (sorted_as M L mentions x.ordinal b y.uses)) h.plain
        (sorted_ok mentions x.ordinal x.plain x.uses y.uses h.uses))

    order_ok : (so_far : SortKeys) (x y : ParsedOrder) → SameOrder t x y → SameOk (with_order N K so_far x) (with_order M L so_far y)
    unfolding with_order
    order_ok so_far x y h =
        let down = h.down in
        ok_bind (sorted_by N K so_far.mentions x.expr) (sorted_by M L so_far.mentions y.expr)
        (λ sorted. Ok (record { items = so_far.items ++ order_item (length so_far.items + 1) x.down sorted.column ∷ []; mentions = sorted.mentions }))
        (λ sorted. Ok (record { items = so_far.items ++ order_item (length so_far.items + 1) y.down sorted.column ∷ []; mentions = sorted.mentions }))
        (sorted_by_ok so_far.mentions x.expr y.expr h.expr)
        (λ sorted. ok_equal (record { items = so_far.items ++ order_item (length so_far.items + 1) x.down sorted.column ∷ []; mentions = sorted.mentions })
        (record { items = so_far.items ++ order_item (length so_far.items + 1) y.down sorted.column ∷ []; mentions = sorted.mentions })
        (λ i. record { items = so_far.items ++ order_item (length so_far.items + 1) (down i) sorted.column ∷ []; mentions = sorted.mentions }))

    orders_ok : (mentions : List SlotColumn) (us vs : List ParsedOrder) → Pairs (SameOrder t) us vs → SameOk (orders_from N K mentions us) (orders_from M L mentions vs)
    orders_ok mentions us vs h = ok_in_turn (SameOrder t) (with_order N K) (with_order M L) order_ok (record { items = []; mentions = mentions }) us vs h

    pub having_and_order_ok : (us vs : List NameUse) → SameNames t us vs → (os ps : List ParsedOrder) → Pairs (SameOrder t) os ps
        → SameOk (mentions_from N K [] us >>= λ having. orders_from N K having os) (mentions_from M L [] vs >>= λ having. orders_from M L having ps)
    having_and_order_ok us vs h os ps k =
        ok_bind (mentions_from N K [] us) (mentions_from M L [] vs) (λ having. orders_from N K having os) (λ having. orders_from M L having ps) (mentions_ok [] us vs h)
        (λ having. orders_ok having os ps k)

  -- ## SELECT

  sort_keys_ok : (x y : ParsedSelect) → SameSelect t x y → (items : List BoundItem) → SameOk (sort_keys_of N x items) (sort_keys_of M y items)
  unfolding sort_keys_of
  sort_keys_ok x y h items = having_and_order_ok items x.items y.items h.items x.having y.having h.having x.order y.order h.order

  clauses_ok : (x y : ParsedSelect) → SameSelect t x y → SameOk (clauses_of N x) (clauses_of M y)
  unfolding clauses_of
  clauses_ok x y h =
      ok_bind (items_of N x.items) (items_of M y.items)
      (λ items. tests_of N x.conditions >>= λ tests. columns_of N x.group >>= λ group. sort_keys_of N x items >>= λ order. Ok (record { items = items; tests = tests; group = group; order = order }))
      (λ items. tests_of M y.conditions >>= λ tests. columns_of M y.group >>= λ group. sort_keys_of M y items >>= λ order. Ok (record { items = items; tests = tests; group = group; order = order }))
      (items_ok cat t sources x.items y.items h.items)
      (λ items. ok_bind (tests_of N x.conditions) (tests_of M y.conditions)
      (λ tests. columns_of N x.group >>= λ group. sort_keys_of N x items >>= λ order. Ok (record { items = items; tests = tests; group = group; order = order }))
      (λ tests. columns_of M y.group >>= λ group. sort_keys_of M y items >>= λ order. Ok (record { items = items; tests = tests; group = group; order = order }))
      (tests_ok cat t sources x.conditions y.conditions h.conditions)
      (λ tests. ok_bind (columns_of N x.group) (columns_of M y.group)
      (λ group. sort_keys_of N x items >>= λ order. Ok (record { items = items; tests = tests; group = group; order = order }))
      (λ group. sort_keys_of M y items >>= λ order. Ok (record { items = items; tests = tests; group = group; order = order }))
      (columns_ok cat t sources x.group y.group h.group)
      (λ group. ok_bind (sort_keys_of N x items) (sort_keys_of M y items)
      (λ order. Ok (record { items = items; tests = tests; group = group; order = order })) (λ order. Ok (record { items = items; tests = tests; group = group; order = order }))
      (sort_keys_ok x y h items) (λ order z e. e))))

  joined_ok : (at there : ℕ) (x y : ParsedSelect) → SameSelect t x y → SameOk (joined_clauses at N x) (joined_clauses there M y)
  unfolding joined_clauses
  joined_ok at there x y h =
      ok_bind (clauses_of N x) (clauses_of M y) (λ clauses. where_holds (Unjoined at) (is_joined (length sources) clauses.tests.edges) clauses)
      (λ clauses. where_holds (Unjoined there) (is_joined (length sources) clauses.tests.edges) clauses) (clauses_ok x y h)
      (λ clauses. ok_where (Unjoined at) (Unjoined there) (is_joined (length sources) clauses.tests.edges) (is_joined (length sources) clauses.tests.edges) clauses clauses refl refl)

  abbrev block_from : PlainClauses → Bool → Bool → PlainBlock
  block_from clauses distinct aggregate = record {
    slots = slots_from cat clauses.items (clause_mentions clauses) 0 sources;
    preds = clauses.tests.preds;
    edges = clauses.tests.edges;
    group = group_list distinct aggregate clauses.tests.preds clauses.group clauses.items;
    order = order_list aggregate clauses.tests.preds clauses.group clauses.order.items;
    may_cover = true;
  }

  same_block : (x y : ParsedSelect) → SameSelect t x y → (clauses : PlainClauses) → select_block N x clauses ≡ select_block M y clauses
  same_block x y h clauses =
      let sums : list_any (λ (o : ParsedOrder). o.expr.aggregate) x.order ≡ list_any (λ (o : ParsedOrder). o.expr.aggregate) y.order =
      pairs_any (SameOrder t) (λ o. o.expr.aggregate) (λ o. o.expr.aggregate) (λ o p k. k.expr.aggregate) x.order y.order h.order in
      let distinct = h.distinct in
      λ i. block_from clauses (distinct i) (list_any has_aggregate clauses.items || sums i)

  pub joined_block_ok : (at there : ℕ) (x y : ParsedSelect) → SameSelect t x y
      → SameOk (joined_clauses at N x >>= λ clauses. Ok (select_block N x clauses)) (joined_clauses there M y >>= λ clauses. Ok (select_block M y clauses))
  joined_block_ok at there x y h =
      ok_bind (joined_clauses at N x) (joined_clauses there M y) (λ clauses. Ok (select_block N x clauses)) (λ clauses. Ok (select_block M y clauses)) (joined_ok at there x y h)
      (λ clauses. ok_equal (select_block N x clauses) (select_block M y clauses) (same_block x y h clauses))

  -- ## Changes

  pub changed_ok : (xs ys : List Condition) → Pairs (SameCondition t) xs ys → (mentions : List SlotColumn) → SameOk (changed_block N xs mentions) (changed_block M ys mentions)
  unfolding changed_block
  changed_ok xs ys h mentions =
      ok_bind (tests_of N xs) (tests_of M ys) (λ tests. Ok (change_block N tests (mentions ++ tests.mentions))) (λ tests. Ok (change_block M tests (mentions ++ tests.mentions)))
      (tests_ok cat t sources xs ys h) (λ tests z e. e)

module _ (cat : Catalogue) (t : Texts) where
  select_ok : (at there : ℕ) (x y : ParsedSelect) → SameSelect t x y → SameOk (select_of cat t.one at x) (select_of cat t.other there y)
  unfolding select_of
  select_ok at there x y h =
      ok_bind (sources_of cat t.one x.sources) (sources_of cat t.other y.sources)
      (λ sources. joined_clauses at (record { cat = cat; text = t.one; sources = sources }) x >>= λ clauses. Ok (select_block (record { cat = cat; text = t.one; sources = sources }) x clauses))
      (λ sources. joined_clauses there (record { cat = cat; text = t.other; sources = sources }) y >>= λ clauses. Ok (select_block (record { cat = cat; text = t.other; sources = sources }) y clauses))
      (sources_ok cat t x.sources y.sources h.sources) (λ sources. joined_block_ok cat t sources at there x y h)

  written_ok : (n : ℕ) (us vs : List NameUse) → SameNames t us vs → SameOk (written_columns cat t.one n us) (written_columns cat t.other n vs)
  written_ok n us vs h =
      ok_each (SameName t) (written_column cat t.one n) (written_column cat t.other n)
      (λ u v k. ok_fault (NoColumn (place u.name)) (NoColumn (place v.name)) (column_of cat.tables n (word_in t.one u.name)) (column_of cat.tables n (word_in t.other v.name))
      (ap (column_of cat.tables n) (same_word t u.name v.name k.name))) us vs h

  delete_ok : (x y : Source) → SameSource t x y → (xs ys : List Condition) → Pairs (SameCondition t) xs ys → SameOk (delete_of cat t.one x xs) (delete_of cat t.other y ys)
  unfolding delete_of
  delete_ok x y h xs ys k =
      ok_through (table_meant cat t.one x.table) (table_meant cat t.other y.table)
      (λ n. record { cat = cat; text = t.one; sources = visible cat t.one x.alias n ∷ [] }) (λ n. record { cat = cat; text = t.other; sources = visible cat t.other y.alias n ∷ [] })
      (λ names. changed_block names xs []) (λ names. changed_block names ys []) (table_ok cat t x.table y.table h.table)
      (λ n. subst (λ (v : Visible). SameOk (changed_block (record { cat = cat; text = t.one; sources = visible cat t.one x.alias n ∷ [] }) xs []) (changed_block (record { cat = cat; text = t.other; sources = v ∷ [] }) ys []))
      (same_visible cat t x.alias y.alias h.alias n) (changed_ok cat t (visible cat t.one x.alias n ∷ []) xs ys k []))

  set_ok : (v : Visible) (cs ds us vs : List NameUse) → SameNames t cs ds → SameNames t us vs → (xs ys : List Condition) → Pairs (SameCondition t) xs ys
      → SameOk
      (both (written_columns cat t.one v.table cs) (columns_of (record { cat = cat; text = t.one; sources = v ∷ [] }) us) >>= λ set. changed_block (record { cat = cat; text = t.one; sources = v ∷ [] }) xs set.1 >>= λ block. Ok (Update block set.0))
      (both (written_columns cat t.other v.table ds) (columns_of (record { cat = cat; text = t.other; sources = v ∷ [] }) vs) >>= λ set. changed_block (record { cat = cat; text = t.other; sources = v ∷ [] }) ys set.1 >>= λ block. Ok (Update block set.0))
  set_ok v cs ds us vs h k xs ys l =
      let N : Names = record { cat = cat; text = t.one; sources = v ∷ [] } in
      let M : Names = record { cat = cat; text = t.other; sources = v ∷ [] } in
      ok_bind (both (written_columns cat t.one v.table cs) (columns_of N us)) (both (written_columns cat t.other v.table ds) (columns_of M vs))
      (λ set. changed_block N xs set.1 >>= λ block. Ok (Update block set.0)) (λ set. changed_block M ys set.1 >>= λ block. Ok (Update block set.0))
      (ok_both (written_columns cat t.one v.table cs) (written_columns cat t.other v.table ds) (columns_of N us) (columns_of M vs) (written_ok v.table cs ds h) (columns_ok cat t (v ∷ []) us vs k))
      (λ set. ok_bind (changed_block N xs set.1) (changed_block M ys set.1) (λ block. Ok (Update block set.0)) (λ block. Ok (Update block set.0)) (changed_ok cat t (v ∷ []) xs ys l set.1) (λ block z e. e))

  update_ok : (x y : Source) → SameSource t x y → (cs ds us vs : List NameUse) → SameNames t cs ds → SameNames t us vs → (xs ys : List Condition) → Pairs (SameCondition t) xs ys
      → SameOk (update_of cat t.one x cs us xs) (update_of cat t.other y ds vs ys)
  unfolding update_of
  update_ok x y h cs ds us vs k l xs ys m =
      ok_through (table_meant cat t.one x.table) (table_meant cat t.other y.table)
      (λ n. record { cat = cat; text = t.one; sources = visible cat t.one x.alias n ∷ [] }) (λ n. record { cat = cat; text = t.other; sources = visible cat t.other y.alias n ∷ [] })
      (λ names. both (written_columns names.cat names.text (first_table names.sources) cs) (columns_of names us) >>= λ set. changed_block names xs set.1 >>= λ block. Ok (Update block set.0))
      (λ names. both (written_columns names.cat names.text (first_table names.sources) ds) (columns_of names vs) >>= λ set. changed_block names ys set.1 >>= λ block. Ok (Update block set.0))
      (table_ok cat t x.table y.table h.table)
      (λ n. subst (λ (v : Visible). SameOk
      (both (written_columns cat t.one n cs) (columns_of (record { cat = cat; text = t.one; sources = visible cat t.one x.alias n ∷ [] }) us) >>= λ set. changed_block (record { cat = cat; text = t.one; sources = visible cat t.one x.alias n ∷ [] }) xs set.1 >>= λ block. Ok (Update block set.0))
      (both (written_columns cat t.other v.table ds) (columns_of (record { cat = cat; text = t.other; sources = v ∷ [] }) vs) >>= λ set. changed_block (record { cat = cat; text = t.other; sources = v ∷ [] }) ys set.1 >>= λ block. Ok (Update block set.0)))
      (same_visible cat t x.alias y.alias h.alias n) (set_ok (visible cat t.one x.alias n) cs ds us vs k l xs ys m))

  without_ok : {A : Type 0} (us vs : List NameUse) → SameNames t us vs → (x y : A) → x ≡ y → SameOk (without_names us x) (without_names vs y)
  without_ok [] [] h x y e = ok_equal x y e
  without_ok [] (v ∷ vs) h x y e = absurd h
  without_ok (u ∷ us) [] h x y e = absurd h
  without_ok (u ∷ us) (v ∷ vs) h x y e = λ z w. absurd cc

  insert_ok : (a b : Span) → SameSpan t a b → (cs ds us vs : List NameUse) → SameNames t cs ds → SameNames t us vs → (m n : ℕ) → m ≡ n → SameOk (insert_of cat t.one a cs us m) (insert_of cat t.other b ds vs n)
  unfolding insert_of
  insert_ok a b h cs ds us vs k l m n e =
      ok_bind (table_meant cat t.one a) (table_meant cat t.other b) (λ u. written_columns cat t.one u cs >>= λ listed. without_names us (Insert u m)) (λ u. written_columns cat t.other u ds >>= λ listed. without_names vs (Insert u n))
      (table_ok cat t a b h)
      (λ u. ok_bind (written_columns cat t.one u cs) (written_columns cat t.other u ds) (λ listed. without_names us (Insert u m)) (λ listed. without_names vs (Insert u n)) (written_ok u cs ds k)
      (λ listed. without_ok us vs l (Insert u m) (Insert u n) (ap (Insert u) e)))

  -- what a statement does doesn't rest on places
  pub works_alike : (at there : ℕ) (a b : Body) → SameBody t a b → SameOk (work_of cat t.one at a) (work_of cat t.other there b)
  unfolding work_of
  works_alike at there (bodies.Select x) (bodies.Select y) h =
      ok_bind (select_of cat t.one at x) (select_of cat t.other there y) (λ block. Ok (Select block)) (λ block. Ok (Select block)) (select_ok at there x y h) (λ block z e. e)
  works_alike at there (bodies.Select x) (bodies.Insert b ds vs n) h = absurd h
  works_alike at there (bodies.Select x) (bodies.Update y ds vs ws) h = absurd h
  works_alike at there (bodies.Select x) (bodies.Delete y ws) h = absurd h
  works_alike at there (bodies.Insert a cs us m) (bodies.Select y) h = absurd h
  works_alike at there (bodies.Insert a cs us m) (bodies.Insert b ds vs n) h = insert_ok a b h.0 cs ds us vs h.1 h.2 m n h.3
  works_alike at there (bodies.Insert a cs us m) (bodies.Update y ds vs ws) h = absurd h
  works_alike at there (bodies.Insert a cs us m) (bodies.Delete y ws) h = absurd h
  works_alike at there (bodies.Update x cs us ts) (bodies.Select y) h = absurd h
  works_alike at there (bodies.Update x cs us ts) (bodies.Insert b ds vs n) h = absurd h
  works_alike at there (bodies.Update x cs us ts) (bodies.Update y ds vs ws) h = update_ok x y h.0 cs ds us vs h.1 h.2 ts ws h.3
  works_alike at there (bodies.Update x cs us ts) (bodies.Delete y ws) h = absurd h
  works_alike at there (bodies.Delete x ts) (bodies.Select y) h = absurd h
  works_alike at there (bodies.Delete x ts) (bodies.Insert b ds vs n) h = absurd h
  works_alike at there (bodies.Delete x ts) (bodies.Update y ds vs ws) h = absurd h
  works_alike at there (bodies.Delete x ts) (bodies.Delete y ws) h =
      ok_bind (delete_of cat t.one x ts) (delete_of cat t.other y ws) (λ block. Ok (Delete block)) (λ block. Ok (Delete block)) (delete_ok x y h.0 ts ws h.1) (λ block z e. e)
