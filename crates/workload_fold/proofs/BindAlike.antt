-- Names, items and conditions of two texts that are the same but for places mean the same.
use Rattle.std.proofs.Common.{◌≡◌, ℕ, ◌+◌, not, List, [], ◌∷◌, ◌++◌, length, Option, Some, None, Ok, refl, ap, subst}
use Rattle.std.specs.Prelude.{nat_lt, option_map, unwrap_or}
use Rattle.sql_tokens.specs.declared.token.Span.{Span}
use Rattle.adv_base.specs.declared.catalogue.Catalogue.{Catalogue}
use Rattle.adv_base.specs.declared.catalogue.column.Kind.{Kind}
use Rattle.adv_base.specs.declared.catalogue.column.Kind.TheVariants as kinds
use Rattle.adv_base.specs.declared.limits.TheConstants.{MOST_SLOTS}
use Rattle.adv_base.specs.declared.workload.predicate.Test.{Test}
use Rattle.adv_base.specs.declared.workload.predicate.Test.TheVariants as tests
use Rattle.adv_base.specs.Days.{day_number}
use Rattle.adv_base.specs.Readings.{◌>>=◌, or_fault, where_holds}
use Rattle.sql_reader.specs.declared.parsed.Condition.{Condition}
use Rattle.sql_reader.specs.declared.parsed.Literal.{Literal}
use Rattle.sql_reader.specs.declared.parsed.NameUse.{NameUse}
use Rattle.sql_reader.specs.declared.parsed.ParsedItem.{ParsedItem}
use Rattle.sql_reader.specs.declared.parsed.ParsedItem.TheVariants as parsed
use Rattle.sql_reader.specs.declared.parsed.Source.{Source}
use Rattle.binder.specs.declared.fault.BindFault.TheVariants.{NoTable, NoColumn, TwoAliases, TooManySlots}
use Rattle.binder.specs.declared.gathered.BoundItem.TheVariants.{SlotStar, Made}
use Rattle.binder.specs.declared.gathered.SlotColumn.{SlotColumn}
use Rattle.binder.specs.declared.scope.Visible.{Visible}
use Rattle.binder.specs.Conditions.{PlainTests, no_tests, with_test, with_equality, compare_test, kind_of, literal_value, with_condition, tests_of}
use Rattle.binder.specs.Items.{columns_of, item_of, items_of}
use Rattle.binder.specs.Lookups.{table_number}
use Rattle.binder.specs.Names.{unquoted, name_in, folded, word_in, place}
use Rattle.binder.specs.Scopes.{Names, slot_column, source_number, column_in, owners, the_one, source_meant, qualified, unqualified, by_qualifier, meaning}
use Rattle.binder.specs.Sources.{table_meant, visible, is_taken, put_source, with_source, sources_of}
use Rattle.binder.specs.Values.{day_value, int_value, date_value, value_of}
use Rattle.workload_fold.specs.Pairs.{Pairs}
use Rattle.workload_fold.specs.Places.{Texts, SameSpan, SameMaybe, SameName, SameNames, SameSource, SameLiteral, SameCondition, SameItem}
use Rattle.workload_fold.proofs.Agreeing.{SameOk, ok_equal, ok_bind, ok_fault, ok_where, ok_in_turn, ok_each}
use Rattle.workload_fold.proofs.ByForms.{by_literals, by_conditions}

-- ## Bytes

pub same_word : (t : Texts) (s u : Span) → SameSpan t s u → word_in t.one s ≡ word_in t.other u
same_word t s u h = ap (λ (bytes : List ℕ). folded (unquoted 34 bytes)) h

pub same_name : (t : Texts) (s u : Span) → SameSpan t s u → name_in t.one s ≡ name_in t.other u
same_name t s u h = ap (λ (bytes : List ℕ). unquoted 34 bytes) h

same_value : (t : Texts) (kind : Kind) (l m : Literal) → SameLiteral t l m → value_of t.one kind l ≡ value_of t.other kind m
same_value t kinds.Int l m h = by_literals t (λ x y. int_value x ≡ int_value y) (λ n. refl) (λ n. refl) (λ s u e. refl) refl l m h
same_value t kinds.Date l m h =
    by_literals t (λ x y. date_value t.one x ≡ date_value t.other y) (λ n. refl) (λ n. refl) (λ s u e. ap (λ (bytes : List ℕ). day_value (day_number (unquoted 39 bytes))) e) refl l m h
same_value t kinds.Text l m h = refl

-- ## Sources

module _ (cat : Catalogue) (t : Texts) where
  pub table_ok : (s u : Span) → SameSpan t s u → SameOk (table_meant cat t.one s) (table_meant cat t.other u)
  table_ok s u h =
      ok_fault (NoTable (place s)) (NoTable (place u)) (table_number cat.tables (word_in t.one s)) (table_number cat.tables (word_in t.other u)) (ap (table_number cat.tables) (same_word t s u h))

  pub same_visible : (a b : Option Span) → SameMaybe t a b → (n : ℕ) → visible cat t.one a n ≡ visible cat t.other b n
  same_visible None None h n = refl
  same_visible None (Some u) h n = absurd h
  same_visible (Some s) None h n = absurd h
  same_visible (Some s) (Some u) h n = let name = same_name t s u h in λ i. record { name = name i; table = n }

  put_ok : (sources : List Visible) (at there : ℕ) (v w : Visible) → v ≡ w → SameOk (put_source sources at v) (put_source sources there w)
  put_ok sources at there v w same =
      ok_where (TwoAliases at) (TwoAliases there) (not (is_taken sources v.name)) (not (is_taken sources w.name)) (sources ++ v ∷ []) (sources ++ w ∷ [])
      (ap (λ (x : Visible). not (is_taken sources x.name)) same) (ap (λ (x : Visible). sources ++ x ∷ []) same)

  source_ok : (so_far : List Visible) (x y : Source) → SameSource t x y → SameOk (with_source cat t.one so_far x) (with_source cat t.other so_far y)
  unfolding with_source
  source_ok so_far x y h =
      ok_bind (where_holds (TooManySlots (place x.table)) (nat_lt (length so_far) MOST_SLOTS) so_far) (where_holds (TooManySlots (place y.table)) (nat_lt (length so_far) MOST_SLOTS) so_far)
      (λ room. table_meant cat t.one x.table >>= λ n. put_source room (place (unwrap_or x.alias x.table)) (visible cat t.one x.alias n))
      (λ room. table_meant cat t.other y.table >>= λ n. put_source room (place (unwrap_or y.alias y.table)) (visible cat t.other y.alias n))
      (ok_where (TooManySlots (place x.table)) (TooManySlots (place y.table)) (nat_lt (length so_far) MOST_SLOTS) (nat_lt (length so_far) MOST_SLOTS) so_far so_far refl refl)
      (λ room. ok_bind (table_meant cat t.one x.table) (table_meant cat t.other y.table)
      (λ n. put_source room (place (unwrap_or x.alias x.table)) (visible cat t.one x.alias n)) (λ n. put_source room (place (unwrap_or y.alias y.table)) (visible cat t.other y.alias n))
      (table_ok x.table y.table h.table)
      (λ n. put_ok room (place (unwrap_or x.alias x.table)) (place (unwrap_or y.alias y.table)) (visible cat t.one x.alias n) (visible cat t.other y.alias n) (same_visible x.alias y.alias h.alias n)))

  pub sources_ok : (xs ys : List Source) → Pairs (SameSource t) xs ys → SameOk (sources_of cat t.one xs) (sources_of cat t.other ys)
  sources_ok xs ys h = ok_in_turn (SameSource t) (with_source cat t.one) (with_source cat t.other) source_ok [] xs ys h

  -- ## Names among sources

  abbrev pub names_in : List ℕ → List Visible → Names
  names_in text sources = record { cat = cat; text = text; sources = sources }

  module _ (sources : List Visible) where
    abbrev N : Names
    N = record { cat = cat; text = t.one; sources = sources }

    abbrev M : Names
    M = record { cat = cat; text = t.other; sources = sources }

    source_meant_ok : (s u : Span) → SameSpan t s u → SameOk (source_meant N s) (source_meant M u)
    source_meant_ok s u h =
        ok_fault (NoColumn (place s)) (NoColumn (place u)) (source_number sources (word_in t.one s)) (source_number sources (word_in t.other u)) (ap (source_number sources) (same_word t s u h))

    qualified_ok : (a b s u : Span) → SameSpan t a b → SameSpan t s u → SameOk (qualified N a s) (qualified M b u)
    unfolding qualified
    qualified_ok a b s u q h =
        ok_bind (source_meant N a) (source_meant M b) (λ n. or_fault (NoColumn (place s)) (option_map (slot_column n) (column_in N n (word_in t.one s))))
        (λ n. or_fault (NoColumn (place u)) (option_map (slot_column n) (column_in M n (word_in t.other u)))) (source_meant_ok a b q)
        (λ n. ok_fault (NoColumn (place s)) (NoColumn (place u)) (option_map (slot_column n) (column_in N n (word_in t.one s))) (option_map (slot_column n) (column_in M n (word_in t.other u)))
        (ap (λ (word : List ℕ). option_map (slot_column n) (column_in N n word)) (same_word t s u h)))

    one_ok : (d e : ℕ) (cs : List SlotColumn) → SameOk (the_one d cs) (the_one e cs)
    one_ok d e [] = λ x h. absurd cc
    one_ok d e (c ∷ []) = λ x h. h
    one_ok d e (c ∷ f ∷ more) = λ x h. absurd cc

    unqualified_ok : (s u : Span) → SameSpan t s u → SameOk (unqualified N s) (unqualified M u)
    unfolding unqualified
    unqualified_ok s u h =
        subst (λ (cs : List SlotColumn). SameOk (the_one (place s) (owners cat 0 sources (word_in t.one s))) (the_one (place u) cs))
        (ap (owners cat 0 sources) (same_word t s u h)) (one_ok (place s) (place u) (owners cat 0 sources (word_in t.one s)))

    by_qualifier_ok : (a b : Option Span) → SameMaybe t a b → (s u : Span) → SameSpan t s u → SameOk (by_qualifier N a s) (by_qualifier M b u)
    by_qualifier_ok None None q s u h = unqualified_ok s u h
    by_qualifier_ok None (Some b) q s u h = absurd q
    by_qualifier_ok (Some a) None q s u h = absurd q
    by_qualifier_ok (Some a) (Some b) q s u h = qualified_ok a b s u q h

    pub meaning_ok : (u v : NameUse) → SameName t u v → SameOk (meaning N u) (meaning M v)
    meaning_ok u v h = by_qualifier_ok u.qualifier v.qualifier h.qualifier u.name v.name h.name

    pub columns_ok : (us vs : List NameUse) → SameNames t us vs → SameOk (columns_of N us) (columns_of M vs)
    columns_ok us vs h = ok_each (SameName t) (meaning N) (meaning M) meaning_ok us vs h

    item_ok : (x y : ParsedItem) → SameItem t x y → SameOk (item_of N x) (item_of M y)
    unfolding item_of
    item_ok parsed.Star parsed.Star h = λ x e. e
    item_ok parsed.Star (parsed.SlotStar u) h = absurd h
    item_ok parsed.Star (parsed.Made f b) h = absurd h
    item_ok (parsed.SlotStar s) parsed.Star h = absurd h
    item_ok (parsed.SlotStar s) (parsed.SlotStar u) h = ok_bind (source_meant N s) (source_meant M u) (λ n. Ok (SlotStar n)) (λ n. Ok (SlotStar n)) (source_meant_ok s u h) (λ n x e. e)
    item_ok (parsed.SlotStar s) (parsed.Made f b) h = absurd h
    item_ok (parsed.Made d a) parsed.Star h = absurd h
    item_ok (parsed.Made d a) (parsed.SlotStar u) h = absurd h
    item_ok (parsed.Made d a) (parsed.Made f b) h =
        let plain = h.0.plain in
        let aggregate = h.0.aggregate in
        ok_bind (columns_of N d.uses) (columns_of M f.uses) (λ cs. Ok (Made cs d.plain d.aggregate)) (λ cs. Ok (Made cs f.plain f.aggregate)) (columns_ok d.uses f.uses h.0.uses)
        (λ cs. ok_equal (Made cs d.plain d.aggregate) (Made cs f.plain f.aggregate) (λ i. Made cs (plain i) (aggregate i)))

    pub items_ok : (xs ys : List ParsedItem) → Pairs (SameItem t) xs ys → SameOk (items_of N xs) (items_of M ys)
    items_ok xs ys h = ok_each (SameItem t) (item_of N) (item_of M) item_ok xs ys h

    -- ## Conditions

    named_ok : (so_far : PlainTests) (u v : NameUse) → SameName t u v → (f g : SlotColumn → Test) → ((c : SlotColumn) → f c ≡ g c)
        → SameOk (meaning N u >>= λ c. Ok (with_test so_far c (f c))) (meaning M v >>= λ c. Ok (with_test so_far c (g c)))
    named_ok so_far u v h f g same =
        ok_bind (meaning N u) (meaning M v) (λ c. Ok (with_test so_far c (f c))) (λ c. Ok (with_test so_far c (g c))) (meaning_ok u v h)
        (λ c. ok_equal (with_test so_far c (f c)) (with_test so_far c (g c)) (ap (with_test so_far c) (same c)))

    condition_ok : (so_far : PlainTests) (a b : Condition) → SameCondition t a b → SameOk (with_condition N so_far a) (with_condition M so_far b)
    unfolding with_condition
    condition_ok so_far a b h =
        by_conditions t (λ x y. SameOk (with_condition N so_far x) (with_condition M so_far y))
        (record {
          compared = λ u v c l m k e. named_ok so_far u v k (λ x. compare_test c (literal_value N x l)) (λ x. compare_test c (literal_value M x m)) (λ x. ap (compare_test c) (same_value t (kind_of N x) l m e));
          tied = λ u v x y k e.
              ok_bind (meaning N u) (meaning M x) (λ c. meaning N v >>= λ d. Ok (with_equality so_far c d)) (λ c. meaning M y >>= λ d. Ok (with_equality so_far c d)) (meaning_ok u x k)
              (λ c. ok_bind (meaning N v) (meaning M y) (λ d. Ok (with_equality so_far c d)) (λ d. Ok (with_equality so_far c d)) (meaning_ok v y e) (λ d z w. w));
          between = λ u v l m p q k e f.
              named_ok so_far u v k (λ x. tests.Between (literal_value N x l) (literal_value N x m)) (λ x. tests.Between (literal_value M x p) (literal_value M x q))
              (λ x. (let low = same_value t (kind_of N x) l p e in
              let high = same_value t (kind_of N x) m q f in
              λ i. tests.Between (low i) (high i)));
          one_of = λ u v n k. named_ok so_far u v k (λ x. tests.OneOf n) (λ x. tests.OneOf n) (λ x. refl);
          like = λ u v k. named_ok so_far u v k (λ x. tests.Like) (λ x. tests.Like) (λ x. refl);
          is_null = λ u v k. named_ok so_far u v k (λ x. tests.IsNull) (λ x. tests.IsNull) (λ x. refl);
          not_null = λ u v k. named_ok so_far u v k (λ x. tests.NotNull) (λ x. tests.NotNull) (λ x. refl);
        }) a b h

    pub tests_ok : (xs ys : List Condition) → Pairs (SameCondition t) xs ys → SameOk (tests_of N xs) (tests_of M ys)
    tests_ok xs ys h = ok_in_turn (SameCondition t) (with_condition N) (with_condition M) condition_ok no_tests xs ys h
