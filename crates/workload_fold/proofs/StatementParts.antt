-- Where the statements of a workload stand among its terminals.
use Rattle.std.proofs.Common.{◌≡◌, ℕ, zero, suc, ◌+◌, Bool, true, false, ◌&&◌, List, [], ◌∷◌, ◌++◌, refl, sym, ap, ◌∙◌, subst, ◌⊎◌, inl, inr, append_assoc, append-nil}
use Rattle.std.proofs.lemmas.Bool.{and_parts}
use Rattle.sql_reader.specs.declared.kind.TerminalKind.{TerminalKind}
use Rattle.sql_reader.specs.declared.kind.TerminalKind.TheVariants as kinds
use Rattle.sql_reader.specs.declared.terminal.Terminal.{Terminal}
use Rattle.sql_reader.specs.declared.parsed.Body.{Body}
use Rattle.sql_reader.specs.declared.parsed.Body.TheVariants as bodies
use Rattle.sql_reader.specs.declared.parsed.ParsedStatement.{ParsedStatement}
use Rattle.sql_reader.specs.declared.parts.Progress.{Progress}
use Rattle.sql_reader.specs.Kinds.{has, apart}
use Rattle.sql_reader.specs.Rule.{Nesting, State, Rule, Give, Take, Then, Use, Either, Many, Nest, Conditions, Parenthesis, Call, Signed, Meaning, Turns, IsOver, IsNested}
use Rattle.sql_reader.specs.Grammar.{after_name, column, null_test, quantifier, group_part, column_list, one_column, more_columns, another_column, direction, limit_part, offset_part, insert_table, insert_columns, name_list, name_as_column, more_names, another_name, set_column}
use Rattle.sql_reader.specs.Values.{beside, place_of, weight_of, with_statement, insert_body, update_body}
use Rattle.sql_reader.specs.Printed as printed
use Rattle.sql_reader.proofs.KindSets.{not_in_other}
use Rattle.workload_fold.proofs.TokensAhead.{Each, each_append}

-- the meanings of nested forms
abbrev pub Deeper : Type 1
Deeper = (x : Nesting) → Meaning (State x) (State x)

-- ## One statement

-- a word of this kind, and behind it what the rule reads
abbrev pub Makes : Deeper → {X : Type 0} → TerminalKind → Rule (Unit {0}) X → (X → Body) → Terminal → List Terminal → Body → Type 0
Makes d {X} kind rule body p ps b = (x : X) × (has (kind ∷ []) p.kind ≡ true) × IsOver d rule tt ps x × (b ≡ body x)

-- a statement: its first terminal, the others, and what it does
abbrev pub IsStatement : Deeper → Terminal → List Terminal → Body → Type 0
IsStatement d p ps b =
    Makes d kinds.Select printed.select_rest bodies.Select p ps b
    ⊎ (Makes d kinds.Insert printed.insert_rest insert_body p ps b
    ⊎ (Makes d kinds.Update printed.update_rest update_body p ps b ⊎ Makes d kinds.Delete printed.delete_rest (λ x. x) p ps b))

-- terminals that are a statement, read behind what was read before
pub record Begun (d : Deeper) (a : Progress) (ps : List Terminal) (b : Progress) : Type 0 where
  pub first : Terminal
  pub rest : List Terminal
  pub body : Body
  pub split : ps ≡ first ∷ rest
  pub after : b ≡ with_statement a first body
  pub is : IsStatement d first rest body

module _ (d : Deeper) where
  -- the rule of a statement whose first word is of this kind
  abbrev one_rule : {X : Type 0} → TerminalKind → Rule (Unit {0}) X → (X → Body) → Rule Progress Progress
  one_rule kind rule body = Then (Take (kind ∷ []) beside) (Use (λ _. tt) rule (λ (s : Progress × Terminal) x. with_statement s.0 s.1 (body x)))

  one_begun : {X : Type 0} (kind : TerminalKind) (rule : Rule (Unit {0}) X) (body : X → Body) (a : Progress) (ps : List Terminal) (b : Progress) → IsOver d (one_rule kind rule body) a ps b
      → ((p : Terminal) (rest : List Terminal) (made : Body) → Makes d kind rule body p rest made → IsStatement d p rest made) → Begun d a ps b
  one_begun kind rule body a ps b (front, back, m, split, (p, among, one, same), (x, h, made)) among_four =
      record {
        first = p;
        rest = back;
        body = body x;
        split = split ∙ ap (λ (xs : List Terminal). xs ++ back) one;
        after = made ∙ ap (λ (y : Progress × Terminal). with_statement y.0 y.1 (body x)) same;
        is = among_four p back (body x) (x, among, h, refl);
      }

  pub statement_begun : (a : Progress) (ps : List Terminal) (b : Progress) → IsOver d printed.statement a ps b → Begun d a ps b
  unfolding printed.statement printed.select printed.insert printed.update printed.delete
  statement_begun a ps b (inl h) = one_begun kinds.Select printed.select_rest bodies.Select a ps b h (λ p rest made k. inl k)
  statement_begun a ps b (inr (inl h)) = one_begun kinds.Insert printed.insert_rest insert_body a ps b h (λ p rest made k. inr (inl k))
  statement_begun a ps b (inr (inr (inl h))) = one_begun kinds.Update printed.update_rest update_body a ps b h (λ p rest made k. inr (inr (inl k)))
  statement_begun a ps b (inr (inr (inr h))) = one_begun kinds.Delete printed.delete_rest (λ x. x) a ps b h (λ p rest made k. inr (inr (inr k)))

  one_read : {X : Type 0} (kind : TerminalKind) (rule : Rule (Unit {0}) X) (body : X → Body) (a : Progress) (p : Terminal) (ps : List Terminal) (b : Body) → Makes d kind rule body p ps b
      → IsOver d (one_rule kind rule body) a (p ∷ ps) (with_statement a p b)
  one_read kind rule body a p ps b (x, among, h, made) =
      (p ∷ [], ps, (a, p), refl, (p, among, refl, refl), (x, h, ap (with_statement a p) made))

  -- what is a statement is read as one
  pub statement_read : (a : Progress) (p : Terminal) (ps : List Terminal) (b : Body) → IsStatement d p ps b → IsOver d printed.statement a (p ∷ ps) (with_statement a p b)
  unfolding printed.statement printed.select printed.insert printed.update printed.delete
  statement_read a p ps b (inl h) = inl (one_read kinds.Select printed.select_rest bodies.Select a p ps b h)
  statement_read a p ps b (inr (inl h)) = inr (inl (one_read kinds.Insert printed.insert_rest insert_body a p ps b h))
  statement_read a p ps b (inr (inr (inl h))) = inr (inr (inl (one_read kinds.Update printed.update_rest update_body a p ps b h)))
  statement_read a p ps b (inr (inr (inr h))) = inr (inr (inr (one_read kinds.Delete printed.delete_rest (λ x. x) a p ps b h)))

-- ## No statement has a semicolon

abbrev pub ends : List TerminalKind
ends = kinds.Semicolon ∷ []

-- the terminal is no semicolon
abbrev pub GoesOn : Terminal → Type 0
GoesOn p = has ends p.kind ≡ false

-- no terminal of the rule, outside its nested forms, is a semicolon
goes_on : {A B : Type 0} → Rule A B → Bool
goes_on (Give f) = true
goes_on (Take kinds f) = apart kinds ends
goes_on (Then first second) = goes_on first && goes_on second
goes_on (Use part rule join) = goes_on rule
goes_on (Either kinds left right) = goes_on left && goes_on right
goes_on (Many kinds turn) = goes_on turn
goes_on (Nest x) = true

Inside : Deeper → Type 0
Inside d = (x : Nesting) (a : State x) (ps : List Terminal) (b : State x) → d x a ps b → Each GoesOn ps

none : (ps : List Terminal) → ps ≡ [] → Each GoesOn ps
none ps nil = subst (Each GoesOn) (sym nil) tt

both : (front back ps : List Terminal) → ps ≡ front ++ back → Each GoesOn front → Each GoesOn back → Each GoesOn ps
both front back ps split h k = subst (Each GoesOn) (sym split) (each_append GoesOn front back h k)

turns_go : {A : Type 0} (turn : Meaning A A) → ((a : A) (ps : List Terminal) (b : A) → turn a ps b → Each GoesOn ps) → (n : ℕ) (a : A) (ps : List Terminal) (b : A) → Turns turn n a ps b → Each GoesOn ps
turns_go turn go zero a ps b (nil, same) = none ps nil
turns_go turn go (suc n) a ps b (front, back, m, split, h, t) = both front back ps split (go a front m h) (turns_go turn go n m back b t)

over_goes : (d : Deeper) → Inside d → {A B : Type 0} (r : Rule A B) → goes_on r ≡ true → (a : A) (ps : List Terminal) (b : B) → IsOver d r a ps b → Each GoesOn ps
unfolding goes_on Inside
over_goes d inside (Give f) e a ps b (nil, same) = none ps nil
over_goes d inside (Take kinds f) e a ps b (p, among, one, same) = subst (Each GoesOn) (sym one) (not_in_other kinds ends p.kind e among, tt)
over_goes d inside (Then first second) e a ps b (front, back, m, split, h, t) =
    let parts = and_parts (goes_on first) (goes_on second) e in
    both front back ps split (over_goes d inside first parts.0 a front m h) (over_goes d inside second parts.1 m back b t)
over_goes d inside (Use part rule join) e a ps b (m, h, same) = over_goes d inside rule e (part a) ps m h
over_goes d inside (Either kinds left right) e a ps b (inl h) = over_goes d inside left (and_parts (goes_on left) (goes_on right) e).0 a ps b h
over_goes d inside (Either kinds left right) e a ps b (inr h) = over_goes d inside right (and_parts (goes_on left) (goes_on right) e).1 a ps b h
over_goes d inside (Many kinds turn) e a ps b (n, t) = turns_go (IsOver d turn) (over_goes d inside turn e) n a ps b t
over_goes d inside (Nest x) e a ps b h = inside x a ps b h

grammar_goes : (x : Nesting) → goes_on (printed.grammar x) ≡ true
unfolding goes_on printed.grammar printed.nested_conds printed.conds printed.cond printed.plain_cond printed.compared printed.compared_turned printed.tied printed.between printed.values printed.one_of printed.like null_test column after_name printed.value printed.literal printed.parenthesis printed.expr printed.prim printed.literal_operand printed.closed printed.call printed.call_name printed.signed_prim
grammar_goes Conditions = refl
grammar_goes Parenthesis = refl
grammar_goes Call = refl
grammar_goes Signed = refl

inside_nested : (n : ℕ) → Inside (IsNested printed.grammar n)
unfolding IsNested Inside
inside_nested zero x a ps b h = absurd h
inside_nested (suc n) x a ps b h = over_goes (IsNested printed.grammar n) (inside_nested n) (printed.grammar x) (grammar_goes x) a ps b h

select_goes : goes_on printed.select_rest ≡ true
unfolding goes_on printed.select_rest quantifier printed.item printed.expr printed.prim printed.literal_operand column after_name printed.alias printed.sources printed.source printed.conds printed.cond printed.plain_cond printed.compared printed.compared_turned printed.tied printed.between printed.values printed.one_of printed.like null_test printed.value printed.literal printed.where_conds group_part column_list one_column more_columns another_column printed.having printed.test printed.orders printed.order direction limit_part offset_part
select_goes = refl

insert_goes : goes_on printed.insert_rest ≡ true
unfolding goes_on printed.insert_rest insert_table insert_columns name_list name_as_column more_names another_name printed.row printed.expr printed.prim printed.literal_operand column after_name
insert_goes = refl

update_goes : goes_on printed.update_rest ≡ true
unfolding goes_on printed.update_rest printed.source printed.alias printed.assignment set_column name_as_column printed.expr printed.prim printed.literal_operand column after_name printed.where_conds printed.conds printed.cond printed.plain_cond printed.compared printed.compared_turned printed.tied printed.between printed.values printed.one_of printed.like null_test printed.value printed.literal
update_goes = refl

delete_goes : goes_on printed.delete_rest ≡ true
unfolding goes_on printed.delete_rest printed.source printed.alias printed.where_conds printed.conds printed.cond printed.plain_cond printed.compared printed.compared_turned printed.tied printed.between printed.values printed.one_of printed.like null_test column after_name printed.value printed.literal
delete_goes = refl

one_goes : (n : ℕ) {X : Type 0} (kind : TerminalKind) (rule : Rule (Unit {0}) X) (body : X → Body) (p : Terminal) (ps : List Terminal) (b : Body) → apart (kind ∷ []) ends ≡ true → goes_on rule ≡ true
    → Makes (IsNested printed.grammar n) kind rule body p ps b → Each GoesOn (p ∷ ps)
one_goes n kind rule body p ps b other goes (x, among, h, made) =
    (not_in_other (kind ∷ []) ends p.kind other among, over_goes (IsNested printed.grammar n) (inside_nested n) rule goes (tt {0}) ps x h)

pub statement_goes : (n : ℕ) (p : Terminal) (ps : List Terminal) (b : Body) → IsStatement (IsNested printed.grammar n) p ps b → Each GoesOn (p ∷ ps)
statement_goes n p ps b (inl h) = one_goes n kinds.Select printed.select_rest bodies.Select p ps b refl select_goes h
statement_goes n p ps b (inr (inl h)) = one_goes n kinds.Insert printed.insert_rest insert_body p ps b refl insert_goes h
statement_goes n p ps b (inr (inr (inl h))) = one_goes n kinds.Update printed.update_rest update_body p ps b refl update_goes h
statement_goes n p ps b (inr (inr (inr h))) = one_goes n kinds.Delete printed.delete_rest (λ x. x) p ps b refl delete_goes h

-- ## Statements among the terminals of a workload

-- nothing is left, or a semicolon comes
abbrev pub Ends : List Terminal → Type 0
Ends [] = Unit {0}
Ends (p ∷ ps) = has ends p.kind ≡ true

-- a statement stands among terminals, up to a semicolon or their end
pub record StandsAmong (d : Deeper) (terminals : List Terminal) (s : ParsedStatement) : Type 0 where
  pub before : List Terminal
  pub first : Terminal
  pub rest : List Terminal
  pub behind : List Terminal
  pub split : terminals ≡ before ++ first ∷ (rest ++ behind)
  pub place : s.place ≡ place_of first
  pub is : IsStatement d first rest s.body
  pub ended : Ends behind

-- what is read adds statements that stand among the terminals
pub record Added (d : Deeper) (a : Progress) (ps : List Terminal) (b : Progress) : Type 0 where
  pub new : List ParsedStatement
  pub all : b.statements ≡ a.statements ++ new
  pub stand : Each (StandsAmong d ps) new

each_map : {X : Type 0} (P Q : X → Type 0) → ((x : X) → P x → Q x) → (xs : List X) → Each P xs → Each Q xs
each_map P Q f [] h = tt
each_map P Q f (x ∷ xs) h = (f x h.0, each_map P Q f xs h.1)

-- ";" [statement]
abbrev pub another : Rule Progress Progress
another = Then (printed.word kinds.Semicolon) (printed.maybe printed.statement)

ends_both : (xs ys : List Terminal) → Ends xs → Ends ys → Ends (xs ++ ys)
ends_both [] ys h k = k
ends_both (x ∷ xs) ys h k = h

module _ (d : Deeper) where
  stands_before : (front back ps : List Terminal) → ps ≡ front ++ back → Ends back → (s : ParsedStatement) → StandsAmong d front s → StandsAmong d ps s
  stands_before front back ps split ended s h =
      record {
        before = h.before;
        first = h.first;
        rest = h.rest;
        behind = h.behind ++ back;
        split =
            split ∙ ap (λ (xs : List Terminal). xs ++ back) h.split ∙ append_assoc h.before (h.first ∷ (h.rest ++ h.behind)) back
            ∙ ap (λ (xs : List Terminal). h.before ++ h.first ∷ xs) (append_assoc h.rest h.behind back);
        place = h.place;
        is = h.is;
        ended = ends_both h.behind back h.ended ended;
      }

  stands_behind : (front back ps : List Terminal) → ps ≡ front ++ back → (s : ParsedStatement) → StandsAmong d back s → StandsAmong d ps s
  stands_behind front back ps split s h =
      record {
        before = front ++ h.before;
        first = h.first;
        rest = h.rest;
        behind = h.behind;
        split = split ∙ ap (λ (xs : List Terminal). front ++ xs) h.split ∙ sym (append_assoc front h.before (h.first ∷ (h.rest ++ h.behind)));
        place = h.place;
        is = h.is;
        ended = h.ended;
      }

  added_none : (a b : Progress) (ps : List Terminal) → b ≡ a → Added d a ps b
  added_none a b ps same = record { new = []; all = ap (λ (x : Progress). x.statements) same ∙ sym (append-nil a.statements); stand = tt }

  added_both : (a m b : Progress) (front back ps : List Terminal) → ps ≡ front ++ back → Ends back → Added d a front m → Added d m back b → Added d a ps b
  added_both a m b front back ps split ended f g =
      record {
        new = f.new ++ g.new;
        all = g.all ∙ ap (λ (xs : List ParsedStatement). xs ++ g.new) f.all ∙ append_assoc a.statements f.new g.new;
        stand =
            each_append (StandsAmong d ps) f.new g.new
            (each_map (StandsAmong d front) (StandsAmong d ps) (stands_before front back ps split ended) f.new f.stand)
            (each_map (StandsAmong d back) (StandsAmong d ps) (stands_behind front back ps split) g.new g.stand);
      }

  maybe_adds : (a : Progress) (ps : List Terminal) (b : Progress) → IsOver d (printed.maybe printed.statement) a ps b → Added d a ps b
  maybe_adds a ps b (inl h) =
      let s = statement_begun d a ps b h in
      let new : ParsedStatement = record { place = place_of s.first; weight = weight_of a.before s.first; body = s.body } in
      record {
        new = new ∷ [];
        all = ap (λ (x : Progress). x.statements) s.after;
        stand = (
          record {
            before = [];
            first = s.first;
            rest = s.rest;
            behind = [];
            split = s.split ∙ ap (λ (xs : List Terminal). s.first ∷ xs) (sym (append-nil s.rest));
            place = refl;
            is = s.is;
            ended = tt;
          },
          tt,
        );
      }
  maybe_adds a ps b (inr (nil, same)) = added_none a b ps same

  another_adds : (a : Progress) (ps : List Terminal) (b : Progress) → IsOver d another a ps b → Ends ps × Added d a ps b
  another_adds a ps b (front, back, m, split, (p, among, one, same), h) =
      let here : ps ≡ p ∷ back = split ∙ ap (λ (xs : List Terminal). xs ++ back) one in
      let own = maybe_adds m back b h in (
        subst Ends (sym here) among,
        record {
          new = own.new;
          all = own.all ∙ ap (λ (x : Progress). x.statements ++ own.new) same;
          stand = each_map (StandsAmong d back) (StandsAmong d ps) (stands_behind (p ∷ []) back ps here) own.new own.stand;
        },
      )

  turns_add : (n : ℕ) (a : Progress) (ps : List Terminal) (b : Progress) → Turns (IsOver d another) n a ps b → Ends ps × Added d a ps b
  turns_add zero a ps b (nil, same) = (subst Ends (sym nil) tt, added_none a b ps same)
  turns_add (suc n) a ps b (front, back, m, split, h, t) =
      let one = another_adds a front m h in
      let more = turns_add n m back b t in
      (subst Ends (sym split) (ends_both front back one.0 more.0), added_both a m b front back ps split more.0 one.1 more.1)

  -- the statements of a workload stand among its terminals
  pub workload_adds : (a : Progress) (ps : List Terminal) (b : Progress) → IsOver d printed.workload a ps b → Added d a ps b
  unfolding printed.workload
  workload_adds a ps b (front, back, m, split, h, (n, t)) =
      let more = turns_add n m back b t in
      added_both a m b front back ps split more.0 (maybe_adds a front m h) more.1
