-- The statements of a workload begin at the words that begin one, and nowhere else.
use Rattle.std.proofs.Common.{◌≡◌, ℕ, zero, suc, Bool, true, false, ◌&&◌, List, [], ◌∷◌, ◌++◌, sym, refl, ap, ◌∙◌, inl, inr, append_assoc, append-nil, if◌then◌else◌}
use Rattle.std.proofs.lemmas.Bool.{and_parts}
use Rattle.sql_reader.specs.declared.kind.TerminalKind.{TerminalKind}
use Rattle.sql_reader.specs.declared.kind.TerminalKind.TheVariants as kinds
use Rattle.sql_reader.specs.declared.terminal.Terminal.{Terminal}
use Rattle.sql_reader.specs.declared.parsed.Body.{Body}
use Rattle.sql_reader.specs.declared.parsed.Body.TheVariants as bodies
use Rattle.sql_reader.specs.declared.parsed.ParsedStatement.{ParsedStatement}
use Rattle.sql_reader.specs.declared.parts.Progress.{Progress}
use Rattle.sql_reader.specs.Kinds.{has, apart}
use Rattle.sql_reader.specs.Rule.{Nesting, State, Rule, Give, Take, Then, Use, Either, Many, Nest, Conditions, Parenthesis, Call, Signed, Meaning, Turns, IsOver, IsNested}
use Rattle.sql_reader.specs.Grammar.{levels, starts, after_name, column, null_test, quantifier, group_part, column_list, one_column, more_columns, another_column, direction, limit_part, offset_part, insert_table, insert_columns, name_list, name_as_column, more_names, another_name, set_column}
use Rattle.sql_reader.specs.Values.{beside, place_of, weight_of, with_statement, no_statements, insert_body, update_body}
use Rattle.sql_reader.specs.Terminals.{starts_in, places_of}
use Rattle.sql_reader.specs.Printed as printed
use Rattle.sql_reader.specs.Workload.{MeansStatements}
use Rattle.sql_reader.proofs.KindSets.{not_in_other, in_wider}

-- no terminal of the rule, outside its nested forms, is a word that begins a statement
avoids : {A B : Type 0} → Rule A B → Bool
avoids (Give f) = true
avoids (Take kinds f) = apart kinds starts
avoids (Then first second) = avoids first && avoids second
avoids (Use part rule join) = avoids rule
avoids (Either kinds left right) = avoids left && avoids right
avoids (Many kinds turn) = avoids turn
avoids (Nest x) = true

pub begun_if : (b : Bool) (p : Terminal) (ps : List Terminal) → has starts p.kind ≡ b → starts_in (p ∷ ps) ≡ (if b then place_of p ∷ starts_in ps else starts_in ps)
begun_if b p ps e = ap (λ (x : Bool). if x then place_of p ∷ starts_in ps else starts_in ps) e

pub starts-append : (xs ys : List Terminal) → starts_in (xs ++ ys) ≡ starts_in xs ++ starts_in ys
starts-append [] ys = refl
starts-append (p ∷ xs) ys = by_kind (has starts p.kind) (starts-append xs ys)
  where
    by_kind : (b : Bool) → starts_in (xs ++ ys) ≡ starts_in xs ++ starts_in ys →
        (if b then place_of p ∷ starts_in (xs ++ ys) else starts_in (xs ++ ys)) ≡ (if b then place_of p ∷ starts_in xs else starts_in xs) ++ starts_in ys
    by_kind true e = ap (λ (l : List ℕ). place_of p ∷ l) e
    by_kind false e = e

none_in_both : (xs ys ps : List Terminal) → ps ≡ xs ++ ys → starts_in xs ≡ [] → starts_in ys ≡ [] → starts_in ps ≡ []
none_in_both xs ys ps split e f = ap starts_in split ∙ starts-append xs ys ∙ ap (λ (l : List ℕ). l ++ starts_in ys) e ∙ f

-- nested forms have no word that begins a statement
abbrev Inside : ((x : Nesting) → Meaning (State x) (State x)) → Type 0
Inside d = (x : Nesting) (a : State x) (ps : List Terminal) (b : State x) → d x a ps b → starts_in ps ≡ []

turns_avoid : {A : Type 0} (turn : Meaning A A) → ((a : A) (ps : List Terminal) (b : A) → turn a ps b → starts_in ps ≡ []) → (n : ℕ) (a : A) (ps : List Terminal) (b : A) → Turns turn n a ps b → starts_in ps ≡ []
turns_avoid turn none zero a ps b (nil, same) = ap starts_in nil
turns_avoid turn none (suc n) a ps b (front, back, m, split, h, t) = none_in_both front back ps split (none a front m h) (turns_avoid turn none n m back b t)

none_over : (d : (x : Nesting) → Meaning (State x) (State x)) → Inside d → {A B : Type 0} (r : Rule A B) → avoids r ≡ true → (a : A) (ps : List Terminal) (b : B) → IsOver d r a ps b → starts_in ps ≡ []
unfolding avoids
none_over d inside (Give f) e a ps b (nil, same) = ap starts_in nil
none_over d inside (Take kinds f) e a ps b (p, among, one, same) = ap starts_in one ∙ begun_if false p [] (not_in_other kinds starts p.kind e among)
none_over d inside (Then first second) e a ps b (front, back, m, split, h, t) =
    let parts = and_parts (avoids first) (avoids second) e in
    none_in_both front back ps split (none_over d inside first parts.0 a front m h) (none_over d inside second parts.1 m back b t)
none_over d inside (Use part rule join) e a ps b (m, h, same) = none_over d inside rule e (part a) ps m h
none_over d inside (Either kinds left right) e a ps b (inl h) = none_over d inside left (and_parts (avoids left) (avoids right) e).0 a ps b h
none_over d inside (Either kinds left right) e a ps b (inr h) = none_over d inside right (and_parts (avoids left) (avoids right) e).1 a ps b h
none_over d inside (Many kinds turn) e a ps b (n, t) = turns_avoid (IsOver d turn) (none_over d inside turn e) n a ps b t
none_over d inside (Nest x) e a ps b h = inside x a ps b h

grammar_avoids : (x : Nesting) → avoids (printed.grammar x) ≡ true
unfolding avoids printed.grammar printed.nested_conds printed.conds printed.cond printed.plain_cond printed.compared printed.compared_turned printed.tied printed.between printed.values printed.one_of printed.like null_test column after_name printed.value printed.literal printed.parenthesis printed.expr printed.prim printed.literal_operand printed.closed printed.call printed.call_name printed.signed_prim
grammar_avoids Conditions = refl
grammar_avoids Parenthesis = refl
grammar_avoids Call = refl
grammar_avoids Signed = refl

inside_nested : (n : ℕ) → Inside (IsNested printed.grammar n)
unfolding IsNested
inside_nested zero x a ps b h = absurd h
inside_nested (suc n) x a ps b h = none_over (IsNested printed.grammar n) (inside_nested n) (printed.grammar x) (grammar_avoids x) a ps b h

select_avoids : avoids printed.select_rest ≡ true
unfolding avoids printed.select_rest quantifier printed.item printed.expr printed.prim printed.literal_operand column after_name printed.alias printed.sources printed.source printed.conds printed.cond printed.plain_cond printed.compared printed.compared_turned printed.tied printed.between printed.values printed.one_of printed.like null_test printed.value printed.literal printed.where_conds group_part column_list one_column more_columns another_column printed.having printed.test printed.orders printed.order direction limit_part offset_part
select_avoids = refl

insert_avoids : avoids printed.insert_rest ≡ true
unfolding avoids printed.insert_rest insert_table insert_columns name_list name_as_column more_names another_name printed.row printed.expr printed.prim printed.literal_operand column after_name
insert_avoids = refl

update_avoids : avoids printed.update_rest ≡ true
unfolding avoids printed.update_rest printed.source printed.alias printed.assignment set_column name_as_column printed.expr printed.prim printed.literal_operand column after_name printed.where_conds printed.conds printed.cond printed.plain_cond printed.compared printed.compared_turned printed.tied printed.between printed.values printed.one_of printed.like null_test printed.value printed.literal
update_avoids = refl

delete_avoids : avoids printed.delete_rest ≡ true
unfolding avoids printed.delete_rest printed.source printed.alias printed.where_conds printed.conds printed.cond printed.plain_cond printed.compared printed.compared_turned printed.tied printed.between printed.values printed.one_of printed.like null_test column after_name printed.value printed.literal
delete_avoids = refl

places-append : (xs ys : List ParsedStatement) → places_of (xs ++ ys) ≡ places_of xs ++ places_of ys
places-append [] ys = refl
places-append (x ∷ xs) ys = ap (λ (l : List ℕ). x.place ∷ l) (places-append xs ys)

-- what is read adds the statements that begin in it
abbrev Begins : Meaning Progress Progress → Type 0
Begins is = (a : Progress) (ps : List Terminal) (b : Progress) → is a ps b → places_of b.statements ≡ places_of a.statements ++ starts_in ps

begins_behind : (start middle end begun more : List ℕ) → middle ≡ start ++ begun → end ≡ middle ++ more → end ≡ start ++ (begun ++ more)
begins_behind start middle end begun more e f = f ∙ ap (λ (l : List ℕ). l ++ more) e ∙ append_assoc start begun more

turns_begin : (turn : Meaning Progress Progress) → Begins turn → (n : ℕ) → Begins (Turns turn n)
turns_begin turn begin zero a ps b (nil, same) =
    ap (λ (x : Progress). places_of x.statements) same ∙ sym (append-nil (places_of a.statements)) ∙ ap (λ (l : List ℕ). places_of a.statements ++ l) (sym (ap starts_in nil))
turns_begin turn begin (suc n) a ps b (front, back, m, split, h, t) =
    begins_behind (places_of a.statements) (places_of m.statements) (places_of b.statements) (starts_in front) (starts_in back) (begin a front m h) (turns_begin turn begin n m back b t)
    ∙ ap (λ (l : List ℕ). places_of a.statements ++ l) (sym (ap starts_in split ∙ starts-append front back))

module _ (d : (x : Nesting) → Meaning (State x) (State x)) (inside : Inside d) where
  one_begins : {X : Type 0} (kind : TerminalKind) (r : Rule (Unit {0}) X) (body : X → Body) → ((k : TerminalKind) → has (kind ∷ []) k ≡ true → has starts k ≡ true) → avoids r ≡ true →
      Begins (IsOver d (Then (Take (kind ∷ []) beside) (Use (λ _. tt) r (λ (s : Progress × Terminal) x. with_statement s.0 s.1 (body x)))))
  one_begins kind r body begin e a ps b (front, back, m, split, (p, among, one, same), (x, h, made)) =
      let s : ParsedStatement = record { place = place_of p; weight = weight_of a.before p; body = body x } in
      let is_made : b ≡ with_statement a p (body x) = made ∙ ap (λ (y : Progress × Terminal). with_statement y.0 y.1 (body x)) same in
      let nothing = none_over d inside r e (tt {0}) back x h in
      let begun : starts_in ps ≡ place_of p ∷ [] =
      ap starts_in split ∙ starts-append front back ∙ ap (λ (l : List ℕ). l ++ starts_in back) (ap starts_in one ∙ begun_if true p [] (begin p.kind among)) ∙ ap (λ (l : List ℕ). place_of p ∷ l) nothing in
      ap (λ (y : Progress). places_of y.statements) is_made ∙ places-append a.statements (s ∷ []) ∙ ap (λ (l : List ℕ). places_of a.statements ++ l) (sym begun)

  either_begins : (r s : Rule Progress Progress) → Begins (IsOver d r) → Begins (IsOver d s) → Begins (IsOver d (Either [] r s))
  either_begins r s f g a ps b (inl h) = f a ps b h
  either_begins r s f g a ps b (inr h) = g a ps b h

  select_begins : Begins (IsOver d printed.select)
  unfolding printed.select
  select_begins = one_begins kinds.Select printed.select_rest bodies.Select (λ k among. in_wider (kinds.Select ∷ []) starts k refl among) select_avoids

  insert_begins : Begins (IsOver d printed.insert)
  unfolding printed.insert
  insert_begins = one_begins kinds.Insert printed.insert_rest insert_body (λ k among. in_wider (kinds.Insert ∷ []) starts k refl among) insert_avoids

  update_begins : Begins (IsOver d printed.update)
  unfolding printed.update
  update_begins = one_begins kinds.Update printed.update_rest update_body (λ k among. in_wider (kinds.Update ∷ []) starts k refl among) update_avoids

  delete_begins : Begins (IsOver d printed.delete)
  unfolding printed.delete
  delete_begins = one_begins kinds.Delete printed.delete_rest (λ x. x) (λ k among. in_wider (kinds.Delete ∷ []) starts k refl among) delete_avoids

  statement_begins : Begins (IsOver d printed.statement)
  unfolding printed.statement
  statement_begins =
      either_begins printed.select (Either [] printed.insert (Either [] printed.update printed.delete)) select_begins
      (either_begins printed.insert (Either [] printed.update printed.delete) insert_begins (either_begins printed.update printed.delete update_begins delete_begins))

  nothing_begins : Begins (IsOver d (Give (λ progress. progress)))
  nothing_begins a ps b (nil, same) =
      ap (λ (x : Progress). places_of x.statements) same ∙ sym (append-nil (places_of a.statements)) ∙ ap (λ (l : List ℕ). places_of a.statements ++ l) (sym (ap starts_in nil))

  maybe_begins : Begins (IsOver d (printed.maybe printed.statement))
  maybe_begins = either_begins printed.statement (Give (λ progress. progress)) statement_begins nothing_begins

  then_begins : (r s : Rule Progress Progress) → Begins (IsOver d r) → Begins (IsOver d s) → Begins (IsOver d (Then r s))
  then_begins r s f g a ps b (front, back, m, split, h, t) =
      begins_behind (places_of a.statements) (places_of m.statements) (places_of b.statements) (starts_in front) (starts_in back) (f a front m h) (g m back b t)
      ∙ ap (λ (l : List ℕ). places_of a.statements ++ l) (sym (ap starts_in split ∙ starts-append front back))

  semicolon_begins : Begins (IsOver d (printed.word kinds.Semicolon))
  semicolon_begins a ps b (p, among, one, same) =
      ap (λ (x : Progress). places_of x.statements) same ∙ sym (append-nil (places_of a.statements))
      ∙ ap (λ (l : List ℕ). places_of a.statements ++ l) (sym (ap starts_in one ∙ begun_if false p [] (not_in_other (kinds.Semicolon ∷ []) starts p.kind refl among)))

  another_begins : Begins (IsOver d (Then (printed.word kinds.Semicolon) (printed.maybe printed.statement)))
  another_begins = then_begins (printed.word kinds.Semicolon) (printed.maybe printed.statement) semicolon_begins maybe_begins

  more_begin : Begins (IsOver d (Many [] (Then (printed.word kinds.Semicolon) (printed.maybe printed.statement))))
  more_begin a ps b (n, turns) = turns_begin (IsOver d (Then (printed.word kinds.Semicolon) (printed.maybe printed.statement))) another_begins n a ps b turns

  workload_begins : Begins (IsOver d printed.workload)
  unfolding printed.workload
  workload_begins = then_begins (printed.maybe printed.statement) (Many [] (Then (printed.word kinds.Semicolon) (printed.maybe printed.statement))) maybe_begins more_begin

-- the statements of a workload begin at its words that begin one, in order
pub begin_at_starts : (terminals : List Terminal) (progress : Progress) → MeansStatements no_statements terminals progress → places_of progress.statements ≡ starts_in terminals
begin_at_starts terminals progress h = workload_begins (IsNested printed.grammar levels) (inside_nested levels) no_statements terminals progress h
