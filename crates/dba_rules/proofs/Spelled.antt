-- A line is read as a rule exactly where it is spelled so.
use Rattle.std.proofs.Common.{◌≡◌, inl, inr, ℕ, zero, suc, ◌+◌, ◌≤◌, Bool, true, false, cond, if◌then◌else◌, ◌&&◌, ◌||◌, ◌==◌, nat_le, List, [], ◌∷◌, ◌++◌, length, take, drop, codes, Option, Some, None, Result, Ok, Err, refl, sym, ap, subst, ◌∙◌, eqb, eqb-true, ne_eqb, append_assoc, arith}
use Rattle.std.specs.List.{list_all, prefix_len}
use Rattle.std.specs.Option.{option_map_or}
use Rattle.std.specs.Prelude.{take_while}
use Rattle.std.specs.Str.{bytes_eq}
use Rattle.std.specs.Cmp.Lexicographic.{same_text}
use Rattle.std.proofs.lemmas.List.{take-append-drop}
use Rattle.std.proofs.Math.Seq.{take-append_seam}
use Rattle.adv_base.specs.Readings.{◌>>=◌, or_fault, where_holds}
use Rattle.dba_rules.specs.declared.fault.RuleFault.{RuleFault}
use Rattle.dba_rules.specs.declared.fault.RuleFault.TheVariants.{BadLine}
use Rattle.dba_rules.specs.declared.line.IndexName.{IndexName}
use Rattle.dba_rules.specs.declared.line.Named.{Named}
use Rattle.dba_rules.specs.declared.line.Named.TheVariants.{Index, Table, Column}
use Rattle.dba_rules.specs.declared.line.Rule.{Rule}
use Rattle.dba_rules.specs.declared.line.Rule.TheVariants.{Blank, Must, Never}
use Rattle.dba_rules.specs.Lines.{is_name_byte, begins_well, is_name, columns_text, index_text, named_text, IsIndexName, IsNamed, IsRule, front_name, after, behind, column_step, columns_from, tail, index_from, column_of, named_from, must, never, spoken, rule_in}

-- ## Readings

bind-ok : {A B : Type 0} (r : Result A RuleFault) (f : A → Result B RuleFault) (y : B) → (r >>= f) ≡ Ok y → (x : A) × (r ≡ Ok x) × (f x ≡ Ok y)
bind-ok (Ok x) f y e = (x, refl, e)
bind-ok (Err d) f y e = absurd cc

where-ok : {A : Type 0} (fault : RuleFault) (b : Bool) (x y : A) → where_holds fault b x ≡ Ok y → (b ≡ true) × (x ≡ y)
where-ok fault true x y e = (refl, cc)
where-ok fault false x y e = absurd cc

or-ok : {A : Type 0} (fault : RuleFault) (o : Option A) (y : A) → or_fault fault o ≡ Ok y → o ≡ Some y
or-ok fault None y e = absurd cc
or-ok fault (Some x) y e = cc

both : (a b : Bool) → (a && b) ≡ true → (a ≡ true) × (b ≡ true)
both true b e = (refl, e)
both false b e = absurd cc

-- ## Words

word-step : (b : Bool) (byte c : ℕ) (word bytes rest : List ℕ) → eqb byte c ≡ b → (after word bytes ≡ Some rest → bytes ≡ word ++ rest) → cond b (after word bytes) None ≡ Some rest → byte ∷ bytes ≡ c ∷ (word ++ rest)
word-step true byte c word bytes rest same more e = let first : byte ≡ c = eqb-true byte c same in let behind : bytes ≡ word ++ rest = more e in cc
word-step false byte c word bytes rest same more e = absurd cc

word-front : (word bytes rest : List ℕ) → after word bytes ≡ Some rest → bytes ≡ word ++ rest
word-front [] bytes rest e = cc
word-front (c ∷ word) [] rest e = absurd cc
word-front (c ∷ word) (byte ∷ bytes) rest e = word-step (eqb byte c) byte c word bytes rest refl (word-front word bytes rest) e

-- ## Names

name-len : (name rest : List ℕ) → list_all is_name_byte name ≡ true → prefix_len is_name_byte rest ≡ 0 → prefix_len is_name_byte (name ++ rest) ≡ length name
name-len [] rest all stop = stop
name-len (c ∷ name) rest all stop =
    let parts = both (is_name_byte c) (list_all is_name_byte name) all in
    let more = name-len name rest parts.1 stop in
    ap (λ (b : Bool). cond b (1 + prefix_len is_name_byte (name ++ rest)) 0) parts.0 ∙ omega (arith, more)

drop-seam : (xs ys : List ℕ) → drop (length xs) (xs ++ ys) ≡ ys
drop-seam [] ys = refl
drop-seam (x ∷ xs) ys = drop-seam xs ys

name-bytes : (word : List ℕ) → is_name word ≡ true → list_all is_name_byte word ≡ true
unfolding is_name
name-bytes word e =
    let front = both ((nat_le 1 (length word) && nat_le (length word) 64) && list_all is_name_byte word) (begins_well word) e in
    (both (nat_le 1 (length word) && nat_le (length word) 64) (list_all is_name_byte word) front.0).1

-- a name at the front, and what follows it
abbrev pub Front : Type 0
Front = List ℕ × List ℕ

front-spelled : (number : ℕ) (bytes : List ℕ) (r : Front) → front_name number bytes ≡ Ok r → (is_name r.0 ≡ true) × (bytes ≡ r.0 ++ r.1)
front-spelled number bytes r e =
    let name = take_while is_name_byte bytes in
    let rest = drop (prefix_len is_name_byte bytes) bytes in
    let w = where-ok (BadLine number) (is_name name) (name, rest) r e in
    (subst (λ (p : Front). is_name p.0 ≡ true) w.1 w.0, sym (take-append-drop (prefix_len is_name_byte bytes) bytes) ∙ ap (λ (p : Front). p.0 ++ p.1) w.1)

front-again : (number : ℕ) (name rest : List ℕ) → is_name name ≡ true → prefix_len is_name_byte rest ≡ 0 → front_name number (name ++ rest) ≡ Ok (name, rest)
front-again number name rest named stop =
    let text : List ℕ = name ++ rest in
    let len : prefix_len is_name_byte (name ++ rest) ≡ length name = name-len name rest (name-bytes name named) stop in
    let front : take_while is_name_byte (name ++ rest) ≡ name = ap (λ (n : ℕ). take n (name ++ rest)) len ∙ take-append_seam name rest in
    let back : drop (prefix_len is_name_byte (name ++ rest)) (name ++ rest) ≡ rest = ap (λ (n : ℕ). drop n (name ++ rest)) len ∙ drop-seam name rest in
    ap (λ (n : List ℕ). where_holds (BadLine number) (is_name n) (n, drop (prefix_len is_name_byte (name ++ rest)) (name ++ rest))) front
    ∙ ap (λ (d : List ℕ). where_holds (BadLine number) (is_name name) (name, d)) back
    ∙ ap (λ (b : Bool). where_holds (BadLine number) b (name, rest)) named

-- ## Columns

abbrev pub Step : Type 0
Step = List (List ℕ) × Bool × List ℕ

abbrev pub done : {A : Type 0} → A → Result A RuleFault
done x = Ok x

ok-is : {A : Type 0} (x y : A) → done x ≡ done y → x ≡ y
ok-is x y e = cc

abbrev pub step-end : ℕ → List (List ℕ) → List ℕ → Result Step RuleFault
step-end number columns bytes = option_map_or (λ rest. Ok (columns, true, rest)) (after (codes ")") bytes) (behind number (codes ", ") bytes >>= λ rest. Ok (columns, false, rest))

abbrev separator : Bool → List ℕ
separator last = if last then codes ")" else codes ", "

abbrev EndsSo : List (List ℕ) → List ℕ → Step → Type 0
EndsSo columns bytes s = (s.0 ≡ columns) × (bytes ≡ separator s.1 ++ s.2)

end-spelled : (number : ℕ) (columns : List (List ℕ)) (bytes : List ℕ) (s : Step) → step-end number columns bytes ≡ Ok s → EndsSo columns bytes s
end-spelled number columns bytes s e = by (after (codes ")") bytes) refl e
  where
    by : (found : Option (List ℕ)) → after (codes ")") bytes ≡ found →
        option_map_or (λ rest. Ok (columns, true, rest)) found (behind number (codes ", ") bytes >>= λ rest. Ok (columns, false, rest)) ≡ Ok s → EndsSo columns bytes s
    by (Some rest) is e = subst (EndsSo columns bytes) (ok-is (columns, true, rest) s e) (refl, word-front (codes ")") bytes rest is)
    by None is e =
        let more = bind-ok (behind number (codes ", ") bytes) (λ (rest : List ℕ). Ok (columns, false, rest)) s e in
        subst (EndsSo columns bytes) (ok-is (columns, false, more.0) s more.2) (refl, word-front (codes ", ") bytes more.0 (or-ok (BadLine number) (after (codes ", ") bytes) more.0 more.1))

record IsStep (bytes : List ℕ) (before : List (List ℕ)) (s : Step) : Type 0 where
  pub name : List ℕ
  pub named : is_name name ≡ true
  pub all_are : s.0 ≡ before ++ name ∷ []
  pub text : bytes ≡ name ++ (separator s.1 ++ s.2)

step-spelled : (number : ℕ) (before : List (List ℕ)) (bytes : List ℕ) (s : Step) → column_step number before bytes ≡ Ok s → IsStep bytes before s
unfolding column_step
step-spelled number before bytes s e =
    let first = bind-ok (front_name number bytes) (λ (name : Front). step-end number (before ++ name.0 ∷ []) name.1) s e in
    let front = front-spelled number bytes first.0 first.1 in
    let end = end-spelled number (before ++ first.0.0 ∷ []) first.0.1 s first.2 in
    record { name = first.0.0; named = front.0; all_are = end.0; text = front.1 ∙ ap (λ (rest : List ℕ). first.0.0 ++ rest) end.1 }

step-again : (number : ℕ) (before : List (List ℕ)) (name rest : List ℕ) (last : Bool) → is_name name ≡ true →
    column_step number before (name ++ (separator last ++ rest)) ≡ Ok (before ++ name ∷ [], last, rest)
unfolding column_step
step-again number before name rest true named =
    ap (λ (r : Result Front RuleFault). r >>= λ name. step-end number (before ++ name.0 ∷ []) name.1) (front-again number name (41 ∷ rest) named refl)
step-again number before name rest false named =
    ap (λ (r : Result Front RuleFault). r >>= λ name. step-end number (before ++ name.0 ∷ []) name.1) (front-again number name (44 ∷ 32 ∷ rest) named refl)

-- so many columns behind others, and what follows them
record AreColumns (n : ℕ) (bytes : List ℕ) (before all : List (List ℕ)) (rest : List ℕ) : Type 0 where
  pub own : List (List ℕ)
  pub all_are : all ≡ before ++ own
  pub some : 1 ≤ length own
  pub few : length own ≤ n
  pub names : list_all is_name own ≡ true
  pub text : bytes ≡ columns_text own ++ (41 ∷ rest)

text-more : (name : List ℕ) (own : List (List ℕ)) (rest : List ℕ) → 1 ≤ length own → columns_text (name ∷ own) ++ rest ≡ name ++ (44 ∷ 32 ∷ (columns_text own ++ rest))
text-more name [] rest some = absurd (omega arith)
text-more name (next ∷ more) rest some = append_assoc name (44 ∷ 32 ∷ columns_text (next ∷ more)) rest

columns-spelled : (number n : ℕ) (before : List (List ℕ)) (bytes : List ℕ) (r : List (List ℕ) × List ℕ) → columns_from number n before bytes ≡ Ok r → AreColumns n bytes before r.0 r.1
columns-spelled number zero before bytes r e = absurd cc
columns-spelled number (suc n) before bytes r e =
    let step = bind-ok (column_step number before bytes) (λ (s : Step). if s.1 then Ok (s.0, s.2) else columns_from number n s.0 s.2) r e in
    let is = step-spelled number before bytes step.0 step.1 in
    by step.0.1 step.0.0 step.0.2 is.name is.named is.all_are is.text (λ (cols : List (List ℕ)) (rest : List ℕ). columns-spelled number n cols rest r) step.2
  where
    by : (last : Bool) (cols : List (List ℕ)) (rest name : List ℕ) → is_name name ≡ true → cols ≡ before ++ name ∷ [] → bytes ≡ name ++ (separator last ++ rest) →
        ((more : List (List ℕ)) (behind : List ℕ) → columns_from number n more behind ≡ Ok r → AreColumns n behind more r.0 r.1) →
        (if last then Ok (cols, rest) else columns_from number n cols rest) ≡ Ok r → AreColumns (suc n) bytes before r.0 r.1
    by true cols rest name named all text more e =
        let same = ok-is (cols, rest) r e in
        record {
          own = name ∷ [];
          all_are = sym (ap (λ (p : List (List ℕ) × List ℕ). p.0) same) ∙ all;
          some = omega arith;
          few = omega arith;
          names = ap (λ (b : Bool). b && true) named;
          text = text ∙ ap (λ (behind : List ℕ). name ++ (41 ∷ behind)) (ap (λ (p : List (List ℕ) × List ℕ). p.1) same);
        }
    by false cols rest name named all text more e =
        let later = more cols rest e in
        record {
          own = name ∷ later.own;
          all_are = later.all_are ∙ ap (λ (c : List (List ℕ)). c ++ later.own) all ∙ append_assoc before (name ∷ []) later.own;
          some = omega arith;
          few = omega (arith, later.few);
          names = ap (λ (b : Bool). b && list_all is_name later.own) named ∙ later.names;
          text = text ∙ ap (λ (behind : List ℕ). name ++ (44 ∷ 32 ∷ behind)) later.text ∙ sym (text-more name later.own (41 ∷ r.1) later.some);
        }

columns-again : (number n : ℕ) (before own : List (List ℕ)) (rest : List ℕ) → 1 ≤ length own → length own ≤ n → list_all is_name own ≡ true →
    columns_from number n before (columns_text own ++ (41 ∷ rest)) ≡ Ok (before ++ own, rest)
columns-again number n before [] rest some few names = absurd (omega arith)
columns-again number zero before (name ∷ own) rest some few names = absurd (omega arith)
columns-again number (suc n) before (name ∷ []) rest some few names =
    ap (λ (s : Result Step RuleFault). s >>= λ step. if step.1 then Ok (step.0, step.2) else columns_from number n step.0 step.2) (step-again number before name rest true (both (is_name name) true names).0)
columns-again number (suc n) before (name ∷ next ∷ more) rest some few names =
    let parts = both (is_name name) (list_all is_name (next ∷ more)) names in
    let joined : (before ++ name ∷ []) ++ (next ∷ more) ≡ before ++ (name ∷ next ∷ more) = append_assoc before (name ∷ []) (next ∷ more) in
    ap (columns_from number (suc n) before) (text-more name (next ∷ more) (41 ∷ rest) (omega arith))
    ∙ ap (λ (s : Result Step RuleFault). s >>= λ step. if step.1 then Ok (step.0, step.2) else columns_from number n step.0 step.2) (step-again number before name (columns_text (next ∷ more) ++ (41 ∷ rest)) false parts.0)
    ∙ columns-again number n (before ++ name ∷ []) (next ∷ more) rest (omega arith) (omega (arith, few)) parts.1
    ∙ ap (λ (cols : List (List ℕ)). done (cols, rest)) joined

-- ## Indexes

some-bytes : (c : ℕ) (cs : List ℕ) → (length (c ∷ cs) == 0) ≡ false
some-bytes c cs = ne_eqb (suc (length cs)) 0 (λ e. omega (arith, e))

tail-spelled : (number : ℕ) (rest : List ℕ) (clustered : Bool) → tail number rest ≡ Ok clustered → rest ≡ (if clustered then codes " clustered" else [])
tail-spelled number [] clustered e = ap (λ (b : Bool). if b then codes " clustered" else []) (ok-is false clustered e)
tail-spelled number (c ∷ cs) clustered e =
    let plain : where_holds (BadLine number) (bytes_eq (c ∷ cs) (codes " clustered")) true ≡ Ok clustered =
    sym (ap (λ (b : Bool). if b then Ok false else where_holds (BadLine number) (bytes_eq (c ∷ cs) (codes " clustered")) true) (some-bytes c cs)) ∙ e in
    let w = where-ok (BadLine number) (bytes_eq (c ∷ cs) (codes " clustered")) true clustered plain in
    same_text (c ∷ cs) (codes " clustered") (sym w.0) ∙ ap (λ (b : Bool). if b then codes " clustered" else []) w.1

tail-again : (number : ℕ) (clustered : Bool) → tail number (if clustered then codes " clustered" else []) ≡ Ok clustered
tail-again number true = refl
tail-again number false = refl

abbrev IndexSo : List ℕ → IndexName → Type 0
IndexSo text index = IsIndexName index × (text ≡ index_text index)

abbrev pub made : List ℕ → List (List ℕ) → Bool → IndexName
made table columns clustered = record { table = table; columns = columns; clustered = clustered }

index-spelled : (number : ℕ) (table rest : List ℕ) (index : IndexName) → is_name table ≡ true → index_from number table rest ≡ Ok index → IndexSo (table ++ rest) index
unfolding index_from
index-spelled number table rest index named e =
    let inside = bind-ok (behind number (codes "(") rest)
    (λ (inside : List ℕ). columns_from number 8 [] inside >>= λ columns. tail number columns.1 >>= λ clustered. Ok (made table columns.0 clustered)) index e in
    let columns = bind-ok (columns_from number 8 [] inside.0) (λ (columns : List (List ℕ) × List ℕ). tail number columns.1 >>= λ clustered. Ok (made table columns.0 clustered)) index inside.2 in
    let end = bind-ok (tail number columns.0.1) (λ (clustered : Bool). Ok (made table columns.0.0 clustered)) index columns.2 in
    let are = columns-spelled number 8 [] inside.0 columns.0 columns.1 in
    let opened = word-front (codes "(") rest inside.0 (or-ok (BadLine number) (after (codes "(") rest) inside.0 inside.1) in
    let closed = tail-spelled number columns.0.1 end.0 end.1 in
    let whole : inside.0 ≡ columns_text columns.0.0 ++ (41 ∷ (if end.0 then codes " clustered" else [])) =
    are.text ∙ ap (λ (more : List ℕ). columns_text are.own ++ (41 ∷ more)) closed
    ∙ ap (λ (cols : List (List ℕ)). columns_text cols ++ (41 ∷ (if end.0 then codes " clustered" else []))) (sym are.all_are) in
    subst (IndexSo (table ++ rest)) (ok-is (made table columns.0.0 end.0) index end.2) (
      record {
        table = named;
        some = subst (λ (cols : List (List ℕ)). 1 ≤ length cols) (sym are.all_are) are.some;
        few = subst (λ (cols : List (List ℕ)). length cols ≤ 8) (sym are.all_are) are.few;
        columns = subst (λ (cols : List (List ℕ)). list_all is_name cols ≡ true) (sym are.all_are) are.names;
      },
      ap (λ (more : List ℕ). table ++ more) (opened ∙ ap (λ (more : List ℕ). 40 ∷ more) whole),
    )

-- an index from its parenthesis on
abbrev index-rest : IndexName → List ℕ
index-rest index = 40 ∷ (columns_text index.columns ++ (41 ∷ (if index.clustered then codes " clustered" else [])))

index-again : (number : ℕ) (index : IndexName) → IsIndexName index → index_from number index.table (index-rest index) ≡ Ok index
unfolding index_from
index-again number index h =
    ap (λ (r : Result (List (List ℕ) × List ℕ) RuleFault). r >>= λ columns. tail number columns.1 >>= λ clustered. Ok (made index.table columns.0 clustered))
    (columns-again number 8 [] index.columns (if index.clustered then codes " clustered" else []) h.some h.few h.columns)
    ∙ ap (λ (r : Result Bool RuleFault). r >>= λ clustered. Ok (made index.table index.columns clustered)) (tail-again number index.clustered)

-- ## What a rule names

abbrev NamedSo : List ℕ → Named → Type 0
NamedSo text named = IsNamed named × (text ≡ named_text named)

nil-behind : (xs : List ℕ) → xs ++ [] ≡ xs
nil-behind [] = refl
nil-behind (x ∷ xs) = ap (λ (ys : List ℕ). x ∷ ys) (nil-behind xs)

named-spelled : (number : ℕ) (table rest : List ℕ) (named : Named) → is_name table ≡ true → named_from number table rest ≡ Ok named → NamedSo (table ++ rest) named
unfolding named_from column_of
named-spelled number table [] named is e = subst (NamedSo (table ++ [])) (ok-is (Table table) named e) (is, nil-behind table)
named-spelled number table (c ∷ cs) named is e =
    by (after (codes ".") (c ∷ cs)) refl
    (sym (ap (λ (b : Bool). if b then Ok (Table table) else (option_map_or (column_of number table) (after (codes ".") (c ∷ cs)) (index_from number table (c ∷ cs) >>= λ index. Ok (Index index)))) (some-bytes c cs)) ∙ e)
  where
    by : (found : Option (List ℕ)) → after (codes ".") (c ∷ cs) ≡ found →
        option_map_or (column_of number table) found (index_from number table (c ∷ cs) >>= λ index. Ok (Index index)) ≡ Ok named → NamedSo (table ++ (c ∷ cs)) named
    by (Some column) found e =
        let w = where-ok (BadLine number) (is_name column) (Column table column) named e in
        subst (NamedSo (table ++ (c ∷ cs))) w.1 ((is, w.0), ap (λ (more : List ℕ). table ++ more) (word-front (codes ".") (c ∷ cs) column found))
    by None found e =
        let index = bind-ok (index_from number table (c ∷ cs)) (λ (index : IndexName). Ok (Index index)) named e in
        subst (NamedSo (table ++ (c ∷ cs))) (ok-is (Index index.0) named index.2) (index-spelled number table (c ∷ cs) index.0 is index.1)

-- ## Rules

must-spelled : (number : ℕ) (rest : List ℕ) (rule : Rule) → must number rest ≡ Ok rule → IsRule (codes "must " ++ rest) rule
unfolding must
must-spelled number rest rule e =
    let front = bind-ok (front_name number rest) (λ (name : Front). index_from number name.0 name.1 >>= λ index. Ok (Must index)) rule e in
    let index = bind-ok (index_from number front.0.0 front.0.1) (λ (index : IndexName). Ok (Must index)) rule front.2 in
    let name = front-spelled number rest front.0 front.1 in
    let is = index-spelled number front.0.0 front.0.1 index.0 name.0 index.1 in
    subst (IsRule (codes "must " ++ rest)) (ok-is (Must index.0) rule index.2) (is.0, ap (λ (text : List ℕ). codes "must " ++ text) (name.1 ∙ is.1))

never-spelled : (number : ℕ) (rest : List ℕ) (rule : Rule) → never number rest ≡ Ok rule → IsRule (codes "never " ++ rest) rule
unfolding never
never-spelled number rest rule e =
    let front = bind-ok (front_name number rest) (λ (name : Front). named_from number name.0 name.1 >>= λ named. Ok (Never named)) rule e in
    let named = bind-ok (named_from number front.0.0 front.0.1) (λ (named : Named). Ok (Never named)) rule front.2 in
    let name = front-spelled number rest front.0 front.1 in
    let is = named-spelled number front.0.0 front.0.1 named.0 name.0 named.1 in
    subst (IsRule (codes "never " ++ rest)) (ok-is (Never named.0) rule named.2) (is.0, ap (λ (text : List ℕ). codes "never " ++ text) (name.1 ∙ is.1))

spoken-spelled : (number : ℕ) (line : List ℕ) (rule : Rule) → spoken number line ≡ Ok rule → IsRule line rule
unfolding spoken
spoken-spelled number line rule e = by (after (codes "must ") line) refl e
  where
    by : (found : Option (List ℕ)) → after (codes "must ") line ≡ found → option_map_or (must number) found (behind number (codes "never ") line >>= never number) ≡ Ok rule → IsRule line rule
    by (Some rest) found e = subst (λ (text : List ℕ). IsRule text rule) (sym (word-front (codes "must ") line rest found)) (must-spelled number rest rule e)
    by None found e =
        let more = bind-ok (behind number (codes "never ") line) (never number) rule e in
        let text = word-front (codes "never ") line more.0 (or-ok (BadLine number) (after (codes "never ") line) more.0 more.1) in
        subst (λ (text : List ℕ). IsRule text rule) (sym text) (never-spelled number more.0 rule more.2)

-- what is read as a rule is spelled so
pub rule_spelled : (number : ℕ) (line : List ℕ) (rule : Rule) → rule_in number line ≡ Ok rule → IsRule line rule
unfolding rule_in
rule_spelled number [] rule e = subst (IsRule []) (ok-is Blank rule e) (inl refl)
rule_spelled number (c ∷ cs) rule e = by (eqb c 35) refl (sym (ap (λ (b : Bool). if b || eqb c 35 then Ok Blank else spoken number (c ∷ cs)) (some-bytes c cs)) ∙ e)
  where
    by : (hash : Bool) → eqb c 35 ≡ hash → (if hash then Ok Blank else spoken number (c ∷ cs)) ≡ Ok rule → IsRule (c ∷ cs) rule
    by true is e = subst (IsRule (c ∷ cs)) (ok-is Blank rule e) (inr (cs, ap (λ (byte : ℕ). byte ∷ cs) (eqb-true c 35 is)))
    by false is e = spoken-spelled number (c ∷ cs) rule e

must-again : (number : ℕ) (index : IndexName) → IsIndexName index → must number (index_text index) ≡ Ok (Must index)
unfolding must
must-again number index h =
    ap (λ (r : Result Front RuleFault). r >>= λ name. index_from number name.0 name.1 >>= λ index. Ok (Must index)) (front-again number index.table (index-rest index) h.table refl)
    ∙ ap (λ (r : Result IndexName RuleFault). r >>= λ index. Ok (Must index)) (index-again number index h)

never-again : (number : ℕ) (table rest : List ℕ) (named : Named) → is_name table ≡ true → prefix_len is_name_byte rest ≡ 0 → named_from number table rest ≡ Ok named → never number (table ++ rest) ≡ Ok (Never named)
unfolding never
never-again number table rest named is stop e =
    ap (λ (r : Result Front RuleFault). r >>= λ name. named_from number name.0 name.1 >>= λ named. Ok (Never named)) (front-again number table rest is stop)
    ∙ ap (λ (r : Result Named RuleFault). r >>= λ named. Ok (Never named)) e

named-again : (number : ℕ) (named : Named) → IsNamed named → never number (named_text named) ≡ Ok (Never named)
unfolding named_from column_of
named-again number (Index index) h =
    never-again number index.table (index-rest index) (Index index) h.table refl
    (
    ap (λ (b : Bool). if b then Ok (Table index.table) else (option_map_or (column_of number index.table) (after (codes ".") (index-rest index)) (index_from number index.table (index-rest index) >>= λ index. Ok (Index index))))
    (some-bytes 40 (columns_text index.columns ++ (41 ∷ (if index.clustered then codes " clustered" else []))))
    ∙ ap (λ (r : Result IndexName RuleFault). r >>= λ index. done (Index index)) (index-again number index h)
    )
named-again number (Table table) h = ap (never number) (sym (nil-behind table)) ∙ never-again number table [] (Table table) h refl refl
named-again number (Column table column) h =
    never-again number table (46 ∷ column) (Column table column) h.0 refl
    (
    ap (λ (b : Bool). if b then Ok (Table table) else (option_map_or (column_of number table) (after (codes ".") (46 ∷ column)) (index_from number table (46 ∷ column) >>= λ index. Ok (Index index))))
    (some-bytes 46 column)
    ∙ ap (λ (b : Bool). where_holds (BadLine number) b (Column table column)) h.1
    )

empty-line : (number : ℕ) → rule_in number [] ≡ Ok Blank
unfolding rule_in
empty-line number = refl

hash-line : (number : ℕ) (cs : List ℕ) → rule_in number (35 ∷ cs) ≡ Ok Blank
unfolding rule_in
hash-line number cs = ap (λ (b : Bool). if b || true then Ok Blank else spoken number (35 ∷ cs)) (some-bytes 35 cs)

spoken-line : (number c : ℕ) (cs : List ℕ) → eqb c 35 ≡ false → rule_in number (c ∷ cs) ≡ spoken number (c ∷ cs)
unfolding rule_in
spoken-line number c cs other =
    ap (λ (b : Bool). if b || eqb c 35 then Ok Blank else spoken number (c ∷ cs)) (some-bytes c cs)
    ∙ ap (λ (b : Bool). if b then Ok Blank else spoken number (c ∷ cs)) other

-- what is spelled as a rule is read so
pub rule_again : (number : ℕ) (line : List ℕ) (rule : Rule) → IsRule line rule → rule_in number line ≡ Ok rule
unfolding spoken
rule_again number line Blank (inl e) = ap (rule_in number) e ∙ empty-line number
rule_again number line Blank (inr h) = ap (rule_in number) h.1 ∙ hash-line number h.0
rule_again number line (Must index) h =
    ap (rule_in number) h.1 ∙ spoken-line number 109 (117 ∷ 115 ∷ 116 ∷ 32 ∷ index_text index) refl ∙ must-again number index h.0
rule_again number line (Never named) h =
    ap (rule_in number) h.1 ∙ spoken-line number 110 (101 ∷ 118 ∷ 101 ∷ 114 ∷ 32 ∷ named_text named) refl ∙ named-again number named h.0
