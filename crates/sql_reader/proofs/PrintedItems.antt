-- Items of select lists mean what they mean as they are printed.
use Rattle.std.proofs.Common.{◌≡◌, true, List, [], ◌∷◌, ◌++◌, sym, refl, ap, ◌∙◌, subst, inl, inr, append_assoc}
use Rattle.sql_reader.specs.declared.kind.TerminalKind.TheVariants as kinds
use Rattle.sql_reader.specs.declared.terminal.Terminal.{Terminal}
use Rattle.sql_reader.specs.declared.seen.Seen.{Seen}
use Rattle.sql_reader.specs.declared.parsed.ParsedItem.{ParsedItem}
use Rattle.sql_reader.specs.declared.parsed.ParsedItem.TheVariants as items
use Rattle.sql_reader.specs.Kinds.{has}
use Rattle.sql_reader.specs.Values.{column_of_source, nothing_found, with_use, beside, expr_of}
use Rattle.sql_reader.specs.Rule.{Nesting, State, Take, Then, Use, Meaning, IsOver}
use Rattle.sql_reader.specs.Grammar.{names, plain_names, after_operand_name, after_operand_date, operand, expression, rest_of_item, after_item_point, after_item_name, after_item_date, literal_item, item_value}
use Rattle.sql_reader.specs.Printed as printed
use Rattle.sql_reader.proofs.Alike.{Same, took, put}
use Rattle.sql_reader.proofs.PrintedOperands.{name_parts, plain_is_name, date_is_name, Linked, named_operand, alias_same, expr_same}

module _ (d e : (x : Nesting) → Meaning (State x) (State x)) (linked : Linked d e) where
  -- an operand and the rest of an expression, with an alias
  made : (ps : List Terminal) (b : ParsedItem) (front rest : List Terminal) (m : Seen) → ps ≡ front ++ rest → IsOver d operand nothing_found front m → IsOver d rest_of_item m rest b → IsOver e printed.item (tt {0}) ps b
  unfolding rest_of_item expression printed.item
  made ps b front rest m split h (middle, back, m2, split2, others, (name, is_alias, eb)) =
      let is_expr = (expr_same d e linked).there nothing_found (front ++ middle) m2 (front, middle, m, refl, h, others) in
      let whole : ps ≡ (front ++ middle) ++ back = split ∙ ap (λ (x : List Terminal). front ++ x) split2 ∙ sym (append_assoc front middle back) in
      inr (inr ([], ps, nothing_found, refl, (refl, refl), (front ++ middle, back, m2, whole, is_expr, (name, (alias_same d e).there (tt {0}) back name is_alias, eb))))

  point_there : (ps : List Terminal) (b : ParsedItem) (p q : Terminal) (rest rest2 : List Terminal) → has names p.kind ≡ true → ps ≡ p ∷ rest → has (kinds.Point ∷ []) q.kind ≡ true → rest ≡ q ∷ rest2 → IsOver d after_item_point p rest2 b → IsOver e printed.item (tt {0}) ps b
  unfolding after_item_point printed.item after_operand_name
  point_there ps b p q rest rest2 k at kq at2 (inl h) =
      let star = put e (kinds.Point ∷ []) (λ a _. a) (Take (kinds.Star ∷ []) (λ name _. items.SlotStar name)) p.span rest b q rest2 kq at2 h in
      inr (inl (put e names (λ _ p. p.span) (Then (Take (kinds.Point ∷ []) (λ a _. a)) (Take (kinds.Star ∷ []) (λ name _. items.SlotStar name))) (tt {0}) ps b p rest k at star))
  point_there ps b p q rest rest2 k at kq at2 (inr h) =
      let (n, rest3, kn, at3, t) = took d names (λ name p. with_use nothing_found (column_of_source name.span p.span)) rest_of_item p rest2 b h in
      let behind = put d (kinds.Point ∷ []) (λ s _. s) (Take names (λ s n. with_use s.0 (column_of_source s.1.span n.span))) (nothing_found, p) (q ∷ n ∷ []) (with_use nothing_found (column_of_source p.span n.span)) q (n ∷ []) kq refl (n, kn, refl, refl) in
      let is_operand = named_operand d nothing_found (p ∷ q ∷ n ∷ []) (with_use nothing_found (column_of_source p.span n.span)) p (q ∷ n ∷ []) k refl (inl behind) in
      let whole : ps ≡ p ∷ (q ∷ (n ∷ rest3)) = at ∙ ap (λ (x : List Terminal). p ∷ x) at2 ∙ ap (λ (x : List Terminal). p ∷ (q ∷ x)) at3 in
      made ps b (p ∷ q ∷ n ∷ []) rest3 (with_use nothing_found (column_of_source p.span n.span)) whole is_operand t

  name_there : (ps : List Terminal) (b : ParsedItem) (p : Terminal) (rest : List Terminal) → has names p.kind ≡ true → ps ≡ p ∷ rest → IsOver d after_item_name p rest b → IsOver e printed.item (tt {0}) ps b
  unfolding after_item_name after_operand_name
  name_there ps b p rest k at (inl h) =
      let (q, rest2, kq, at2, h2) = took d (kinds.Point ∷ []) (λ name _. name) after_item_point p rest b h in
      point_there ps b p q rest rest2 k at kq at2 h2
  name_there ps b p rest k at (inr (front, back, m, split, (m2, h, em), t)) =
      let is_operand = named_operand d nothing_found (p ∷ front) m2 p front k refl (inr h) in
      let rest_there = subst (λ (x : Seen). IsOver d rest_of_item x back b) em t in
      made ps b (p ∷ front) back m2 (at ∙ ap (λ (x : List Terminal). p ∷ x) split) is_operand rest_there

  date_there : (ps : List Terminal) (b : ParsedItem) (p : Terminal) (rest : List Terminal) → has (kinds.Date ∷ []) p.kind ≡ true → ps ≡ p ∷ rest → IsOver d after_item_date p rest b → IsOver e printed.item (tt {0}) ps b
  unfolding after_item_date operand after_operand_date
  date_there ps b p rest k at (inl h) =
      let (q, rest2, kq, at2, t) = took d (kinds.Day ∷ []) (λ _ _. nothing_found) rest_of_item p rest b h in
      let is_operand = inl (put d (kinds.Date ∷ []) beside after_operand_date nothing_found (p ∷ q ∷ []) nothing_found p (q ∷ []) k refl (inl (q, kq, refl, refl))) in
      made ps b (p ∷ q ∷ []) rest2 nothing_found (at ∙ ap (λ (x : List Terminal). p ∷ x) at2) is_operand t
  date_there ps b p rest k at (inr h) = name_there ps b p rest (date_is_name p.kind k) at h

  item_there : (a : Unit {0}) (ps : List Terminal) (b : ParsedItem) → IsOver d item_value a ps b → IsOver e printed.item a ps b
  unfolding item_value literal_item operand printed.item
  item_there a ps b (inl h) = inl h
  item_there a ps b (inr (inl h)) =
      let (p, rest, k, at, h2) = took d (kinds.Date ∷ []) (λ _ p. p) after_item_date (tt {0}) ps b h in
      date_there ps b p rest k at h2
  item_there a ps b (inr (inr (inl h))) =
      let (p, rest, k, at, h2) = took d plain_names (λ _ p. p) after_item_name (tt {0}) ps b h in
      name_there ps b p rest (plain_is_name p.kind k) at h2
  item_there a ps b (inr (inr (inr (front, back, m, split, (m2, h, em), t)))) =
      made ps b front back m2 split (inr (inr h)) (subst (λ (x : Seen). IsOver d rest_of_item x back b) em t)

  -- what stands behind the first name of an item
  behind_name : (ps : List Terminal) (b : ParsedItem) (p : Terminal) (rest : List Terminal) → has names p.kind ≡ true → ps ≡ p ∷ rest → IsOver d after_item_name p rest b → IsOver d item_value (tt {0}) ps b
  unfolding item_value after_item_date
  behind_name ps b p rest k at h =
      elim (name_parts p.kind k) [
        | inl plain ↦ inr (inr (inl (put d plain_names (λ _ p. p) after_item_name (tt {0}) ps b p rest plain at h)))
        | inr date ↦ inr (inl (put d (kinds.Date ∷ []) (λ _ p. p) after_item_date (tt {0}) ps b p rest date at (inr h)))
      ]

  star_back : (ps : List Terminal) (b : ParsedItem) → IsOver e (Then (Take names (λ _ p. p.span)) (Then (Take (kinds.Point ∷ []) (λ a _. a)) (Take (kinds.Star ∷ []) (λ name _. items.SlotStar name)))) (tt {0}) ps b → IsOver d item_value (tt {0}) ps b
  unfolding after_item_name after_item_point
  star_back ps b h =
      let (p, rest, k, at, h2) = took e names (λ _ p. p.span) (Then (Take (kinds.Point ∷ []) (λ a _. a)) (Take (kinds.Star ∷ []) (λ name _. items.SlotStar name))) (tt {0}) ps b h in
      let (q, rest2, kq, at2, h3) = took e (kinds.Point ∷ []) (λ a _. a) (Take (kinds.Star ∷ []) (λ name _. items.SlotStar name)) p.span rest b h2 in
      behind_name ps b p rest k at (inl (put d (kinds.Point ∷ []) (λ name _. name) after_item_point p rest b q rest2 kq at2 (inl h3)))

  -- an operand that begins with a name, and what stands behind it
  name_back : (p : Terminal) (front rest : List Terminal) (m : Seen) (b : ParsedItem) → IsOver d after_operand_name (nothing_found, p) front m → IsOver d rest_of_item m rest b → IsOver d after_item_name p (front ++ rest) b
  unfolding after_operand_name after_item_name after_item_point
  name_back p front rest m b (inl h) t =
      let (q, front2, kq, at, u) = took d (kinds.Point ∷ []) (λ s _. s) (Take names (λ s n. with_use s.0 (column_of_source s.1.span n.span))) (nothing_found, p) front m h in
      let (n, kn, en, em) = u in
      let rest_there = subst (λ (x : Seen). IsOver d rest_of_item x rest b) em t in
      let named = put d names (λ name p. with_use nothing_found (column_of_source name.span p.span)) rest_of_item p (front2 ++ rest) b n rest kn (ap (λ (x : List Terminal). x ++ rest) en) rest_there in
      inl (put d (kinds.Point ∷ []) (λ name _. name) after_item_point p (front ++ rest) b q (front2 ++ rest) kq (ap (λ (x : List Terminal). x ++ rest) at) (inr named))
  name_back p front rest m b (inr h) t = inr (front, rest, m, refl, (m, h, refl), t)

  date_back : (ps : List Terminal) (b : ParsedItem) (p : Terminal) (front rest : List Terminal) (m : Seen) → has (kinds.Date ∷ []) p.kind ≡ true → ps ≡ p ∷ (front ++ rest) → IsOver d after_operand_date (nothing_found, p) front m → IsOver d rest_of_item m rest b → IsOver d item_value (tt {0}) ps b
  unfolding after_operand_date item_value after_item_date
  date_back ps b p front rest m k at (inl (q, kq, eq, em)) t =
      let rest_there = subst (λ (x : Seen). IsOver d rest_of_item x rest b) em t in
      let day = put d (kinds.Day ∷ []) (λ _ _. nothing_found) rest_of_item p (front ++ rest) b q rest kq (ap (λ (x : List Terminal). x ++ rest) eq) rest_there in
      inr (inl (put d (kinds.Date ∷ []) (λ _ p. p) after_item_date (tt {0}) ps b p (front ++ rest) k at (inl day)))
  date_back ps b p front rest m k at (inr h) t = behind_name ps b p (front ++ rest) (date_is_name p.kind k) at (name_back p front rest m b h t)

  -- an operand and the rest of an item
  operand_back : (ps : List Terminal) (b : ParsedItem) (front rest : List Terminal) (m : Seen) → ps ≡ front ++ rest → IsOver d operand nothing_found front m → IsOver d rest_of_item m rest b → IsOver d item_value (tt {0}) ps b
  unfolding operand item_value literal_item
  operand_back ps b front rest m split (inl h) t =
      let (p, front2, k, at, h2) = took d (kinds.Date ∷ []) beside after_operand_date nothing_found front m h in
      date_back ps b p front2 rest m k (split ∙ ap (λ (x : List Terminal). x ++ rest) at) h2 t
  operand_back ps b front rest m split (inr (inl h)) t =
      let (p, front2, k, at, h2) = took d plain_names beside after_operand_name nothing_found front m h in
      behind_name ps b p (front2 ++ rest) (plain_is_name p.kind k) (split ∙ ap (λ (x : List Terminal). x ++ rest) at) (name_back p front2 rest m b h2 t)
  operand_back ps b front rest m split (inr (inr h)) t = inr (inr (inr (front, rest, m, split, (m, h, refl), t)))

  made_back : (ps : List Terminal) (b : ParsedItem) (front back : List Terminal) (m : Seen) → ps ≡ front ++ back → IsOver d expression nothing_found front m → IsOver e (Use (λ _. tt) printed.alias (λ found name. items.Made (expr_of found) name)) m back b → IsOver d item_value (tt {0}) ps b
  unfolding expression rest_of_item
  made_back ps b front back m split (begin, others, m2, split2, h, t) (name, is_alias, eb) =
      let whole : ps ≡ begin ++ (others ++ back) = split ∙ ap (λ (x : List Terminal). x ++ back) split2 ∙ append_assoc begin others back in
      operand_back ps b begin (others ++ back) m2 whole h (others, back, m, refl, t, (name, (alias_same d e).back (tt {0}) back name is_alias, eb))

  item_back : (a : Unit {0}) (ps : List Terminal) (b : ParsedItem) → IsOver e printed.item a ps b → IsOver d item_value a ps b
  unfolding printed.item item_value
  item_back a ps b (inl h) = inl h
  item_back a ps b (inr (inl h)) = star_back ps b h
  item_back a ps b (inr (inr (none, rest, start, split, (en, es), (front, back, m, split2, h, t)))) =
      let whole : ps ≡ front ++ back = split ∙ ap (λ (x : List Terminal). x ++ rest) en ∙ split2 in
      let from_nothing = subst (λ (x : Seen). IsOver e printed.expr x front m) es h in
      made_back ps b front back m whole ((expr_same d e linked).back nothing_found front m from_nothing) t

  -- item = "*" | name "." "*" | expr [[AS] name]
  pub item_same : Same d e item_value printed.item
  item_same = record { there = item_there; back = item_back }
