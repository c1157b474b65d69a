-- Tokens that are written behind one another are read again.
use Rattle.std.proofs.Common.{◌≡◌, ℕ, ◌+◌, ◌-◌, ◌<◌, ◌≤◌, ◌^◌, ◌%◌, Bool, true, ◌&&◌, List, [], ◌∷◌, ◌++◌, length, drop, Option, Some, Ok, refl, ap, sym, ◌∙◌, subst, append_assoc, append-nil, arith}
use Rattle.std.specs.Prelude.{codes, decimal}
use Rattle.std.specs.List.{prefix_len, list_all}
use Rattle.std.proofs.lemmas.Bool.{and_parts}
use Rattle.std.proofs.lemmas.Bool.Decides.{nat_tests}
use Rattle.std.proofs.lemmas.Fmt.{decimal_by_steps, decimal_nonempty}
use Rattle.std.proofs.lemmas.List.{length-append, length-drop}
use Rattle.std.proofs.lemmas.List.Folds.{list_all-append}
use Rattle.sql_tokens.specs.Byte.{is_digit, is_line_byte}
use Rattle.sql_tokens.specs.Form.{IsToken}
use Rattle.sql_tokens.specs.Front.{front, lexeme}
use Rattle.sql_tokens.specs.Weight.{weight_length, weight_word}
use Rattle.sql_tokens.specs.Cut.{AreTokens, token_at, weight_token}
use Rattle.sql_tokens.specs.Ahead.{Ahead, nothing, behind_tokens, ahead, Tells}
use Rattle.sql_tokens.specs.declared.token.Token.{Token}
use Rattle.sql_tokens.specs.declared.token.TokenKind.TheVariants as kind
use Rattle.sql_tokens.specs.declared.lexeme.Form.TheVariants as form
use Rattle.sql_tokens.proofs.Runs.{run-stops}
use Rattle.sql_tokens.proofs.Weights.{weight_found}
use Rattle.sql_tokens.proofs.Ahead.{ahead_end, tells_ahead}
use Rattle.sql_reader.specs.Terminals.{bytes_of}
use Rattle.workload_fold.specs.Pairs.{Pairs}
use Rattle.workload_fold.specs.Places.{Texts}
use Rattle.workload_fold.specs.Texts.{spaced, weight_line}
use Rattle.workload_fold.specs.FoldedTokens.{SameToken, IsGroup, weight_comment}
use Rattle.workload_fold.proofs.SpacedTokens.{token_spaced, semicolon_front}
use Rattle.workload_fold.proofs.TokensAhead.{Each, lexeme_ahead, left_behind, bytes_there, behind_both}

-- ## Tokens with a space behind each

-- a token is spelled as those of its kind
abbrev pub IsOwn : List ℕ → Token → Type 0
IsOwn text t = IsToken t.kind (bytes_of text t)

-- the token begins before so many bytes end
abbrev pub Before : ℕ → Token → Type 0
Before to t = t.span.from < to

-- copies of tokens stand from one place to another
pub record Copied (t : Texts) (ts : List Token) (at : ℕ) (more : List ℕ) : Type 0 where
  pub copies : List Token
  pub to : ℕ
  pub same : Pairs (SameToken t) ts copies
  pub are : ahead t.other at ≡ behind_tokens copies (ahead t.other to)
  pub left : drop to t.other ≡ more
  pub onward : at ≤ to
  pub before : Each (Before to) copies

pub copied : (t : Texts) (ts : List Token) (at : ℕ) (more : List ℕ) → Each (IsOwn t.one) ts → drop at t.other ≡ spaced t.one ts ++ more → Copied t ts at more
copied t [] at more own is = record { copies = []; to = at; same = tt; are = refl; left = is; onward = omega arith; before = tt }
copied t (x ∷ ts) at more own is =
    let bytes : List ℕ = bytes_of t.one x in
    let rest : List ℕ = spaced t.one ts ++ more in
    let here : drop at t.other ≡ bytes ++ 32 ∷ rest = is ∙ append_assoc (bytes ++ 32 ∷ []) (spaced t.one ts) more ∙ append_assoc bytes (32 ∷ []) rest in
    let middle : ℕ = at + length bytes in
    let space : drop middle t.other ≡ 32 ∷ rest = left_behind t.other bytes (32 ∷ rest) at here in
    let one = lexeme_ahead t.other bytes (32 ∷ rest) at (form.Token x.kind) here (token_spaced x.kind bytes rest own.0) in
    let two = lexeme_ahead t.other (32 ∷ []) rest middle form.Blank space refl in
    let behind = left_behind t.other (32 ∷ []) rest middle space in
    let later = copied t ts (middle + length {A = ℕ} (32 ∷ [])) more own.1 behind in
    let new : Token = token_at x.kind at (length bytes) in
    record {
      copies = new ∷ later.copies;
      to = later.to;
      same = (record { kind = refl; bytes = sym (bytes_there t.other bytes (32 ∷ rest) at x.kind here) }, later.same);
      are = one ∙ ap (behind_tokens (new ∷ [])) (two ∙ later.are);
      left = later.left;
      onward = (let o = later.onward in omega arith);
      before = ((let o = later.onward in omega arith), later.before);
    }

-- ## The line of a weight

pub digits_decimal : (n : ℕ) → n < 2 ^ 64 → list_all is_digit (decimal n) ≡ true
digits_decimal n small = decimal_by_steps (λ m ds. list_all is_digit ds ≡ true) one more n small
  where
    one : (m : ℕ) → m < 10 → list_all is_digit ((48 + m) ∷ []) ≡ true
    one m h = let own : is_digit (48 + m) ≡ true = grind (arith, nat_tests) in rw own refl

    more : (m : ℕ) (ds : List ℕ) → 10 ≤ m → list_all is_digit ds ≡ true → list_all is_digit (ds ++ ((48 + m % 10) ∷ [])) ≡ true
    more m ds h all =
        let low : m % 10 < 10 = omega arith in
        list_all-append is_digit ds ((48 + m % 10) ∷ []) ∙ ap (λ (b : Bool). b && list_all is_digit ((48 + m % 10) ∷ [])) all ∙ one (m % 10) low

line_digit : (b : ℕ) → is_digit b ≡ true → is_line_byte b ≡ true
line_digit b e = grind (arith, nat_tests)

in_line : (ds : List ℕ) → list_all is_digit ds ≡ true → list_all is_line_byte ds ≡ true
in_line [] h = refl
in_line (d ∷ ds) h =
    let both = and_parts (is_digit d) (list_all is_digit ds) h in
    let own : is_line_byte d ≡ true = line_digit d both.0 in
    let rest : list_all is_line_byte ds ≡ true = in_line ds both.1 in
    rw (own, rest) refl

line_front : (w : ℕ) (more : List ℕ) → w < 2 ^ 64 → front (weight_comment w ++ 10 ∷ more) ≡ Ok (lexeme form.LineComment (length (weight_comment w)))
line_front w more small =
    let tail : List ℕ = codes "- weight " ++ decimal w in
    let all : list_all is_line_byte tail ≡ true = in_line (decimal w) (digits_decimal w small) in
    let run : prefix_len is_line_byte (tail ++ 10 ∷ more) ≡ length tail = run-stops is_line_byte tail 10 more all refl in
    let long : 1 + prefix_len is_line_byte (tail ++ 10 ∷ more) ≡ length (weight_comment w) =
    omega (arith, run, length-append (codes "- weight ") (decimal w), length-append (codes "-- weight ") (decimal w)) in
    ap (λ (n : ℕ). Ok (lexeme form.LineComment n)) long

whole_weight : (w : ℕ) → w < 2 ^ 64 → weight_length (weight_comment w) ≡ Some (length (weight_comment w))
whole_weight w small =
    weight_found (weight_comment w) (length (weight_comment w)) (record {
      blanks = 32 ∷ [];
      word = weight_word;
      gap = 32 ∷ [];
      digits = decimal w;
      tail = [];
      spelled = ap (λ (ds : List ℕ). codes "-- weight " ++ ds) (sym (append-nil (decimal w)));
      before = refl;
      named = refl;
      some_gap = omega arith;
      spaces = refl;
      number = (decimal_nonempty w small, digits_decimal w small);
      behind = refl;
      place = omega (arith, length-append (codes "-- weight ") (decimal w));
    })

-- ## Groups

-- the tokens of a group stand from one place to another
pub record GroupCopied (t : Texts) (own : List Token) (w at : ℕ) (more : List ℕ) : Type 0 where
  pub mark : Token
  pub copies : List Token
  pub end : Token
  pub to : ℕ
  pub is : IsGroup t own w mark copies end
  pub are : ahead t.other at ≡ behind_tokens (mark ∷ (copies ++ end ∷ [])) (ahead t.other to)
  pub left : drop to t.other ≡ more
  pub begins : mark.span.from ≡ at
  pub onward : at ≤ to
  pub before : Each (Before to) copies

wider : (ts : List Token) (m n : ℕ) → m ≤ n → Each (Before m) ts → Each (Before n) ts
wider [] m n le h = tt
wider (x ∷ ts) m n le h = ((let own = h.0 in omega arith), wider ts m n le h.1)

pub group_copied : (t : Texts) (own : List Token) (w at : ℕ) (more : List ℕ) → w < 2 ^ 64 → Each (IsOwn t.one) own
    → drop at t.other ≡ (weight_line w ++ (spaced t.one own ++ 59 ∷ 10 ∷ [])) ++ more → GroupCopied t own w at more
group_copied t own w at more small spelled is =
    let comment : List ℕ = weight_comment w in
    let rest : List ℕ = spaced t.one own ++ 59 ∷ 10 ∷ more in
    let lines : (weight_line w ++ (spaced t.one own ++ 59 ∷ 10 ∷ [])) ++ more ≡ comment ++ 10 ∷ rest =
    append_assoc (weight_line w) (spaced t.one own ++ 59 ∷ 10 ∷ []) more
    ∙ ap (λ (xs : List ℕ). weight_line w ++ xs) (append_assoc (spaced t.one own) (59 ∷ 10 ∷ []) more)
    ∙ ap (λ (xs : List ℕ). xs ++ rest) (sym (append_assoc (codes "-- weight ") (decimal w) (10 ∷ [])))
    ∙ append_assoc comment (10 ∷ []) rest in
    let here : drop at t.other ≡ comment ++ 10 ∷ rest = is ∙ lines in
    let mark : Token = token_at kind.Weight at (length comment) in
    let behind_mark : ℕ = at + length comment in
    let one = lexeme_ahead t.other comment (10 ∷ rest) at form.LineComment here (line_front w rest small)
    ∙ ap (λ (o : Option ℕ). behind_tokens (weight_token at o) (ahead t.other behind_mark)) (whole_weight w small) in
    let feed : drop behind_mark t.other ≡ 10 ∷ rest = left_behind t.other comment (10 ∷ rest) at here in
    let two = lexeme_ahead t.other (10 ∷ []) rest behind_mark form.Blank feed refl in
    let all = copied t own (behind_mark + length {A = ℕ} (10 ∷ [])) (59 ∷ 10 ∷ more) spelled (left_behind t.other (10 ∷ []) rest behind_mark feed) in
    let end : Token = token_at kind.Symbol all.to (length {A = ℕ} (59 ∷ [])) in
    let three = lexeme_ahead t.other (59 ∷ []) (10 ∷ more) all.to (form.Token kind.Symbol) all.left (semicolon_front more) in
    let last : drop (all.to + length {A = ℕ} (59 ∷ [])) t.other ≡ 10 ∷ more = left_behind t.other (59 ∷ []) (10 ∷ more) all.to all.left in
    let four = lexeme_ahead t.other (10 ∷ []) more (all.to + length {A = ℕ} (59 ∷ [])) form.Blank last refl in
    let to : ℕ = all.to + length {A = ℕ} (59 ∷ []) + length {A = ℕ} (10 ∷ []) in
    let behind : ahead t.other all.to ≡ behind_tokens (end ∷ []) (ahead t.other to) = three ∙ ap (behind_tokens (end ∷ [])) four in
    let onward = all.onward in
    record {
      mark = mark;
      copies = all.copies;
      end = end;
      to = to;
      is = record {
        mark_kind = refl;
        mark_bytes = bytes_there t.other comment (10 ∷ rest) at kind.Weight here;
        same = all.same;
        end_kind = refl;
        end_bytes = bytes_there t.other (59 ∷ []) (10 ∷ more) all.to kind.Symbol all.left;
      };
      are =
          one
          ∙ ap (behind_tokens (mark ∷ [])) (two ∙ all.are ∙ ap (behind_tokens all.copies) behind ∙ behind_both all.copies (end ∷ []) (ahead t.other to));
      left = left_behind t.other (10 ∷ []) more (all.to + length {A = ℕ} (59 ∷ [])) last;
      begins = refl;
      onward = omega arith;
      before = wider all.copies all.to to (omega arith) all.before;
    }

-- the tokens of each group's first statement, and the group's weight
abbrev pub Entry : Type 0
Entry = List Token × ℕ

abbrev pub entries_text : List ℕ → List Entry → List ℕ
entries_text text [] = []
entries_text text (e ∷ es) = (weight_line e.1 ++ (spaced text e.0 ++ 59 ∷ 10 ∷ [])) ++ entries_text text es

abbrev pub IsEntry : List ℕ → Entry → Type 0
IsEntry text e = (e.1 < 2 ^ 64) × Each (IsOwn text) e.0

-- the tokens of a group, and where they stand
pub record IsCopy (t : Texts) (e : Entry) (at to : ℕ) (mark : Token) (copies : List Token) (end : Token) : Type 0 where
  pub is : IsGroup t e.0 e.1 mark copies end
  pub begins : mark.span.from ≡ at
  pub before : Each (Before to) copies

abbrev pub AreCopies : Texts → List Entry → ℕ → List Token → Type 0
AreCopies t [] at tokens = tokens ≡ []
AreCopies t (e ∷ es) at tokens =
    (to : ℕ) × (mark end : Token) × (copies rest : List Token) × (tokens ≡ mark ∷ (copies ++ end ∷ rest))
    × IsCopy t e at to mark copies end × AreCopies t es to rest

-- they are all that is ahead
pub record AllCopied (t : Texts) (es : List Entry) (at : ℕ) : Type 0 where
  pub tokens : List Token
  pub are : AreCopies t es at tokens
  pub all : ahead t.other at ≡ behind_tokens tokens nothing

pub all_copied : (t : Texts) (es : List Entry) (at : ℕ) → Each (IsEntry t.one) es → drop at t.other ≡ entries_text t.one es → AllCopied t es at
all_copied t [] at good is =
    let end : length t.other ≤ at = omega (arith, ap length is, length-drop at t.other) in
    record { tokens = []; are = refl; all = ahead_end t.other at end }
all_copied t (e ∷ es) at good is =
    let g = group_copied t e.0 e.1 at (entries_text t.one es) good.0.0 good.0.1 is in
    let later = all_copied t es g.to good.1 g.left in
    record {
      tokens = g.mark ∷ (g.copies ++ g.end ∷ later.tokens);
      are = (g.to, g.mark, g.end, g.copies, later.tokens, refl, record { is = g.is; begins = g.begins; before = g.before }, later.are);
      all =
          g.are
          ∙ ap (behind_tokens (g.mark ∷ (g.copies ++ g.end ∷ []))) later.all
          ∙ behind_both (g.mark ∷ (g.copies ++ g.end ∷ [])) later.tokens nothing
          ∙ ap (λ (ts : List Token). behind_tokens (g.mark ∷ ts) nothing) (append_assoc g.copies (g.end ∷ []) later.tokens);
    }

-- a text of groups is cut into their tokens
pub copies_are_tokens : (t : Texts) (tokens : List Token) → ahead t.other 0 ≡ behind_tokens tokens nothing → AreTokens t.other tokens
copies_are_tokens t tokens all =
    subst (AreTokens t.other) (append-nil tokens) (subst (λ (a : Ahead). Tells t.other a.tokens a.fault) all (tells_ahead t.other))
