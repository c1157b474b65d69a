-- The lines of a configuration file.
use Rattle.std.proofs.Common.{◌≡◌, ◌≢◌, ℕ, ◌+◌, ◌-◌, ◌<◌, ◌≤◌, ◌^◌, Bool, true, false, List, [], ◌∷◌, ◌++◌, length, Some, slice_get, replicate, get_or, set, append_assoc, refl, sym, ap, subst, ◌∙◌, arith, get_or-set_other, length-set}
use Rattle.std.specs.Prelude.{decimal, All}
use Rattle.std.specs.Str.Parse.{AllDigits}
use Rattle.std.specs.Char.{digit_value}
use Rattle.std.proofs.lemmas.Bool.{false≢true}
use Rattle.std.proofs.lemmas.Fmt.{decimal_injective, decimal_is_IsNumeral}
use Rattle.std.proofs.lemmas.List.{append-nil, append_cancel_left, get_or-replicate, length-replicate}
use Rattle.std.proofs.lemmas.List.Elements.{All-nil, All-cons}
use Rattle.std.proofs.lemmas.Option.{slice_get_within, get_or_from_slice_get, slice_get-get_or}
use Rattle.adv_base.proofs.LineLaws.{one_line}
use Rattle.adv_base.specs.declared.setting.Config.{Config}
use Rattle.adv_base.specs.Numbers.{BeginsWithLine}
use Rattle.cophy_core.specs.Confs.{lines_of, Rise, last_of, flags_with, NoLine, IsConf, IsConfFault}

no_feed : (digits : List ℕ) → AllDigits 10 digits → All (λ byte. byte ≢ 10) digits
no_feed [] h = All-nil (λ byte. byte ≢ 10)
no_feed (c ∷ cs) h =
    All-cons (λ byte. byte ≢ 10) c cs
    (λ e. let low : digit_value 10 < 10 = subst (λ (b : ℕ). digit_value b < 10) e h.0 in absurd (omega (arith, low)))
    (no_feed cs h.1)

-- the line of a number is a first line
pub number_line : (bytes : List ℕ) (n : ℕ) (more : List ℕ) → n < 2 ^ 64 → bytes ≡ decimal n ++ 10 ∷ more → BeginsWithLine bytes (decimal n) more
number_line bytes n more small e = record { parts = e; whole = no_feed (decimal n) (decimal_is_IsNumeral n small).0.1 }

-- one line more
pub lines_of-more : (ns : List ℕ) (n : ℕ) → lines_of (ns ++ n ∷ []) ≡ lines_of ns ++ (decimal n ++ 10 ∷ [])
lines_of-more [] n = refl
lines_of-more (m ∷ ns) n =
    ap (λ (t : List ℕ). decimal m ++ 10 ∷ t) (lines_of-more ns n) ∙ sym (append_assoc (decimal m) (10 ∷ lines_of ns) (decimal n ++ 10 ∷ []))

pub text-more : (bytes rest more : List ℕ) (ns : List ℕ) (n : ℕ) → bytes ≡ lines_of ns ++ rest → rest ≡ decimal n ++ 10 ∷ more → bytes ≡ lines_of (ns ++ n ∷ []) ++ more
text-more bytes rest more ns n is e =
    is ∙ ap (λ (t : List ℕ). lines_of ns ++ t) (e ∙ sym (append_assoc (decimal n) (10 ∷ []) more))
    ∙ sym (append_assoc (lines_of ns) (decimal n ++ 10 ∷ []) more) ∙ ap (λ (t : List ℕ). t ++ more) (sym (lines_of-more ns n))

pub Rise-more : (count last : ℕ) (ns : List ℕ) (n : ℕ) → Rise count last ns → last_of last ns < n → n ≤ count → Rise count last (ns ++ n ∷ [])
Rise-more count last [] n rise above within = (above, (within, tt))
Rise-more count last (m ∷ ns) n rise above within = (rise.0, (rise.1.0, Rise-more count m ns n rise.1.1 above within))

pub last_of-more : (last : ℕ) (ns : List ℕ) (n : ℕ) → last_of last (ns ++ n ∷ []) ≡ n
last_of-more last [] n = refl
last_of-more last (m ∷ ns) n = last_of-more m ns n

pub flags_with-more : (flags : List Bool) (ns : List ℕ) (n : ℕ) → flags_with flags (ns ++ n ∷ []) ≡ set (flags_with flags ns) (n - 1) true
flags_with-more flags [] n = refl
flags_with-more flags (m ∷ ns) n = flags_with-more (set flags (m - 1) true) ns n

-- no flag of none is on
pub none_on : (n a : ℕ) → slice_get (replicate n false) a ≡ Some true → ⊥
none_on n a e =
    let within = slice_get_within (replicate n false) a true e in
    let short : a < n = rw (← length-replicate n false) within in
    let off : get_or (replicate n false) a false ≡ false = get_or-replicate n a false false short in
    false≢true (sym off ∙ get_or_from_slice_get (replicate n false) a true false e)

-- a flag that is on stands at the place that was set, or was on before
pub on_before : (flags : List Bool) (i a : ℕ) → a ≢ i → slice_get (set flags i true) a ≡ Some true → slice_get flags a ≡ Some true
on_before flags i a apart e =
    let within = slice_get_within (set flags i true) a true e in
    let short : a < length flags = rw (← length-set flags i true) within in
    let on : get_or (set flags i true) a false ≡ true = get_or_from_slice_get (set flags i true) a true false e in
    let same : get_or (set flags i true) a false ≡ get_or flags a false = get_or-set_other flags i a true false apart in
    slice_get-get_or flags a false short ∙ ap Some (sym same ∙ on)

-- ## A file has one meaning

pub not_nothing : {A : Type 0} (front rest : List A) (x : A) → [] ≡ front ++ x ∷ rest → ⊥
not_nothing [] rest x e = cc
not_nothing (y ∷ ys) rest x e = cc

-- a line is that of one number
one_number : (n m : ℕ) (rest more : List ℕ) → n < 2 ^ 64 → m < 2 ^ 64 → decimal n ++ 10 ∷ rest ≡ decimal m ++ 10 ∷ more → (n ≡ m) × (rest ≡ more)
one_number n m rest more small few e =
    let bytes = decimal n ++ 10 ∷ rest in
    let same = one_line bytes (decimal n) rest (decimal m) more (number_line bytes n rest small refl) (number_line bytes m more few e) in
    (decimal_injective n m small few same.0, same.1)

first_apart : (n : ℕ) (ns rest : List ℕ) → lines_of (n ∷ ns) ++ rest ≡ decimal n ++ 10 ∷ (lines_of ns ++ rest)
first_apart n ns rest = append_assoc (decimal n) (10 ∷ lines_of ns) rest

-- there is one way to read lines of rising numbers up to where none goes on
one_end : (count last : ℕ) (ns ms rest more : List ℕ) → count < 2 ^ 64 → Rise count last ns → Rise count last ms → lines_of ns ++ rest ≡ lines_of ms ++ more → NoLine count (last_of last ns) rest → NoLine count (last_of last ms) more → ns ≡ ms
one_end count last [] [] rest more few rise up e end stop = refl
one_end count last [] (m ∷ ms) rest more few rise up e end stop = absurd (end m (lines_of ms ++ more) up.0 up.1.0 (e ∙ first_apart m ms more))
one_end count last (n ∷ ns) [] rest more few rise up e end stop = absurd (stop n (lines_of ns ++ rest) rise.0 rise.1.0 (sym e ∙ first_apart n ns rest))
one_end count last (n ∷ ns) (m ∷ ms) rest more few rise up e end stop =
    let same = one_number n m (lines_of ns ++ rest) (lines_of ms ++ more) (omega (arith, rise.1.0, few)) (omega (arith, up.1.0, few)) (sym (first_apart n ns rest) ∙ e ∙ first_apart m ms more) in
    let left : Rise count m ns = subst (λ (k : ℕ). Rise count k ns) same.0 rise.1.1 in
    let same_end : NoLine count (last_of m ns) rest = subst (λ (k : ℕ). NoLine count (last_of k ns) rest) same.0 end in
    let behind = one_end count m ns ms rest more few left up.1.1 same.1 same_end stop in
    let first = same.0 in
    cc

none_left : (count last : ℕ) → NoLine count last []
none_left count last n more above within e = not_nothing (decimal n) more 10 e

-- a configuration has no fault
pub conf_or_fault : (count : ℕ) (bytes : List ℕ) (config : Config) (line : ℕ) → count < 2 ^ 64 → IsConf count bytes config → IsConfFault count bytes line → ⊥
conf_or_fault count bytes config line few is fault =
    let all = append-nil (lines_of is.numbers) ∙ sym is.text ∙ fault.text in
    let same = one_end count 0 is.numbers fault.numbers [] fault.rest few is.rise fault.rise all (none_left count (last_of 0 is.numbers)) fault.no_line in
    let whole = subst (λ (ns : List ℕ). lines_of ns ++ [] ≡ lines_of fault.numbers ++ fault.rest) same all in
    fault.some (sym (append_cancel_left (lines_of fault.numbers) [] fault.rest whole))

-- a file has one first fault
pub one_conf_fault : (count : ℕ) (bytes : List ℕ) (line other : ℕ) → count < 2 ^ 64 → IsConfFault count bytes line → IsConfFault count bytes other → line ≡ other
one_conf_fault count bytes line other few a b =
    let same = one_end count 0 a.numbers b.numbers a.rest b.rest few a.rise b.rise (sym a.text ∙ b.text) a.no_line b.no_line in
    a.line_is ∙ ap (λ (ns : List ℕ). length ns + 1) same ∙ sym b.line_is
