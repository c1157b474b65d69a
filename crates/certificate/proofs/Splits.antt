-- A text has its lines alone.
use Rattle.std.proofs.Common.{◌≡◌, ◌≢◌, ◌∙◌, ℕ, suc, ◌+◌, ◌<◌, ◌≤◌, ◌^◌, true, Bool, List, [], ◌∷◌, ◌++◌, length, map, sym, ap, subst, refl, arith, length-append}
use Rattle.std.specs.Prelude.{ℤ, pos, negsuc, decimal, codes, nat_lt, ◌&&◌}
use Rattle.std.specs.Fmt.{signed_decimal}
use Rattle.std.specs.List.{AllByRecursion}
use Rattle.std.proofs.lemmas.List.Sums.{sum_by-append}
use Rattle.std.specs.Str.Parse.{AllDigits}
use Rattle.std.proofs.lemmas.Bool.Decides.{nat_tests}
use Rattle.std.proofs.lemmas.List.{append-nil, append_assoc}
use Rattle.std.proofs.lemmas.List.Elements.{All-from_recursion}
use Rattle.std.proofs.lemmas.Str.Parse.{digit_from_value}
use Rattle.adv_base.specs.Numbers.{BeginsWithLine}
use Rattle.adv_base.proofs.LineLaws.{one_line}
use Rattle.bip_model.specs.declared.answer.Node.{Node}
use Rattle.bip_model.specs.declared.answer.Node.TheVariants.{Branch, Bounded, Overfull}
use Rattle.certificate.specs.Certificates.{IsCertificate, IsLine, GoesOn}
use Rattle.certificate.specs.Limits.{Rise, IsSmall, EntryLimits, EntriesFrom, SetLimits, NodeLimits, CertLimits, entry_count, entry_place}
use Rattle.adv_base.specs.declared.limits.TheConstants.{MOST_ENTRIES}
use Rattle.certificate.specs.Texts.{text_of, word, words, title_line, budget_line, config_line, cost_line, bound_line, sets_line, set_line, entry_line, tree_line, node_line, end_line, set_lines, sets_lines, tree_lines, cert_lines}
use Rattle.certificate.specs.declared.cert.Cert.{Cert}
use Rattle.certificate.specs.declared.cert.Entry.{Entry}
use Rattle.certificate.specs.declared.cert.SparseSet.{SparseSet}
use Rattle.certificate.specs.inner.Outlines.{Draft}
use Rattle.certificate.specs.declared.stage.Stage.TheVariants as stages
use Rattle.certificate.specs.inner.Runs.{Run}
use Rattle.certificate.specs.inner.Steps.{start, StepAt}
use Rattle.certificate.proofs.WideDigits.{wide-digits}
use Rattle.certificate.proofs.Complete.{complete}
use Rattle.certificate.proofs.Deterministic.{no-run, run-one}
use Rattle.certificate.proofs.ReadLaws.{start-fits}

-- no line feed in a text of forms

abbrev Plain : List ℕ → Type 0
Plain bytes = AllByRecursion (λ (b : ℕ). b ≢ 10) bytes

pub all-append : {X : Type 0} (P : X → Type 0) (xs ys : List X) → AllByRecursion P xs → AllByRecursion P ys → AllByRecursion P (xs ++ ys)
all-append P [] ys h g = g
all-append P (x ∷ xs) ys h g = (h.0, all-append P xs ys h.1 g)

abbrev above : List ℕ → Bool
above [] = true
above (b ∷ bs) = nat_lt 10 b && above bs

above-first : (b : ℕ) (bs : List ℕ) → above (b ∷ bs) ≡ true → (b ≢ 10) × (above bs ≡ true)
above-first b bs h = grind (arith, nat_tests)

plain-codes : (bs : List ℕ) → above bs ≡ true → Plain bs
plain-codes [] h = tt
plain-codes (b ∷ bs) h = let parts = above-first b bs h in (parts.0, plain-codes bs parts.1)

plain-digits : (ds : List ℕ) → AllDigits 10 ds → Plain ds
plain-digits [] h = tt
plain-digits (d ∷ ds) h = (λ e. omega (arith, digit_from_value d h.0, e), plain-digits ds h.1)

plain-word : (n : ℕ) → n < 2 ^ 128 → Plain (word n)
plain-word n h = (λ e. omega arith, plain-digits (decimal n) (wide-digits n h))

plain-words : (least : ℕ) (ns : List ℕ) → Rise least ns → Plain (words ns)
plain-words least [] h = tt
plain-words least (n ∷ ns) h = all-append (λ (b : ℕ). b ≢ 10) (word n) (words ns) (plain-word n (omega (arith, h.1))) (plain-words (n + 1) ns h.2)

plain-signed : (z : ℤ) → IsSmall z → Plain (signed_decimal z)
plain-signed (pos n) h = plain-digits (decimal n) (wide-digits n (omega arith))
plain-signed (negsuc n) h = (λ e. omega arith, plain-digits (decimal (suc n)) (wide-digits (suc n) (omega arith)))

line-of : (bs : List ℕ) → Plain bs → IsLine bs
line-of bs h = All-from_recursion (λ (b : ℕ). b ≢ 10) bs h

both : (xs ys : List ℕ) → Plain xs → Plain ys → Plain (xs ++ ys)
both xs ys h g = all-append (λ (b : ℕ). b ≢ 10) xs ys h g

number-plain : (front : List ℕ) (n : ℕ) → above front ≡ true → n < 2 ^ 128 → IsLine (front ++ word n)
number-plain front n h small = line-of (front ++ word n) (both front (word n) (plain-codes front h) (plain-word n small))

entry-plain : (e : Entry) → EntryLimits e → IsLine (entry_line e)
unfolding entry_line
entry-plain e h =
    line-of (decimal e.statement ++ (word e.slot ++ (word e.candidate ++ word e.lambda))) (both (decimal e.statement) (word e.slot ++ (word e.candidate ++ word e.lambda)) (plain-digits (decimal e.statement) (wide-digits e.statement (omega (arith, h.statement_most))))
    (both (word e.slot) (word e.candidate ++ word e.lambda) (plain-word e.slot (omega (arith, h.slot_most)))
    (both (word e.candidate) (word e.lambda) (plain-word e.candidate (omega (arith, h.candidate_most))) (plain-word e.lambda (omega (arith, h.lambda_most))))))

entries-plain : (least : ℕ) (es : List Entry) → EntriesFrom least es → AllByRecursion IsLine (map entry_line es)
entries-plain least [] h = tt
entries-plain least (e ∷ es) h = (entry-plain e h.0, entries-plain (entry_place e + 1) es h.2)

set-plain : (mu count : ℕ) → mu < 2 ^ 128 → count < 2 ^ 128 → IsLine (set_line mu count)
unfolding set_line
set-plain mu count h g = line-of (codes "set" ++ (word mu ++ word count)) (both (codes "set") (word mu ++ word count) (plain-codes (codes "set") refl) (both (word mu) (word count) (plain-word mu h) (plain-word count g)))

sets-plain : (ss : List SparseSet) → AllByRecursion SetLimits ss → entry_count ss ≤ MOST_ENTRIES → AllByRecursion IsLine (sets_lines ss)
sets-plain [] h few = tt
sets-plain (s ∷ ss) h few =
    let total : entry_count (s ∷ ss) ≡ 0 + length s.entries + entry_count ss = sum_by-append (λ (x : SparseSet). length x.entries) (s ∷ []) ss in
    all-append IsLine (set_lines s) (sets_lines ss) (set-plain s.mu (length s.entries) (omega (arith, h.0.price)) (omega (arith, few)), entries-plain 0 s.entries h.0.entries) (sets-plain ss h.1 (omega (arith, few)))

pub node-plain : (sets : ℕ) (node : Node) → sets ≤ 16 → NodeLimits sets node → IsLine (node_line node)
unfolding node_line
node-plain sets (Branch a) few h = number-plain (codes "B") a refl (omega (arith, h.1))
node-plain sets (Bounded k) few h = number-plain (codes "L") k refl (omega (arith, h))
node-plain sets Overfull few h = line-of (codes "X") (plain-codes (codes "X") refl)

nodes-plain : (sets : ℕ) (ns : List Node) → sets ≤ 16 → AllByRecursion (NodeLimits sets) ns → AllByRecursion IsLine (map node_line ns)
nodes-plain sets [] few h = tt
nodes-plain sets (n ∷ ns) few h = (node-plain sets n few h.0, nodes-plain sets ns few h.1)

-- the lines of a certificate have no line feed
pub cert-plain : (c : Cert) → CertLimits c → AllByRecursion IsLine (cert_lines c)
unfolding title_line budget_line config_line cost_line bound_line sets_line tree_line end_line
cert-plain c h =
    let sets = sets-plain c.sets h.sets h.few_entries in
    let nodes = nodes-plain (length c.sets) c.tree h.few_sets h.nodes in
    let tree : AllByRecursion IsLine (tree_lines c.tree) = (number-plain (codes "tree") (length c.tree) refl (omega (arith, h.few_nodes)), nodes) in (
      number-plain (codes "cophy certificate") c.version refl (omega (arith, h.version_most)),
      (
        number-plain (codes "budget") c.budget refl (omega (arith, h.budget)),
        (
          line-of (codes "config" ++ words c.config) (both (codes "config") (words c.config) (plain-codes (codes "config") refl) (plain-words 1 c.config h.config)),
          (
            number-plain (codes "cost") c.cost refl (omega (arith, h.cost)),
            (
              line-of (codes "bound " ++ signed_decimal c.bound) (both (codes "bound ") (signed_decimal c.bound) (plain-codes (codes "bound ") refl) (plain-signed c.bound h.bound)),
              (
                number-plain (codes "sets") (length c.sets) refl (omega (arith, h.few_sets)),
                all-append IsLine (sets_lines c.sets) (tree_lines c.tree ++ end_line ∷ []) sets (all-append IsLine (tree_lines c.tree) (end_line ∷ []) tree (line-of (codes "end") (plain-codes (codes "end") refl), tt)),
              ),
            ),
          ),
        ),
      ),
    )

-- lines of one text

cut : (line more : List ℕ) (rest : List ℕ) → (line ++ 10 ∷ more) ++ rest ≡ line ++ 10 ∷ (more ++ rest)
cut line more rest = append_assoc line (10 ∷ more) rest

pub lines-front : (xs ys : List (List ℕ)) (more : List ℕ) → AllByRecursion IsLine xs → AllByRecursion IsLine ys → text_of xs ≡ text_of ys ++ more → (zs : List (List ℕ)) × (xs ≡ ys ++ zs) × (text_of zs ≡ more)
lines-front xs [] more h g e = (xs, refl, e)
lines-front [] (y ∷ ys) more h g e = absurd (omega (arith, ap length e, length-append (y ++ 10 ∷ text_of ys) more, length-append y (10 ∷ text_of ys)))
lines-front (x ∷ xs) (y ∷ ys) more h g e =
    let same = one_line (text_of (x ∷ xs)) x (text_of xs) y (text_of ys ++ more) (record { parts = refl; whole = h.0 }) (record { parts = e ∙ cut y (text_of ys) more; whole = g.0 }) in
    let rest = lines-front xs ys more h.1 g.1 same.1 in
    (rest.0, ap (λ (l : List ℕ). l ∷ xs) same.0 ∙ ap (λ (ls : List (List ℕ)). y ∷ ls) rest.1, rest.2)

pub one-longer : (xs ys : List (List ℕ)) (r s : List ℕ) → AllByRecursion IsLine xs → AllByRecursion IsLine ys → length ys ≡ suc (length xs) → text_of xs ++ r ≡ text_of ys ++ s →
    (line : List ℕ) × (ys ≡ xs ++ line ∷ []) × BeginsWithLine r line s
one-longer [] [] r s h g size e = absurd (omega arith)
one-longer [] (y ∷ []) r s h g size e = (y, refl, record { parts = e ∙ cut y [] s; whole = g.0 })
one-longer [] (y ∷ z ∷ ys) r s h g size e = absurd (omega arith)
one-longer (x ∷ xs) [] r s h g size e = absurd (omega arith)
one-longer (x ∷ xs) (y ∷ ys) r s h g size e =
    let text : List ℕ = text_of (x ∷ xs) ++ r in
    let same = one_line text x (text_of xs ++ r) y (text_of ys ++ s) (record { parts = cut x (text_of xs) r; whole = h.0 }) (record { parts = e ∙ cut y (text_of ys) s; whole = g.0 }) in
    let rest = one-longer xs ys r s h.1 g.1 (omega arith) same.1 in
    (rest.0, ap (λ (l : List ℕ). l ∷ ys) (sym same.0) ∙ ap (λ (ls : List (List ℕ)). x ∷ ls) rest.1, rest.2)

-- no certificate goes on with a line that no step takes

stuck : (lines more : List (List ℕ)) (line : List ℕ) (d : Draft) (c : Cert) → Run start lines d → ((f : Draft) → StepAt d.stage d line f → ⊥) → CertLimits c → cert_lines c ≡ lines ++ line ∷ more → ⊥
stuck lines more line d c run none limits e =
    let all = complete c limits in
    no-run lines more line start d all.0 start-fits run none (subst (λ (ls : List (List ℕ)). Run start ls all.0) e all.1)

pub no-line : (bytes rest line more : List ℕ) (lines : List (List ℕ)) (d : Draft) → bytes ≡ text_of lines ++ rest → AllByRecursion IsLine lines → Run start lines d → BeginsWithLine rest line more →
    ((f : Draft) → StepAt d.stage d line f → ⊥) → GoesOn bytes (suc (length lines)) → ⊥
no-line bytes rest line more lines d parts whole run begins none g =
    let long = one-longer lines g.lines rest g.rest whole g.whole g.count_is (sym parts ∙ g.parts) in
    let same = one_line rest long.0 g.rest line more long.2 begins in
    let are : g.lines ≡ lines ++ line ∷ [] = long.1 ∙ ap (λ (l : List ℕ). lines ++ l ∷ []) same.0 in
    let front = lines-front (cert_lines g.cert) g.lines g.more (cert-plain g.cert g.limits) g.whole g.text in
    stuck lines front.0 line d g.cert run none g.limits (front.1 ∙ ap (λ (ls : List (List ℕ)). ls ++ front.0) are ∙ append_assoc lines (line ∷ []) front.0)

begun-line : (zs : List (List ℕ)) (rest line more : List ℕ) → AllByRecursion IsLine zs → text_of zs ≡ rest → BeginsWithLine rest line more → (ws : List (List ℕ)) × (zs ≡ line ∷ ws)
begun-line [] rest line more h e begins = absurd (omega (arith, ap length e, ap length begins.parts, length-append line (10 ∷ more)))
begun-line (z ∷ zs) rest line more h e begins =
    let same = one_line rest z (text_of zs) line more (record { parts = sym e; whole = h.0 }) begins in
    (zs, ap (λ (l : List ℕ). l ∷ zs) same.0)

pub all-behind : {X : Type 0} (P : X → Type 0) (xs ys : List X) → AllByRecursion P (xs ++ ys) → AllByRecursion P ys
all-behind P [] ys h = h
all-behind P (x ∷ xs) ys h = all-behind P xs ys h.1

-- nor are bytes with that line a certificate's text
pub no-cert : (bytes rest line more : List ℕ) (lines : List (List ℕ)) (d : Draft) → bytes ≡ text_of lines ++ rest → AllByRecursion IsLine lines → Run start lines d → BeginsWithLine rest line more →
    ((f : Draft) → StepAt d.stage d line f → ⊥) → (c : Cert) → IsCertificate bytes c → ⊥
no-cert bytes rest line more lines d parts whole run begins none c is =
    let front = lines-front (cert_lines c) lines rest (cert-plain c is.limits) whole (sym is.text ∙ parts) in
    let plain = all-behind IsLine lines front.0 (subst (AllByRecursion IsLine) front.1 (cert-plain c is.limits)) in
    let next = begun-line front.0 rest line more plain front.2 begins in
    stuck lines next.0 line d c run none is.limits (front.1 ∙ ap (λ (ls : List (List ℕ)). lines ++ ls) next.1)

-- bytes without a further line

pub no-more : (bytes rest : List ℕ) (lines : List (List ℕ)) → bytes ≡ text_of lines ++ rest → AllByRecursion IsLine lines → ((line more : List ℕ) → BeginsWithLine rest line more → ⊥) → GoesOn bytes (suc (length lines)) → ⊥
no-more bytes rest lines parts whole none g =
    let long = one-longer lines g.lines rest g.rest whole g.whole g.count_is (sym parts ∙ g.parts) in
    none long.0 g.rest long.2

no-lines : (zs : List (List ℕ)) (rest : List ℕ) → AllByRecursion IsLine zs → text_of zs ≡ rest → ((line more : List ℕ) → BeginsWithLine rest line more → ⊥) → zs ≡ []
no-lines [] rest h e none = refl
no-lines (z ∷ zs) rest h e none = absurd (none z (text_of zs) (record { parts = sym e; whole = h.0 }))

-- a certificate's text that has no further line was read to its end
pub ended : (bytes rest : List ℕ) (lines : List (List ℕ)) (d : Draft) → bytes ≡ text_of lines ++ rest → AllByRecursion IsLine lines → Run start lines d → ((line more : List ℕ) → BeginsWithLine rest line more → ⊥) →
    (c : Cert) → IsCertificate bytes c → (rest ≡ []) × (d.stage ≡ stages.Done)
ended bytes rest lines d parts whole run none c is =
    let front = lines-front (cert_lines c) lines rest (cert-plain c is.limits) whole (sym is.text ∙ parts) in
    let plain = all-behind IsLine lines front.0 (subst (AllByRecursion IsLine) front.1 (cert-plain c is.limits)) in
    let nothing = no-lines front.0 rest plain front.2 none in
    let all = complete c is.limits in
    let lines_are : cert_lines c ≡ lines = front.1 ∙ ap (λ (ls : List (List ℕ)). lines ++ ls) nothing ∙ append-nil lines in
    let same : d ≡ all.0 = run-one lines start d all.0 start-fits run (subst (λ (ls : List (List ℕ)). Run start ls all.0) lines_are all.1) in
    (sym front.2 ∙ ap text_of nothing, ap (λ (x : Draft). x.stage) same ∙ all.2)
