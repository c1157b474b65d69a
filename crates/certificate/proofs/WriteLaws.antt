-- What is written, turn by turn.
use Rattle.std.proofs.Common.{◌≡◌, ◌∙◌, ℕ, zero, suc, ◌+◌, ◌<◌, ◌≤◌, ◌==◌, Bool, true, false, not, cond, List, [], ◌∷◌, ◌++◌, length, map, get_or, take, drop, sym, ap, refl, arith, length-append, add-one, drop-cons}
use Rattle.std.specs.Prelude.{ℤ, codes, sum_by}
use Rattle.std.proofs.lemmas.Bool.{ne_eqb}
use Rattle.std.proofs.lemmas.List.{append_assoc, at_drop_all, length-map}
use Rattle.std.proofs.lemmas.List.Sums.{sum_by-cons}
use Rattle.bip_model.specs.declared.answer.Answer.{Answer}
use Rattle.bip_model.specs.declared.answer.Node.{Node}
use Rattle.bip_model.specs.declared.grant.Grant.{Grant}
use Rattle.bip_model.specs.declared.multipliers.Multipliers.{Multipliers}
use Rattle.bip_model.specs.declared.part.Part.{Part}
use Rattle.bip_model.specs.declared.programme.Programme.{Programme}
use Rattle.bip_model.specs.declared.slot_part.SlotPart.{SlotPart}
use Rattle.bip_model.specs.Values.{part_grants, grant_count}
use Rattle.bip_model.specs.Views.{Place, slot_places, part_places, places, AreMultipliers}
use Rattle.bip_model.proofs.Using.{places-counted}
use Rattle.certificate.specs.Answers.{entry_of, entries_of, sparse_set, numbers_from, answer_cert, rent_count}
use Rattle.certificate.specs.Texts.{text_of, word, words, title_line, budget_line, config_line, cost_line, bound_line, sets_line, set_line, entry_line, tree_line, node_line, end_line, head_lines, set_lines, sets_lines, cert_text}
use Rattle.certificate.specs.declared.cert.Entry.{Entry}
use Rattle.certificate.specs.inner.Writing.{grant_place, entries_text, nodes_text, sets_text, word_if}
use Rattle.certificate.proofs.ReadLaws.{text-append}

-- what is left of a list begins with the element there
pub drop-next : {X : Type 0} (xs : List X) (i : ℕ) (x d : X) → i < length xs → x ≡ get_or xs i d → drop i xs ≡ x ∷ drop (i + 1) xs
drop-next {X} xs i x d h e = rw (add-one, drop-cons xs i d) (ap (λ (y : X). y ∷ drop (suc i) xs) (sym e))

-- one turn of a writer: what it wrote, and what is left, are what was left
pub turn-over : (out new own front rest back all : List ℕ) → new ≡ out ++ own → own ≡ front → rest ≡ back → all ≡ front ++ back → new ++ rest ≡ out ++ all
turn-over out new own front rest back all wrote is left turn =
    (λ i. wrote i ++ left i) ∙ ap (λ (t : List ℕ). (out ++ t) ++ back) is ∙ append_assoc out front back ∙ ap (λ (t : List ℕ). out ++ t) (sym turn)

-- numbers of a configuration

numbers-step : (flag : Bool) (n : ℕ) (flags : List Bool) → words (numbers_from n (flag ∷ flags)) ≡ word_if flag n ++ words (numbers_from (n + 1) flags)
numbers-step true n flags = let next : suc n ≡ n + 1 = omega arith in ap (λ (k : ℕ). word n ++ words (numbers_from k flags)) next
numbers-step false n flags = let next : suc n ≡ n + 1 = omega arith in ap (λ (k : ℕ). words (numbers_from k flags)) next

pub numbers-turn : (n i : ℕ) (flags : List Bool) (flag d : Bool) → i < length flags → flag ≡ get_or flags i d →
    words (numbers_from n (drop i flags)) ≡ word_if flag n ++ words (numbers_from (n + 1) (drop (i + 1) flags))
numbers-turn n i flags flag d h e =
    ap (λ (fs : List Bool). words (numbers_from n fs)) (drop-next flags i flag d h e) ∙ numbers-step flag n (drop (i + 1) flags)

pub numbers-end : (n i : ℕ) (flags : List Bool) → length flags ≤ i → words (numbers_from n (drop i flags)) ≡ []
numbers-end n i flags h = at_drop_all (λ (fs : List Bool). words (numbers_from n fs)) flags i h

-- nodes

pub nodes-turn : (i : ℕ) (nodes : List Node) (node d : Node) → i < length nodes → node ≡ get_or nodes i d →
    nodes_text (drop i nodes) ≡ (node_line node ++ 10 ∷ []) ++ nodes_text (drop (i + 1) nodes)
unfolding nodes_text
nodes-turn i nodes node d h e =
    ap (λ (ns : List Node). text_of (map node_line ns)) (drop-next nodes i node d h e) ∙ sym (append_assoc (node_line node) (10 ∷ []) (text_of (map node_line (drop (i + 1) nodes))))

pub nodes-end : (i : ℕ) (nodes : List Node) → length nodes ≤ i → nodes_text (drop i nodes) ≡ []
unfolding nodes_text
nodes-end i nodes h = at_drop_all (λ (ns : List Node). text_of (map node_line ns)) nodes i h

-- entries

pub entries-append : (es fs : List Entry) → entries_text (es ++ fs) ≡ entries_text es ++ entries_text fs
unfolding entries_text
entries-append [] fs = refl
entries-append (e ∷ es) fs =
    ap (λ (t : List ℕ). entry_line e ++ 10 ∷ t) (entries-append es fs) ∙ sym (append_assoc (entry_line e) (10 ∷ text_of (map entry_line es)) (text_of (map entry_line fs)))

pub grants-turn : (q s i : ℕ) (grants : List Grant) (rents : List ℕ) (grant d : Grant) (rent : ℕ) → i < length grants → i < length rents → grant ≡ get_or grants i d → rent ≡ get_or rents i 0 →
    entries_text (entries_of (map (grant_place q s) (drop i grants)) (drop i rents))
    ≡ entries_text (entry_of (grant_place q s grant) rent) ++ entries_text (entries_of (map (grant_place q s) (drop (i + 1) grants)) (drop (i + 1) rents))
grants-turn q s i grants rents grant d rent h k e f =
    ap (λ (gs : List Grant). entries_text (entries_of (map (grant_place q s) gs) (drop i rents))) (drop-next grants i grant d h e)
    ∙ ap (λ (rs : List ℕ). entries_text (entries_of (map (grant_place q s) (grant ∷ drop (i + 1) grants)) rs)) (drop-next rents i rent 0 k f)
    ∙ entries-append (entry_of (grant_place q s grant) rent) (entries_of (map (grant_place q s) (drop (i + 1) grants)) (drop (i + 1) rents))

pub grants-end : (q s i : ℕ) (grants : List Grant) (rents : List ℕ) → length grants ≤ i → entries_text (entries_of (map (grant_place q s) (drop i grants)) rents) ≡ []
unfolding entries_text
grants-end q s i grants rents h = at_drop_all (λ (gs : List Grant). text_of (map entry_line (entries_of (map (grant_place q s) gs) rents))) grants i h

entries-none : (ps : List Place) → entries_of ps [] ≡ []
entries-none [] = refl
entries-none (p ∷ ps) = refl

-- the rents of a front of places are a front of the rents
entries-split : (ps qs : List Place) (rents : List ℕ) (n : ℕ) → n ≡ length ps → entries_of (ps ++ qs) rents ≡ entries_of ps (take n rents) ++ entries_of qs (drop n rents)
entries-split [] qs rents zero size = refl
entries-split [] qs rents (suc n) size = absurd (omega arith)
entries-split (p ∷ ps) qs rents zero size = absurd (omega arith)
entries-split (p ∷ ps) qs [] (suc n) size = sym (entries-none qs)
entries-split (p ∷ ps) qs (rent ∷ rents) (suc n) size =
    ap (λ (es : List Entry). entry_of p rent ++ es) (entries-split ps qs rents n (omega arith))
    ∙ sym (append_assoc (entry_of p rent) (entries_of ps (take n rents)) (entries_of qs (drop n rents)))

length-places : (q s : ℕ) (grants : List Grant) → length (map (grant_place q s) grants) ≡ length grants
length-places q s [] = refl
length-places q s (grant ∷ grants) = ap suc (length-places q s grants)

-- slots

pub slots-turn : (q s : ℕ) (slots : List SlotPart) (slot d : SlotPart) (rents : List ℕ) → s < length slots → slot ≡ get_or slots s d →
    entries_text (entries_of (slot_places q s (drop s slots)) rents)
    ≡ entries_text (entries_of (map (grant_place q s) slot.grants) (take (length slot.grants) rents)) ++ entries_text (entries_of (slot_places q (s + 1) (drop (s + 1) slots)) (drop (length slot.grants) rents))
slots-turn q s slots slot d rents h e =
    let n : ℕ = length slot.grants in
    let rest : List Place = slot_places q (s + 1) (drop (s + 1) slots) in
    let next : suc s ≡ s + 1 = omega arith in
    ap (λ (ss : List SlotPart). entries_text (entries_of (slot_places q s ss) rents)) (drop-next slots s slot d h e)
    ∙ ap (λ (k : ℕ). entries_text (entries_of (map (grant_place q s) slot.grants ++ slot_places q k (drop (s + 1) slots)) rents)) next
    ∙ ap entries_text (entries-split (map (grant_place q s) slot.grants) rest rents n (sym (length-places q s slot.grants)))
    ∙ entries-append (entries_of (map (grant_place q s) slot.grants) (take n rents)) (entries_of rest (drop n rents))

pub slots-end : (q s i : ℕ) (slots : List SlotPart) (rents : List ℕ) → length slots ≤ i → entries_text (entries_of (slot_places q s (drop i slots)) rents) ≡ []
unfolding entries_text
slots-end q s i slots rents h = at_drop_all (λ (ss : List SlotPart). text_of (map entry_line (entries_of (slot_places q s ss) rents))) slots i h

pub sum-turn : {X : Type 0} (f : X → ℕ) (xs : List X) (i : ℕ) (x d : X) → i < length xs → x ≡ get_or xs i d → sum_by f (drop i xs) ≡ f x + sum_by f (drop (i + 1) xs)
sum-turn f xs i x d h e = ap (sum_by f) (drop-next xs i x d h e) ∙ sum_by-cons f x (drop (i + 1) xs)

length-slot_places : (q s : ℕ) (slots : List SlotPart) → length (slot_places q s slots) ≡ sum_by (λ (slot : SlotPart). length slot.grants) slots
length-slot_places q s [] = refl
length-slot_places q s (slot ∷ slots) =
    length-append (map (grant_place q s) slot.grants) (slot_places q (suc s) slots)
    ∙ (λ i. length-places q s slot.grants i + length-slot_places q (suc s) slots i)
    ∙ sym (sum_by-cons (λ (x : SlotPart). length x.grants) slot slots)

-- parts

pub parts-turn : (i : ℕ) (parts : List Part) (part d : Part) (rents : List ℕ) → i < length parts → part ≡ get_or parts i d →
    entries_text (entries_of (part_places (drop i parts)) rents)
    ≡ entries_text (entries_of (slot_places part.statement 0 part.slots) (take (part_grants part) rents)) ++ entries_text (entries_of (part_places (drop (i + 1) parts)) (drop (part_grants part) rents))
parts-turn i parts part d rents h e =
    let n : ℕ = part_grants part in
    let rest : List Place = part_places (drop (i + 1) parts) in
    ap (λ (ps : List Part). entries_text (entries_of (part_places ps) rents)) (drop-next parts i part d h e)
    ∙ ap entries_text (entries-split (slot_places part.statement 0 part.slots) rest rents n (sym (length-slot_places part.statement 0 part.slots)))
    ∙ entries-append (entries_of (slot_places part.statement 0 part.slots) (take n rents)) (entries_of rest (drop n rents))

pub parts-end : (i : ℕ) (parts : List Part) (rents : List ℕ) → length parts ≤ i → entries_text (entries_of (part_places (drop i parts)) rents) ≡ []
unfolding entries_text
parts-end i parts rents h = at_drop_all (λ (ps : List Part). text_of (map entry_line (entries_of (part_places ps) rents))) parts i h

-- sets

count-entry : (place : Place) (rent : ℕ) → length (entry_of place rent) ≡ cond (not (rent == 0)) 1 0
count-entry place zero = refl
count-entry place (suc more) = let some : (suc more == 0) ≡ false = ne_eqb (suc more) 0 (omega arith) in rw some refl

-- as many entries as rents that aren't 0
pub count-entries : (ps : List Place) (rents : List ℕ) → length rents ≡ length ps → length (entries_of ps rents) ≡ rent_count rents
count-entries [] [] size = refl
count-entries [] (rent ∷ rents) size = absurd (omega arith)
count-entries (p ∷ ps) [] size = absurd (omega arith)
count-entries (p ∷ ps) (rent ∷ rents) size =
    length-append (entry_of p rent) (entries_of ps rents)
    ∙ (λ i. count-entry p rent i + count-entries ps rents (omega arith) i)
    ∙ sym (sum_by-cons (λ (r : ℕ). cond (not (r == 0)) 1 0) rent rents)

pub grant-count-is : (programme : Programme) → grant_count programme ≡ sum_by part_grants programme.parts
unfolding grant_count
grant-count-is programme = refl

pub set-count : (programme : Programme) (set : Multipliers) → AreMultipliers programme set → rent_count set.lambda ≡ length (entries_of (places programme) set.lambda)
set-count programme set h = sym (count-entries (places programme) set.lambda (h.one_each ∙ sym (places-counted programme)))

pub set-text : (programme : Programme) (set : Multipliers) → AreMultipliers programme set →
    text_of (set_lines (sparse_set programme set)) ≡ (set_line set.mu (rent_count set.lambda) ++ 10 ∷ []) ++ entries_text (entries_of (part_places programme.parts) set.lambda)
unfolding entries_text
set-text programme set h =
    ap (λ (n : ℕ). set_line set.mu n ++ 10 ∷ text_of (map entry_line (entries_of (places programme) set.lambda))) (sym (set-count programme set h))
    ∙ sym (append_assoc (set_line set.mu (rent_count set.lambda)) (10 ∷ []) (text_of (map entry_line (entries_of (places programme) set.lambda))))

pub sets-turn : (programme : Programme) (i : ℕ) (sets : List Multipliers) (set d : Multipliers) → i < length sets → set ≡ get_or sets i d →
    sets_text programme (drop i sets) ≡ text_of (set_lines (sparse_set programme set)) ++ sets_text programme (drop (i + 1) sets)
unfolding sets_text
sets-turn programme i sets set d h e =
    ap (λ (ss : List Multipliers). text_of (sets_lines (map (sparse_set programme) ss))) (drop-next sets i set d h e)
    ∙ text-append (set_lines (sparse_set programme set)) (sets_lines (map (sparse_set programme) (drop (i + 1) sets)))

pub sets-end : (programme : Programme) (i : ℕ) (sets : List Multipliers) → length sets ≤ i → sets_text programme (drop i sets) ≡ []
unfolding sets_text
sets-end programme i sets h = at_drop_all (λ (ss : List Multipliers). text_of (sets_lines (map (sparse_set programme) ss))) sets i h

-- the whole

-- lines behind lines
lines-then : (before between after : List ℕ) (xs ys : List (List ℕ)) → between ≡ before ++ text_of xs → after ≡ between ++ text_of ys → after ≡ before ++ text_of (xs ++ ys)
lines-then before between after xs ys h g =
    g ∙ ap (λ (t : List ℕ). t ++ text_of ys) h ∙ append_assoc before (text_of xs) (text_of ys) ∙ ap (λ (t : List ℕ). before ++ t) (sym (text-append xs ys))

pub head-written : (version budget : ℕ) (numbers : List ℕ) (cost : ℕ) (bound : ℤ) (count : ℕ) (o p q r s t u : List ℕ) → p ≡ o ++ ((codes "cophy certificate" ++ word version) ++ 10 ∷ []) → q ≡ p ++ ((codes "budget" ++ word budget) ++ 10 ∷ []) → r ≡ q ++ (config_line numbers ++ 10 ∷ []) →
    s ≡ r ++ ((codes "cost" ++ word cost) ++ 10 ∷ []) → t ≡ s ++ (bound_line bound ++ 10 ∷ []) → u ≡ t ++ ((codes "sets" ++ word count) ++ 10 ∷ []) → u ≡ o ++ text_of (head_lines version budget numbers cost bound count)
unfolding title_line budget_line cost_line sets_line
head-written version budget numbers cost bound count o p q r s t u a b c d e f =
    let one = lines-then o p q (title_line version ∷ []) (budget_line budget ∷ []) a b in
    let two = lines-then o q r (title_line version ∷ budget_line budget ∷ []) (config_line numbers ∷ []) one c in
    let three = lines-then o r s (title_line version ∷ budget_line budget ∷ config_line numbers ∷ []) (cost_line cost ∷ []) two d in
    let four = lines-then o s t (title_line version ∷ budget_line budget ∷ config_line numbers ∷ cost_line cost ∷ []) (bound_line bound ∷ []) three e in
    lines-then o t u (title_line version ∷ budget_line budget ∷ config_line numbers ∷ cost_line cost ∷ bound_line bound ∷ []) (sets_line count ∷ []) four f

grouped : (head sets tree nodes end : List (List ℕ)) → (((head ++ sets) ++ tree) ++ nodes) ++ end ≡ head ++ (sets ++ ((tree ++ nodes) ++ end))
grouped head sets tree nodes end = simp append_assoc

pub cert-written : (programme : Programme) (version budget : ℕ) (answer : Answer) (o p q r s : List ℕ) → o ≡ [] ++ text_of (head_lines version budget (numbers_from 1 answer.config.on) answer.cost answer.bound (length answer.sets)) →
    p ≡ o ++ sets_text programme answer.sets → q ≡ p ++ ((codes "tree" ++ word (length answer.tree)) ++ 10 ∷ []) → r ≡ q ++ nodes_text answer.tree → s ≡ r ++ codes "end\n" → s ≡ cert_text (answer_cert programme version budget answer)
unfolding sets_text nodes_text tree_line end_line
cert-written programme version budget answer o p q r s a b c d e =
    let head : List (List ℕ) = head_lines version budget (numbers_from 1 answer.config.on) answer.cost answer.bound (length answer.sets) in
    let sets : List (List ℕ) = sets_lines (map (sparse_set programme) answer.sets) in
    let tree : List (List ℕ) = tree_line (length answer.tree) ∷ [] in
    let nodes : List (List ℕ) = map node_line answer.tree in
    let end : List (List ℕ) = end_line ∷ [] in
    let one = lines-then [] o p head sets a b in
    let two = lines-then [] p q (head ++ sets) tree one c in
    let three = lines-then [] q r ((head ++ sets) ++ tree) nodes two d in
    let four = lines-then [] r s (((head ++ sets) ++ tree) ++ nodes) end three e in
    let count : length answer.sets ≡ length (map (sparse_set programme) answer.sets) = sym (length-map answer.sets (sparse_set programme)) in
    four ∙ ap text_of (grouped head sets tree nodes end)
    ∙ ap (λ (n : ℕ). text_of (head_lines version budget (numbers_from 1 answer.config.on) answer.cost answer.bound n ++ (sets ++ ((tree ++ nodes) ++ end)))) count
