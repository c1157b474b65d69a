-- Laws of known proposals, and of adding to them.
use Rattle.std.proofs.Common.{◌≡◌, ℕ, suc, ◌+◌, ◌<◌, ◌≤◌, ◌==◌, Bool, true, false, ◌||◌, cond, List, [], ◌∷◌, ◌++◌, length, map, drop, get_or, refl, sym, ap, ◌∙◌, arith}
use Rattle.std.specs.Prelude.{nat_lt, fold}
use Rattle.std.specs.List.{list_any, flat_map, enumerate_from}
use Rattle.std.proofs.Math.Bool.{or-true}
use Rattle.std.proofs.Math.Seq.{drop-cons}
use Rattle.std.proofs.lemmas.Bool.Decides.{nat_tests}
use Rattle.std.proofs.lemmas.List.{length-append, map-append}
use Rattle.std.proofs.lemmas.List.Sums.{fold-append}
use Rattle.std.proofs.lemmas.Grind.{flat_map-append}
use Rattle.indexmap.specs.IndexSet.{insert_key}
use Rattle.adv_base.specs.declared.limits.TheConstants.{MOST_KEYS}
use Rattle.candidates.specs.Columns.{has_column, with_column, joined}
use Rattle.candidates.specs.Proposals.{KeyList, Proposal, plain_index, clustered_index, forms}
use Rattle.candidates.specs.Candidates.{is_same, is_left_out, with_proposal}
use Rattle.candidates.specs.declared.known.Proposal.{Proposal as OwnedProposal}
use Rattle.candidates.specs.inner.Known.{as_proposal, as_proposals, with_all, with_forms}

-- a proposal of 1 to 8 columns is left out where it is known
pub left_out-short : (existing before : List Proposal) (p : Proposal) → 0 < length p.keys → length p.keys ≤ MOST_KEYS
    → is_left_out existing before p ≡ (list_any (is_same p) before || list_any (is_same p) existing)
left_out-short existing before p some few =
    let a : (length p.keys == 0) ≡ false = grind (arith, nat_tests) in
    let b : nat_lt MOST_KEYS (length p.keys) ≡ false = grind (arith, nat_tests) in
    rw (a, b)

-- so is one that is too long
pub with_proposal-long : (existing before : List Proposal) (p : Proposal) → MOST_KEYS < length p.keys → with_proposal existing before p ≡ before
with_proposal-long existing before p long =
    let b : nat_lt MOST_KEYS (length p.keys) ≡ true = grind (arith, nat_tests) in
    rw (b, or-true)

-- so are the forms of a list that is
pub forms-long : (clusterable : Bool) (known : List Proposal) (list : KeyList) → MOST_KEYS < length list.1 → with_all known (forms clusterable list) ≡ known
forms-long true known list long =
    ap (λ (ps : List Proposal). with_proposal [] ps (clustered_index list)) (with_proposal-long [] known (plain_index list) long) ∙ with_proposal-long [] known (clustered_index list) long
forms-long false known list long = with_proposal-long [] known (plain_index list) long

-- a proposal is known where one that is equal to it is
known_any : (E : OwnedProposal → OwnedProposal → Bool) → ((x y : OwnedProposal) → E x y ≡ is_same (as_proposal x) (as_proposal y)) → (k : OwnedProposal) (ks : List OwnedProposal)
    → list_any (is_same (as_proposal k)) (as_proposals ks) ≡ list_any (E k) ks
known_any E same k [] = refl
known_any E same k (x ∷ xs) = let e = same k x in let rest = known_any E same k xs in rw (← e, rest)

-- what is left out isn't added, and what isn't left out is
pub with_proposal-left : (existing before : List Proposal) (p : Proposal) → is_left_out existing before p ≡ true → with_proposal existing before p ≡ before
with_proposal-left existing before p h = ap (λ (t : Bool). cond t before (before ++ p ∷ [])) h

pub with_proposal-added : (existing before : List Proposal) (p : Proposal) → is_left_out existing before p ≡ false → with_proposal existing before p ≡ before ++ p ∷ []
with_proposal-added existing before p h = ap (λ (t : Bool). cond t before (before ++ p ∷ [])) h

-- inserting is adding, at proposals of 1 to 8 columns
pub as_proposals-insert_key : (E : OwnedProposal → OwnedProposal → Bool) → ((x y : OwnedProposal) → E x y ≡ is_same (as_proposal x) (as_proposal y)) → (k : OwnedProposal) (ks : List OwnedProposal)
    → 0 < length k.keys.items → length k.keys.items ≤ MOST_KEYS → as_proposals (insert_key E ks k) ≡ with_proposal [] (as_proposals ks) (as_proposal k)
as_proposals-insert_key E same k ks some few = by_case (list_any (E k) ks) refl
  where
    left : is_left_out [] (as_proposals ks) (as_proposal k) ≡ (list_any (E k) ks || false)
    left = left_out-short [] (as_proposals ks) (as_proposal k) some few ∙ ap (λ (t : Bool). t || false) (known_any E same k ks)

    by_case : (b : Bool) → list_any (E k) ks ≡ b → as_proposals (insert_key E ks k) ≡ with_proposal [] (as_proposals ks) (as_proposal k)
    by_case true e =
        ap (λ (t : Bool). as_proposals (cond t ks (ks ++ k ∷ []))) e
        ∙ sym (with_proposal-left [] (as_proposals ks) (as_proposal k) (left ∙ ap (λ (t : Bool). t || false) e))
    by_case false e =
        ap (λ (t : Bool). as_proposals (cond t ks (ks ++ k ∷ []))) e
        ∙ map-append as_proposal ks (k ∷ [])
        ∙ sym (with_proposal-added [] (as_proposals ks) (as_proposal k) (left ∙ ap (λ (t : Bool). t || false) e))

with_column-longer : (keys : List ℕ) (c : ℕ) → length keys ≤ length (with_column keys c)
with_column-longer keys c = by_case (has_column keys c) refl
  where
    by_case : (b : Bool) → has_column keys c ≡ b → length keys ≤ length (with_column keys c)
    by_case true e = rw e (omega arith)
    by_case false e = rw (e, length-append) (omega arith)

-- joining makes no list shorter
pub joined-longer : (keys more : List ℕ) → length keys ≤ length (joined keys more)
joined-longer keys [] = omega arith
joined-longer keys (c ∷ cs) =
    let one = with_column-longer keys c in
    let rest = joined-longer (with_column keys c) cs in
    omega (arith, one, rest)

-- what is left of a list from a place on
pub drop_here : {A : Type 0} (xs : List A) (i : ℕ) (x : A) → i < length xs → x ≡ get_or xs i x → drop i xs ≡ x ∷ drop (i + 1) xs
drop_here xs i x within is =
    let e = drop-cons xs i x within in
    let next : suc i ≡ i + 1 = omega arith in
    e ∙ ap (λ (y : _). y ∷ drop (suc i) xs) (sym is) ∙ ap (λ (n : ℕ). x ∷ drop n xs) next

-- one step of adding what each element gives
pub fold-map_here : {A B C : Type 0} (w : B → C → B) (f : A → C) (a : B) (xs : List A) (i : ℕ) (x : A) → i < length xs → x ≡ get_or xs i x
    → fold w a (map f (drop i xs)) ≡ fold w (w a (f x)) (map f (drop (i + 1) xs))
fold-map_here w f a xs i x within is = ap (λ (ys : List _). fold w a (map f ys)) (drop_here xs i x within is)

pub fold-flat_map_here : {A B C : Type 0} (w : B → C → B) (f : A → List C) (a : B) (xs : List A) (i : ℕ) (x : A) → i < length xs → x ≡ get_or xs i x
    → fold w a (flat_map f (drop i xs)) ≡ fold w (fold w a (f x)) (flat_map f (drop (i + 1) xs))
fold-flat_map_here w f a xs i x within is =
    ap (λ (ys : List _). fold w a (flat_map f ys)) (drop_here xs i x within is) ∙ fold-append w a (f x) (flat_map f (drop (i + 1) xs))

-- one step of adding the forms of what each number gives
pub with_forms-number_here : (clusterable : Bool) (f : ℕ → KeyList) (known : List Proposal) (xs : List ℕ) (i : ℕ) → i < length xs
    → with_forms clusterable known (map f (drop i xs)) ≡ with_forms clusterable (with_all known (forms clusterable (f (get_or xs i 0)))) (map f (drop (i + 1) xs))
with_forms-number_here clusterable f known xs i within =
    let e = drop-cons xs i 0 within in
    let next : suc i ≡ i + 1 = omega arith in
    ap (λ (ys : List ℕ). with_forms clusterable known (map f ys)) e
    ∙ ap (λ (n : ℕ). with_forms clusterable known (map f (get_or xs i 0 ∷ drop n xs))) next
    ∙ fold-append (with_proposal []) known (forms clusterable (f (get_or xs i 0))) (flat_map (forms clusterable) (map f (drop (i + 1) xs)))

-- each slot with its number
pub fold-numbered_here : {A B C : Type 0} (w : B → C → B) (f : ℕ × A → List C) (a : B) (xs : List A) (i : ℕ) (x : A) → i < length xs → x ≡ get_or xs i x
    → fold w a (flat_map f (enumerate_from i (drop i xs))) ≡ fold w (fold w a (f (i, x))) (flat_map f (enumerate_from (i + 1) (drop (i + 1) xs)))
fold-numbered_here w f a xs i x within is =
    ap (λ (ys : List _). fold w a (flat_map f (enumerate_from i ys))) (drop_here xs i x within is)
    ∙ fold-append w a (f (i, x)) (flat_map f (enumerate_from (i + 1) (drop (i + 1) xs)))

-- key lists whose forms are added one after the other
pub forms_one_by_one : (clusterable : Bool) (known : List Proposal) (xs ys : List KeyList) → with_forms clusterable known (xs ++ ys) ≡ with_forms clusterable (with_forms clusterable known xs) ys
forms_one_by_one clusterable known xs ys =
    ap (with_all known) (flat_map-append (forms clusterable) xs ys) ∙ fold-append (with_proposal []) known (flat_map (forms clusterable) xs) (flat_map (forms clusterable) ys)

-- the same of three lists
pub forms_of_three : (clusterable : Bool) (known : List Proposal) (x y z : KeyList)
    → with_forms clusterable known (x ∷ y ∷ z ∷ []) ≡ with_all (with_all (with_all known (forms clusterable x)) (forms clusterable y)) (forms clusterable z)
forms_of_three true known x y z = refl
forms_of_three false known x y z = refl

-- what a slot proposes, and its covering list last
pub slot_by_parts : (clusterable : Bool) (known : List Proposal) (xs ys : List KeyList) (last : Proposal)
    → with_all known (flat_map (forms clusterable) (xs ++ ys) ++ last ∷ []) ≡ with_proposal [] (with_forms clusterable (with_forms clusterable known xs) ys) last
slot_by_parts clusterable known xs ys last =
    fold-append (with_proposal []) known (flat_map (forms clusterable) (xs ++ ys)) (last ∷ [])
    ∙ ap (λ (ps : List Proposal). with_proposal [] ps last) (forms_one_by_one clusterable known xs ys)
