-- Laws of the slots of parts, one after the other, and of lists that go over them.
use Rattle.std.proofs.Common.{◌≡◌, ◌∙◌, inl, inr, ℕ, zero, suc, ◌+◌, ◌-◌, ◌*◌, ◌<◌, ◌≤◌, ◌==◌, Bool, List, [], ◌∷◌, ◌++◌, length, get_or, take, drop, map, refl, sym, ap, append_assoc, length-append, arith}
use Rattle.std.specs.Prelude.{Some, if◌then◌else◌, slice_get, slice_set, sum_by}
use Rattle.std.proofs.lemmas.Bool.{cases_lt, cases_eq, eq-eqb, ne_eqb}
use Rattle.std.proofs.lemmas.List.{drop_more, ext_get_or, get_or_append_left, get_or-append-add, get_or-map, get_or-set_same, get_or-set_other, length-map, take_all, take-append-le}
use Rattle.std.proofs.lemmas.List.Sums.{sum_by-append, sum_by-cons, sum_by-le, sum_by_more}
use Rattle.std.proofs.lemmas.Option.{slice_get_cases}
use Rattle.adv_base.specs.declared.limits.TheConstants.{MOST_CANDIDATES, MOST_SLOTS}
use Rattle.bip_model.specs.declared.grant.Grant.{Grant}
use Rattle.bip_model.specs.declared.part.Part.{Part}
use Rattle.bip_model.specs.declared.slot_part.SlotPart.{SlotPart}
use Rattle.bip_model.specs.Values.{part_grants}
use Rattle.lagrange_bound.specs.Bounds.{grant_rents, slot_rents}
use Rattle.lagrange_bound.specs.ListedPrices.{slots_of}
use Rattle.lagrange_bound.specs.CandidateUses.{weighted_rents}
use Rattle.lagrange_bound.specs.Rented.{grants_before}
use Rattle.lagrange_bound.specs.declared.uses.WeightedGrant.{WeightedGrant}
use Rattle.lagrange_bound.specs.inner.CostsByLists.{AreOwners, owned_rents}

-- ## Two lists, one after the other

pub sum-left : {X : Type 0} (f : X → ℕ) (xs ys : List X) (n : ℕ) → n ≤ length xs → sum_by f (take n (xs ++ ys)) ≡ sum_by f (take n xs)
sum-left f xs ys n most = ap (sum_by f) (take-append-le n xs ys most)

pub sum-right : {X : Type 0} (f : X → ℕ) (xs ys : List X) (n : ℕ) → sum_by f (take (length xs + n) (xs ++ ys)) ≡ sum_by f xs + sum_by f (take n ys)
sum-right f [] ys n =
    let e : 0 + n ≡ n = omega arith in
    let none : 0 + sum_by f (take n ys) ≡ sum_by f (take n ys) = omega arith in
    ap (λ (m : ℕ). sum_by f (take m ys)) e ∙ sym none
sum-right f (x ∷ xs) ys n =
    let next : suc (length xs) + n ≡ suc (length xs + n) = omega arith in
    let rest = sum-right f xs ys n in
    let whole : sum_by f (x ∷ take (length xs + n) (xs ++ ys)) ≡ f x + sum_by f (take (length xs + n) (xs ++ ys)) = sum_by-cons f x (take (length xs + n) (xs ++ ys)) in
    let own : sum_by f (x ∷ xs) ≡ f x + sum_by f xs = sum_by-cons f x xs in
    ap (λ (m : ℕ). sum_by f (take m (x ∷ (xs ++ ys)))) next ∙ whole ∙ omega (arith, rest, own)

take-left : {X : Type 0} (xs ys : List X) → take (length xs) (xs ++ ys) ≡ xs
take-left xs ys = take-append-le (length xs) xs ys (omega arith) ∙ take_all (length xs) xs (omega arith)

drop-right : {X : Type 0} (xs ys : List X) (n : ℕ) → drop (length xs + n) (xs ++ ys) ≡ drop n ys
drop-right [] ys n = let e : 0 + n ≡ n = omega arith in ap (λ (m : ℕ). drop m ys) e
drop-right (x ∷ xs) ys n =
    let next : suc (length xs) + n ≡ suc (length xs + n) = omega arith in
    ap (λ (m : ℕ). drop m (x ∷ (xs ++ ys))) next ∙ drop-right xs ys n

-- ## Owners of grants

-- the place of a grant's candidate
place_of : Grant → ℕ
place_of grant = grant.candidate - 1

-- those of the grants of slots
places_of : List SlotPart → List ℕ
places_of [] = []
places_of (slot ∷ slots) = map place_of slot.grants ++ places_of slots

length-places : (slots : List SlotPart) → length (places_of slots) ≡ sum_by (λ slot. length slot.grants) slots
unfolding places_of
length-places [] = refl
length-places (slot ∷ slots) =
    let rest = length-places slots in
    let own : length (map place_of slot.grants) ≡ length slot.grants = length-map slot.grants place_of in
    let both : length (map place_of slot.grants ++ places_of slots) ≡ length (map place_of slot.grants) + length (places_of slots) = length-append (map place_of slot.grants) (places_of slots) in
    let whole : sum_by (λ slot. length slot.grants) (slot ∷ slots) ≡ length slot.grants + sum_by (λ slot. length slot.grants) slots = sum_by-cons (λ (x : SlotPart). length x.grants) slot slots in
    both ∙ omega (arith, rest, own, whole)

places-append : (xs ys : List SlotPart) → places_of (xs ++ ys) ≡ places_of xs ++ places_of ys
unfolding places_of
places-append [] ys = refl
places-append (x ∷ xs) ys = ap (λ (ps : List ℕ). map place_of x.grants ++ ps) (places-append xs ys) ∙ sym (append_assoc (map place_of x.grants) (places_of xs) (places_of ys))

-- the places of the grants of a list, one after the other
owner-at : (slots : List SlotPart) (owner : ℕ → ℕ) → ((k i : ℕ) (slot : SlotPart) (grant : Grant) → slice_get slots k ≡ Some slot → slice_get slot.grants i ≡ Some grant → owner (grants_before slots k + i) + 1 ≡ grant.candidate) →
    (j : ℕ) → j < length (places_of slots) → owner j ≡ get_or (places_of slots) j 0
unfolding places_of place_of
owner-at [] owner are j within = absurd (omega (arith, within))
owner-at (slot ∷ slots) owner are j within =
    let n : ℕ = length slot.grants in
    let own : length (map place_of slot.grants) ≡ n = length-map slot.grants place_of in
    elim (cases_lt j n) [
      | inl below ↦
          elim (slice_get_cases slot.grants j).1 [
            | inl there ↦
                let grant : Grant = there.0 in
                let none : 0 + j ≡ j = omega arith in
                let named : owner j + 1 ≡ grant.candidate = ap (λ (m : ℕ). owner m + 1) (sym none) ∙ are 0 j slot grant refl there.2 in
                let first : get_or (map place_of slot.grants ++ places_of slots) j 0 ≡ get_or (map place_of slot.grants) j 0 = get_or_append_left (map place_of slot.grants) (places_of slots) 0 j (omega (arith, below, own)) in
                let place : get_or (map place_of slot.grants) j 0 ≡ grant.candidate - 1 = get_or-map place_of slot.grants j grant 0 below ∙ ap place_of there.3 in
                omega (arith, named, first, place)
            | inr past ↦ absurd (omega (arith, below, past.0))
          ]
      | inr past ↦
          let both : length (map place_of slot.grants ++ places_of slots) ≡ length (map place_of slot.grants) + length (places_of slots) = length-append (map place_of slot.grants) (places_of slots) in
          let back : n + (j - n) ≡ j = omega (arith, past) in
          let whole : (k : ℕ) → grants_before (slot ∷ slots) (suc k) ≡ n + grants_before slots k = λ k. sum_by-cons (λ (x : SlotPart). length x.grants) slot (take k slots) in
          let rest : owner (n + (j - n)) ≡ get_or (places_of slots) (j - n) 0 =
          owner-at slots (λ (m : ℕ). owner (n + m))
          (λ k i other grant found given.
          let moved : n + (grants_before slots k + i) ≡ grants_before (slot ∷ slots) (suc k) + i = omega (arith, whole k) in
          ap (λ (m : ℕ). owner m + 1) moved ∙ are (suc k) i other grant found given)
          (j - n) (omega (arith, within, both, own, past)) in
          let later : get_or (map place_of slot.grants ++ places_of slots) (length (map place_of slot.grants) + (j - n)) 0 ≡ get_or (places_of slots) (j - n) 0 = get_or-append-add (map place_of slot.grants) (places_of slots) (j - n) 0 in
          let there : length (map place_of slot.grants) + (j - n) ≡ j = omega (arith, own, back) in
          ap owner (sym back) ∙ rest ∙ sym later ∙ ap (λ (m : ℕ). get_or (map place_of slot.grants ++ places_of slots) m 0) there
    ]

owners-are : (slots : List SlotPart) (owners : List ℕ) → length owners ≡ sum_by (λ slot. length slot.grants) slots → AreOwners slots owners → owners ≡ places_of slots
owners-are slots owners each are =
    let long = length-places slots in
    ext_get_or 0 owners (places_of slots) (each ∙ sym long) (λ j within. owner-at slots (λ (m : ℕ). get_or owners m 0) are j (omega (arith, within, each, long)))

pub all-grants : (parts : List Part) → sum_by (λ slot. length slot.grants) (slots_of parts) ≡ sum_by part_grants parts
all-grants [] = refl
all-grants (part ∷ parts) =
    sum_by-append (λ (x : SlotPart). length x.grants) part.slots (slots_of parts) ∙ ap (λ (n : ℕ). part_grants part + n) (all-grants parts) ∙ sym (sum_by-cons part_grants part parts)

-- those of a part stand behind those of the parts before it
part-places : (parts : List Part) (i : ℕ) (part : Part) → slice_get parts i ≡ Some part → take (part_grants part) (drop (sum_by part_grants (take i parts)) (places_of (slots_of parts))) ≡ places_of part.slots
part-places [] i part found = absurd (cc)
part-places (p ∷ parts) zero part found =
    let same : p ≡ part = cc in
    let long : length (places_of part.slots) ≡ part_grants part = length-places part.slots in
    ap (λ (q : Part). take (part_grants part) (places_of (q.slots ++ slots_of parts))) same
    ∙ ap (take (part_grants part)) (places-append part.slots (slots_of parts))
    ∙ ap (λ (n : ℕ). take n (places_of part.slots ++ places_of (slots_of parts))) (sym long)
    ∙ take-left (places_of part.slots) (places_of (slots_of parts))
part-places (p ∷ parts) (suc i) part found =
    let before : ℕ = sum_by part_grants (take i parts) in
    let long : length (places_of p.slots) ≡ part_grants p = length-places p.slots in
    let whole : sum_by part_grants (p ∷ take i parts) ≡ part_grants p + before = sum_by-cons part_grants p (take i parts) in
    let at : sum_by part_grants (p ∷ take i parts) ≡ length (places_of p.slots) + before = omega (arith, whole, long) in
    ap (λ (n : ℕ). take (part_grants part) (drop n (places_of (p.slots ++ slots_of parts)))) at
    ∙ ap (λ (ps : List ℕ). take (part_grants part) (drop (length (places_of p.slots) + before) ps)) (places-append p.slots (slots_of parts))
    ∙ ap (take (part_grants part)) (drop-right (places_of p.slots) (places_of (slots_of parts)) before)
    ∙ part-places parts i part found

-- ## Rents of owners

owned-none : (a : ℕ) (owners : List ℕ) → owned_rents a owners [] ≡ 0
owned-none a [] = refl
owned-none a (owner ∷ owners) = refl

owned-append : (a : ℕ) (xs ys rents : List ℕ) → owned_rents a (xs ++ ys) rents ≡ owned_rents a xs rents + owned_rents a ys (drop (length xs) rents)
owned-append a [] ys rents = omega arith
owned-append a (x ∷ xs) ys [] = omega (arith, owned-none a ys)
owned-append a (x ∷ xs) ys (rent ∷ rents) = omega (arith, owned-append a xs ys rents)

owned-grants : (a : ℕ) (grants : List Grant) (rents : List ℕ) → owned_rents a (map place_of grants) rents ≡ grant_rents (suc a) grants rents
unfolding place_of
owned-grants a [] rents = refl
owned-grants a (grant ∷ grants) [] = refl
owned-grants a (grant ∷ grants) (rent ∷ rents) =
    let some : 1 ≤ grant.candidate = grant.limits.least in
    let same : (grant.candidate - 1 == a) ≡ (grant.candidate == suc a) =
    elim (cases_eq (grant.candidate - 1) a) [
      | inl e ↦ eq-eqb (grant.candidate - 1) a e ∙ sym (eq-eqb grant.candidate (suc a) (omega (arith, e, some)))
      | inr other ↦ ne_eqb (grant.candidate - 1) a other ∙ sym (ne_eqb grant.candidate (suc a) (λ e. other (omega (arith, e))))
    ] in
    ap (λ (b : Bool). (if b then rent else 0) + owned_rents a (map place_of grants) rents) same
    ∙ ap (λ (n : ℕ). (if grant.candidate == suc a then rent else 0) + n) (owned-grants a grants rents)

owned-slots : (a : ℕ) (slots : List SlotPart) (rents : List ℕ) → owned_rents a (places_of slots) rents ≡ slot_rents (suc a) slots rents
unfolding places_of
owned-slots a [] rents = refl
owned-slots a (slot ∷ slots) rents =
    owned-append a (map place_of slot.grants) (places_of slots) rents
    ∙ ap (λ (n : ℕ). n + owned_rents a (places_of slots) (drop (length (map place_of slot.grants)) rents)) (owned-grants a slot.grants rents)
    ∙ ap (λ (n : ℕ). grant_rents (suc a) slot.grants rents + owned_rents a (places_of slots) (drop n rents)) (length-map slot.grants place_of)
    ∙ ap (λ (n : ℕ). grant_rents (suc a) slot.grants rents + n) (owned-slots a slots (drop (length slot.grants) rents))

-- the rents of a part's grants, by their owners
pub owned-part : (a : ℕ) (parts : List Part) (owners rents : List ℕ) (i at n : ℕ) (part : Part) → length owners ≡ sum_by part_grants parts → AreOwners (slots_of parts) owners →
    slice_get parts i ≡ Some part → at ≡ sum_by part_grants (take i parts) → n ≡ part_grants part →
    owned_rents a (take n (drop at owners)) (drop at rents) ≡ slot_rents (suc a) part.slots (drop at rents)
owned-part a parts owners rents i at n part each are found place count =
    let all : owners ≡ places_of (slots_of parts) = owners-are (slots_of parts) owners (each ∙ sym (all-grants parts)) are in
    let own : take n (drop at owners) ≡ places_of part.slots =
    ap (λ (os : List ℕ). take n (drop at os)) all
    ∙ ap (λ (m : ℕ). take m (drop at (places_of (slots_of parts)))) count
    ∙ ap (λ (m : ℕ). take (part_grants part) (drop m (places_of (slots_of parts)))) place
    ∙ part-places parts i part found in
    ap (λ (os : List ℕ). owned_rents a os (drop at rents)) own ∙ owned-slots a part.slots (drop at rents)

-- the next grant, before the rest
pub owned-next : (owners rents : List ℕ) (a at i : ℕ) → i < length owners → at + i < length rents →
    owned_rents a (drop i owners) (drop (at + i) rents) ≡ (if get_or owners i 0 == a then get_or rents (at + i) 0 else 0) + owned_rents a (drop (i + 1) owners) (drop (at + (i + 1)) rents)
owned-next owners rents a at i within inside =
    let next : at + i + 1 ≡ at + (i + 1) = omega arith in
    ap (λ (os : List ℕ). owned_rents a os (drop (at + i) rents)) (drop_more owners i 0 within)
    ∙ ap (owned_rents a (get_or owners i 0 ∷ drop (i + 1) owners)) (drop_more rents (at + i) 0 inside)
    ∙ ap (λ (n : ℕ). (if get_or owners i 0 == a then get_or rents (at + i) 0 else 0) + owned_rents a (drop (i + 1) owners) (drop n rents)) next

-- a grant at the end
pub weighted-push : (grants : List WeightedGrant) (grant : WeightedGrant) (rents : List ℕ) → weighted_rents (grants ++ grant ∷ []) rents ≡ weighted_rents grants rents + grant.weight * get_or rents grant.number 0
weighted-push [] grant rents = omega arith
weighted-push (g ∷ grants) grant rents = omega (arith, weighted-push grants grant rents)

-- a grant at the end of the list of its owner
pub bring-push : (all : List (List WeightedGrant)) (grant : WeightedGrant) (owner a : ℕ) (rents : List ℕ) → owner < length all →
    weighted_rents (get_or (slice_set all owner (get_or all owner [] ++ grant ∷ [])) a []) rents ≡ weighted_rents (get_or all a []) rents + grant.weight * (if owner == a then get_or rents grant.number 0 else 0)
bring-push all grant owner a rents within =
    let put : List WeightedGrant = get_or all owner [] ++ grant ∷ [] in
    let rent : ℕ = get_or rents grant.number 0 in
    let brought : List WeightedGrant → ℕ = λ uses. weighted_rents uses rents in
    elim (cases_eq owner a) [
      | inl same ↦
          let new : get_or (slice_set all owner put) a [] ≡ put = ap (λ (k : ℕ). get_or (slice_set all owner put) k []) (sym same) ∙ get_or-set_same all owner put [] within in
          ap brought new ∙ weighted-push (get_or all owner []) grant rents
          ∙ ap (λ (k : ℕ). brought (get_or all k []) + grant.weight * rent) same
          ∙ ap (λ (b : Bool). brought (get_or all a []) + grant.weight * (if b then rent else 0)) (sym (eq-eqb owner a same))
      | inr other ↦
          let none : brought (get_or all a []) ≡ brought (get_or all a []) + grant.weight * 0 = omega arith in
          ap brought (get_or-set_other all owner a put [] (λ e. other (sym e))) ∙ none
          ∙ ap (λ (b : Bool). brought (get_or all a []) + grant.weight * (if b then rent else 0)) (sym (ne_eqb owner a other))
    ]

pub all-most : (parts : List Part) → sum_by part_grants parts ≤ length parts * (MOST_SLOTS * MOST_CANDIDATES)
all-most parts = sum_by-le part_grants (MOST_SLOTS * MOST_CANDIDATES) parts (λ k d within. part-most (get_or parts k d))
  where
    part-most : (part : Part) → part_grants part ≤ MOST_SLOTS * MOST_CANDIDATES
    part-most part =
        let few : length part.slots ≤ MOST_SLOTS = part.limits.slots_most in
        omega (arith, few, sum_by-le (λ (slot : SlotPart). length slot.grants) MOST_CANDIDATES part.slots (λ k d within. (get_or part.slots k d).limits.grants_most))

pub starts-order : (parts : List Part) (i : ℕ) → i < length parts → sum_by part_grants (take i parts) ≤ sum_by part_grants (take (i + 1) parts)
starts-order parts i within =
    elim (slice_get_cases parts i).1 [
      | inl there ↦
          let more : sum_by part_grants (take (i + 1) parts) ≡ sum_by part_grants (take i parts) + part_grants (get_or parts i there.0) = sum_by_more part_grants parts i there.0 within in
          omega (arith, more)
      | inr past ↦ absurd (omega (arith, within, past.0))
    ]

-- one empty list more
pub empty-push : (all : List (List WeightedGrant)) → ((a : ℕ) → get_or all a [] ≡ []) → (a : ℕ) → get_or (all ++ [] ∷ []) a [] ≡ []
empty-push [] each zero = refl
empty-push [] each (suc a) = refl
empty-push (uses ∷ all) each zero = each zero
empty-push (uses ∷ all) each (suc a) = empty-push all (λ k. each (suc k)) a
