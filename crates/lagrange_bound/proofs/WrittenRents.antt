-- Laws of rent multipliers as they are written.
use Rattle.std.proofs.Common.{◌≡◌, ◌∙◌, inl, inr, ℕ, zero, suc, ◌+◌, ◌-◌, ◌*◌, ◌<◌, ◌≤◌, ◌==◌, Bool, cond, List, [], ◌∷◌, ◌++◌, length, get_or, take, drop, map, All, refl, sym, ap, subst, append_assoc, length-append, arith}
use Rattle.std.specs.Prelude.{count_by, slice_index_or, slice_set, sum_by}
use Rattle.std.specs.List.{flat_map}
use Rattle.std.proofs.lemmas.Bool.{cases_eq, eq-eqb, ne_eqb}
use Rattle.std.proofs.lemmas.List.{flat_map_more, length-map, get_or-set_same, get_or-set_other, map_more, take_more, take_more_set}
use Rattle.std.proofs.lemmas.List.Sums.{count_by-le-length, sum_by-cons, sum_by-drop_more, sum_by-le}
use Rattle.adv_base.specs.declared.limits.TheConstants.{MOST_CANDIDATES, MOST_PAGE_PRICE, MOST_RENT, MOST_SLOTS}
use Rattle.adv_base.specs.Settings.{TheSetting}
use Rattle.bip_model.specs.declared.grant.Grant.{Grant}
use Rattle.bip_model.specs.declared.part.Part.{Part}
use Rattle.bip_model.specs.declared.programme.Programme.{Programme}
use Rattle.bip_model.specs.declared.multipliers.Multipliers.{Multipliers}
use Rattle.bip_model.specs.declared.slot_part.SlotPart.{SlotPart}
use Rattle.bip_model.specs.Values.{part_grants, grant_count}
use Rattle.bip_model.specs.StandsFor.{StandsFor}
use Rattle.bip_model.specs.Uses as of_uses
use Rattle.bip_model.specs.Views.{multipliers_of, AreMultipliers}
use Rattle.bip_model.proofs.Sharing.{rents-same}
use Rattle.lagrange_bound.specs.Bounds.{candidate_cost}
use Rattle.lagrange_bound.specs.Rents.{slot_uses, part_uses, uses, grant_rent, slot_list, part_list, rents_of, rent_multipliers}

-- ## Counts

slot_uses-most : (a : ℕ) (slot : SlotPart) → slot_uses a slot ≤ MOST_CANDIDATES
slot_uses-most a slot =
    let few : length slot.grants ≤ MOST_CANDIDATES = slot.limits.grants_most in
    omega (arith, few, count_by-le-length (λ (grant : Grant). grant.candidate == a) slot.grants)

part_uses-most : (a : ℕ) (part : Part) → part_uses a part ≤ MOST_SLOTS * MOST_CANDIDATES
part_uses-most a part =
    let few : length part.slots ≤ MOST_SLOTS = part.limits.slots_most in
    omega (arith, few, sum_by-le (slot_uses a) MOST_CANDIDATES part.slots (λ k d within. slot_uses-most a (slice_index_or part.slots k d)))

pub parts_uses-most : (a : ℕ) (parts : List Part) → sum_by (part_uses a) parts ≤ length parts * (MOST_SLOTS * MOST_CANDIDATES)
parts_uses-most a parts = sum_by-le (part_uses a) (MOST_SLOTS * MOST_CANDIDATES) parts (λ k d within. part_uses-most a (slice_index_or parts k d))

pub uses-step : (grants : List Grant) (uses : List ℕ) (i : ℕ) (d : Grant) (a whole : ℕ) → i < length grants → (get_or grants i d).candidate - 1 < length uses →
    get_or uses a 0 + count_by (λ grant. grant.candidate == suc a) (drop i grants) ≡ whole →
    slice_index_or (slice_set uses ((get_or grants i d).candidate - 1) (slice_index_or uses ((get_or grants i d).candidate - 1) 0 + 1)) a 0 + count_by (λ grant. grant.candidate == suc a) (drop (i + 1) grants) ≡ whole
uses-step grants uses i d a whole within fits before =
    let grant : Grant = get_or grants i d in
    let some : 1 ≤ grant.candidate = grant.limits.least in
    let rest : ℕ = count_by (λ grant. grant.candidate == suc a) (drop (i + 1) grants) in
    let old : count_by (λ grant. grant.candidate == suc a) (drop i grants) ≡ cond (grant.candidate == suc a) 1 0 + rest =
    sum_by-drop_more (λ (g : Grant). cond (g.candidate == suc a) 1 0) grants i d within in
    let put : ℕ = slice_index_or uses (grant.candidate - 1) 0 + 1 in
    elim (cases_eq (grant.candidate - 1) a) [
      | inl same ↦
          let named : grant.candidate ≡ suc a = omega (arith, same, some) in
          let full : ◌≡◌ {A = ℕ} (cond (grant.candidate == suc a) 1 0) 1 = ap (λ (b : Bool). cond b 1 0) (eq-eqb grant.candidate (suc a) named) in
          let new : slice_index_or (slice_set uses (grant.candidate - 1) put) a 0 ≡ put = ap (λ (k : ℕ). slice_index_or (slice_set uses (grant.candidate - 1) put) k 0) (sym same) ∙ get_or-set_same uses (grant.candidate - 1) put 0 fits in
          let kept : slice_index_or uses (grant.candidate - 1) 0 ≡ get_or uses a 0 = ap (λ (k : ℕ). get_or uses k 0) same in
          omega (arith, old, full, new, kept, before)
      | inr other ↦
          let full : ◌≡◌ {A = ℕ} (cond (grant.candidate == suc a) 1 0) 0 = ap (λ (b : Bool). cond b 1 0) (ne_eqb grant.candidate (suc a) (λ e. other (omega (arith, e)))) in
          let new : slice_index_or (slice_set uses (grant.candidate - 1) put) a 0 ≡ get_or uses a 0 = get_or-set_other uses (grant.candidate - 1) a put 0 (λ e. other (sym e)) in
          omega (arith, old, full, new, before)
    ]

pub more-uses : {X : Type 0} (f : X → ℕ) (xs : List X) (i : ℕ) (x : X) (old new whole : ℕ) → i < length xs → x ≡ get_or xs i x → old + sum_by f (drop i xs) ≡ whole → new ≡ old + f x → new + sum_by f (drop (i + 1) xs) ≡ whole
more-uses f xs i x old new whole within is before after =
    let split : sum_by f (drop i xs) ≡ f x + sum_by f (drop (i + 1) xs) = sum_by-drop_more f xs i x within ∙ ap (λ y. f y + sum_by f (drop (i + 1) xs)) (sym is) in
    omega (arith, split, before, after)

-- ## Writing

pub written-more : (f : Grant → ℕ) (grants : List Grant) (rents front : List ℕ) (at i v : ℕ) (d : Grant) → i < length grants → at + i < length rents → v ≡ f (get_or grants i d) →
    take (at + i) rents ≡ front ++ map f (take i grants) → take (at + (i + 1)) (slice_set rents (at + i) v) ≡ front ++ map f (take (i + 1) grants)
written-more f grants rents front at i v d within inside is before =
    let next : at + (i + 1) ≡ at + i + 1 = omega arith in
    ap (λ (n : ℕ). take n (slice_set rents (at + i) v)) next
    ∙ take_more_set rents (at + i) v inside
    ∙ ap (λ (xs : List ℕ). xs ++ (v ∷ [])) before
    ∙ append_assoc front (map f (take i grants)) (v ∷ [])
    ∙ ap (λ (y : ℕ). front ++ (map f (take i grants) ++ (y ∷ []))) is
    ∙ ap (λ (xs : List ℕ). front ++ xs) (sym (map_more f grants i d within))

pub listed-more : {X : Type 0} (f : X → List ℕ) (xs : List X) (rents more front own : List ℕ) (at next i : ℕ) (x : X) → i < length xs → x ≡ get_or xs i x → own ≡ f x →
    take at rents ≡ front ++ flat_map f (take i xs) → take next more ≡ take at rents ++ own → take next more ≡ front ++ flat_map f (take (i + 1) xs)
listed-more f xs rents more front own at next i x within is same before after =
    after ∙ ap (λ (ys : List ℕ). ys ++ own) before ∙ ap (λ (ys : List ℕ). (front ++ flat_map f (take i xs)) ++ ys) same
    ∙ flat_map_more f front (take i xs) x
    ∙ ap (λ y. front ++ flat_map f (take i xs ++ (y ∷ []))) is
    ∙ ap (λ ys. front ++ flat_map f ys) (sym (take_more xs i x within))

-- ## Limits

all-append : (P : ℕ → Type 0) (xs ys : List ℕ) → All P xs → All P ys → All P (xs ++ ys)
all-append P [] ys first second k d within = second k d within
all-append P (x ∷ xs) ys first second zero d within = first 0 d (omega arith)
all-append P (x ∷ xs) ys first second (suc k) d within = all-append P xs ys (λ j e inside. first (suc j) e (omega (arith, inside))) second k d (omega (arith, within))

all-flat : {X : Type 0} (P : ℕ → Type 0) (f : X → List ℕ) (xs : List X) → ((x : X) → All P (f x)) → All P (flat_map f xs)
all-flat P f [] each = λ k d within. absurd (omega (arith, within))
all-flat P f (x ∷ xs) each = all-append P (f x) (flat_map f xs) (each x) (all-flat P f xs each)

all-map : {X : Type 0} (P : ℕ → Type 0) (f : X → ℕ) (xs : List X) → ((x : X) → P (f x)) → All P (map f xs)
all-map P f [] each k d within = absurd (omega (arith, within))
all-map P f (x ∷ xs) each zero d within = each x
all-map P f (x ∷ xs) each (suc k) d within = all-map P f xs each k d (omega (arith, within))

pub rents_of-most : (programme : Programme) (mu : ℕ) → All (λ rent. rent ≤ MOST_RENT) (rents_of programme mu)
rents_of-most programme mu =
    all-flat (λ rent. rent ≤ MOST_RENT) (part_list programme mu) programme.parts
    (λ part. all-flat (λ rent. rent ≤ MOST_RENT) (slot_list programme mu part.weight) part.slots
    (λ slot. all-map (λ rent. rent ≤ MOST_RENT) (grant_rent programme mu part.weight) slot.grants (λ grant. omega arith)))

slots-length : (programme : Programme) (mu w : ℕ) (slots : List SlotPart) → length (flat_map (slot_list programme mu w) slots) ≡ sum_by (λ slot. length slot.grants) slots
slots-length programme mu w [] = refl
slots-length programme mu w (slot ∷ slots) =
    length-append (slot_list programme mu w slot) (flat_map (slot_list programme mu w) slots)
    ∙ ap (λ (n : ℕ). n + length (flat_map (slot_list programme mu w) slots)) (length-map slot.grants (grant_rent programme mu w))
    ∙ ap (λ (n : ℕ). length slot.grants + n) (slots-length programme mu w slots)
    ∙ sym (sum_by-cons (λ (x : SlotPart). length x.grants) slot slots)

parts-length : (programme : Programme) (mu : ℕ) (parts : List Part) → length (flat_map (part_list programme mu) parts) ≡ sum_by part_grants parts
parts-length programme mu [] = refl
parts-length programme mu (part ∷ parts) =
    length-append (part_list programme mu part) (flat_map (part_list programme mu) parts)
    ∙ ap (λ (n : ℕ). n + length (flat_map (part_list programme mu) parts)) (slots-length programme mu part.weight part.slots)
    ∙ ap (λ (n : ℕ). part_grants part + n) (parts-length programme mu parts)
    ∙ sym (sum_by-cons part_grants part parts)

pub rents-within : (programme : Programme) (multipliers : Multipliers) (m : ℕ) → m ≤ MOST_PAGE_PRICE → multipliers.mu ≡ m → multipliers.lambda ≡ rents_of programme m → AreMultipliers programme multipliers
unfolding grant_count
rents-within programme multipliers m most page rents =
    record {
      one_each = ap length rents ∙ parts-length programme m programme.parts;
      page_most = omega (arith, most, page);
      rents_most = subst (λ (rs : List ℕ). All (λ rent. rent ≤ MOST_RENT) rs) (sym rents) (rents_of-most programme m);
    }

-- in a programme that stands for a setting they are the setting's
pub rents-agree : (setting : TheSetting) (programme : Programme) (page : ℕ) → StandsFor setting programme → multipliers_of programme (rent_multipliers programme page) ≡ of_uses.rent_multipliers setting page
unfolding candidate_cost uses
rents-agree setting programme page stands = rents-same setting programme (rent_multipliers programme page) page stands refl refl
