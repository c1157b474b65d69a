-- Laws of what rents bring in.
use Rattle.std.proofs.Common.{◌≡◌, ◌∙◌, inl, inr, ℕ, zero, suc, ◌+◌, ◌-◌, ◌*◌, ◌<◌, ◌≤◌, ◌==◌, Bool, true, false, List, [], ◌∷◌, All, length, get_or, take, drop, replicate, refl, sym, ap, arith}
use Rattle.std.specs.Prelude.{if◌then◌else◌, slice_index_or, slice_set}
use Rattle.std.proofs.Math.Nat.{mul-add, mul-le-mul}
use Rattle.std.proofs.lemmas.Bool.{cases_eq, eq-eqb, ne_eqb}
use Rattle.std.proofs.lemmas.List.{drop_more, drop-drop, get_or_default, get_or-set_same, get_or-set_other}
use Rattle.std.proofs.lemmas.List.Elements.{All-head, All-tail}
use Rattle.adv_base.specs.declared.limits.TheConstants.{MOST_CANDIDATES, MOST_RENT, MOST_SLOTS, MOST_STATEMENTS, MOST_WEIGHT}
use Rattle.bip_model.specs.declared.grant.Grant.{Grant}
use Rattle.bip_model.specs.declared.part.Part.{Part}
use Rattle.bip_model.specs.declared.slot_part.SlotPart.{SlotPart}
use Rattle.bip_model.specs.Values.{part_grants}
use Rattle.lagrange_bound.specs.Bounds.{grant_rents, slot_rents, part_rents}
use Rattle.lagrange_bound.specs.inner.Limits.{MOST_RENTS}
use Rattle.lagrange_bound.proofs.RentedPrices.{AreRents, drop-rents}

-- ## Bounds

grant_rents-most : (a : ℕ) (grants : List Grant) (rents : List ℕ) → AreRents rents → grant_rents a grants rents ≤ length grants * MOST_RENT
grant_rents-most a [] rents are = omega arith
grant_rents-most a (grant ∷ grants) [] are = omega arith
grant_rents-most a (grant ∷ grants) (rent ∷ rents) are =
    let first : rent ≤ MOST_RENT = All-head (λ (r : ℕ). r ≤ MOST_RENT) rent rents are in
    let rest = grant_rents-most a grants rents (All-tail (λ (r : ℕ). r ≤ MOST_RENT) rent rents are) in
    let here : (if grant.candidate == a then rent else 0) ≤ MOST_RENT = either-way (grant.candidate == a) rent first in
    omega (arith, rest, here)
  where
    either-way : (b : Bool) (rent : ℕ) → rent ≤ MOST_RENT → (if b then rent else 0) ≤ MOST_RENT
    either-way true rent first = first
    either-way false rent first = omega arith

slot_rents-most : (a : ℕ) (slots : List SlotPart) (rents : List ℕ) → AreRents rents → slot_rents a slots rents ≤ length slots * (MOST_CANDIDATES * MOST_RENT)
slot_rents-most a [] rents are = omega arith
slot_rents-most a (slot ∷ slots) rents are =
    let few : length slot.grants ≤ MOST_CANDIDATES = slot.limits.grants_most in
    let first = grant_rents-most a slot.grants rents are in
    let rest = slot_rents-most a slots (drop (length slot.grants) rents) (drop-rents (length slot.grants) rents are) in
    omega (arith, first, rest, few)

pub part_rents-most : (a : ℕ) (parts : List Part) (rents : List ℕ) → AreRents rents → part_rents a parts rents ≤ length parts * (MOST_WEIGHT * (MOST_SLOTS * (MOST_CANDIDATES * MOST_RENT)))
part_rents-most a [] rents are = omega arith
part_rents-most a (part ∷ parts) rents are =
    let few : length part.slots ≤ MOST_SLOTS = part.limits.slots_most in
    let light : part.weight ≤ MOST_WEIGHT = part.limits.weight_most in
    let own = slot_rents-most a part.slots rents are in
    let most : slot_rents a part.slots rents ≤ MOST_SLOTS * (MOST_CANDIDATES * MOST_RENT) = omega (arith, own, few) in
    let rest = part_rents-most a parts (drop (part_grants part) rents) (drop-rents (part_grants part) rents are) in
    let weighted : part.weight * slot_rents a part.slots rents ≤ MOST_WEIGHT * (MOST_SLOTS * (MOST_CANDIDATES * MOST_RENT)) = mul-le-mul light most in
    omega (arith, weighted, rest)

-- ## Steps

-- rents past those of the grants don't count
grant_rents-take : (a : ℕ) (grants : List Grant) (rents : List ℕ) → grant_rents a grants (take (length grants) rents) ≡ grant_rents a grants rents
grant_rents-take a [] rents = refl
grant_rents-take a (grant ∷ grants) [] = refl
grant_rents-take a (grant ∷ grants) (rent ∷ rents) = ap (λ (n : ℕ). (if grant.candidate == a then rent else 0) + n) (grant_rents-take a grants rents)

pub grant_rents-own : (a n : ℕ) (grants : List Grant) (rents : List ℕ) → n ≡ length grants → grant_rents a grants (take n rents) ≡ grant_rents a grants rents
grant_rents-own a n grants rents few = ap (λ (k : ℕ). grant_rents a grants (take k rents)) few ∙ grant_rents-take a grants rents

-- the next grant and its rent, before the rest
grant_rents-drop : (a : ℕ) (grants : List Grant) (rents : List ℕ) (i : ℕ) (d : Grant) → i < length grants → i < length rents →
    grant_rents a (drop i grants) (drop i rents) ≡ (if (get_or grants i d).candidate == a then get_or rents i 0 else 0) + grant_rents a (drop (i + 1) grants) (drop (i + 1) rents)
grant_rents-drop a grants rents i d within inside =
    ap (λ (gs : List Grant). grant_rents a gs (drop i rents)) (drop_more grants i d within)
    ∙ ap (grant_rents a (get_or grants i d ∷ drop (i + 1) grants)) (drop_more rents i 0 inside)

earned-step : (grants : List Grant) (rents earned : List ℕ) (i : ℕ) (d : Grant) (weight a whole : ℕ) → i < length grants → i < length rents → (get_or grants i d).candidate - 1 < length earned →
    get_or earned a 0 + weight * grant_rents (suc a) (drop i grants) (drop i rents) ≡ whole →
    slice_index_or (slice_set earned ((get_or grants i d).candidate - 1) (slice_index_or earned ((get_or grants i d).candidate - 1) 0 + weight * slice_index_or rents i 0)) a 0
    + weight * grant_rents (suc a) (drop (i + 1) grants) (drop (i + 1) rents) ≡ whole
earned-step grants rents earned i d weight a whole within inside fits before =
    let grant : Grant = get_or grants i d in
    let some : 1 ≤ grant.candidate = grant.limits.least in
    let rent : ℕ = get_or rents i 0 in
    let rest : ℕ = grant_rents (suc a) (drop (i + 1) grants) (drop (i + 1) rents) in
    let old : grant_rents (suc a) (drop i grants) (drop i rents) ≡ (if grant.candidate == suc a then rent else 0) + rest = grant_rents-drop (suc a) grants rents i d within inside in
    let put : ℕ = slice_index_or earned (grant.candidate - 1) 0 + weight * slice_index_or rents i 0 in
    elim (cases_eq (grant.candidate - 1) a) [
      | inl same ↦
          let named : grant.candidate ≡ suc a = omega (arith, same, some) in
          let test : (grant.candidate == suc a) ≡ true = eq-eqb grant.candidate (suc a) named in
          let full : grant_rents (suc a) (drop i grants) (drop i rents) ≡ rent + rest = old ∙ ap (λ (b : Bool). (if b then rent else 0) + rest) test in
          let split : weight * (rent + rest) ≡ weight * rent + weight * rest = mul-add weight rent rest in
          let joined : weight * grant_rents (suc a) (drop i grants) (drop i rents) ≡ weight * rent + weight * rest = ap (λ (n : ℕ). weight * n) full ∙ split in
          let new : slice_index_or (slice_set earned (grant.candidate - 1) put) a 0 ≡ put = ap (λ (k : ℕ). slice_index_or (slice_set earned (grant.candidate - 1) put) k 0) (sym same) ∙ get_or-set_same earned (grant.candidate - 1) put 0 fits in
          let kept : slice_index_or earned (grant.candidate - 1) 0 ≡ get_or earned a 0 = ap (λ (k : ℕ). get_or earned k 0) same in
          omega (arith, joined, new, kept, before)
      | inr other ↦
          let test : (grant.candidate == suc a) ≡ false = ne_eqb grant.candidate (suc a) (λ e. other (omega (arith, e))) in
          let plain : 0 + rest ≡ rest = omega arith in
          let full : grant_rents (suc a) (drop i grants) (drop i rents) ≡ rest = old ∙ ap (λ (b : Bool). (if b then rent else 0) + rest) test ∙ plain in
          let joined : weight * grant_rents (suc a) (drop i grants) (drop i rents) ≡ weight * rest = ap (λ (n : ℕ). weight * n) full in
          let new : slice_index_or (slice_set earned (grant.candidate - 1) put) a 0 ≡ get_or earned a 0 = get_or-set_other earned (grant.candidate - 1) a put 0 (λ e. other (sym e)) in
          omega (arith, joined, new, before)
    ]

-- the same, by names
pub earn-step : (grants : List Grant) (rents earned new : List ℕ) (i : ℕ) (grant : Grant) (weight rent a whole : ℕ) → i < length grants → i < length rents → length earned ≡ 256 → grant ≡ get_or grants i grant → rent ≡ get_or rents i 0 →
    new ≡ slice_set earned (grant.candidate - 1) (slice_index_or earned (grant.candidate - 1) 0 + weight * rent) →
    get_or earned a 0 + weight * grant_rents (suc a) (drop i grants) (drop i rents) ≡ whole →
    get_or new a 0 + weight * grant_rents (suc a) (drop (i + 1) grants) (drop (i + 1) rents) ≡ whole
earn-step grants rents earned new i grant weight rent a whole within inside count is there made before =
    let own : Grant = get_or grants i grant in
    let most : own.candidate ≤ 256 = own.limits.most in
    let put : Grant → ℕ → List ℕ = λ (g : Grant) (n : ℕ). slice_set earned (g.candidate - 1) (slice_index_or earned (g.candidate - 1) 0 + weight * n) in
    let same : new ≡ put own (get_or rents i 0) = made ∙ ap (λ (g : Grant). put g rent) is ∙ ap (put own) there in
    ap (λ (es : List ℕ). get_or es a 0 + weight * grant_rents (suc a) (drop (i + 1) grants) (drop (i + 1) rents)) same
    ∙ earned-step grants rents earned i grant weight a whole within inside (omega (arith, most, count)) before

-- what a candidate brings in fits before the rest of a whole that fits
pub earn-fits : (earned : List ℕ) (rest whole : ℕ → ℕ) (grant : Grant) → ((a : ℕ) → a < MOST_CANDIDATES → whole a ≤ MOST_RENTS) → ((a : ℕ) → a < MOST_CANDIDATES → get_or earned a 0 + rest a ≡ whole a) →
    get_or earned (grant.candidate - 1) 0 ≤ MOST_RENTS
earn-fits earned rest whole grant fits each =
    let some : 1 ≤ grant.candidate = grant.limits.least in
    let most : grant.candidate ≤ MOST_CANDIDATES = grant.limits.most in
    let below : grant.candidate - 1 < MOST_CANDIDATES = omega (arith, some, most) in
    omega (arith, each (grant.candidate - 1) below, fits (grant.candidate - 1) below)

-- the next slot, before the rest
slot_rents-drop : (a : ℕ) (slots : List SlotPart) (rents : List ℕ) (next i : ℕ) (d : SlotPart) → i < length slots →
    slot_rents a (drop i slots) (drop next rents)
    ≡ grant_rents a (get_or slots i d).grants (drop next rents) + slot_rents a (drop (i + 1) slots) (drop (next + length (get_or slots i d).grants) rents)
slot_rents-drop a slots rents next i d within =
    let slot : SlotPart = get_or slots i d in
    ap (λ (ss : List SlotPart). slot_rents a ss (drop next rents)) (drop_more slots i d within)
    ∙ ap (λ (rs : List ℕ). grant_rents a slot.grants (drop next rents) + slot_rents a (drop (i + 1) slots) rs) (drop-drop (length slot.grants) next rents)

-- the next part, before the rest
pub part_rents-drop : (a : ℕ) (parts : List Part) (rents : List ℕ) (next i : ℕ) (d : Part) → i < length parts →
    part_rents a (drop i parts) (drop next rents)
    ≡ (get_or parts i d).weight * slot_rents a (get_or parts i d).slots (drop next rents) + part_rents a (drop (i + 1) parts) (drop (next + part_grants (get_or parts i d)) rents)
part_rents-drop a parts rents next i d within =
    let part : Part = get_or parts i d in
    ap (λ (ps : List Part). part_rents a ps (drop next rents)) (drop_more parts i d within)
    ∙ ap (λ (rs : List ℕ). part.weight * slot_rents a part.slots (drop next rents) + part_rents a (drop (i + 1) parts) rs) (drop-drop (part_grants part) next rents)

pub slots-step : (slots : List SlotPart) (rents : List ℕ) (next i count : ℕ) (slot : SlotPart) (grants : List Grant) (weight a old new whole : ℕ) → i < length slots → slot ≡ get_or slots i slot →
    count ≡ length slot.grants → grants ≡ slot.grants →
    old + weight * slot_rents (suc a) (drop i slots) (drop next rents) ≡ whole → new ≡ old + weight * grant_rents (suc a) grants (drop next rents) →
    new + weight * slot_rents (suc a) (drop (i + 1) slots) (drop (next + count) rents) ≡ whole
slots-step slots rents next i count slot grants weight a old new whole within is counted same before after =
    let here : ℕ = grant_rents (suc a) grants (drop next rents) in
    let rest : ℕ = slot_rents (suc a) (drop (i + 1) slots) (drop (next + count) rents) in
    let split : slot_rents (suc a) (drop i slots) (drop next rents) ≡ here + rest =
    slot_rents-drop (suc a) slots rents next i slot within
    ∙ ap (λ (s : SlotPart). grant_rents (suc a) s.grants (drop next rents) + slot_rents (suc a) (drop (i + 1) slots) (drop (next + length s.grants) rents)) (sym is)
    ∙ ap (λ (gs : List Grant). grant_rents (suc a) gs (drop next rents) + slot_rents (suc a) (drop (i + 1) slots) (drop (next + length slot.grants) rents)) (sym same)
    ∙ ap (λ (n : ℕ). here + slot_rents (suc a) (drop (i + 1) slots) (drop (next + n) rents)) (sym counted) in
    let joined : weight * slot_rents (suc a) (drop i slots) (drop next rents) ≡ weight * here + weight * rest = ap (λ (n : ℕ). weight * n) split ∙ mul-add weight here rest in
    omega (arith, joined, before, after)

pub parts-step : (parts : List Part) (rents : List ℕ) (next i : ℕ) (part : Part) (slots : List SlotPart) (a old whole : ℕ) → i < length parts → part ≡ get_or parts i part → slots ≡ part.slots →
    old + part_rents (suc a) (drop i parts) (drop next rents) ≡ whole →
    old + part.weight * slot_rents (suc a) slots (drop next rents) + part_rents (suc a) (drop (i + 1) parts) (drop (next + part_grants part) rents) ≡ whole
parts-step parts rents next i part slots a old whole within is same before =
    let split : part_rents (suc a) (drop i parts) (drop next rents) ≡ part.weight * slot_rents (suc a) slots (drop next rents) + part_rents (suc a) (drop (i + 1) parts) (drop (next + part_grants part) rents) =
    part_rents-drop (suc a) parts rents next i part within
    ∙ ap (λ (p : Part). p.weight * slot_rents (suc a) p.slots (drop next rents) + part_rents (suc a) (drop (i + 1) parts) (drop (next + part_grants p) rents)) (sym is)
    ∙ ap (λ (ss : List SlotPart). part.weight * slot_rents (suc a) ss (drop next rents) + part_rents (suc a) (drop (i + 1) parts) (drop (next + part_grants part) rents)) (sym same) in
    omega (arith, split, before)

-- the rents of a part fit
pub part-fits : (parts : List Part) (rents : List ℕ) (at i : ℕ) (part : Part) (slots : List SlotPart) (a old : ℕ) → length parts ≤ MOST_STATEMENTS → AreRents rents → i < length parts → part ≡ get_or parts i part → slots ≡ part.slots →
    old + part_rents (suc a) (drop i parts) (drop at rents) ≡ part_rents (suc a) parts rents → old + part.weight * slot_rents (suc a) slots (drop at rents) ≤ MOST_RENTS
part-fits parts rents at i part slots a old few are within is same before =
    let step = parts-step parts rents at i part slots a old _ within is same before in
    let most = part_rents-most (suc a) parts rents are in
    omega (arith, step, most, few)

-- and so do those of all, of which some may be left
pub earned-fit : (parts : List Part) (rents earned : List ℕ) (rest : ℕ → ℕ) → length parts ≤ MOST_STATEMENTS → AreRents rents → length earned ≡ 256 →
    ((a : ℕ) → a < MOST_CANDIDATES → get_or earned a 0 + rest a ≡ part_rents (suc a) parts rents) → All (λ sum. sum ≤ MOST_RENTS) earned
earned-fit parts rents earned rest few are count each = λ k d within.
    let here = each k (omega (arith, within, count)) in
    let most = part_rents-most (suc k) parts rents are in
    let same : get_or earned k d ≡ get_or earned k 0 = get_or_default earned k d 0 within in
    omega (arith, here, most, same, few)

pub nothing-yet : (n a k : ℕ) → get_or (replicate n 0) a 0 + k ≡ k
nothing-yet zero a k = omega arith
nothing-yet (suc n) zero k = omega arith
nothing-yet (suc n) (suc a) k = nothing-yet n a k
