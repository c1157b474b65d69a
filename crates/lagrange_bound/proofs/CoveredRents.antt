-- Under rent multipliers no candidate earns more than it costs.
use Rattle.std.proofs.Common.{◌≡◌, ◌∙◌, inl, inr, ℕ, suc, ◌+◌, ◌-◌, ◌*◌, ◌/◌, ◌≤◌, ◌==◌, Bool, cond, List, [], ◌∷◌, ◌++◌, length, drop, map, min, refl, sym, ap, subst, append-nil, append_assoc, length-append, arith}
use Rattle.std.specs.Prelude.{if◌then◌else◌, count_by, sum_by}
use Rattle.std.specs.List.{flat_map}
use Rattle.std.proofs.Math.Nat.{mul-add, mul-le-mul_left, mul_left_comm, mul_assoc, mul-div-le, div-zero, le_of_mul-le-mul_left, mul_comm}
use Rattle.std.proofs.lemmas.Bool.{cases_Bool, cases_lt, eqb-true}
use Rattle.std.proofs.lemmas.List.{drop_at, length-map}
use Rattle.std.proofs.lemmas.List.Sums.{sum_by-cons}
use Rattle.adv_base.specs.declared.limits.TheConstants.{MOST_RENT}
use Rattle.bip_model.specs.declared.grant.Grant.{Grant}
use Rattle.bip_model.specs.declared.part.Part.{Part}
use Rattle.bip_model.specs.declared.programme.Programme.{Programme}
use Rattle.bip_model.specs.declared.slot_part.SlotPart.{SlotPart}
use Rattle.bip_model.specs.Values.{part_grants}
use Rattle.lagrange_bound.specs.Bounds.{grant_rents, slot_rents, part_rents, candidate_cost, candidate_rents}
use Rattle.lagrange_bound.specs.Rents.{slot_uses, part_uses, uses, share, grant_rent, slot_list, part_list, rents_of}

-- ## A share

-- weighted rents, so many times over
load : ℕ → ℕ → ℕ → ℕ
load m w x = m * (65536 * (w * x))

load-zero : (m w : ℕ) → load m w 0 ≡ 0
unfolding load
load-zero m w = omega arith

load-add : (m w x y : ℕ) → load m w (x + y) ≡ load m w x + load m w y
unfolding load
load-add m w x y =
    ap (λ (n : ℕ). m * (65536 * n)) (mul-add w x y) ∙ ap (λ (n : ℕ). m * n) (mul-add 65536 (w * x) (w * y)) ∙ mul-add m (65536 * (w * x)) (65536 * (w * y))

min-less : (a b c : ℕ) → b ≤ c → min a b ≤ c
min-less a b c less = omega (arith, less)

-- as many shares as there are uses are at most the cost
share-times : (cost w k : ℕ) → load k w (share cost w k) ≤ cost
unfolding load
share-times cost w k =
    let parts : ℕ = 65536 * (w * k) in
    let s : ℕ = share cost w k in
    let less : s ≤ cost / parts = min-less MOST_RENT (cost / parts) (cost / parts) (omega arith) in
    let most : parts * (cost / parts) ≤ cost = mul-div-le cost parts in
    let more : parts * s ≤ parts * (cost / parts) = mul-le-mul_left parts less in
    let turned : k * (65536 * (w * s)) ≡ parts * s =
    mul_left_comm k 65536 (w * s) ∙ ap (λ (n : ℕ). 65536 * n) (mul_left_comm k w s ∙ sym (mul_assoc w k s)) ∙ sym (mul_assoc 65536 (w * k) s) in
    omega (arith, most, more, turned)

-- without uses there is no share
share-none : (cost w k : ℕ) → k ≡ 0 → share cost w k ≡ 0
share-none cost w k none =
    let product : w * k ≡ w * 0 = ap (λ (n : ℕ). w * n) none in
    let parts : 65536 * (w * k) ≡ 0 = omega (arith, product) in
    ap (λ (n : ℕ). min MOST_RENT (cost / n)) parts ∙ ap (min MOST_RENT) (div-zero cost)

-- ## What rents bring in, so many times over

module _ (programme : Programme) (mu i m : ℕ) (fair : (w : ℕ) → load m w (share (candidate_cost programme mu i) w (uses programme.parts (suc i))) ≤ candidate_cost programme mu i) where
  cost : ℕ
  cost = candidate_cost programme mu i

  grants-covered : (w : ℕ) (grants : List Grant) (rest : List ℕ) →
      load m w (grant_rents (suc i) grants (map (grant_rent programme mu w) grants ++ rest)) ≤ cost * count_by (λ grant. grant.candidate == suc i) grants
  unfolding cost
  grants-covered w [] rest = let none = load-zero m w in omega (arith, none)
  grants-covered w (grant ∷ grants) rest =
      let back : List ℕ = map (grant_rent programme mu w) grants ++ rest in
      let later : load m w (grant_rents (suc i) grants back) ≤ cost * count_by (λ grant. grant.candidate == suc i) grants = grants-covered w grants rest in
      let counted : count_by (λ grant. grant.candidate == suc i) (grant ∷ grants) ≡ cond (grant.candidate == suc i) 1 0 + count_by (λ grant. grant.candidate == suc i) grants =
      sum_by-cons (λ (g : Grant). cond (g.candidate == suc i) 1 0) grant grants in
      let split : cost * count_by (λ grant. grant.candidate == suc i) (grant ∷ grants) ≡ cost * cond (grant.candidate == suc i) 1 0 + cost * count_by (λ grant. grant.candidate == suc i) grants =
      ap (λ (n : ℕ). cost * n) counted ∙ mul-add cost (cond (grant.candidate == suc i) 1 0) (count_by (λ grant. grant.candidate == suc i) grants) in
      elim (cases_Bool (grant.candidate == suc i)) [
        | inl is ↦
            let named : grant.candidate ≡ suc i = eqb-true grant.candidate (suc i) is in
            let back_is : grant.candidate - 1 ≡ i = omega (arith, named) in
            let own : grant_rent programme mu w grant ≡ share (candidate_cost programme mu i) w (uses programme.parts (suc i)) =
            ap (λ (k : ℕ). share (candidate_cost programme mu k) w (uses programme.parts grant.candidate)) back_is
            ∙ ap (λ (a : ℕ). share (candidate_cost programme mu i) w (uses programme.parts a)) named in
            let first : load m w (grant_rent programme mu w grant) ≤ cost = subst (λ (r : ℕ). load m w r ≤ cost) (sym own) (fair w) in
            let whole : load m w (grant_rents (suc i) (grant ∷ grants) (grant_rent programme mu w grant ∷ back)) ≡ load m w (grant_rent programme mu w grant) + load m w (grant_rents (suc i) grants back) =
            ap (λ (b : Bool). load m w ((if b then grant_rent programme mu w grant else 0) + grant_rents (suc i) grants back)) is ∙ load-add m w (grant_rent programme mu w grant) (grant_rents (suc i) grants back) in
            let single : cost * cond (grant.candidate == suc i) 1 0 ≡ cost * 1 = ap (λ (b : Bool). cost * cond b 1 0) is in
            let once : cost * cond (grant.candidate == suc i) 1 0 ≡ cost = omega (arith, single) in
            omega (arith, later, split, first, whole, once)
        | inr not_is ↦
            let whole : load m w (grant_rents (suc i) (grant ∷ grants) (grant_rent programme mu w grant ∷ back)) ≡ load m w 0 + load m w (grant_rents (suc i) grants back) =
            ap (λ (b : Bool). load m w ((if b then grant_rent programme mu w grant else 0) + grant_rents (suc i) grants back)) not_is ∙ load-add m w 0 (grant_rents (suc i) grants back) in
            let none = load-zero m w in
            omega (arith, later, split, whole, none)
      ]

  slots-covered : (w : ℕ) (slots : List SlotPart) (rest : List ℕ) →
      load m w (slot_rents (suc i) slots (flat_map (slot_list programme mu w) slots ++ rest)) ≤ cost * sum_by (slot_uses (suc i)) slots
  unfolding cost
  slots-covered w [] rest = let none = load-zero m w in omega (arith, none)
  slots-covered w (slot ∷ slots) rest =
      let front : List ℕ = slot_list programme mu w slot in
      let back : List ℕ = flat_map (slot_list programme mu w) slots ++ rest in
      let joined : (front ++ flat_map (slot_list programme mu w) slots) ++ rest ≡ front ++ back = append_assoc front (flat_map (slot_list programme mu w) slots) rest in
      let left : drop (length slot.grants) (front ++ back) ≡ back = drop_at front back (length slot.grants) (length-map slot.grants (grant_rent programme mu w)) in
      let whole : slot_rents (suc i) (slot ∷ slots) ((front ++ flat_map (slot_list programme mu w) slots) ++ rest) ≡ grant_rents (suc i) slot.grants (front ++ back) + slot_rents (suc i) slots back =
      ap (slot_rents (suc i) (slot ∷ slots)) joined ∙ ap (λ (rs : List ℕ). grant_rents (suc i) slot.grants (front ++ back) + slot_rents (suc i) slots rs) left in
      let loads : load m w (slot_rents (suc i) (slot ∷ slots) ((front ++ flat_map (slot_list programme mu w) slots) ++ rest)) ≡ load m w (grant_rents (suc i) slot.grants (front ++ back)) + load m w (slot_rents (suc i) slots back) =
      ap (load m w) whole ∙ load-add m w (grant_rents (suc i) slot.grants (front ++ back)) (slot_rents (suc i) slots back) in
      let first = grants-covered w slot.grants back in
      let later = slots-covered w slots rest in
      let split : cost * sum_by (slot_uses (suc i)) (slot ∷ slots) ≡ cost * slot_uses (suc i) slot + cost * sum_by (slot_uses (suc i)) slots =
      ap (λ (n : ℕ). cost * n) (sum_by-cons (slot_uses (suc i)) slot slots) ∙ mul-add cost (slot_uses (suc i) slot) (sum_by (slot_uses (suc i)) slots) in
      omega (arith, loads, first, later, split)

  part-length : (w : ℕ) (slots : List SlotPart) → length (flat_map (slot_list programme mu w) slots) ≡ sum_by (λ slot. length slot.grants) slots
  part-length w [] = refl
  part-length w (slot ∷ slots) =
      length-append (slot_list programme mu w slot) (flat_map (slot_list programme mu w) slots)
      ∙ ap (λ (n : ℕ). n + length (flat_map (slot_list programme mu w) slots)) (length-map slot.grants (grant_rent programme mu w))
      ∙ ap (λ (n : ℕ). length slot.grants + n) (part-length w slots)
      ∙ sym (sum_by-cons (λ (x : SlotPart). length x.grants) slot slots)

  parts-covered : (parts : List Part) (rest : List ℕ) → m * (65536 * part_rents (suc i) parts (flat_map (part_list programme mu) parts ++ rest)) ≤ cost * sum_by (part_uses (suc i)) parts
  unfolding cost load
  parts-covered [] rest = omega arith
  parts-covered (part ∷ parts) rest =
      let front : List ℕ = part_list programme mu part in
      let back : List ℕ = flat_map (part_list programme mu) parts ++ rest in
      let joined : (front ++ flat_map (part_list programme mu) parts) ++ rest ≡ front ++ back = append_assoc front (flat_map (part_list programme mu) parts) rest in
      let left : drop (part_grants part) (front ++ back) ≡ back = drop_at front back (part_grants part) (part-length part.weight part.slots) in
      let own : ℕ = part.weight * slot_rents (suc i) part.slots (front ++ back) in
      let whole : part_rents (suc i) (part ∷ parts) ((front ++ flat_map (part_list programme mu) parts) ++ rest) ≡ own + part_rents (suc i) parts back =
      ap (part_rents (suc i) (part ∷ parts)) joined ∙ ap (λ (rs : List ℕ). own + part_rents (suc i) parts rs) left in
      let loads : m * (65536 * part_rents (suc i) (part ∷ parts) ((front ++ flat_map (part_list programme mu) parts) ++ rest)) ≡ m * (65536 * own) + m * (65536 * part_rents (suc i) parts back) =
      ap (λ (n : ℕ). m * (65536 * n)) whole ∙ ap (λ (n : ℕ). m * n) (mul-add 65536 own (part_rents (suc i) parts back)) ∙ mul-add m (65536 * own) (65536 * part_rents (suc i) parts back) in
      let first = slots-covered part.weight part.slots back in
      let later = parts-covered parts rest in
      let split : cost * sum_by (part_uses (suc i)) (part ∷ parts) ≡ cost * part_uses (suc i) part + cost * sum_by (part_uses (suc i)) parts =
      ap (λ (n : ℕ). cost * n) (sum_by-cons (part_uses (suc i)) part parts) ∙ mul-add cost (part_uses (suc i) part) (sum_by (part_uses (suc i)) parts) in
      omega (arith, loads, first, later, split)

-- ## At most the cost

pub rents-covered : (programme : Programme) (mu i : ℕ) → candidate_rents programme (rents_of programme mu) i ≤ candidate_cost programme mu i
unfolding candidate_rents uses load cost
rents-covered programme mu i =
    let cost : ℕ = candidate_cost programme mu i in
    let k : ℕ = uses programme.parts (suc i) in
    let whole : flat_map (part_list programme mu) programme.parts ++ [] ≡ rents_of programme mu = append-nil (flat_map (part_list programme mu) programme.parts) in
    elim (cases_lt 0 k) [
      | inl some ↦
          let covered = parts-covered programme mu i k (λ w. share-times (candidate_cost programme mu i) w k) programme.parts [] in
          let own : k * (65536 * part_rents (suc i) programme.parts (rents_of programme mu)) ≤ cost * k =
          subst (λ (rs : List ℕ). k * (65536 * part_rents (suc i) programme.parts rs) ≤ cost * k) whole covered in
          let turned : cost * k ≡ k * cost = mul_comm cost k in
          le_of_mul-le-mul_left (omega (arith, own, turned)) some
      | inr none ↦
          let zero_k : k ≡ 0 = omega (arith, none) in
          let fair : (w : ℕ) → 1 * (65536 * (w * share (candidate_cost programme mu i) w k)) ≤ candidate_cost programme mu i = λ w.
          let nothing : w * share (candidate_cost programme mu i) w k ≡ w * 0 = ap (λ (n : ℕ). w * n) (share-none (candidate_cost programme mu i) w k zero_k) in
          omega (arith, nothing) in
          let covered = parts-covered programme mu i 1 fair programme.parts [] in
          let own : 1 * (65536 * part_rents (suc i) programme.parts (rents_of programme mu)) ≤ cost * k =
          subst (λ (rs : List ℕ). 1 * (65536 * part_rents (suc i) programme.parts rs) ≤ cost * k) whole covered in
          let nothing : cost * k ≡ cost * 0 = ap (λ (n : ℕ). cost * n) zero_k in
          omega (arith, own, nothing)
    ]
