-- The rents of a programme's multipliers: at each slot the front of what is left of their list.
use Rattle.std.proofs.Common.{◌≡◌, ◌∙◌, ℕ, zero, suc, ◌+◌, ◌≤◌, ◌==◌, Bool, true, false, ◌&&◌, List, [], ◌∷◌, ◌++◌, length, map, drop, refl, sym, ap, subst, append_assoc, arith}
use Rattle.std.specs.Prelude.{if◌then◌else◌}
use Rattle.std.proofs.lemmas.Bool.{eq-eqb, ne_eqb}
use Rattle.std.proofs.lemmas.List.{drop-drop}
use Rattle.plan_model.proofs.Sums.{total, sum-total}
use Rattle.bip_model.specs.declared.grant.Grant.{Grant}
use Rattle.bip_model.specs.declared.slot_part.SlotPart.{SlotPart}
use Rattle.bip_model.specs.declared.part.Part.{Part}
use Rattle.bip_model.specs.Values.{part_grants}
use Rattle.bip_model.specs.Views.{Place, slot_places, part_places, is_place, rent_at}

-- ## Rents in the order of a list

-- the rent of each grant's candidate is the next of a list
abbrev pub RentsAre : (ℕ → ℕ) → List Grant → List ℕ → Type 0
RentsAre f [] rents = Unit {0}
RentsAre f (grant ∷ grants) [] = ⊥
RentsAre f (grant ∷ grants) (rent ∷ rents) = (f grant.candidate ≡ rent) × RentsAre f grants rents

abbrev pub SlotsAre : (ℕ → ℕ → ℕ) → ℕ → List SlotPart → List ℕ → Type 0
SlotsAre f s [] rents = Unit {0}
SlotsAre f s (slot ∷ slots) rents = RentsAre (f s) slot.grants rents × SlotsAre f (suc s) slots (drop (length slot.grants) rents)

abbrev pub PartsAre : (ℕ → ℕ → ℕ → ℕ) → List Part → List ℕ → Type 0
PartsAre f [] rents = Unit {0}
PartsAre f (part ∷ parts) rents = SlotsAre (f part.statement) 0 part.slots rents × PartsAre f parts (drop (part_grants part) rents)

-- the candidates of grants rise from a number on
abbrev pub Ascending : ℕ → List Grant → Type 0
Ascending k [] = Unit {0}
Ascending k (grant ∷ grants) = (k ≤ grant.candidate) × Ascending (suc grant.candidate) grants

abbrev pub SlotsAscending : List SlotPart → Type 0
SlotsAscending [] = Unit {0}
SlotsAscending (slot ∷ slots) = Ascending 0 slot.grants × SlotsAscending slots

-- and so do the statements of parts
abbrev pub PartsAscending : ℕ → List Part → Type 0
PartsAscending q [] = Unit {0}
PartsAscending q (part ∷ parts) = (q ≤ part.statement) × SlotsAscending part.slots × PartsAscending (suc part.statement) parts

pub ascending-below : (k l : ℕ) (grants : List Grant) → l ≤ k → Ascending k grants → Ascending l grants
ascending-below k l [] less asc = tt
ascending-below k l (grant ∷ grants) less asc = (omega (arith, less, asc.0), asc.1)

pub parts-below : (q r : ℕ) (parts : List Part) → r ≤ q → PartsAscending q parts → PartsAscending r parts
parts-below q r [] less asc = tt
parts-below q r (part ∷ parts) less asc = (omega (arith, less, asc.0), asc.1, asc.2)

-- ## Other rents that are the same there

rents-same : (f g : ℕ → ℕ) (grants : List Grant) (rents : List ℕ) → ((a : ℕ) → f a ≡ g a) → RentsAre f grants rents → RentsAre g grants rents
rents-same f g [] rents same are = tt
rents-same f g (grant ∷ grants) [] same are = absurd are
rents-same f g (grant ∷ grants) (rent ∷ rents) same are = (sym (same grant.candidate) ∙ are.0, rents-same f g grants rents same are.1)

rents-above : (f g : ℕ → ℕ) (k : ℕ) (grants : List Grant) (rents : List ℕ) → Ascending k grants → ((a : ℕ) → k ≤ a → f a ≡ g a) → RentsAre f grants rents → RentsAre g grants rents
rents-above f g k [] rents asc same are = tt
rents-above f g k (grant ∷ grants) [] asc same are = absurd are
rents-above f g k (grant ∷ grants) (rent ∷ rents) asc same are =
    (sym (same grant.candidate asc.0) ∙ are.0, rents-above f g (suc grant.candidate) grants rents asc.1 (λ a above. same a (omega (arith, above, asc.0))) are.1)

slots-above : (f g : ℕ → ℕ → ℕ) (s : ℕ) (slots : List SlotPart) (rents : List ℕ) → ((t a : ℕ) → s ≤ t → f t a ≡ g t a) → SlotsAre f s slots rents → SlotsAre g s slots rents
slots-above f g s [] rents same are = tt
slots-above f g s (slot ∷ slots) rents same are =
    (rents-same (f s) (g s) slot.grants rents (λ a. same s a (omega arith)) are.0, slots-above f g (suc s) slots (drop (length slot.grants) rents) (λ t a above. same t a (omega (arith, above))) are.1)

parts-above : (f g : ℕ → ℕ → ℕ → ℕ) (q : ℕ) (parts : List Part) (rents : List ℕ) → PartsAscending q parts → ((r s a : ℕ) → q ≤ r → f r s a ≡ g r s a) → PartsAre f parts rents → PartsAre g parts rents
parts-above f g q [] rents asc same are = tt
parts-above f g q (part ∷ parts) rents asc same are = (
  slots-above (f part.statement) (g part.statement) 0 part.slots rents (λ s a above. same part.statement s a asc.0) are.0,
  parts-above f g (suc part.statement) parts (drop (part_grants part) rents) asc.2 (λ r s a above. same r s a (omega (arith, above, asc.0))) are.1,
)

-- ## Places

place_of : ℕ → ℕ → Grant → Place
place_of q s grant = record { statement = q; slot = s; candidate = grant.candidate }

and-false : (b : Bool) → (b && false) ≡ false
and-false true = refl
and-false false = refl

here-is : (q s a : ℕ) → is_place (record { statement = q; slot = s; candidate = a }) q s a ≡ true
here-is q s a =
    let first : (q == q) ≡ true = eq-eqb q q refl in
    let second : (s == s) ≡ true = eq-eqb s s refl in
    let third : (a == a) ≡ true = eq-eqb a a refl in
    rw (first, second, third) refl

other-candidate : (q s c r t a : ℕ) → (c ≡ a → ⊥) → is_place (record { statement = q; slot = s; candidate = c }) r t a ≡ false
other-candidate q s c r t a other =
    ap (λ (b : Bool). (q == r) && ((s == t) && b)) (ne_eqb c a other) ∙ ap (λ (b : Bool). (q == r) && b) (and-false (s == t)) ∙ and-false (q == r)

other-slot : (q s c r t a : ℕ) → (s ≡ t → ⊥) → is_place (record { statement = q; slot = s; candidate = c }) r t a ≡ false
other-slot q s c r t a other = ap (λ (b : Bool). (q == r) && (b && (c == a))) (ne_eqb s t other) ∙ and-false (q == r)

other-statement : (q s c r t a : ℕ) → (q ≡ r → ⊥) → is_place (record { statement = q; slot = s; candidate = c }) r t a ≡ false
other-statement q s c r t a other = ap (λ (b : Bool). b && ((s == t) && (c == a))) (ne_eqb q r other)

no-rents : (places : List Place) (q s a : ℕ) → rent_at places [] q s a ≡ 0
no-rents [] q s a = refl
no-rents (place ∷ places) q s a = refl

-- ## A slot

front-rents : (q s k : ℕ) (grants : List Grant) (rest : List Place) (rents : List ℕ) → Ascending k grants → length grants ≤ length rents →
    RentsAre (λ a. rent_at (map (place_of q s) grants ++ rest) rents q s a) grants rents
unfolding place_of
front-rents q s k [] rest rents asc enough = tt
front-rents q s k (grant ∷ grants) rest [] asc enough = absurd (omega (arith, enough))
front-rents q s k (grant ∷ grants) rest (rent ∷ rents) asc enough =
    let places : List Place = map (place_of q s) grants ++ rest in (
      ap (λ (b : Bool). if b then rent else rent_at places rents q s grant.candidate) (here-is q s grant.candidate),
      rents-above (λ a. rent_at places rents q s a) (λ a. if is_place (place_of q s grant) q s a then rent else rent_at places rents q s a) (suc grant.candidate) grants rents asc.1
          (λ a above. sym (ap (λ (b : Bool). if b then rent else rent_at places rents q s a) (other-candidate q s grant.candidate q s a (λ e. omega (arith, e, above)))))
          (front-rents q s (suc grant.candidate) grants rest rents asc.1 (omega (arith, enough))),
    )

skip-grants : (q s : ℕ) (grants : List Grant) (rest : List Place) (rents : List ℕ) (r t a : ℕ) → ((c : ℕ) → is_place (record { statement = q; slot = s; candidate = c }) r t a ≡ false) →
    rent_at (map (place_of q s) grants ++ rest) rents r t a ≡ rent_at rest (drop (length grants) rents) r t a
unfolding place_of
skip-grants q s [] rest rents r t a other = refl
skip-grants q s (grant ∷ grants) rest [] r t a other = sym (no-rents rest r t a)
skip-grants q s (grant ∷ grants) rest (rent ∷ rents) r t a other =
    ap (λ (b : Bool). if b then rent else rent_at (map (place_of q s) grants ++ rest) rents r t a) (other grant.candidate)
    ∙ skip-grants q s grants rest rents r t a other

-- ## Slots

grants_in : List SlotPart → ℕ
grants_in slots = total (λ slot. length slot.grants) slots

slots-rents : (q s : ℕ) (slots : List SlotPart) (rest : List Place) (rents : List ℕ) → SlotsAscending slots → grants_in slots ≤ length rents →
    SlotsAre (λ t a. rent_at (slot_places q s slots ++ rest) rents q t a) s slots rents
unfolding grants_in place_of
slots-rents q s [] rest rents asc enough = tt
slots-rents q s (slot ∷ slots) rest rents asc enough =
    let front : List Place = map (place_of q s) slot.grants in
    let back : List Place = slot_places q (suc s) slots ++ rest in
    let left : List ℕ = drop (length slot.grants) rents in
    subst (λ (places : List Place). SlotsAre (λ t a. rent_at places rents q t a) s (slot ∷ slots) rents) (sym (append_assoc front (slot_places q (suc s) slots) rest)) (
      front-rents q s 0 slot.grants back rents asc.0 (omega (arith, enough)),
      slots-above (λ t a. rent_at back left q t a) (λ t a. rent_at (front ++ back) rents q t a) (suc s) slots left
          (λ t a above. sym (skip-grants q s slot.grants back rents q t a (λ c. other-slot q s c q t a (λ e. omega (arith, e, above)))))
          (slots-rents q (suc s) slots rest left asc.1 (enough-left (length slot.grants) (grants_in slots) rents enough)),
    )
  where
    enough-left : (n m : ℕ) (rents : List ℕ) → n + m ≤ length rents → m ≤ length (drop n rents)
    enough-left zero m rents less = omega (arith, less)
    enough-left (suc n) m [] less = omega (arith, less)
    enough-left (suc n) m (rent ∷ rents) less = enough-left n m rents (omega (arith, less))

skip-slots : (q s : ℕ) (slots : List SlotPart) (rest : List Place) (rents : List ℕ) (r t a : ℕ) → (q ≡ r → ⊥) →
    rent_at (slot_places q s slots ++ rest) rents r t a ≡ rent_at rest (drop (grants_in slots) rents) r t a
unfolding grants_in place_of
skip-slots q s [] rest rents r t a other = refl
skip-slots q s (slot ∷ slots) rest rents r t a other =
    let front : List Place = map (place_of q s) slot.grants in
    ap (λ (places : List Place). rent_at places rents r t a) (append_assoc front (slot_places q (suc s) slots) rest)
    ∙ skip-grants q s slot.grants (slot_places q (suc s) slots ++ rest) rents r t a (λ c. other-statement q s c r t a other)
    ∙ skip-slots q (suc s) slots rest (drop (length slot.grants) rents) r t a other
    ∙ ap (λ (rs : List ℕ). rent_at rest rs r t a) (drop-drop (grants_in slots) (length slot.grants) rents)

-- ## Parts

part-total : (part : Part) → part_grants part ≡ grants_in part.slots
unfolding grants_in
part-total part = sum-total (λ (slot : SlotPart). length slot.grants) part.slots

pub parts-rents : (q : ℕ) (parts : List Part) (rents : List ℕ) → PartsAscending q parts → total part_grants parts ≤ length rents →
    PartsAre (λ r s a. rent_at (part_places parts) rents r s a) parts rents
parts-rents q [] rents asc enough = tt
parts-rents q (part ∷ parts) rents asc enough =
    let rest : List Place = part_places parts in
    let front : List Place = slot_places part.statement 0 part.slots in
    let left : List ℕ = drop (part_grants part) rents in
    let count = part-total part in (
      slots-rents part.statement 0 part.slots rest rents asc.1 (omega (arith, count, enough)),
      parts-above (λ r s a. rent_at rest left r s a) (λ r s a. rent_at (front ++ rest) rents r s a) (suc part.statement) parts left asc.2
          (λ r s a above.
          sym (skip-slots part.statement 0 part.slots rest rents r s a (λ e. omega (arith, e, above))
          ∙ ap (λ (n : ℕ). rent_at rest (drop n rents) r s a) (sym count)))
          (parts-rents (suc part.statement) parts left asc.2 (left-enough (part_grants part) (total part_grants parts) rents enough)),
    )
  where
    left-enough : (n m : ℕ) (rents : List ℕ) → n + m ≤ length rents → m ≤ length (drop n rents)
    left-enough zero m rents less = omega (arith, less)
    left-enough (suc n) m [] less = omega (arith, less)
    left-enough (suc n) m (rent ∷ rents) less = left-enough n m rents (omega (arith, less))
