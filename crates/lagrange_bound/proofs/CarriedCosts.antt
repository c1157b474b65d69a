-- Laws of plan costs that are kept from node to node.
use Rattle.std.proofs.Common.{◌≡◌, ◌∙◌, inl, inr, ℕ, zero, suc, ◌+◌, ◌*◌, ◌^◌, ◌<◌, ◌≤◌, ◌⊎◌, Bool, true, false, not, List, [], ◌∷◌, ◌++◌, length, get_or, take, drop, fold, min, All, refl, sym, ap, subst, append-nil, append_assoc, arith}
use Rattle.std.specs.Prelude.{Option, Some, None, if◌then◌else◌, sum_by, slice_set, slice_index_or, option_and_then, unwrap_or}
use Rattle.std.specs.Option.{ForSome, option_map}
use Rattle.std.proofs.lemmas.Bool.{false≢true}
use Rattle.std.proofs.lemmas.List.{drop_all, drop_more, drop-drop, take_all, take_more, take_more_set}
use Rattle.std.proofs.lemmas.List.Elements.{All-head, All-tail}
use Rattle.std.proofs.lemmas.List.Sums.{sum_by_more, sum_by-take-le}
use Rattle.std.proofs.lemmas.Option.{slice_get_cases}
use Rattle.adv_base.specs.declared.limits.TheConstants.{MOST_PRICE, MOST_RENT}
use Rattle.adv_base.specs.declared.setting.Config.{Config}
use Rattle.adv_base.specs.Configs.{has_candidate}
use Rattle.plan_model.specs.declared.template.Template.{Template}
use Rattle.bip_model.specs.declared.grant.Grant.{Grant}
use Rattle.bip_model.specs.declared.part.Part.{Part}
use Rattle.bip_model.specs.declared.slot_part.SlotPart.{SlotPart}
use Rattle.bip_model.specs.Limits.Parts.{TemplateLimits}
use Rattle.bip_model.specs.Candidates.{is_cheaper, has_cheaper}
use Rattle.bip_model.specs.Values.{MOST_PLAN, lesser, plus, price_of, need, part_grants}
use Rattle.lagrange_bound.specs.Rented.{asked, least_asked, rented_price, grants_before, needed_price, cost_below, template_cost, least_cost, rented_cost, plan_costs}
use Rattle.lagrange_bound.proofs.CheaperPrices.{cheaper-nowhere, lesser-self, lesser-below, asked-idle}
use Rattle.lagrange_bound.proofs.RentedPrices.{AreRents, drop-rents, rented_price-price}

-- ## Where the rents of a part stand

-- the next part's end where those of the part after it begin
pub next-place : (parts : List Part) (i at : ℕ) (part : Part) → i < length parts → part ≡ get_or parts i part → at ≡ sum_by part_grants (take i parts) → at + part_grants part ≡ sum_by part_grants (take (i + 1) parts)
next-place parts i at part within is place =
    let more : sum_by part_grants (take (i + 1) parts) ≡ sum_by part_grants (take i parts) + part_grants (get_or parts i part) = sum_by_more part_grants parts i part within in
    let own : part_grants part ≡ part_grants (get_or parts i part) = ap part_grants is in
    omega (arith, more, own, place)

-- and there are so many
pub next-room : (parts : List Part) (rents : List ℕ) (i at : ℕ) (part : Part) → length rents ≡ sum_by part_grants parts → i < length parts → part ≡ get_or parts i part → at ≡ sum_by part_grants (take i parts) → at + part_grants part ≤ length rents
next-room parts rents i at part each within is place =
    let next = next-place parts i at part within is place in
    let most : sum_by part_grants (take (i + 1) parts) ≤ sum_by part_grants parts = sum_by-take-le part_grants parts (i + 1) in
    omega (arith, next, most, each)

-- ## One part more

plan_costs-drop : (config : Config) (parts : List Part) (rents : List ℕ) (at i : ℕ) (d : Part) → i < length parts →
    plan_costs config (drop i parts) (drop at rents)
    ≡ rented_cost config (get_or parts i d) (drop at rents) ∷ plan_costs config (drop (i + 1) parts) (drop (at + part_grants (get_or parts i d)) rents)
plan_costs-drop config parts rents at i d within =
    let part : Part = get_or parts i d in
    ap (λ (ps : List Part). plan_costs config ps (drop at rents)) (drop_more parts i d within)
    ∙ ap (λ (rs : List ℕ). rented_cost config part (drop at rents) ∷ plan_costs config (drop (i + 1) parts) rs) (drop-drop (part_grants part) at rents)

pub costs-more : (config : Config) (parts : List Part) (rents costs whole : List ℕ) (at i v count : ℕ) (part : Part) → i < length parts → i < length costs → part ≡ get_or parts i part →
    count ≡ part_grants part → v ≡ rented_cost config part (drop at rents) →
    take i costs ++ plan_costs config (drop i parts) (drop at rents) ≡ whole →
    take (i + 1) (slice_set costs i v) ++ plan_costs config (drop (i + 1) parts) (drop (at + count) rents) ≡ whole
costs-more config parts rents costs whole at i v count part within inside is counted made before =
    let rest : List ℕ = plan_costs config (drop (i + 1) parts) (drop (at + count) rents) in
    let split : plan_costs config (drop i parts) (drop at rents) ≡ v ∷ rest =
    plan_costs-drop config parts rents at i part within
    ∙ ap (λ (p : Part). rented_cost config p (drop at rents) ∷ plan_costs config (drop (i + 1) parts) (drop (at + part_grants p) rents)) (sym is)
    ∙ ap (λ (n : ℕ). n ∷ plan_costs config (drop (i + 1) parts) (drop (at + part_grants part) rents)) (sym made)
    ∙ ap (λ (n : ℕ). v ∷ plan_costs config (drop (i + 1) parts) (drop (at + n) rents)) (sym counted) in
    ap (λ (xs : List ℕ). xs ++ rest) (take_more_set costs i v inside)
    ∙ append_assoc (take i costs) (v ∷ []) rest
    ∙ ap (λ (xs : List ℕ). take i costs ++ xs) (sym split) ∙ before

-- the same, by the place where the next part's rents begin
pub costs-after : (config : Config) (parts : List Part) (rents costs whole : List ℕ) (at i v next : ℕ) (part : Part) → i < length parts → i < length costs → part ≡ get_or parts i part →
    next ≡ at + part_grants part → v ≡ rented_cost config part (drop at rents) →
    take i costs ++ plan_costs config (drop i parts) (drop at rents) ≡ whole →
    take (i + 1) (slice_set costs i v) ++ plan_costs config (drop (i + 1) parts) (drop next rents) ≡ whole
costs-after config parts rents costs whole at i v next part within inside is place made before =
    ap (λ (n : ℕ). take (i + 1) (slice_set costs i v) ++ plan_costs config (drop (i + 1) parts) (drop n rents)) place
    ∙ costs-more config parts rents costs whole at i v (part_grants part) part within inside is refl made before

pub costs-done : (config : Config) (parts : List Part) (rents costs whole : List ℕ) (at i : ℕ) → length parts ≤ i → length costs ≡ length parts →
    take i costs ++ plan_costs config (drop i parts) (drop at rents) ≡ whole → costs ≡ whole
costs-done config parts rents costs whole at i past same before =
    let none : drop i parts ≡ [] = drop_all i parts past in
    let full : take i costs ≡ costs = take_all i costs (omega (arith, past, same)) in
    sym (append-nil costs) ∙ ap (λ (xs : List ℕ). xs ++ []) (sym full)
    ∙ ap (λ (ps : List Part). take i costs ++ plan_costs config ps (drop at rents)) (sym none) ∙ before

pub length-plan_costs : (config : Config) (parts : List Part) (rents : List ℕ) → length (plan_costs config parts rents) ≡ length parts
length-plan_costs config [] rents = refl
length-plan_costs config (part ∷ parts) rents = ap suc (length-plan_costs config parts (drop (part_grants part) rents))

-- the next old cost, and what is left of them
pub record IsNext (config : Config) (parts : List Part) (rents old : List ℕ) (at i count : ℕ) (part : Part) : Type 0 where
  pub cost : get_or old i 0 ≡ rented_cost config part (drop at rents)
  pub rest : drop (i + 1) old ≡ plan_costs config (drop (i + 1) parts) (drop (at + count) rents)

pub next-old : (config : Config) (parts : List Part) (rents old : List ℕ) (at i count : ℕ) (part : Part) → i < length parts → i < length old → part ≡ get_or parts i part → count ≡ part_grants part →
    drop i old ≡ plan_costs config (drop i parts) (drop at rents) → IsNext config parts rents old at i count part
next-old config parts rents old at i count part within inside is counted before =
    let own : ℕ = rented_cost config part (drop at rents) in
    let rest : List ℕ = plan_costs config (drop (i + 1) parts) (drop (at + count) rents) in
    let split : get_or old i 0 ∷ drop (i + 1) old ≡ own ∷ rest =
    sym (drop_more old i 0 inside) ∙ before ∙ plan_costs-drop config parts rents at i part within
    ∙ ap (λ (p : Part). rented_cost config p (drop at rents) ∷ plan_costs config (drop (i + 1) parts) (drop (at + part_grants p) rents)) (sym is)
    ∙ ap (λ (n : ℕ). own ∷ plan_costs config (drop (i + 1) parts) (drop (at + n) rents)) (sym counted) in
    record { cost = cc; rest = cc }

-- ## A cost that stays

-- two configurations are alike for some grants
abbrev pub AreAlike : Config → Config → List Grant → Type 0
AreAlike from to grants = All (λ grant. has_candidate from grant.candidate ≡ has_candidate to grant.candidate) grants

abbrev pub SlotsAlike : Config → Config → List SlotPart → Type 0
SlotsAlike from to slots = All (λ slot. AreAlike from to slot.grants) slots

-- of two flags neither is on alone
pub alone-false : (a b x y r : Bool) → r ≡ (if a then not b else b) → a ≡ x → b ≡ y → r ≡ false → x ≡ y
alone-false true true x y r is first second none = sym first ∙ second
alone-false true false x y r is first second none = absurd (false≢true (sym none ∙ is))
alone-false false true x y r is first second none = absurd (false≢true (sym none ∙ is))
alone-false false false x y r is first second none = sym first ∙ second

all-append : {X : Type 0} (P : X → Type 0) (xs ys : List X) → All P xs → All P ys → All P (xs ++ ys)
all-append P [] ys first second k d within = second k d within
all-append P (x ∷ xs) ys first second zero d within = first 0 d (omega arith)
all-append P (x ∷ xs) ys first second (suc k) d within = all-append P xs ys (λ j e inside. first (suc j) e (omega (arith, inside))) second k d (omega (arith, within))

all-one : {X : Type 0} (P : X → Type 0) (x : X) → P x → All P (x ∷ [])
all-one P x is zero d within = is
all-one P x is (suc k) d within = absurd (omega (arith, within))

pub all-more : {X : Type 0} (P : X → Type 0) (xs : List X) (i : ℕ) (x : X) → i < length xs → x ≡ get_or xs i x → All P (take i xs) → P x → All P (take (i + 1) xs)
all-more P xs i x within is before here =
    subst (All P) (sym (take_more xs i x within)) (all-append P (take i xs) (get_or xs i x ∷ []) before (all-one P (get_or xs i x) (subst P is here)))

-- at a slot they are so for a grant, or it gives no order for less than what exists
abbrev pub IsSettled : Config → Config → List (Option ℕ) → Grant → Type 0
IsSettled from to base grant = (has_candidate from grant.candidate ≡ has_candidate to grant.candidate) ⊎ (has_cheaper grant.prices base ≡ false)

abbrev pub SlotsSettled : Config → Config → List SlotPart → Type 0
SlotsSettled from to slots = All (λ slot. All (IsSettled from to slot.base) slot.grants) slots

OneEach : List (Option ℕ) → List Grant → Type 0
OneEach base grants = All (λ grant. length grant.prices ≡ length base) grants

asked-settled : (from to : Config) (o : ℕ) (best : Option ℕ) (base : List (Option ℕ)) (grants : List Grant) (rents : List ℕ) → All (IsSettled from to base) grants → OneEach base grants →
    lesser best (price_of base o) ≡ best → least_asked from o best grants rents ≡ least_asked to o best grants rents
unfolding OneEach
asked-settled from to o best base [] rents settled each low = refl
asked-settled from to o best base (grant ∷ grants) [] settled each low = refl
asked-settled from to o best base (grant ∷ grants) (rent ∷ rents) settled each low =
    elim (All-head (IsSettled from to base) grant grants settled) [
      | inl here ↦
          ap (λ (b : Bool). least_asked from o (lesser best (option_map (λ price. price + rent) (if b then price_of grant.prices o else None))) grants rents) here
          ∙ asked-settled from to o (lesser best (asked to o grant rent)) base grants rents rest others (lesser-below best (price_of base o) (asked to o grant rent) low)
      | inr none ↦
          let idle : is_cheaper (price_of grant.prices o) (price_of base o) ≡ false =
          cheaper-nowhere grant.prices base o (All-head (λ (g : Grant). length g.prices ≡ length base) grant grants each) none in
          ap (λ (a : Option ℕ). least_asked from o a grants rents) (asked-idle from o best (price_of base o) grant rent low idle)
          ∙ asked-settled from to o best base grants rents rest others low
          ∙ ap (λ (a : Option ℕ). least_asked to o a grants rents) (sym (asked-idle to o best (price_of base o) grant rent low idle))
    ]
  where
    rest : All (IsSettled from to base) grants
    rest = All-tail (IsSettled from to base) grant grants settled

    others : OneEach base grants
    others = All-tail (λ (g : Grant). length g.prices ≡ length base) grant grants each

needed-settled : (from to : Config) (slots : List SlotPart) (rents : List ℕ) (template : Template) (s : ℕ) → SlotsSettled from to slots →
    needed_price from slots rents template s ≡ needed_price to slots rents template s
unfolding OneEach
needed-settled from to slots rents template s settled =
    elim (slice_get_cases slots s).1 [
      | inl there ↦
          let slot : SlotPart = there.0 in
          let front : List ℕ = drop (grants_before slots s) rents in
          let own : All (IsSettled from to (slice_index_or slots s slot).base) (slice_index_or slots s slot).grants = settled s slot there.1 in
          let same : rented_price from slot front (need template s) ≡ rented_price to slot front (need template s) =
          asked-settled from to (need template s) (price_of slot.base (need template s)) slot.base slot.grants front (moved (slice_index_or slots s slot) slot there.3 own) slot.limits.one_each
          (lesser-self (price_of slot.base (need template s))) in
          ap (option_and_then (λ (x : SlotPart). rented_price from x front (need template s))) there.2 ∙ same
          ∙ sym (ap (option_and_then (λ (x : SlotPart). rented_price to x front (need template s))) there.2)
      | inr past ↦
          let front : List ℕ = drop (grants_before slots s) rents in
          ap (option_and_then (λ (x : SlotPart). rented_price from x front (need template s))) past.1
          ∙ sym (ap (option_and_then (λ (x : SlotPart). rented_price to x front (need template s))) past.1)
    ]
  where
    moved : (x y : SlotPart) → x ≡ y → All (IsSettled from to x.base) x.grants → All (IsSettled from to y.base) y.grants
    moved x y same are = subst (λ (z : SlotPart). All (IsSettled from to z.base) z.grants) same are

below-settled : (from to : Config) (slots : List SlotPart) (rents : List ℕ) (template : Template) (n : ℕ) → SlotsSettled from to slots → cost_below from slots rents template n ≡ cost_below to slots rents template n
unfolding cost_below
below-settled from to slots rents template zero settled = refl
below-settled from to slots rents template (suc n) settled =
    ap (λ (a : Option ℕ). plus a (needed_price from slots rents template n)) (below-settled from to slots rents template n settled)
    ∙ ap (plus (cost_below to slots rents template n)) (needed-settled from to slots rents template n settled)

least-settled : (from to : Config) (slots : List SlotPart) (rents : List ℕ) (best : Option ℕ) (templates : List Template) → SlotsSettled from to slots →
    fold (λ best template. lesser best (template_cost from slots rents template)) best templates ≡ fold (λ best template. lesser best (template_cost to slots rents template)) best templates
least-settled from to slots rents best [] settled = refl
least-settled from to slots rents best (template ∷ templates) settled =
    ap (λ (o : Option ℕ). fold (λ best template. lesser best (template_cost from slots rents template)) (lesser best o) templates) (below-settled from to slots rents template (length slots) settled)
    ∙ least-settled from to slots rents (lesser best (template_cost to slots rents template)) templates settled

pub rented_cost-settled : (from to : Config) (part : Part) (rents : List ℕ) → SlotsSettled from to part.slots → rented_cost from part rents ≡ rented_cost to part rents
unfolding rented_cost
rented_cost-settled from to part rents settled = ap (λ (o : Option ℕ). unwrap_or o 0) (least-settled from to part.slots rents None part.templates settled)

pub rented_cost-same : (from to : Config) (part : Part) (rents : List ℕ) → SlotsAlike from to part.slots → rented_cost from part rents ≡ rented_cost to part rents
rented_cost-same from to part rents alike = rented_cost-settled from to part rents (λ s d within k e inside. inl (alike s d within k e inside))

-- ## No cost is too great

IsMost : ℕ → Option ℕ → Type 0
IsMost most cost = ForSome cost (λ c. c ≤ most)

plus-most : (a b : Option ℕ) (m n : ℕ) → IsMost m a → IsMost n b → IsMost (m + n) (plus a b)
unfolding IsMost
plus-most None b m n first second = λ x e. absurd (cc)
plus-most (Some a) None m n first second = λ x e. absurd (cc)
plus-most (Some a) (Some b) m n first second = λ x e.
    let same : a + b ≡ x = cc in
    let one : a ≤ m = first a refl in
    let two : b ≤ n = second b refl in
    omega (arith, same, one, two)

lesser-most : (a b : Option ℕ) (m : ℕ) → IsMost m a → IsMost m b → IsMost m (lesser a b)
unfolding IsMost
lesser-most None b m first second = second
lesser-most (Some a) None m first second = first
lesser-most (Some a) (Some b) m first second = λ x e.
    let same : min a b ≡ x = cc in
    let one : a ≤ m = first a refl in
    omega (arith, same, one)

needed-most : (config : Config) (slots : List SlotPart) (rents : List ℕ) (template : Template) (s : ℕ) → AreRents rents → IsMost (2 ^ 64) (needed_price config slots rents template s)
unfolding IsMost
needed-most config slots rents template s are = λ x e.
    elim (slice_get_cases slots s).1 [
      | inl there ↦
          let slot : SlotPart = there.0 in
          let front : List ℕ = drop (grants_before slots s) rents in
          let own : rented_price config slot front (need template s) ≡ Some x = sym (ap (option_and_then (λ (y : SlotPart). rented_price config y front (need template s))) there.2) ∙ e in
          let most : x ≤ MOST_PRICE + MOST_RENT = rented_price-price config slot front (need template s) (drop-rents (grants_before slots s) rents are) x own in
          omega (arith, most)
      | inr past ↦
          let front : List ℕ = drop (grants_before slots s) rents in
          let none : None ≡ Some x = sym (ap (option_and_then (λ (y : SlotPart). rented_price config y front (need template s))) past.1) ∙ e in
          absurd (cc)
    ]

below-most : (config : Config) (slots : List SlotPart) (rents : List ℕ) (template : Template) (n : ℕ) → AreRents rents → IsMost (template.internal + n * 2 ^ 64) (cost_below config slots rents template n)
unfolding cost_below IsMost
below-most config slots rents template zero are = λ x e. let same : template.internal ≡ x = cc in omega (arith, same)
below-most config slots rents template (suc n) are = λ x e.
    let before = below-most config slots rents template n are in
    let sum : x ≤ template.internal + n * 2 ^ 64 + 2 ^ 64 =
    plus-most (cost_below config slots rents template n) (needed_price config slots rents template n) (template.internal + n * 2 ^ 64) (2 ^ 64) before (needed-most config slots rents template n are) x e in
    omega (arith, sum)

fold-most : (config : Config) (slots : List SlotPart) (rents : List ℕ) (best : Option ℕ) (templates : List Template) → length slots ≤ 8 → AreRents rents → All (TemplateLimits slots) templates → IsMost MOST_PLAN best →
    IsMost MOST_PLAN (fold (λ best template. lesser best (template_cost config slots rents template)) best templates)
unfolding IsMost
fold-most config slots rents best [] few are limits is = is
fold-most config slots rents best (template ∷ templates) few are limits is =
    fold-most config slots rents (lesser best (template_cost config slots rents template)) templates few are (All-tail (TemplateLimits slots) template templates limits)
    (lesser-most best (template_cost config slots rents template) MOST_PLAN is
    (weaker (template_cost config slots rents template) (template.internal + length slots * 2 ^ 64) (below-most config slots rents template (length slots) are)
    (omega (arith, few, (All-head (TemplateLimits slots) template templates limits).internal_most))))
  where
    weaker : (a : Option ℕ) (m : ℕ) → IsMost m a → m ≤ MOST_PLAN → IsMost MOST_PLAN a
    weaker a m first less = λ x e. let one : x ≤ m = first x e in omega (arith, one, less)

or-most : (a : Option ℕ) → IsMost MOST_PLAN a → unwrap_or a 0 ≤ MOST_PLAN
unfolding IsMost
or-most None is = omega arith
or-most (Some a) is = is a refl

rented_cost-most : (config : Config) (part : Part) (rents : List ℕ) → AreRents rents → rented_cost config part rents ≤ MOST_PLAN
unfolding rented_cost IsMost
rented_cost-most config part rents are =
    let few : length part.slots ≤ 8 = part.limits.slots_most in
    or-most (least_cost config part rents) (fold-most config part.slots rents None part.templates few are part.limits.templates_limits (λ x e. absurd (cc)))

pub plan_costs-most : (config : Config) (parts : List Part) (rents : List ℕ) → AreRents rents → All (λ cost. cost ≤ MOST_PLAN) (plan_costs config parts rents)
plan_costs-most config [] rents are k d within = absurd (omega (arith, within))
plan_costs-most config (part ∷ parts) rents are zero d within = rented_cost-most config part rents are
plan_costs-most config (part ∷ parts) rents are (suc k) d within =
    plan_costs-most config parts (drop (part_grants part) rents) (drop-rents (part_grants part) rents are) k d (omega (arith, within))
