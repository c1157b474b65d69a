-- Laws of the least prices of orders, and of what templates cost.
use Rattle.std.proofs.Common.{◌≡◌, ◌∙◌, inl, inr, ℕ, zero, suc, ◌+◌, ◌<◌, ◌≤◌, ◌==◌, Bool, true, false, List, [], ◌∷◌, length, fold, take, drop, drop-cons, get_or, min, All, refl, sym, ap, subst, arith}
use Rattle.std.specs.Prelude.{Option, Some, None, if◌then◌else◌, slice_get, slice_index_or, slice_set, option_and_then, sum}
use Rattle.std.specs.Option.{ForSome}
use Rattle.std.proofs.lemmas.Bool.{cases_lt, ne_eqb}
use Rattle.std.proofs.lemmas.Grind.{common_steps}
use Rattle.std.proofs.lemmas.List.{drop_all}
use Rattle.std.proofs.lemmas.List.Elements.{All-head, All-tail}
use Rattle.std.proofs.lemmas.List.Sums.{fold_more}
use Rattle.std.proofs.lemmas.Option.{slice_get_cases}
use Rattle.adv_base.specs.Configs.{has_candidate, chosen}
use Rattle.adv_base.specs.declared.limits.TheConstants.{MOST_PRICE}
use Rattle.adv_base.specs.declared.setting.Config.{Config}
use Rattle.plan_model.specs.declared.template.Template.{Template}
use Rattle.bip_model.specs.declared.grant.Grant.{Grant}
use Rattle.bip_model.specs.declared.part.Part.{Part}
use Rattle.bip_model.specs.declared.slot_part.SlotPart.{SlotPart}
use Rattle.bip_model.specs.declared.rows.TheConstants.{NO_PRICE}
use Rattle.bip_model.specs.Limits.Grants.{ArePrices}
use Rattle.bip_model.specs.Limits.Parts.{TemplateLimits}
use Rattle.bip_model.specs.Values.{lesser, plus, price_of, granted, slot_price, need, needed_price, cost_below, template_cost, least_cost}
use Rattle.bip_model.specs.Words.{word, told, IsRow, AreRows, row_cost, row_least}

-- a price, if any, within its limit
abbrev pub IsPrice : Option ℕ → Type 0
IsPrice price = ForSome price (λ p. p ≤ MOST_PRICE)

-- ## Prices are within their limit

none-price : IsPrice None
none-price = λ x is. cc

lesser-price : (a b : Option ℕ) → IsPrice a → IsPrice b → IsPrice (lesser a b)
lesser-price None b a_is b_is = b_is
lesser-price (Some a) None a_is b_is = a_is
lesser-price (Some a) (Some b) a_is b_is = λ x is.
    let same : min a b ≡ x = cc in
    let first : a ≤ MOST_PRICE = a_is a refl in
    omega (arith, same, first)

pub price_of-price : (prices : List (Option ℕ)) → ArePrices prices → (o : ℕ) → IsPrice (price_of prices o)
price_of-price prices are o =
    elim (cases_lt o (length prices)) [
      | inl within ↦ are o None within
      | inr past ↦ subst IsPrice (sym (past-none prices o past)) none-price
    ]
  where
    past-none : (prices : List (Option ℕ)) (o : ℕ) → length prices ≤ o → slice_index_or prices o None ≡ None
    past-none [] o past = refl
    past-none (x ∷ xs) zero past = absurd (omega (arith, past))
    past-none (x ∷ xs) (suc o) past = past-none xs o (omega (arith, past))

pub granted-price : (config : Config) (o : ℕ) (grant : Grant) → IsPrice (granted config o grant)
granted-price config o grant = choose (has_candidate config grant.candidate)
  where
    choose : (b : Bool) → IsPrice (if b then price_of grant.prices o else None)
    choose true = price_of-price grant.prices grant.limits.prices_limits o
    choose false = none-price

fold-price : (config : Config) (o : ℕ) (best : Option ℕ) (grants : List Grant) → IsPrice best → IsPrice (fold (λ best grant. lesser best (granted config o grant)) best grants)
fold-price config o best [] is = is
fold-price config o best (grant ∷ grants) is =
    fold-price config o (lesser best (granted config o grant)) grants (lesser-price best (granted config o grant) is (granted-price config o grant))

pub slot_price-price : (config : Config) (slot : SlotPart) (o : ℕ) → IsPrice (slot_price config slot o)
slot_price-price config slot o = fold-price config o (price_of slot.base o) slot.grants (price_of-price slot.base slot.limits.base_limits o)

-- ## Words

pub word-lesser : (a b : Option ℕ) → IsPrice a → IsPrice b → word (lesser a b) ≡ min (word a) (word b)
word-lesser None None a_is b_is = refl
word-lesser None (Some b) a_is b_is = let most : b ≤ MOST_PRICE = b_is b refl in omega (arith, most)
word-lesser (Some a) None a_is b_is = let most : a ≤ MOST_PRICE = a_is a refl in omega (arith, most)
word-lesser (Some a) (Some b) a_is b_is = refl

pub told-word : (a : Option ℕ) → IsPrice a → told (word a) ≡ a
told-word None is = refl
told-word (Some a) is =
    let most : a ≤ MOST_PRICE = is a refl in
    let other : (a == NO_PRICE) ≡ false = ne_eqb a NO_PRICE (omega (arith, most)) in
    rw other refl

-- ## Rows

pub grant-step : (config : Config) (slot : SlotPart) (grants : List Grant) (i o : ℕ) (grant : Grant) (old new : ℕ) →
    i < length grants → grant ≡ get_or grants i grant →
    old ≡ word (fold (λ best grant. lesser best (granted config o grant)) (price_of slot.base o) (take i grants)) →
    new ≡ min old (word (granted config o grant)) →
    new ≡ word (fold (λ best grant. lesser best (granted config o grant)) (price_of slot.base o) (take (i + 1) grants))
grant-step config slot grants i o grant old new within is before after =
    let step : Option ℕ → Grant → Option ℕ = λ best grant. lesser best (granted config o grant) in
    let start = price_of slot.base o in
    let more : fold step start (take (i + 1) grants) ≡ step (fold step start (take i grants)) (get_or grants i grant) = fold_more step start grants i grant within in
    let here : fold step start (take (i + 1) grants) ≡ lesser (fold step start (take i grants)) (granted config o grant) =
    more ∙ ap (λ (g : Grant). step (fold step start (take i grants)) g) (sym is) in
    let joined : word (lesser (fold step start (take i grants)) (granted config o grant)) ≡ min (word (fold step start (take i grants))) (word (granted config o grant)) =
    word-lesser (fold step start (take i grants)) (granted config o grant)
    (fold-price config o start (take i grants) (price_of-price slot.base slot.limits.base_limits o)) (granted-price config o grant) in
    after ∙ ap (λ (n : ℕ). min n (word (granted config o grant))) before ∙ sym joined ∙ ap word (sym here)

-- the price that a template needs of a slot, told by its row
told-needed : (config : Config) (slots : List SlotPart) (rows : List (List ℕ)) (template : Template) (n s : ℕ) → AreRows config slots n rows → TemplateLimits slots template → s < n → s < length slots →
    told (slice_index_or (slice_index_or rows s []) (need template s) 0) ≡ needed_price config slots template s
told-needed config slots rows template n s are limits below within =
    elim (slice_get_cases slots s).1 [
      | inl there ↦
          let slot : SlotPart = there.0 in
          let found : slice_get slots s ≡ Some slot = there.2 in
          let row : slice_index_or (slice_index_or rows s []) (need template s) 0 ≡ word (slot_price config slot (need template s)) =
          are s slot below found (need template s) (limits.needs_within s slot found) in
          ap told row ∙ told-word (slot_price config slot (need template s)) (slot_price-price config slot (need template s))
          ∙ sym (ap (option_and_then (λ (slot : SlotPart). slot_price config slot (need template s))) found)
      | inr past ↦ absurd (omega (arith, within, past.0))
    ]

-- the rows tell what a template costs
pub row_cost-template : (config : Config) (slots : List SlotPart) (rows : List (List ℕ)) (template : Template) (n : ℕ) → AreRows config slots (length slots) rows → TemplateLimits slots template → n ≤ length slots →
    row_cost rows template n ≡ cost_below config slots template n
unfolding row_cost cost_below
row_cost-template config slots rows template zero are limits within = refl
row_cost-template config slots rows template (suc n) are limits within =
    let before : row_cost rows template n ≡ cost_below config slots template n = row_cost-template config slots rows template n are limits (omega (arith, within)) in
    let here = told-needed config slots rows template (length slots) n are limits (omega (arith, within)) (omega (arith, within)) in
    ap (λ (a : Option ℕ). plus a (told (slice_index_or (slice_index_or rows n []) (need template n) 0))) before
    ∙ ap (plus (cost_below config slots template n)) here

-- what misses a slot's price stays missing
pub row_cost-none : (rows : List (List ℕ)) (template : Template) (m n : ℕ) → m ≤ n → row_cost rows template m ≡ None → row_cost rows template n ≡ None
unfolding row_cost
row_cost-none rows template m zero less none = let same : m ≡ 0 = omega (arith, less) in subst (λ k. row_cost rows template k ≡ None) same none
row_cost-none rows template m (suc n) less none =
    elim (cases_lt n m) [
      | inl past ↦ let same : m ≡ suc n = omega (arith, less, past) in subst (λ k. row_cost rows template k ≡ None) same none
      | inr below ↦
          let rest : row_cost rows template n ≡ None = row_cost-none rows template m n below none in
          ap (λ (a : Option ℕ). plus a (told (slice_index_or (slice_index_or rows n []) (need template n) 0))) rest
    ]

-- ## Steps of the loops

-- the element of a place
pub get-some : {X : Type 0} (xs : List X) (i : ℕ) (x : X) → i < length xs → x ≡ get_or xs i x → slice_get xs i ≡ Some x
get-some [] i x within is = absurd (omega (arith, within))
get-some (y ∷ ys) zero x within is = ap Some (sym is)
get-some (y ∷ ys) (suc i) x within is = get-some ys i x (omega (arith, within)) is

-- one row more
pub rows-step : (config : Config) (slots : List SlotPart) (rows : List (List ℕ)) (s : ℕ) (slot : SlotPart) (row : List ℕ) →
    s < length rows → slice_get slots s ≡ Some slot → AreRows config slots s rows → IsRow config slot row → AreRows config slots (s + 1) (slice_set rows s row)
rows-step config slots rows s slot row within found are is = λ k other below there.
    elim (cases_lt k s) [
      | inl before ↦
          let kept : slice_index_or (slice_set rows s row) k [] ≡ slice_index_or rows k [] = grind (arith, common_steps) in
          subst (IsRow config other) (sym kept) (are k other before there)
      | inr past ↦
          let here : k ≡ s = omega (arith, below, past) in
          let same : other ≡ slot = cc in
          let put : slice_index_or (slice_set rows s row) k [] ≡ row = grind (arith, common_steps) in
          subst (IsRow config other) (sym put) (subst (λ (o : SlotPart). IsRow config o row) (sym same) is)
    ]

-- the rows tell the least cost of templates
templates-least : (config : Config) (slots : List SlotPart) (rows : List (List ℕ)) (best : Option ℕ) (templates : List Template) → AreRows config slots (length slots) rows → All (TemplateLimits slots) templates →
    fold (λ best template. lesser best (row_cost rows template (length slots))) best templates ≡ fold (λ best template. lesser best (template_cost config slots template)) best templates
templates-least config slots rows best [] are limits = refl
templates-least config slots rows best (template ∷ templates) are limits =
    let own : row_cost rows template (length slots) ≡ template_cost config slots template =
    row_cost-template config slots rows template (length slots) are (All-head (TemplateLimits slots) template templates limits) (omega arith) in
    ap (λ (cost : Option ℕ). fold (λ best template. lesser best (row_cost rows template (length slots))) (lesser best cost) templates) own
    ∙ templates-least config slots rows (lesser best (template_cost config slots template)) templates are (All-tail (TemplateLimits slots) template templates limits)

-- and so a part's
pub row_least-part : (config : Config) (part : Part) (slots : List SlotPart) (rows : List (List ℕ)) → slots ≡ part.slots → AreRows config slots (length slots) rows →
    row_least rows part ≡ least_cost part config
row_least-part config part slots rows same are =
    templates-least config part.slots rows None part.templates (subst (λ (ss : List SlotPart). AreRows config ss (length ss) rows) same are) part.limits.templates_limits

-- ## The upkeep of the chosen

pub sum-start : (a b : ℕ) (xs : List ℕ) → fold ◌+◌ (a + b) xs ≡ a + fold ◌+◌ b xs
sum-start a b [] = refl
sum-start a b (x ∷ xs) = let next : a + b + x ≡ a + (b + x) = omega arith in ap (λ (n : ℕ). fold ◌+◌ n xs) next ∙ sum-start a (b + x) xs

-- the i-th number with its flag, before the rest
pub chosen-drop : (flags : List Bool) (xs : List ℕ) (i : ℕ) → i < length flags → i < length xs →
    sum (chosen (drop i flags) (drop i xs)) ≡ (if get_or flags i false then get_or xs i 0 else 0) + sum (chosen (drop (i + 1) flags) (drop (i + 1) xs))
chosen-drop flags xs i flags_within xs_within =
    let next : i + 1 ≡ suc i = omega arith in
    rw (next, drop-cons flags i false flags_within, drop-cons xs i 0 xs_within)
    (first (get_or flags i false) (get_or xs i 0) (drop (suc i) flags) (drop (suc i) xs))
  where
    first : (b : Bool) (x : ℕ) (flags : List Bool) (xs : List ℕ) → sum (chosen (b ∷ flags) (x ∷ xs)) ≡ (if b then x else 0) + sum (chosen flags xs)
    first true x flags xs = ap (λ (n : ℕ). fold ◌+◌ n (chosen flags xs)) (omega arith) ∙ sum-start x 0 (chosen flags xs)
    first false x flags xs = omega arith

-- past all
pub chosen-past : (flags : List Bool) (xs : List ℕ) (i : ℕ) → length xs ≤ i → sum (chosen (drop i flags) (drop i xs)) ≡ 0
chosen-past flags xs i past = rw (drop_all i xs past) (none (drop i flags))
  where
    none : (flags : List Bool) → sum (chosen flags []) ≡ 0
    none [] = refl
    none (b ∷ flags) = refl
