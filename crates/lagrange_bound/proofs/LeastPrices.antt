-- Laws of the least price at a place over a list of prices, where the list is that of slots.
use Rattle.std.proofs.Common.{◌≡◌, ◌∙◌, ℕ, zero, suc, ◌+◌, ◌-◌, ◌<◌, ◌≤◌, ◌==◌, Bool, true, false, List, [], ◌∷◌, ◌++◌, length, take, drop, min, All, refl, sym, ap, arith}
use Rattle.std.specs.Prelude.{Option, Some, None, if◌then◌else◌, nat_lt, slice_get, slice_index_or}
use Rattle.std.specs.Option.{ForSome, option_map}
use Rattle.std.proofs.lemmas.Bool.{eq-eqb, ne_eqb, lt-ltb, le-ltb}
use Rattle.std.proofs.lemmas.List.{drop_more}
use Rattle.std.proofs.lemmas.List.Elements.{All-head, All-tail}
use Rattle.std.proofs.lemmas.List.Sums.{sum_by-cons}
use Rattle.adv_base.specs.declared.limits.TheConstants.{MOST_PRICE, MOST_RENT}
use Rattle.adv_base.specs.declared.setting.Config.{Config}
use Rattle.adv_base.specs.Configs.{has_candidate}
use Rattle.bip_model.specs.declared.grant.Grant.{Grant}
use Rattle.bip_model.specs.declared.slot_part.SlotPart.{SlotPart}
use Rattle.bip_model.specs.Limits.Grants as limits
use Rattle.bip_model.specs.Candidates.{is_cheaper}
use Rattle.bip_model.specs.Values.{lesser, price_of}
use Rattle.bip_model.specs.Words.{word}
use Rattle.bip_model.proofs.Pricing.{price_of-price}
use Rattle.bip_model.proofs.Least.{lesser-none}
use Rattle.lagrange_bound.specs.declared.price_lists.CheaperPrice.{CheaperPrice}
use Rattle.lagrange_bound.specs.Rented.{asked, least_asked, grants_before}
use Rattle.lagrange_bound.specs.ListedPrices.{orders_before}
use Rattle.lagrange_bound.specs.inner.CostsByLists.{lowered, least_at}
use Rattle.lagrange_bound.specs.inner.SlotBySlot.{if_cheaper, grant_prices, slot_prices}
use Rattle.lagrange_bound.proofs.CheaperPrices.{lesser-below, raised-idle}
use Rattle.lagrange_bound.proofs.RentedPrices.{IsPrice, AreRents, lesser-price, raised-price, asked-price, word-lesser}

-- the prices of slots, from the place of the first order and the number of the first grant on
abbrev pub slots_prices : List SlotPart → ℕ → ℕ → List CheaperPrice
slots_prices [] place first = []
slots_prices (slot ∷ slots) place first = slot_prices slot.base slot.grants place first ++ slots_prices slots (place + length slot.base) (first + length slot.grants)

-- ## A list and one behind it

least_at-append : (config : Config) (owners rents : List ℕ) (target least : ℕ) (xs ys : List CheaperPrice) →
    least_at config owners rents target least (xs ++ ys) ≡ least_at config owners rents target (least_at config owners rents target least xs) ys
least_at-append config owners rents target least [] ys = refl
least_at-append config owners rents target least (x ∷ xs) ys =
    least_at-append config owners rents target (if x.place == target then lowered config owners rents x least else least) xs ys

-- the first of two that changes nothing
first-idle : (config : Config) (owners rents : List ℕ) (target least : ℕ) (xs ys : List CheaperPrice) → least_at config owners rents target least xs ≡ least →
    least_at config owners rents target least (xs ++ ys) ≡ least_at config owners rents target least ys
first-idle config owners rents target least xs ys idle =
    least_at-append config owners rents target least xs ys ∙ ap (λ (n : ℕ). least_at config owners rents target n ys) idle

-- and the second
second-idle : (config : Config) (owners rents : List ℕ) (target least : ℕ) (xs ys : List CheaperPrice) → ((n : ℕ) → least_at config owners rents target n ys ≡ n) →
    least_at config owners rents target least (xs ++ ys) ≡ least_at config owners rents target least xs
second-idle config owners rents target least xs ys idle =
    least_at-append config owners rents target least xs ys ∙ idle (least_at config owners rents target least xs)

-- ## One price

one-other : (config : Config) (owners rents : List ℕ) (target least price base place grant : ℕ) → (place ≡ target → ⊥) →
    least_at config owners rents target least (if_cheaper price base place grant) ≡ least
one-other config owners rents target least price base place grant apart = cases (nat_lt price base)
  where
    cases : (b : Bool) → least_at config owners rents target least (if b then (record { price = price; place = place; grant = grant }) ∷ [] else []) ≡ least
    cases true = rw (ne_eqb place target apart) refl
    cases false = refl

one-same : (config : Config) (owners rents : List ℕ) (target least price base grant : ℕ) →
    least_at config owners rents target least (if_cheaper price base target grant)
    ≡ if nat_lt price base then (if slice_index_or config.on (slice_index_or owners grant 0) false then min least (price + slice_index_or rents grant 0) else least) else least
one-same config owners rents target least price base grant = cases (nat_lt price base)
  where
    cases : (b : Bool) →
        least_at config owners rents target least (if b then (record { price = price; place = target; grant = grant }) ∷ [] else [])
        ≡ if b then (if slice_index_or config.on (slice_index_or owners grant 0) false then min least (price + slice_index_or rents grant 0) else least) else least
    cases true = rw (eq-eqb target target refl) refl
    cases false = refl

-- ## The prices of a grant

prices-below : (config : Config) (owners rents : List ℕ) (prices base : List (Option ℕ)) (target least place grant : ℕ) → target < place →
    least_at config owners rents target least (grant_prices prices base place grant) ≡ least
prices-below config owners rents [] base target least place grant below = refl
prices-below config owners rents (p ∷ prices) [] target least place grant below = refl
prices-below config owners rents (p ∷ prices) (b ∷ base) target least place grant below =
    first-idle config owners rents target least (if_cheaper (word p) (word b) place grant) (grant_prices prices base (place + 1) grant)
    (one-other config owners rents target least (word p) (word b) place grant (λ e. omega (arith, below, e)))
    ∙ prices-below config owners rents prices base target least (place + 1) grant (omega (arith, below))

prices-above : (config : Config) (owners rents : List ℕ) (prices base : List (Option ℕ)) (target least place grant : ℕ) → place + length base ≤ target →
    least_at config owners rents target least (grant_prices prices base place grant) ≡ least
prices-above config owners rents [] base target least place grant above = refl
prices-above config owners rents (p ∷ prices) [] target least place grant above = refl
prices-above config owners rents (p ∷ prices) (b ∷ base) target least place grant above =
    first-idle config owners rents target least (if_cheaper (word p) (word b) place grant) (grant_prices prices base (place + 1) grant)
    (one-other config owners rents target least (word p) (word b) place grant (λ e. omega (arith, above, e)))
    ∙ prices-above config owners rents prices base target least (place + 1) grant (omega (arith, above))

prices-at : (config : Config) (owners rents : List ℕ) (prices base : List (Option ℕ)) (target least place grant o : ℕ) → target ≡ place + o → o < length prices → o < length base →
    least_at config owners rents target least (grant_prices prices base place grant)
    ≡ least_at config owners rents target least (if_cheaper (word (price_of prices o)) (word (price_of base o)) target grant)
prices-at config owners rents [] base target least place grant o is within beside = absurd (omega (arith, within))
prices-at config owners rents (p ∷ prices) [] target least place grant o is within beside = absurd (omega (arith, beside))
prices-at config owners rents (p ∷ prices) (b ∷ base) target least place grant zero is within beside =
    let here : place ≡ target = omega (arith, is) in
    second-idle config owners rents target least (if_cheaper (word p) (word b) place grant) (grant_prices prices base (place + 1) grant)
    (λ n. prices-below config owners rents prices base target n (place + 1) grant (omega (arith, here)))
    ∙ ap (λ (n : ℕ). least_at config owners rents target least (if_cheaper (word p) (word b) n grant)) here
prices-at config owners rents (p ∷ prices) (b ∷ base) target least place grant (suc o) is within beside =
    first-idle config owners rents target least (if_cheaper (word p) (word b) place grant) (grant_prices prices base (place + 1) grant)
    (one-other config owners rents target least (word p) (word b) place grant (λ e. omega (arith, is, e)))
    ∙ prices-at config owners rents prices base target least (place + 1) grant o (omega (arith, is)) (omega (arith, within)) (omega (arith, beside))

-- a price that isn't below what exists lowers nothing, and one that is is asked with its rent
lowered-word : (on : Bool) (price base best : Option ℕ) (rent : ℕ) → ForSome price (λ p. p ≤ MOST_PRICE) → ForSome base (λ p. p ≤ MOST_PRICE) → rent ≤ MOST_RENT → IsPrice best → lesser best base ≡ best →
    (if nat_lt (word price) (word base) then (if on then min (word best) (word price + rent) else word best) else word best)
    ≡ word (lesser best (option_map (λ p. p + rent) (if on then price else None)))
lowered-word false price base best rent price_most base_most rent_most is low = idle (nat_lt (word price) (word base)) ∙ ap word (sym (lesser-none best))
  where
    idle : (c : Bool) → (if c then word best else word best) ≡ word best
    idle true = refl
    idle false = refl
lowered-word true None None best rent price_most base_most rent_most is low = ap word (sym (lesser-none best))
lowered-word true None (Some b) best rent price_most base_most rent_most is low =
    let most : b ≤ MOST_PRICE = base_most b refl in
    let past : nat_lt (word None) b ≡ false = le-ltb (word None) b (omega (arith, most)) in
    rw past (ap word (sym (lesser-none best)))
lowered-word true (Some p) None best rent price_most base_most rent_most is low =
    let most : p ≤ MOST_PRICE = price_most p refl in
    let below : nat_lt p (word None) ≡ true = lt-ltb p (word None) (omega (arith, most)) in
    rw below (sym (word-lesser best (Some (p + rent)) is (raised-price (Some p) rent price_most rent_most)))
lowered-word true (Some p) (Some b) best rent price_most base_most rent_most is low = cases (nat_lt p b) refl
  where
    cases : (c : Bool) → is_cheaper (Some p) (Some b) ≡ c → (if c then min (word best) (p + rent) else word best) ≡ word (lesser best (Some (p + rent)))
    cases true found = sym (word-lesser best (Some (p + rent)) is (raised-price (Some p) rent price_most rent_most))
    cases false none = ap word (sym (raised-idle best (Some b) (Some p) rent low none))

-- ## The prices of a slot

slot-below : (config : Config) (owners rents : List ℕ) (base : List (Option ℕ)) (grants : List Grant) (target least place first : ℕ) → target < place →
    least_at config owners rents target least (slot_prices base grants place first) ≡ least
slot-below config owners rents base [] target least place first below = refl
slot-below config owners rents base (grant ∷ grants) target least place first below =
    first-idle config owners rents target least (grant_prices grant.prices base place first) (slot_prices base grants place (first + 1))
    (prices-below config owners rents grant.prices base target least place first below)
    ∙ slot-below config owners rents base grants target least place (first + 1) below

slot-above : (config : Config) (owners rents : List ℕ) (base : List (Option ℕ)) (grants : List Grant) (target least place first : ℕ) → place + length base ≤ target →
    least_at config owners rents target least (slot_prices base grants place first) ≡ least
slot-above config owners rents base [] target least place first above = refl
slot-above config owners rents base (grant ∷ grants) target least place first above =
    first-idle config owners rents target least (grant_prices grant.prices base place first) (slot_prices base grants place (first + 1))
    (prices-above config owners rents grant.prices base target least place first above)
    ∙ slot-above config owners rents base grants target least place (first + 1) above

-- the places of the candidates of grants, from the number of the first on
abbrev pub AreOwned : List ℕ → ℕ → List Grant → Type 0
AreOwned owners first grants = (i : ℕ) (grant : Grant) → slice_get grants i ≡ Some grant → slice_index_or owners (first + i) 0 + 1 ≡ grant.candidate

-- a grant counts where the place of its candidate does
owned-open : (config : Config) (place candidate : ℕ) → place + 1 ≡ candidate → slice_index_or config.on place false ≡ has_candidate config candidate
owned-open config place candidate is =
    let some : (candidate == 0) ≡ false = ne_eqb candidate 0 (λ e. omega (arith, is, e)) in
    let same : candidate - 1 ≡ place = omega (arith, is) in
    rw (some, same) refl

first-owned : (owners : List ℕ) (first : ℕ) (grant : Grant) (grants : List Grant) → AreOwned owners first (grant ∷ grants) → slice_index_or owners first 0 + 1 ≡ grant.candidate
first-owned owners first grant grants are =
    let here : first + 0 ≡ first = omega arith in
    ap (λ (n : ℕ). slice_index_or owners n 0 + 1) (sym here) ∙ are 0 grant refl

rest-owned : (owners : List ℕ) (first : ℕ) (grant : Grant) (grants : List Grant) → AreOwned owners first (grant ∷ grants) → AreOwned owners (first + 1) grants
rest-owned owners first grant grants are = λ i other found.
    let next : first + 1 + i ≡ first + suc i = omega arith in
    ap (λ (n : ℕ). slice_index_or owners n 0 + 1) next ∙ are (suc i) other found

pub slot-at : (config : Config) (owners rents : List ℕ) (base : List (Option ℕ)) (grants : List Grant) (target place first o : ℕ) (best : Option ℕ) →
    target ≡ place + o → o < length base → limits.ArePrices base → All (λ grant. length grant.prices ≡ length base) grants → AreOwned owners first grants →
    first + length grants ≤ length rents → AreRents rents → IsPrice best → lesser best (price_of base o) ≡ best →
    least_at config owners rents target (word best) (slot_prices base grants place first) ≡ word (least_asked config o best grants (drop first rents))
slot-at config owners rents base [] target place first o best is within base_limits each owned room are price low = refl
slot-at config owners rents base (grant ∷ grants) target place first o best is within base_limits each owned room are price low =
    let rent : ℕ = slice_index_or rents first 0 in
    let there : first < length rents = omega (arith, room) in
    let most : rent ≤ MOST_RENT = are first 0 there in
    let own : length grant.prices ≡ length base = All-head (λ (g : Grant). length g.prices ≡ length base) grant grants each in
    let inside : o < length grant.prices = omega (arith, own, within) in
    let next : Option ℕ = lesser best (asked config o grant rent) in
    let opened : slice_index_or config.on (slice_index_or owners first 0) false ≡ has_candidate config grant.candidate =
    owned-open config (slice_index_or owners first 0) grant.candidate (first-owned owners first grant grants owned) in
    let own_price : ℕ = word (price_of grant.prices o) in
    let other : ℕ = word (price_of base o) in
    let here : least_at config owners rents target (word best) (grant_prices grant.prices base place first) ≡ word next =
    prices-at config owners rents grant.prices base target (word best) place first o is inside within
    ∙ one-same config owners rents target (word best) own_price other first
    ∙ ap (λ (on : Bool). if nat_lt own_price other then (if on then min (word best) (own_price + rent) else word best) else word best) opened
    ∙ lowered-word (has_candidate config grant.candidate) (price_of grant.prices o) (price_of base o) best rent (price_of-price grant.prices grant.limits.prices_limits o) (price_of-price base base_limits o) most price low in
    let rest = slot-at config owners rents base grants target place (first + 1) o next is within base_limits (All-tail (λ (g : Grant). length g.prices ≡ length base) grant grants each) (rest-owned owners first grant grants owned)
    (omega (arith, room)) are (lesser-price best (asked config o grant rent) price (asked-price config o grant rent most)) (lesser-below best (price_of base o) (asked config o grant rent) low) in
    least_at-append config owners rents target (word best) (grant_prices grant.prices base place first) (slot_prices base grants place (first + 1))
    ∙ ap (λ (n : ℕ). least_at config owners rents target n (slot_prices base grants place (first + 1))) here ∙ rest
    ∙ ap (λ (rs : List ℕ). word (least_asked config o best (grant ∷ grants) rs)) (sym (drop_more rents first 0 there))

-- ## The prices of slots

slots-below : (config : Config) (owners rents : List ℕ) (slots : List SlotPart) (target least place first : ℕ) → target < place →
    least_at config owners rents target least (slots_prices slots place first) ≡ least
slots-below config owners rents [] target least place first below = refl
slots-below config owners rents (slot ∷ slots) target least place first below =
    first-idle config owners rents target least (slot_prices slot.base slot.grants place first) (slots_prices slots (place + length slot.base) (first + length slot.grants))
    (slot-below config owners rents slot.base slot.grants target least place first below)
    ∙ slots-below config owners rents slots target least (place + length slot.base) (first + length slot.grants) (omega (arith, below))

-- at the orders of a slot its own alone count
pub slots-at : (config : Config) (owners rents : List ℕ) (slots : List SlotPart) (target least place first begin number k o : ℕ) (slot : SlotPart) →
    slice_get slots k ≡ Some slot → o < length slot.base → begin ≡ place + orders_before slots k → number ≡ first + grants_before slots k → target ≡ begin + o →
    least_at config owners rents target least (slots_prices slots place first) ≡ least_at config owners rents target least (slot_prices slot.base slot.grants begin number)
slots-at config owners rents [] target least place first begin number k o slot found within begins numbered is = absurd (cc)
slots-at config owners rents (s ∷ slots) target least place first begin number zero o slot found within begins numbered is =
    let same : s ≡ slot = cc in
    let long : length s.base ≡ length slot.base = ap (λ (x : SlotPart). length x.base) same in
    let here : place ≡ begin = omega (arith, begins) in
    let there : first ≡ number = omega (arith, numbered) in
    second-idle config owners rents target least (slot_prices s.base s.grants place first) (slots_prices slots (place + length s.base) (first + length s.grants))
    (λ n. slots-below config owners rents slots target n (place + length s.base) (first + length s.grants) (omega (arith, is, here, long, within)))
    ∙ ap (λ (x : SlotPart). least_at config owners rents target least (slot_prices x.base x.grants place first)) same
    ∙ ap (λ (n : ℕ). least_at config owners rents target least (slot_prices slot.base slot.grants n first)) here
    ∙ ap (λ (n : ℕ). least_at config owners rents target least (slot_prices slot.base slot.grants begin n)) there
slots-at config owners rents (s ∷ slots) target least place first begin number (suc k) o slot found within begins numbered is =
    let orders : orders_before (s ∷ slots) (suc k) ≡ length s.base + orders_before slots k = sum_by-cons (λ (x : SlotPart). length x.base) s (take k slots) in
    let grants : grants_before (s ∷ slots) (suc k) ≡ length s.grants + grants_before slots k = sum_by-cons (λ (x : SlotPart). length x.grants) s (take k slots) in
    let past : place + length s.base ≤ target = omega (arith, orders, begins, is) in
    first-idle config owners rents target least (slot_prices s.base s.grants place first) (slots_prices slots (place + length s.base) (first + length s.grants))
    (slot-above config owners rents s.base s.grants target least place first past)
    ∙ slots-at config owners rents slots target least (place + length s.base) (first + length s.grants) begin number k o slot found within (omega (arith, orders, begins)) (omega (arith, grants, numbered)) is
