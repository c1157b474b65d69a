-- Laws of the lists of the prices of slots, as they are made.
use Rattle.std.proofs.Common.{◌≡◌, ◌∙◌, ℕ, zero, suc, ◌+◌, ◌-◌, ◌<◌, ◌≤◌, Bool, true, false, List, [], ◌∷◌, ◌++◌, length, map, fold, take, drop, get_or, All, refl, sym, ap, subst, append-nil, append_assoc, arith}
use Rattle.std.specs.Prelude.{Option, Some, None, if◌then◌else◌, nat_lt, slice_get, slice_index_or, sum_by}
use Rattle.std.specs.Option.{ForSome}
use Rattle.std.specs.List.{flat_map}
use Rattle.std.proofs.lemmas.Bool.{ltb-true}
use Rattle.std.proofs.lemmas.List.{length-append, length-map, take_all, get_or_append_left, get_or-append-add, get_or-map}
use Rattle.std.proofs.lemmas.List.Elements.{All-nil, All-cons, All-head, All-tail, All-append}
use Rattle.std.proofs.lemmas.List.Sums.{fold-append, sum_by-cons}
use Rattle.adv_base.specs.declared.limits.TheConstants.{MOST_PRICE}
use Rattle.adv_base.specs.declared.setting.Config.{Config}
use Rattle.bip_model.specs.declared.grant.Grant.{Grant}
use Rattle.bip_model.specs.declared.slot_part.SlotPart.{SlotPart}
use Rattle.bip_model.specs.declared.part.Part.{Part}
use Rattle.bip_model.specs.Limits.Grants as limits
use Rattle.bip_model.specs.Values.{price_of}
use Rattle.bip_model.specs.Words.{word}
use Rattle.lagrange_bound.specs.declared.price_lists.CheaperPrice.{CheaperPrice}
use Rattle.lagrange_bound.specs.declared.price_lists.PriceLists.{PriceLists}
use Rattle.lagrange_bound.specs.Rented.{rented_price, grants_before}
use Rattle.lagrange_bound.specs.ListedPrices.{ArePrices, IsWithin, orders_before, slots_of}
use Rattle.lagrange_bound.specs.inner.CostsByLists.{least_at}
use Rattle.lagrange_bound.specs.inner.SlotBySlot.{Lists, lists_of, no_lists, if_cheaper, grant_prices, slot_prices, owner, with_slot, with_part}
use Rattle.lagrange_bound.proofs.CheaperPrices.{lesser-self}
use Rattle.lagrange_bound.proofs.LeastPrices.{AreOwned, slots_prices, slot-at, slots-at}
use Rattle.lagrange_bound.proofs.RentedPrices.{AreRents, base-price}

-- ## What the lists are

abbrev starts_of : List SlotPart → ℕ → List ℕ
starts_of [] place = []
starts_of (slot ∷ slots) place = place ∷ starts_of slots (place + length slot.base)

abbrev words : SlotPart → List ℕ
words slot = map word slot.base

abbrev owners : SlotPart → List ℕ
owners slot = map owner slot.grants

-- the lists with those of slots behind them
record AreListed (lists : Lists) (slots : List SlotPart) (made : Lists) : Type 0 where
  starts : made.starts ≡ lists.starts ++ starts_of slots (length lists.bases)
  bases : made.bases ≡ lists.bases ++ flat_map words slots
  owners : made.owners ≡ lists.owners ++ flat_map owners slots
  prices : made.prices ≡ lists.prices ++ slots_prices slots (length lists.bases) (length lists.owners)

listed : (lists : Lists) (slots : List SlotPart) → AreListed lists slots (fold with_slot lists slots)
listed lists [] =
    record { starts = sym (append-nil lists.starts); bases = sym (append-nil lists.bases); owners = sym (append-nil lists.owners); prices = sym (append-nil lists.prices) }
listed lists (slot ∷ slots) =
    let rest = listed (with_slot lists slot) slots in
    let own : List CheaperPrice = slot_prices slot.base slot.grants (length lists.bases) (length lists.owners) in
    let places : length (lists.bases ++ words slot) ≡ length lists.bases + length slot.base = length-append lists.bases (words slot) ∙ ap (λ (n : ℕ). length lists.bases + n) (length-map slot.base word) in
    let numbers : length (lists.owners ++ owners slot) ≡ length lists.owners + length slot.grants = length-append lists.owners (owners slot) ∙ ap (λ (n : ℕ). length lists.owners + n) (length-map slot.grants owner) in
    record {
      starts =
          rest.starts ∙ append_assoc lists.starts (length lists.bases ∷ []) (starts_of slots (length (lists.bases ++ words slot)))
          ∙ ap (λ (n : ℕ). lists.starts ++ length lists.bases ∷ starts_of slots n) places;
      bases = rest.bases ∙ append_assoc lists.bases (words slot) (flat_map words slots);
      owners = rest.owners ∙ append_assoc lists.owners (owners slot) (flat_map owners slots);
      prices =
          rest.prices ∙ append_assoc lists.prices own (slots_prices slots (length (lists.bases ++ words slot)) (length (lists.owners ++ owners slot)))
          ∙ ap (λ (n : ℕ). lists.prices ++ (own ++ slots_prices slots n (length (lists.owners ++ owners slot)))) places
          ∙ ap (λ (n : ℕ). lists.prices ++ (own ++ slots_prices slots (length lists.bases + length slot.base) n)) numbers;
    }

parts-slots : (lists : Lists) (parts : List Part) → fold with_part lists parts ≡ fold with_slot lists (slots_of parts)
parts-slots lists [] = refl
parts-slots lists (part ∷ parts) = parts-slots (fold with_slot lists part.slots) parts ∙ sym (fold-append with_slot lists part.slots (slots_of parts))

-- ## Places of slots

starts-each : (slots : List SlotPart) (place : ℕ) → length (starts_of slots place) ≡ length slots
starts-each [] place = refl
starts-each (slot ∷ slots) place = ap suc (starts-each slots (place + length slot.base))

starts-are : (slots : List SlotPart) (place k : ℕ) → k < length slots → slice_index_or (starts_of slots place) k 0 ≡ place + orders_before slots k
starts-are [] place k within = absurd (omega (arith, within))
starts-are (slot ∷ slots) place zero within = omega arith
starts-are (slot ∷ slots) place (suc k) within =
    let more : orders_before (slot ∷ slots) (suc k) ≡ length slot.base + orders_before slots k = sum_by-cons (λ (x : SlotPart). length x.base) slot (take k slots) in
    let rest : slice_index_or (starts_of slots (place + length slot.base)) k 0 ≡ place + length slot.base + orders_before slots k = starts-are slots (place + length slot.base) k (omega (arith, within)) in
    rest ∙ omega (arith, more)

-- how long the lists of slots are together
flat-each : {A : Type 0} (f : SlotPart → List A) (count : SlotPart → ℕ) → ((s : SlotPart) → length (f s) ≡ count s) → (slots : List SlotPart) → length (flat_map f slots) ≡ sum_by count slots
flat-each f count each [] = refl
flat-each f count each (slot ∷ slots) =
    let own = each slot in
    let rest = flat-each f count each slots in
    let here : length (f slot ++ flat_map f slots) ≡ length (f slot) + length (flat_map f slots) = length-append (f slot) (flat_map f slots) in
    let more : sum_by count (slot ∷ slots) ≡ count slot + sum_by count slots = sum_by-cons count slot slots in
    omega (arith, own, rest, here, more)

-- what stands at a place of the list of a slot
flat-at : {A : Type 0} (f : SlotPart → List A) (count : SlotPart → ℕ) → ((s : SlotPart) → length (f s) ≡ count s) → (slots : List SlotPart) (k i : ℕ) (slot : SlotPart) (d : A) →
    slice_get slots k ≡ Some slot → i < count slot → get_or (flat_map f slots) (sum_by count (take k slots) + i) d ≡ get_or (f slot) i d
flat-at f count each [] k i slot d found within = absurd (cc)
flat-at f count each (s ∷ slots) zero i slot d found within =
    let same : s ≡ slot = cc in
    let own : length (f s) ≡ count s = each s in
    let long : count s ≡ count slot = ap count same in
    let inside : i < length (f s) = omega (arith, own, long, within) in
    let here : 0 + i ≡ i = omega arith in
    ap (λ (n : ℕ). get_or (f s ++ flat_map f slots) n d) here ∙ get_or_append_left (f s) (flat_map f slots) d i inside ∙ ap (λ (x : SlotPart). get_or (f x) i d) same
flat-at f count each (s ∷ slots) (suc k) i slot d found within =
    let more : sum_by count (s ∷ take k slots) ≡ count s + sum_by count (take k slots) = sum_by-cons count s (take k slots) in
    let own : length (f s) ≡ count s = each s in
    let place : sum_by count (s ∷ take k slots) + i ≡ length (f s) + (sum_by count (take k slots) + i) = omega (arith, own, more) in
    ap (λ (n : ℕ). get_or (f s ++ flat_map f slots) n d) place
    ∙ get_or-append-add (f s) (flat_map f slots) (sum_by count (take k slots) + i) d
    ∙ flat-at f count each slots k i slot d found within

words-each : (slot : SlotPart) → length (words slot) ≡ length slot.base
words-each slot = length-map slot.base word

owners-each : (slot : SlotPart) → length (owners slot) ≡ length slot.grants
owners-each slot = length-map slot.grants owner

bases-at : (slots : List SlotPart) (k o : ℕ) (slot : SlotPart) → slice_get slots k ≡ Some slot → o < length slot.base →
    slice_index_or (flat_map words slots) (orders_before slots k + o) 0 ≡ word (price_of slot.base o)
bases-at slots k o slot found within =
    flat-at words (λ (x : SlotPart). length x.base) words-each slots k o slot 0 found within ∙ get_or-map word slot.base o None 0 within

get-within : {X : Type 0} (xs : List X) (i : ℕ) (x : X) → slice_get xs i ≡ Some x → (i < length xs) × (get_or xs i x ≡ x)
get-within [] i x found = absurd (cc)
get-within (y ∷ ys) zero x found = (omega arith, cc)
get-within (y ∷ ys) (suc i) x found = let rest = get-within ys i x found in (omega (arith, rest.0), rest.1)

owners-at : (slots : List SlotPart) (k : ℕ) (slot : SlotPart) → slice_get slots k ≡ Some slot → AreOwned (flat_map owners slots) (grants_before slots k) slot.grants
owners-at slots k slot found = λ i grant there.
    let inside = get-within slot.grants i grant there in
    let least : 1 ≤ grant.candidate = grant.limits.least in
    let here : slice_index_or (flat_map owners slots) (grants_before slots k + i) 0 ≡ grant.candidate - 1 =
    flat-at owners (λ (x : SlotPart). length x.grants) owners-each slots k i slot 0 found inside.0 ∙ get_or-map owner slot.grants i grant 0 inside.0 ∙ ap owner inside.1 in
    omega (arith, least, here)

-- ## Prices of grants at places of orders

one-within : (orders grants : ℕ) (price base : Option ℕ) (place grant : ℕ) → ForSome price (λ p. p ≤ MOST_PRICE) → ForSome base (λ p. p ≤ MOST_PRICE) → place < orders → grant < grants →
    All (IsWithin orders grants) (if_cheaper (word price) (word base) place grant)
one-within orders grants price base place grant price_most base_most below few = cases (nat_lt (word price) (word base)) refl
  where
    most : (a b : Option ℕ) → ForSome a (λ p. p ≤ MOST_PRICE) → ForSome b (λ p. p ≤ MOST_PRICE) → word a < word b → word a ≤ MOST_PRICE
    most None None a_most b_most less = absurd (omega (arith, less))
    most None (Some b) a_most b_most less = let high : b ≤ MOST_PRICE = b_most b refl in absurd (omega (arith, less, high))
    most (Some a) b a_most b_most less = a_most a refl

    cases : (c : Bool) → nat_lt (word price) (word base) ≡ c → All (IsWithin orders grants) (if c then (record { price = word price; place = place; grant = grant }) ∷ [] else [])
    cases true found =
        All-cons (IsWithin orders grants) (record { price = word price; place = place; grant = grant }) []
        (record { place = below; grant = few; most = most price base price_most base_most (ltb-true (word price) (word base) found) })
        (All-nil (IsWithin orders grants))
    cases false none = All-nil (IsWithin orders grants)

grant-within : (orders grants : ℕ) (prices base : List (Option ℕ)) (place grant : ℕ) → limits.ArePrices prices → limits.ArePrices base → place + length base ≤ orders → grant < grants →
    All (IsWithin orders grants) (grant_prices prices base place grant)
grant-within orders grants [] base place grant prices_most base_most room few = All-nil (IsWithin orders grants)
grant-within orders grants (p ∷ prices) [] place grant prices_most base_most room few = All-nil (IsWithin orders grants)
grant-within orders grants (p ∷ prices) (b ∷ base) place grant prices_most base_most room few =
    let low : Option ℕ → Type 0 = λ price. ForSome price (λ p. p ≤ MOST_PRICE) in
    All-append (IsWithin orders grants) (if_cheaper (word p) (word b) place grant) (grant_prices prices base (place + 1) grant)
    (one-within orders grants p b place grant (All-head low p prices prices_most) (All-head low b base base_most) (omega (arith, room)) few)
    (grant-within orders grants prices base (place + 1) grant (All-tail low p prices prices_most) (All-tail low b base base_most) (omega (arith, room)) few)

slot-within : (orders count : ℕ) (base : List (Option ℕ)) (grants : List Grant) (place first : ℕ) → limits.ArePrices base → place + length base ≤ orders → first + length grants ≤ count →
    All (IsWithin orders count) (slot_prices base grants place first)
slot-within orders count base [] place first base_most room few = All-nil (IsWithin orders count)
slot-within orders count base (grant ∷ grants) place first base_most room few =
    All-append (IsWithin orders count) (grant_prices grant.prices base place first) (slot_prices base grants place (first + 1))
    (grant-within orders count grant.prices base place first grant.limits.prices_limits base_most room (omega (arith, few)))
    (slot-within orders count base grants place (first + 1) base_most room (omega (arith, few)))

slots-within : (orders count : ℕ) (slots : List SlotPart) (place first : ℕ) → place + sum_by (λ slot. length slot.base) slots ≤ orders → first + sum_by (λ slot. length slot.grants) slots ≤ count →
    All (IsWithin orders count) (slots_prices slots place first)
slots-within orders count [] place first room few = All-nil (IsWithin orders count)
slots-within orders count (slot ∷ slots) place first room few =
    let bases : sum_by (λ slot. length slot.base) (slot ∷ slots) ≡ length slot.base + sum_by (λ slot. length slot.base) slots = sum_by-cons (λ (x : SlotPart). length x.base) slot slots in
    let grants : sum_by (λ slot. length slot.grants) (slot ∷ slots) ≡ length slot.grants + sum_by (λ slot. length slot.grants) slots = sum_by-cons (λ (x : SlotPart). length x.grants) slot slots in
    All-append (IsWithin orders count) (slot_prices slot.base slot.grants place first) (slots_prices slots (place + length slot.base) (first + length slot.grants))
    (slot-within orders count slot.base slot.grants place first slot.limits.base_limits (omega (arith, room, bases)) (omega (arith, few, grants)))
    (slots-within orders count slots (place + length slot.base) (first + length slot.grants) (omega (arith, room, bases)) (omega (arith, few, grants)))

-- ## The lists of a programme

-- the grants of a slot have rents
rents-room : (slots : List SlotPart) (k : ℕ) (slot : SlotPart) → slice_get slots k ≡ Some slot → grants_before slots k + length slot.grants ≤ sum_by (λ slot. length slot.grants) slots
rents-room [] k slot found = absurd (cc)
rents-room (s ∷ slots) zero slot found =
    let same : s ≡ slot = cc in
    let long : length s.grants ≡ length slot.grants = ap (λ (x : SlotPart). length x.grants) same in
    let more : sum_by (λ slot. length slot.grants) (s ∷ slots) ≡ length s.grants + sum_by (λ slot. length slot.grants) slots = sum_by-cons (λ (x : SlotPart). length x.grants) s slots in
    omega (arith, long, more)
rents-room (s ∷ slots) (suc k) slot found =
    let here : grants_before (s ∷ slots) (suc k) ≡ length s.grants + grants_before slots k = sum_by-cons (λ (x : SlotPart). length x.grants) s (take k slots) in
    let more : sum_by (λ slot. length slot.grants) (s ∷ slots) ≡ length s.grants + sum_by (λ slot. length slot.grants) slots = sum_by-cons (λ (x : SlotPart). length x.grants) s slots in
    omega (arith, here, more, rents-room slots k slot found)

least-at : (config : Config) (slots : List SlotPart) (rents : List ℕ) (k o : ℕ) (slot : SlotPart) → length rents ≡ sum_by (λ slot. length slot.grants) slots → AreRents rents →
    slice_get slots k ≡ Some slot → o < length slot.base →
    least_at config (flat_map owners slots) rents (orders_before slots k + o) (word (price_of slot.base o)) (slots_prices slots 0 0)
    ≡ word (rented_price config slot (drop (grants_before slots k) rents) o)
least-at config slots rents k o slot each are found within =
    let begin : ℕ = orders_before slots k in
    let number : ℕ = grants_before slots k in
    let room : number + length slot.grants ≤ sum_by (λ slot. length slot.grants) slots = rents-room slots k slot found in
    slots-at config (flat_map owners slots) rents slots (begin + o) (word (price_of slot.base o)) 0 0 begin number k o slot found within (omega arith) (omega arith) refl
    ∙ slot-at config (flat_map owners slots) rents slot.base slot.grants (begin + o) begin number o (price_of slot.base o) refl within slot.limits.base_limits slot.limits.one_each
    (owners-at slots k slot found) (omega (arith, room, each)) are (base-price slot o) (lesser-self (price_of slot.base o))

pub prices-made : (parts : List Part) (made : PriceLists) → lists_of made ≡ fold with_part no_lists parts → ArePrices (slots_of parts) made
prices-made parts made is =
    let slots : List SlotPart = slots_of parts in
    let all = listed no_lists slots in
    let whole : lists_of made ≡ fold with_slot no_lists slots = is ∙ parts-slots no_lists parts in
    let starts : made.starts.items ≡ starts_of slots 0 = ap (λ (lists : Lists). lists.starts) whole ∙ all.starts in
    let bases : made.bases.items ≡ flat_map words slots = ap (λ (lists : Lists). lists.bases) whole ∙ all.bases in
    let owned : made.owners.items ≡ flat_map owners slots = ap (λ (lists : Lists). lists.owners) whole ∙ all.owners in
    let prices : made.list.items ≡ slots_prices slots 0 0 = ap (λ (lists : Lists). lists.prices) whole ∙ all.prices in
    let orders : length (flat_map words slots) ≡ sum_by (λ slot. length slot.base) slots = flat-each words (λ (x : SlotPart). length x.base) words-each slots in
    let count : length (flat_map owners slots) ≡ sum_by (λ slot. length slot.grants) slots = flat-each owners (λ (x : SlotPart). length x.grants) owners-each slots in
    let every : take (length slots) slots ≡ slots = take_all (length slots) slots (omega arith) in
    let places : length made.bases.items ≡ sum_by (λ slot. length slot.base) slots = ap length bases ∙ orders in
    let numbers : length made.owners.items ≡ sum_by (λ slot. length slot.grants) slots = ap length owned ∙ count in
    record {
      starts_each = ap length starts ∙ starts-each slots 0;
      starts_are = λ k within. ap (λ (xs : List ℕ). slice_index_or xs k 0) starts ∙ starts-are slots 0 k within ∙ omega arith;
      bases_each = places ∙ ap (λ (ss : List SlotPart). sum_by (λ slot. length slot.base) ss) (sym every);
      owners_each = numbers ∙ ap (λ (ss : List SlotPart). sum_by (λ slot. length slot.grants) ss) (sym every);
      owners_are = λ k i slot grant found there. ap (λ (xs : List ℕ). slice_index_or xs (grants_before slots k + i) 0 + 1) owned ∙ owners-at slots k slot found i grant there;
      within =
          subst (λ (xs : List CheaperPrice). All (IsWithin (length made.bases.items) (length made.owners.items)) xs) (sym prices)
          (slots-within (length made.bases.items) (length made.owners.items) slots 0 0 (omega (arith, places)) (omega (arith, numbers)));
      least = λ config rents each are k o slot found within.
          let place : ℕ = orders_before slots k + o in
          let start : slice_index_or made.bases.items place 0 ≡ word (price_of slot.base o) = ap (λ (xs : List ℕ). slice_index_or xs place 0) bases ∙ bases-at slots k o slot found within in
          ap (λ (xs : List ℕ). least_at config xs rents place (slice_index_or made.bases.items place 0) made.list.items) owned
          ∙ ap (λ (n : ℕ). least_at config (flat_map owners slots) rents place n made.list.items) start
          ∙ ap (λ (xs : List CheaperPrice). least_at config (flat_map owners slots) rents place (word (price_of slot.base o)) xs) prices
          ∙ least-at config slots rents k o slot (each ∙ numbers) are found within;
    }
