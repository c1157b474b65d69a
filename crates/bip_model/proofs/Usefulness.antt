-- A programme that stands for a setting tells which candidates are useful.
use Rattle.std.proofs.Common.{◌≡◌, ◌∙◌, inl, inr, ℕ, zero, suc, ◌+◌, ◌-◌, ◌<◌, ◌≤◌, ◌==◌, Bool, true, cond, ◌&&◌, List, [], ◌∷◌, ◌++◌, length, map, All, refl, sym, ap, subst, arith}
use Rattle.std.specs.Prelude.{Option, Some, None, nat_le, slice_get}
use Rattle.std.specs.List.{enumerate_from, list_any}
use Rattle.std.proofs.lemmas.Bool.{cases_lt, eq-eqb, eqb-true, false≢true, or_cases, or_left, or_right, and_parts, and_from, leb-true, le-leb, ltb-true, lt-ltb}
use Rattle.std.proofs.lemmas.List.{length-map, length-append}
use Rattle.std.proofs.lemmas.Map.Keys.{any_passes_from_place}
use Rattle.std.proofs.lemmas.Option.{slice_get_cases, slice_get_within, get_or_from_slice_get}
use Rattle.adv_base.specs.declared.catalogue.index.IndexShape.{IndexShape}
use Rattle.adv_base.specs.declared.catalogue.table.Table.{Table}
use Rattle.adv_base.specs.declared.workload.block.Block.{Block}
use Rattle.adv_base.specs.declared.workload.parts.Slot.{Slot}
use Rattle.adv_base.specs.Items.{Order, BeginsWith, is_same_order}
use Rattle.adv_base.specs.Offers.{Offer, offers, index_offer}
use Rattle.adv_base.specs.Settings.{TheSetting}
use Rattle.adv_base.specs.Sizes.{shape_pages}
use Rattle.adv_base.proofs.ItemLaws.{is_same_order-decides, order_same}
use Rattle.plan_model.specs.declared.task.Task.{Task}
use Rattle.plan_model.specs.BlockTask.{IsTaskOf}
use Rattle.plan_model.specs.Orders.{interesting_orders}
use Rattle.plan_model.specs.Totals.{no_candidates}
use Rattle.plan_model.specs.Useful.{IsCheaper, IsUseful, AreUseful}
use Rattle.plan_model.proofs.Sums.{total, sum-total}
use Rattle.plan_model.proofs.Unique.{one-task}
use Rattle.plan_model.proofs.Duality.{flag-found}
use Rattle.bip_model.specs.declared.grant.Grant.{Grant}
use Rattle.bip_model.specs.declared.slot_part.SlotPart.{SlotPart}
use Rattle.bip_model.specs.declared.part.Part.{Part}
use Rattle.bip_model.specs.declared.programme.Programme.{Programme}
use Rattle.adv_base.specs.Configs.{candidate_pages, size_in}
use Rattle.bip_model.specs.Candidates.{is_cheaper, has_cheaper, helps_slot, helps_part, is_useful, useful_below}
use Rattle.bip_model.specs.StandsFor.{given, least_given, candidates_on, IsGrant, IsSlotPart, Blocked, IsPart, blocked_from, StandsFor}
use Rattle.bip_model.proofs.Spaces.{size-found}
use Rattle.bip_model.proofs.Deciding.{size-same, blocked-from, from-blocked, each-right, each-left}
use Rattle.bip_model.proofs.Fixing.{Has, mapped-at}
use Rattle.bip_model.proofs.Least.{least-made, least-most}
use Rattle.bip_model.proofs.Lists.{any-found, on-get, front-of, back-of, either-of}
use Rattle.bip_model.proofs.Standing.{given-gives, gives-given}
use Rattle.bip_model.proofs.Useless.{filter-test, filter-has, numbered-is}

-- ## A cheaper price

pub record IsCheaperAt (prices base : List (Option ℕ)) : Type 0 where
  pub order : ℕ
  pub price : ℕ
  pub other : Option ℕ
  pub price_found : slice_get prices order ≡ Some (Some price)
  pub other_found : slice_get base order ≡ Some other
  pub cheaper : is_cheaper (Some price) other ≡ true

cheaper-first : (price other : Option ℕ) (prices others : List (Option ℕ)) → is_cheaper price other ≡ true → IsCheaperAt (price ∷ prices) (other ∷ others)
cheaper-first None other prices others here = absurd (false≢true here)
cheaper-first (Some p) other prices others here = record { order = 0; price = p; other = other; price_found = refl; other_found = refl; cheaper = here }

pub cheaper-found : (prices base : List (Option ℕ)) → has_cheaper prices base ≡ true → IsCheaperAt prices base
cheaper-found [] base e = absurd (false≢true e)
cheaper-found (price ∷ prices) [] e = absurd (false≢true e)
cheaper-found (price ∷ prices) (other ∷ others) e =
    elim (or_cases (is_cheaper price other) (has_cheaper prices others) e) [
      | inl here ↦ cheaper-first price other prices others here
      | inr later ↦
          let rest = cheaper-found prices others later in
          record { order = suc rest.order; price = rest.price; other = rest.other; price_found = rest.price_found; other_found = rest.other_found; cheaper = rest.cheaper }
    ]

pub found-cheaper : (prices base : List (Option ℕ)) (o p : ℕ) (other : Option ℕ) → slice_get prices o ≡ Some (Some p) → slice_get base o ≡ Some other → is_cheaper (Some p) other ≡ true → has_cheaper prices base ≡ true
found-cheaper [] base o p other found there cheaper = absurd (cc)
found-cheaper (price ∷ prices) [] o p other found there cheaper = absurd (cc)
found-cheaper (price ∷ prices) (first ∷ base) zero p other found there cheaper =
    let own : price ≡ Some p = cc in
    let same : first ≡ other = cc in
    or_left (is_cheaper price first) (has_cheaper prices base) (ap (λ (q : Option ℕ). is_cheaper q first) own ∙ ap (is_cheaper (Some p)) same ∙ cheaper)
found-cheaper (price ∷ prices) (first ∷ base) (suc o) p other found there cheaper =
    or_right (is_cheaper price first) (has_cheaper prices base) (found-cheaper prices base o p other found there cheaper)

-- an element of a mapped list, at its own place
record IsMappedAt {X Y : Type 0} (f : X → Y) (xs : List X) (i : ℕ) (y : Y) : Type 0 where
  element : X
  found : slice_get xs i ≡ Some element
  is : f element ≡ y

mapped-get : {X Y : Type 0} (f : X → Y) (xs : List X) (i : ℕ) (y : Y) → slice_get (map f xs) i ≡ Some y → IsMappedAt f xs i y
mapped-get f [] i y found = absurd (cc)
mapped-get f (x ∷ xs) zero y found = record { element = x; found = refl; is = cc }
mapped-get f (x ∷ xs) (suc i) y found = let rest = mapped-get f xs i y found in record { element = rest.element; found = rest.found; is = rest.is }

-- ## What the programme calls useful is so

-- an offer that is cheaper than the least of a list is cheaper than each that gives the order
dearer-all : (plain : List Offer) (order : Order) (p price : ℕ) (other : Option ℕ) → least_given order plain ≡ other → is_cheaper (Some p) other ≡ true → price ≡ p →
    All (λ offer. BeginsWith offer.0 order → price < offer.1) plain
dearer-all plain order p price other least cheaper same = λ k d within.
    elim (slice_get_cases plain k).1 [
      | inr past ↦ absurd (omega (arith, past.0, within))
      | inl there ↦
          let offer : Offer = there.0 in
          subst (λ (x : Offer). BeginsWith x.0 order → price < x.1) (sym (get_or_from_slice_get plain k offer d there.2))
          (λ begins.
          let most = least-most (given order) None plain k offer offer.1 there.2 (gives-given order offer begins) in
          let is : other ≡ Some most.number = sym least ∙ most.is in
          let less : p < most.number = ltb-true p most.number (sym (ap (is_cheaper (Some p)) is) ∙ cheaper) in
          omega (arith, less, most.holds, same))
    ]

slot-cheaper : (setting : TheSetting) (block : Block) (task : Task) (task_is : IsTaskOf setting.cat block task) (s : ℕ) (slot : Slot) (own : SlotPart) (n : ℕ × IndexShape) (grant : Grant) →
    slice_get block.slots s ≡ Some slot → (is : IsSlotPart setting block task s slot own) → IsGrant setting block task s slot is.table n grant → (n.1.table == slot.table) ≡ true →
    has_cheaper grant.prices own.base ≡ true → IsCheaper setting block s n.1
slot-cheaper setting block task task_is s slot own n grant slot_found is grant_is on_table cheaper =
    let orders = interesting_orders task s in
    let plain : List Offer = offers setting.cat block setting.shapes no_candidates s in
    let offer : Offer = index_offer setting.cat block s slot is.table n.1 in
    let at' = cheaper-found grant.prices own.base cheaper in
    let price = mapped-get (λ (order : Order). given order offer) orders at'.order (Some at'.price) (subst (λ (ps : List (Option ℕ)). slice_get ps at'.order ≡ Some (Some at'.price)) grant_is.prices_are at'.price_found) in
    let base = mapped-get (λ (order : Order). least_given order plain) orders at'.order at'.other (subst (λ (ps : List (Option ℕ)). slice_get ps at'.order ≡ Some at'.other) is.base_is at'.other_found) in
    let order : Order = price.element in
    let same : base.element ≡ order = let one = price.found in let two = base.found in cc in
    let gives = given-gives order offer at'.price price.is in
    record {
      slot = slot;
      slot_found = slot_found;
      on_table = sym (eqb-true n.1.table slot.table on_table);
      table = is.table;
      table_found = is.table_found;
      task = task;
      task_is = task_is;
      order = order;
      interesting = any_passes_from_place (is_same_order order) orders at'.order order price.found (order_same order);
      gives = gives.0;
      below = dearer-all plain order at'.price offer.1 at'.other (ap (λ (o : Order). least_given o plain) (sym same) ∙ base.is) at'.cheaper gives.1;
    }

pub useful-from : (setting : TheSetting) (programme : Programme) (budget a : ℕ) → StandsFor setting programme → is_useful programme budget a ≡ true → IsUseful setting budget a
useful-from setting programme budget a stands e =
    let parts = and_parts (nat_le (size_in programme.sizes a) budget) (list_any (helps_part a) programme.parts) e in
    let in_part = any-found (helps_part a) programme.parts parts.1 in
    let part : Part = in_part.element in
    let in_slot = any-found (helps_slot a) part.slots in_part.passes in
    let own : SlotPart = in_slot.element in
    let in_grant = any-found (λ (grant : Grant). (grant.candidate == a) && has_cheaper grant.prices own.base) own.grants in_slot.passes in
    let grant : Grant = in_grant.element in
    let tests = and_parts (grant.candidate == a) (has_cheaper grant.prices own.base) in_grant.passes in
    let paired = each-right (IsPart setting) (blocked_from 1 setting.statements) programme.parts in_part.number part stands.parts_are in_part.found in
    let blocked : Blocked = paired.element in
    let is : IsPart setting blocked part = paired.holds in
    let of' = blocked-from 1 setting.statements in_part.number blocked paired.found in
    elim (slice_get_cases blocked.block.slots in_slot.number).1 [
      | inr past ↦ absurd (omega (arith, past.0, slice_get_within part.slots in_slot.number own in_slot.found, is.slots_count))
      | inl there ↦
          let slot : Slot = there.0 in
          let slot_is : IsSlotPart setting blocked.block is.task in_slot.number slot own = is.slots_are in_slot.number slot own there.2 in_slot.found in
          let granted = each-right (IsGrant setting blocked.block is.task in_slot.number slot slot_is.table) (candidates_on setting.shapes slot.table) own.grants in_grant.number grant slot_is.grants_are in_grant.found in
          let n : ℕ × IndexShape = granted.element in
          let listed = filter-test (λ (m : ℕ × IndexShape). m.1.table == slot.table) (enumerate_from 1 setting.shapes) n (record { number = in_grant.number; found = granted.found }) in
          let numbered = numbered-is 1 setting.shapes listed.0.number n listed.0.found in
          let same : n.0 ≡ a = sym granted.holds.candidate_is ∙ eqb-true grant.candidate a tests.0 in
          let found : slice_get setting.shapes (a - 1) ≡ Some n.1 = ap (λ (k : ℕ). slice_get setting.shapes (k - 1)) (sym same) ∙ numbered.found in
          let pages : candidate_pages setting.cat setting.shapes a ≡ shape_pages setting.cat n.1 = size-found setting.cat setting.shapes a n.1 found in
          let fits : size_in programme.sizes a ≤ budget = leb-true (size_in programme.sizes a) budget parts.0 in
          record {
            some = omega (arith, numbered.least, same);
            shape = n.1;
            found = found;
            fits = omega (arith, fits, pages, size-same setting programme a stands);
            number = of'.place;
            statement = of'.statement;
            statement_found = of'.found;
            block = blocked.block;
            block_is = of'.block_is;
            slot = in_slot.number;
            cheaper = slot-cheaper setting blocked.block is.task is.task_is in_slot.number slot own n grant there.2 slot_is granted.holds listed.1 tests.1;
          }
    ]

-- ## What is useful, the programme calls so

enumerated : (k : ℕ) (xs : List IndexShape) (i : ℕ) (x : IndexShape) → slice_get xs i ≡ Some x → slice_get (enumerate_from k xs) i ≡ Some (k + i, x)
enumerated k [] i x found = absurd (cc)
enumerated k (y ∷ ys) zero x found =
    let same : y ≡ x = cc in
    let number : k ≡ k + 0 = omega arith in
    ap (λ (n : ℕ). Some (n, y)) number ∙ ap (λ (z : IndexShape). Some (k + 0, z)) same
enumerated k (y ∷ ys) (suc i) x found =
    let number : k + 1 + i ≡ k + suc i = omega arith in
    enumerated (k + 1) ys i x found ∙ ap (λ (n : ℕ). Some (n, x)) number

least-cheaper : (plain : List Offer) (order : Order) (price : ℕ) → All (λ offer. BeginsWith offer.0 order → price < offer.1) plain → is_cheaper (Some price) (least_given order plain) ≡ true
least-cheaper plain order price below = one (least_given order plain) refl
  where
    one : (least : Option ℕ) → least_given order plain ≡ least → is_cheaper (Some price) least ≡ true
    one None is = refl
    one (Some q) is =
        elim (least-made (given order) None plain q is) [
          | inl none ↦ absurd (cc)
          | inr made ↦
              let gives = given-gives order made.element q made.gives in
              let within = slice_get_within plain made.number made.element made.found in
              let less : price < made.element.1 =
              subst (λ (x : Offer). BeginsWith x.0 order → price < x.1) (get_or_from_slice_get plain made.number made.element made.element made.found) (below made.number made.element within) gives.0 in
              lt-ltb price q (omega (arith, less, gives.1))
        ]

helps : (setting : TheSetting) (block : Block) (task : Task) (task_is : IsTaskOf setting.cat block task) (s a : ℕ) (shape : IndexShape) (own : SlotPart) (cheap : IsCheaper setting block s shape) →
    IsSlotPart setting block task s cheap.slot own → 0 < a → slice_get setting.shapes (a - 1) ≡ Some shape → helps_slot a own ≡ true
helps setting block task task_is s a shape own cheap is some found =
    let slot : Slot = cheap.slot in
    let orders = interesting_orders task s in
    let plain : List Offer = offers setting.cat block setting.shapes no_candidates s in
    let number : 1 + (a - 1) ≡ a = omega (arith, some) in
    let listed : slice_get (enumerate_from 1 setting.shapes) (a - 1) ≡ Some (a, shape) = enumerated 1 setting.shapes (a - 1) shape found ∙ ap (λ (n : ℕ). Some (n, shape)) number in
    let on : Has (candidates_on setting.shapes slot.table) (a, shape) =
    filter-has (λ (m : ℕ × IndexShape). m.1.table == slot.table) (enumerate_from 1 setting.shapes) (a - 1) (a, shape) listed (eq-eqb shape.table slot.table (sym cheap.on_table)) in
    let paired = each-left (IsGrant setting block task s slot is.table) (candidates_on setting.shapes slot.table) own.grants on.number (a, shape) is.grants_are on.found in
    let grant : Grant = paired.element in
    let one : cheap.task ≡ task = one-task setting.cat block cheap.task task cheap.task_is task_is in
    let same_table : cheap.table ≡ is.table = let x = cheap.table_found in let y = is.table_found in cc in
    let offer : Offer = index_offer setting.cat block s slot is.table shape in
    let offer_is : index_offer setting.cat block s slot cheap.table shape ≡ offer = ap (λ (t : Table). index_offer setting.cat block s slot t shape) same_table in
    let interesting : list_any (is_same_order cheap.order) orders ≡ true = subst (λ (t : Task). list_any (is_same_order cheap.order) (interesting_orders t s) ≡ true) one cheap.interesting in
    let at' = any-found (is_same_order cheap.order) orders interesting in
    let order : Order = at'.element in
    let same : cheap.order ≡ order = (is_same_order-decides cheap.order order).0 at'.passes in
    let gives : BeginsWith offer.0 order = subst (λ (o : Order). BeginsWith offer.0 o) same (subst (λ (x : Offer). BeginsWith x.0 cheap.order) offer_is cheap.gives) in
    let below : All (λ other. BeginsWith other.0 order → offer.1 < other.1) plain =
    subst (λ (o : Order). All (λ other. BeginsWith other.0 o → offer.1 < other.1) plain) same
    (subst (λ (x : Offer). All (λ other. BeginsWith other.0 cheap.order → x.1 < other.1) plain) offer_is cheap.below) in
    let price : slice_get grant.prices at'.number ≡ Some (Some offer.1) =
    ap (λ (ps : List (Option ℕ)). slice_get ps at'.number) paired.holds.prices_are
    ∙ mapped-at (λ (o : Order). given o offer) orders at'.number order at'.found ∙ ap Some (gives-given order offer gives) in
    let base : slice_get own.base at'.number ≡ Some (least_given order plain) =
    ap (λ (ps : List (Option ℕ)). slice_get ps at'.number) is.base_is ∙ mapped-at (λ (o : Order). least_given o plain) orders at'.number order at'.found in
    any_passes_from_place (λ (g : Grant). (g.candidate == a) && has_cheaper g.prices own.base) own.grants on.number grant paired.found
    (and_from (grant.candidate == a) (has_cheaper grant.prices own.base) (eq-eqb grant.candidate a paired.holds.candidate_is)
    (found-cheaper grant.prices own.base at'.number offer.1 (least_given order plain) price base (least-cheaper plain order offer.1 below)))

pub useful-to : (setting : TheSetting) (programme : Programme) (budget a : ℕ) → StandsFor setting programme → IsUseful setting budget a → is_useful programme budget a ≡ true
useful-to setting programme budget a stands u =
    let at' = from-blocked 1 setting.statements u.number u.statement u.block u.statement_found u.block_is in
    let blocked : Blocked = at'.blocked in
    let paired = each-left (IsPart setting) (blocked_from 1 setting.statements) programme.parts at'.place blocked stands.parts_are at'.found in
    let part : Part = paired.element in
    let is : IsPart setting blocked part = paired.holds in
    let cheap : IsCheaper setting blocked.block u.slot u.shape = subst (λ (b : Block). IsCheaper setting b u.slot u.shape) (sym at'.block_is) u.cheaper in
    let pages : candidate_pages setting.cat setting.shapes a ≡ shape_pages setting.cat u.shape = size-found setting.cat setting.shapes a u.shape u.found in
    let fits : size_in programme.sizes a ≤ budget = omega (arith, u.fits, pages, size-same setting programme a stands) in
    elim (slice_get_cases part.slots u.slot).1 [
      | inr past ↦ absurd (omega (arith, past.0, slice_get_within blocked.block.slots u.slot cheap.slot cheap.slot_found, is.slots_count))
      | inl own ↦
          let slot_is : IsSlotPart setting blocked.block is.task u.slot cheap.slot own.0 = is.slots_are u.slot cheap.slot own.0 cheap.slot_found own.2 in
          and_from (nat_le (size_in programme.sizes a) budget) (list_any (helps_part a) programme.parts) (le-leb (size_in programme.sizes a) budget fits)
          (any_passes_from_place (helps_part a) programme.parts at'.place part paired.found
          (any_passes_from_place (helps_slot a) part.slots u.slot own.0 own.2 (helps setting blocked.block is.task is.task_is u.slot a u.shape own.0 cheap slot_is u.some u.found)))
    ]

-- ## How many are useful

-- what a test says of the numbers from 1 to n
flags_to : (ℕ → Bool) → ℕ → List Bool
flags_to has zero = []
flags_to has (suc n) = flags_to has n ++ (has (suc n) ∷ [])

flags_to-length : (has : ℕ → Bool) (n : ℕ) → length (flags_to has n) ≡ n
unfolding flags_to
flags_to-length has zero = refl
flags_to-length has (suc n) =
    let more : length (flags_to has n ++ (has (suc n) ∷ [])) ≡ length (flags_to has n) + length (has (suc n) ∷ []) = length-append (flags_to has n) (has (suc n) ∷ []) in
    omega (arith, more, flags_to-length has n)

flags_to-passes : (has : ℕ → Bool) (n i : ℕ) → slice_get (flags_to has n) i ≡ Some true → has (suc i) ≡ true
unfolding flags_to
flags_to-passes has zero i found = absurd (cc)
flags_to-passes has (suc n) i found =
    elim (either-of (flags_to has n) (has (suc n) ∷ []) i true found) [
      | inl front ↦ flags_to-passes has n i front
      | inr back ↦ last back.number back.place back.found
    ]
  where
    last : (k : ℕ) → i ≡ length (flags_to has n) + k → slice_get (has (suc n) ∷ []) k ≡ Some true → has (suc i) ≡ true
    last zero place at' =
        let is : has (suc n) ≡ true = cc in
        let same : i ≡ n = omega (arith, place, flags_to-length has n) in
        ap (λ (k : ℕ). has (suc k)) same ∙ is
    last (suc k) place at' = absurd (cc)

flags_to-found : (has : ℕ → Bool) (n i : ℕ) → i < n → has (suc i) ≡ true → slice_get (flags_to has n) i ≡ Some true
unfolding flags_to
flags_to-found has zero i below on = absurd (omega (arith, below))
flags_to-found has (suc n) i below on =
    elim (cases_lt i n) [
      | inl earlier ↦ front-of (flags_to has n) (has (suc n) ∷ []) i true (flags_to-found has n i earlier on)
      | inr not_earlier ↦
          let same : i ≡ n = omega (arith, not_earlier, below) in
          let last : slice_get (has (suc n) ∷ []) 0 ≡ Some true = ap Some (ap (λ (k : ℕ). has (suc k)) (sym same) ∙ on) in
          let place : length (flags_to has n) + 0 ≡ i = omega (arith, same, flags_to-length has n) in
          subst (λ (k : ℕ). slice_get (flags_to has n ++ (has (suc n) ∷ [])) k ≡ Some true) place (back-of (flags_to has n) (has (suc n) ∷ []) 0 true last)
    ]

total-append : (f : Bool → ℕ) (xs : List Bool) (y : Bool) → total f (xs ++ (y ∷ [])) ≡ total f xs + f y
total-append f [] y = omega arith
total-append f (x ∷ xs) y = let rest = total-append f xs y in omega (arith, rest)

flags_to-counted : (programme : Programme) (budget n : ℕ) → total (λ flag. cond flag 1 0) (flags_to (is_useful programme budget) n) ≡ useful_below programme budget n
unfolding flags_to useful_below
flags_to-counted programme budget zero = refl
flags_to-counted programme budget (suc n) =
    let more = total-append (λ (flag : Bool). cond flag 1 0) (flags_to (is_useful programme budget) n) (is_useful programme budget (suc n)) in
    let rest = flags_to-counted programme budget n in
    omega (arith, more, rest)

pub useful-counted : (setting : TheSetting) (programme : Programme) (budget : ℕ) → StandsFor setting programme → AreUseful setting budget (useful_below programme budget (length programme.sizes))
useful-counted setting programme budget stands =
    let count : ℕ = length programme.sizes in
    let flags : List Bool = flags_to (is_useful programme budget) count in
    let as_many : count ≡ length setting.shapes = ap length stands.sizes_are ∙ length-map setting.shapes (shape_pages setting.cat) in
    record {
      flags = flags;
      one_each = flags_to-length (is_useful programme budget) count ∙ as_many;
      each = λ a some.
          let number : suc (a - 1) ≡ a = omega (arith, some) in (
            λ on.
                useful-from setting programme budget a stands
                (ap (is_useful programme budget) (sym number) ∙ flags_to-passes (is_useful programme budget) count (a - 1) (flag-found flags (a - 1) on)),
            λ useful.
                on-get flags (a - 1)
                (flags_to-found (is_useful programme budget) count (a - 1)
                (omega (arith, slice_get_within setting.shapes (a - 1) useful.shape useful.found, as_many))
                (ap (is_useful programme budget) number ∙ useful-to setting programme budget a stands useful)),
          );
      counted = sym (sum-total (λ (flag : Bool). cond flag 1 0) flags ∙ flags_to-counted programme budget count);
    }
