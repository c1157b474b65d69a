-- What enough templates give is the cost of a least plan.
use Rattle.std.proofs.Common.{◌≡◌, ◌⊎◌, ◌↔◌, inl, inr, ℕ, zero, suc, ◌+◌, ◌<◌, ◌≤◌, bit_and, Bool, true, false, cond, List, [], ◌∷◌, length, take, All, refl, sym, ap, ◌∙◌, subst, arith}
use Rattle.std.specs.List.{list_any}
use Rattle.std.proofs.lemmas.Bool.{cases_Bool, cases_lt, false≢true, or_left, or_right}
use Rattle.std.proofs.lemmas.List.Elements.{All-cons, All-nil}
use Rattle.adv_base.specs.Items.{Order, BeginsWith, is_same_order}
use Rattle.adv_base.specs.Offers.{OfferTable}
use Rattle.adv_base.specs.Sets.{has_slot}
use Rattle.adv_base.proofs.Begins.{begins_decides, begins_longer, begins_nil, begins_trans}
use Rattle.adv_base.proofs.ItemLaws.{is_same_order-decides}
use Rattle.plan_model.specs.declared.plan.Plan.{Plan}
use Rattle.plan_model.specs.declared.plan.Plan.TheVariants.{Leaf, Sort', Merge', Hash'}
use Rattle.plan_model.specs.declared.plan.Whole.{Whole}
use Rattle.plan_model.specs.declared.task.Task.{Task}
use Rattle.adv_base.specs.OfferTables.{price_at, order_at, OfferLimits, OfferTableLimits}
use Rattle.plan_model.specs.Orders.{interesting_orders}
use Rattle.plan_model.specs.Plans.{covers, IsValid, IsWhole, body_sorts}
use Rattle.plan_model.specs.Costs.{whole_cost}
use Rattle.plan_model.specs.Least.{IsCostOfPlan, Least}
use Rattle.plan_model.specs.Exchange.{whole_internal, choice, leaf_price, leaf_order, sum_below, exchange, exchange_whole, AreReplaced, ServesLike, IsWholeExchanged}
use Rattle.plan_model.specs.Combinations.{Orders, IsCombination, free, IsOffered, IsLeastPrice, IsPriced, Templates, CachedBy, Covers, AreEnough}
use Rattle.plan_model.proofs.Bounds.{valid-covers}
use Rattle.plan_model.proofs.OrderLaws.{All-among, none-among, IsOfSlot, interesting_orders-of-slot}
use Rattle.plan_model.proofs.SetLaws.{has-all, has-below, has-right-where, sum_below-same, sum_below-le}
use Rattle.plan_model.proofs.Exchanging.{whole-cost-splits, whole-exchange, single-is, choice-exchange}

-- ## Tables of one free offer a slot

pub free-limits : (task : Task) (needs : Orders) → IsCombination task needs → OfferTableLimits (free needs)
free-limits task needs c slot =
    All-cons (OfferLimits slot) (needs slot, 0) [] (All-among (IsOfSlot slot) (needs slot) (interesting_orders task slot) (interesting_orders-of-slot task slot) (c slot))
    (All-nil (OfferLimits slot))

free-price : (needs : Orders) (slot offer : ℕ) → price_at (free needs) slot offer ≡ 0
free-price needs slot zero = refl
free-price needs slot (suc offer) = refl

pub sum_below-none : (f : ℕ → ℕ) (n : ℕ) → ((slot : ℕ) → slot < n → f slot ≡ 0) → sum_below f n ≡ 0
sum_below-none f zero h = refl
sum_below-none f (suc n) h =
    let before : sum_below f n ≡ 0 = sum_below-none f n (λ slot below. h slot (omega (arith, below))) in
    let here : f n ≡ 0 = h n (omega arith) in
    omega (arith, before, here)

-- over free leaves a plan costs what its tree costs
pub free-cost : (task : Task) (needs : Orders) (whole : Whole) → IsWhole task (free needs) whole → whole_cost task (free needs) whole ≡ whole_internal task whole
free-cost task needs whole v =
    let split = whole-cost-splits task (free needs) whole v in
    let none : sum_below (leaf_price (free needs) whole.body) task.slots ≡ 0 = sum_below-none (leaf_price (free needs) whole.body) task.slots (λ slot below. free-price needs slot (choice whole.body slot)) in
    omega (arith, split, none)

pub free-order : (needs : Orders) (slot offer : ℕ) → offer < 1 → order_at (free needs) slot offer ≡ needs slot
free-order needs slot zero within = refl
free-order needs slot (suc offer) within = absurd (omega arith)

-- a plan that covers all slots reads each of them
has-whole : (task : Task) (table : OfferTable) (whole : Whole) → IsWhole task table whole → (slot : ℕ) → slot < task.slots → has_slot (covers whole.body) slot ≡ true
has-whole task table whole v slot below = ap (λ set. has_slot set slot) v.covers_all ∙ has-all task.slots slot below

whole-below : (task : Task) (table : OfferTable) (whole : Whole) → IsWhole task table whole → (slot : ℕ) → has_slot (covers whole.body) slot ≡ true → slot < task.slots
whole-below task table whole v slot has =
    has-below (covers whole.body) task.slots slot (valid-covers (body_sorts whole.group) task table whole.body v.body_valid) has

choice-either : (table : OfferTable) (left right : Plan) (slot : ℕ) → bit_and (covers left) (covers right) ≡ 0 → has_slot (covers left + covers right) slot ≡ true → (has_slot (covers left) slot ≡ true → choice left slot < length (table slot)) → (has_slot (covers right) slot ≡ true → choice right slot < length (table slot)) → cond (has_slot (covers left) slot) (choice left slot) (choice right slot) < length (table slot)
choice-either table left right slot apart has l r =
    elim (cases_Bool (has_slot (covers left) slot)) [
      | inl here ↦ subst (λ (b : Bool). cond b (choice left slot) (choice right slot) < length (table slot)) (sym here) (l here)
      | inr other ↦
          let there : has_slot (covers right) slot ≡ true = has-right-where (covers left) (covers right) slot apart has other in
          subst (λ (b : Bool). cond b (choice left slot) (choice right slot) < length (table slot)) (sym other) (r there)
    ]

choice-valid : (sorts : Bool) (task : Task) (table : OfferTable) (plan : Plan) (slot : ℕ) → IsValid sorts task table plan → has_slot (covers plan) slot ≡ true → choice plan slot < length (table slot)
choice-valid sorts task table (Leaf own offer) slot v has =
    let same : own ≡ slot = single-is own slot has in
    subst (λ t. offer < length (table t)) same v.1
choice-valid sorts task table (Sort' order p input) slot v has = choice-valid false task table input slot v.1 has
choice-valid sorts task table (Merge' edge p left q right) slot v has =
    choice-either table left right slot v.2 has (choice-valid true task table left slot v.0) (choice-valid true task table right slot v.1)
choice-valid sorts task table (Hash' p left q right) slot v has =
    choice-either table left right slot v.2 has (choice-valid false task table left slot v.0) (choice-valid false task table right slot v.1)

-- a whole plan reads each slot by an offer that there is
pub choice-within : (task : Task) (table : OfferTable) (whole : Whole) → IsWhole task table whole → (slot : ℕ) → slot < task.slots → choice whole.body slot < length (table slot)
choice-within task table whole v slot below =
    choice-valid (body_sorts whole.group) task table whole.body slot v.body_valid (has-whole task table whole v slot below)

-- ## Exchanging all leaves for chosen offers, and what that costs

-- what a chosen offer of a slot is
pub record IsChosen (task : Task) (table : OfferTable) (slot : ℕ) (order : Order) (price number : ℕ) : Type 0 where
  pub within : number < length (table slot)
  pub serves : ServesLike task slot order (order_at table slot number)
  pub costs : price_at table slot number ≡ price

pub exchange-cost : (task : Task) (old new : OfferTable) (whole : Whole) (chosen prices : ℕ → ℕ) → OfferTableLimits old → IsWhole task old whole → ((slot : ℕ) → slot < task.slots → IsChosen task new slot (leaf_order old whole.body slot) (prices slot) (chosen slot)) → IsCostOfPlan task new (whole_internal task whole + sum_below prices task.slots)
exchange-cost task old new whole chosen prices limits v h =
    let replaced : AreReplaced task old new chosen whole.body = λ slot has.
    let below = whole-below task old whole v slot has in
    record { exists = (h slot below).within; serves = (h slot below).serves } in
    let done = whole-exchange task old new chosen whole limits v replaced in
    let split = whole-cost-splits task new (exchange_whole chosen whole) done.valid in
    let priced : sum_below (leaf_price new (exchange chosen whole.body)) task.slots ≡ sum_below prices task.slots =
    sum_below-same (leaf_price new (exchange chosen whole.body)) prices task.slots
    (λ slot below.
    ap (price_at new slot) (choice-exchange (body_sorts whole.group) task old chosen whole.body slot v.body_valid (has-whole task old whole v slot below))
    ∙ (h slot below).costs) in
    record { whole = exchange_whole chosen whole; valid = done.valid; costs = omega (arith, split, priced, done.costs_same) }

-- the order of the leaf that is read in a table of one offer a slot
pub free-begins : (task : Task) (needs : Orders) (whole : Whole) → IsWhole task (free needs) whole → (slot : ℕ) → slot < task.slots → leaf_order (free needs) whole.body slot ≡ needs slot
free-begins task needs whole v slot below = free-order needs slot (choice whole.body slot) (choice-within task (free needs) whole v slot below)

-- ## From templates to plans

pick : (task : Task) (table : OfferTable) (needs : Orders) (prices : ℕ → ℕ) → ((slot : ℕ) → slot < task.slots → IsOffered table slot (needs slot) (prices slot)) → (slot : ℕ) → (number : ℕ) × (slot < task.slots → IsChosen task table slot (needs slot) (prices slot) number)
pick task table needs prices offered slot =
    elim (cases_lt slot task.slots) [
      | inl below ↦
          let o = offered slot below in (
            o.number,
            λ _. record {
              within = o.within;
              serves = λ k d in_list begins. begins_trans (order_at table slot o.number) (needs slot) _ o.begins begins;
              costs = o.costs;
            },
          )
      | inr past ↦ (0, λ below. absurd (omega (arith, past, below)))
    ]

-- a plan above free leaves gives one over each table that offers its orders
pub template-plan : (task : Task) (table : OfferTable) (needs : Orders) (internal cost : ℕ) → IsCombination task needs → IsCostOfPlan task (free needs) internal → IsPriced task table needs internal cost → IsCostOfPlan task table cost
template-plan task table needs internal cost c plan priced =
    let picked = pick task table needs priced.prices (λ slot below. (priced.each slot below).offered) in
    let above : whole_internal task plan.whole ≡ internal = sym (free-cost task needs plan.whole plan.valid) ∙ plan.costs in
    let made : IsCostOfPlan task table (whole_internal task plan.whole + sum_below priced.prices task.slots) =
    exchange-cost task (free needs) table plan.whole (λ slot. (picked slot).0) priced.prices (free-limits task needs c) plan.valid
    (λ slot below.
    let chosen = (picked slot).1 below in
    record {
      within = chosen.within;
      serves = subst (λ (o : Order). ServesLike task slot o (order_at table slot (picked slot).0)) (sym (free-begins task needs plan.whole plan.valid slot below)) chosen.serves;
      costs = chosen.costs;
    }) in
    subst (IsCostOfPlan task table) (ap (λ n. n + sum_below priced.prices task.slots) above ∙ sym priced.sum) made

-- ## From plans to combinations

-- the longest of some orders with which an order begins
pub record IsLongest (o : Order) (orders : List Order) (base best : Order) : Type 0 where
  pub begins : BeginsWith o best
  pub from : (best ≡ base) ⊎ (list_any (is_same_order best) orders ≡ true)
  pub base_shorter : length base ≤ length best
  pub longest : All (λ r. BeginsWith o r → length r ≤ length best) orders

longest-of : (o base : Order) (orders : List Order) → BeginsWith o base → (best : Order) × IsLongest o orders base best
longest-of o base [] begins =
    (base, record { begins = begins; from = inl refl; base_shorter = omega arith; longest = All-nil (λ r. BeginsWith o r → length r ≤ length base) })
longest-of o base (x ∷ xs) begins =
    let keeps : ((BeginsWith o x → length x ≤ length base)) → (best : Order) × IsLongest o (x ∷ xs) base best = λ short.
    let rest = longest-of o base xs begins in (
      rest.0,
      record {
        begins = rest.1.begins;
        from = elim rest.1.from [ inl same ↦ inl same | inr later ↦ inr (or_right (is_same_order rest.0 x) (list_any (is_same_order rest.0) xs) later) ];
        base_shorter = rest.1.base_shorter;
        longest = All-cons (λ r. BeginsWith o r → length r ≤ length rest.0) x xs (λ b. omega (arith, short b, rest.1.base_shorter)) rest.1.longest;
      },
    ) in
    elim (cases_Bool (is_same_order (take (length x) o) x)) [
      | inl fits ↦
          elim (cases_lt (length base) (length x)) [
            | inl longer ↦
                let rest = longest-of o x xs ((begins_decides o x).0 fits) in (
                  rest.0,
                  record {
                    begins = rest.1.begins;
                    from = elim rest.1.from [
                      | inl same ↦ inr (or_left (is_same_order rest.0 x) (list_any (is_same_order rest.0) xs) ((is_same_order-decides rest.0 x).1 same))
                      | inr later ↦ inr (or_right (is_same_order rest.0 x) (list_any (is_same_order rest.0) xs) later)
                    ];
                    base_shorter = omega (arith, longer, rest.1.base_shorter);
                    longest = All-cons (λ r. BeginsWith o r → length r ≤ length rest.0) x xs (λ b. rest.1.base_shorter) rest.1.longest;
                  },
                )
            | inr shorter ↦ keeps (λ b. shorter)
          ]
      | inr misses ↦ keeps (λ b. absurd (false≢true (sym misses ∙ (begins_decides o x).1 b)))
    ]

-- the longest interesting order with which an order begins serves all that the order serves
pub record IsCore (task : Task) (slot : ℕ) (o best : Order) : Type 0 where
  pub among : list_any (is_same_order best) (interesting_orders task slot) ≡ true
  pub begins : BeginsWith o best
  pub serves : ServesLike task slot o best

pub core : (task : Task) (slot : ℕ) (o : Order) → (best : Order) × IsCore task slot o best
core task slot o =
    let found = longest-of o [] (interesting_orders task slot) (begins_nil o) in (
      found.0,
      record {
        among = elim found.1.from [
          | inl none ↦ subst (λ t. list_any (is_same_order t) (interesting_orders task slot) ≡ true) (sym none) (none-among task slot)
          | inr here ↦ here
        ];
        begins = found.1.begins;
        serves = λ k d within b. begins_longer o found.0 _ found.1.begins b (found.1.longest k d within b);
      },
    )

-- the combination that a plan's leaves deliver
pub core-needs : Task → OfferTable → Whole → Orders
core-needs task table whole slot = (core task slot (leaf_order table whole.body slot)).0

pub core-is : (task : Task) (table : OfferTable) (whole : Whole) (slot : ℕ) → IsCore task slot (leaf_order table whole.body slot) (core-needs task table whole slot)
unfolding core-needs
core-is task table whole slot = (core task slot (leaf_order table whole.body slot)).1

pub core-combination : (task : Task) (table : OfferTable) (whole : Whole) → IsCombination task (core-needs task table whole)
core-combination task table whole slot = (core-is task table whole slot).among

-- and the plan above free leaves that deliver it
pub core-plan : (task : Task) (table : OfferTable) (whole : Whole) → OfferTableLimits table → IsWhole task table whole → IsWholeExchanged task (free (core-needs task table whole)) whole (exchange_whole (λ slot. 0) whole)
core-plan task table whole limits v =
    whole-exchange task table (free (core-needs task table whole)) (λ slot. 0) whole limits v
    (λ slot has. record { exists = omega arith; serves = (core-is task table whole slot).serves })

-- ## Least prices

record IsLeastBelow (table : OfferTable) (slot : ℕ) (order : Order) (n price : ℕ) : Type 0 where
  offered : IsOffered table slot order price
  least : (k : ℕ) → k < n → k < length (table slot) → BeginsWith (order_at table slot k) order → price ≤ price_at table slot k

least-below : (table : OfferTable) (slot : ℕ) (order : Order) (n price : ℕ) → IsOffered table slot order price → (least : ℕ) × (least ≤ price) × IsLeastBelow table slot order n least
least-below table slot order zero price o = (price, omega arith, record { offered = o; least = λ k below within begins. absurd (omega (arith, below)) })
least-below table slot order (suc n) price o =
    let found = least-below table slot order n price o in
    let keeps : ((n < length (table slot) → BeginsWith (order_at table slot n) order → found.0 ≤ price_at table slot n)) → (least : ℕ) × (least ≤ price) × IsLeastBelow table slot order (suc n) least = λ last. (
      found.0,
      found.1,
      record {
        offered = found.2.offered;
        least = λ k below within begins.
            elim (cases_lt k n) [
              | inl less ↦ found.2.least k less within begins
              | inr more ↦
                  let same : n ≡ k = omega (arith, more, below) in
                  subst (λ t. found.0 ≤ price_at table slot t) same (last (omega (arith, same, within)) (subst (λ t. BeginsWith (order_at table slot t) order) (sym same) begins))
            ];
      },
    ) in
    elim (cases_lt n (length (table slot))) [
      | inl within ↦
          elim (cases_Bool (is_same_order (take (length order) (order_at table slot n)) order)) [
            | inl fits ↦
                elim (cases_lt (price_at table slot n) found.0) [
                  | inl cheaper ↦ (
                    price_at table slot n,
                    omega (arith, cheaper, found.1),
                    record {
                      offered = record { number = n; within = within; begins = (begins_decides (order_at table slot n) order).0 fits; costs = refl };
                      least = λ k below inside begins.
                          elim (cases_lt k n) [
                            | inl less ↦ let old = found.2.least k less inside begins in omega (arith, old, cheaper)
                            | inr more ↦
                                let same : n ≡ k = omega (arith, more, below) in
                                subst (λ t. price_at table slot n ≤ price_at table slot t) same (omega arith)
                          ];
                    },
                  )
                  | inr dearer ↦ keeps (λ w b. dearer)
                ]
            | inr misses ↦ keeps (λ w b. absurd (false≢true (sym misses ∙ (begins_decides (order_at table slot n) order).1 b)))
          ]
      | inr past ↦ keeps (λ w b. absurd (omega (arith, past, w)))
    ]

-- where a slot offers an order, there is a least price at which it does
pub least-price : (table : OfferTable) (slot : ℕ) (order : Order) (price : ℕ) → IsOffered table slot order price → (least : ℕ) × (least ≤ price) × IsLeastPrice table slot order least
least-price table slot order price o =
    let found = least-below table slot order (length (table slot)) price o in (
      found.0,
      found.1,
      record {
        offered = found.2.offered;
        none_less = λ other offered. omega (arith, found.2.least offered.number offered.within offered.within offered.begins, offered.costs);
      },
    )

-- the least prices of what each slot offers, and their sum
priced-by : (task : Task) (table : OfferTable) (needs : Orders) (prices : ℕ → ℕ) (internal : ℕ) → ((slot : ℕ) → slot < task.slots → IsOffered table slot (needs slot) (prices slot)) → (cost : ℕ) × (cost ≤ internal + sum_below prices task.slots) × IsPriced task table needs internal cost
priced-by task table needs prices internal offered =
    let pick : (slot : ℕ) → (least : ℕ) × (slot < task.slots → (least ≤ prices slot) × IsLeastPrice table slot (needs slot) least) = λ slot.
    elim (cases_lt slot task.slots) [
      | inl below ↦ let found = least-price table slot (needs slot) (prices slot) (offered slot below) in (found.0, λ _. (found.1, found.2))
      | inr past ↦ (0, λ below. absurd (omega (arith, past, below)))
    ] in
    let least : ℕ → ℕ = λ slot. (pick slot).0 in (
      internal + sum_below least task.slots,
      omega (arith, sum_below-le least prices task.slots (λ slot below. ((pick slot).1 below).0)),
      record { prices = least; each = λ slot below. ((pick slot).1 below).1; sum = refl },
    )

-- ## Enough templates

-- each plan costs at least what some template gives
pub record IsMatched (templates : Templates) (task : Task) (table : OfferTable) (cost : ℕ) : Type 0 where
  pub needs : Orders
  pub internal : ℕ
  pub template : templates needs internal
  pub sum : ℕ
  pub priced : IsPriced task table needs internal sum
  pub less : sum ≤ cost

pub matched : (task : Task) (templates : Templates) (table : OfferTable) (whole : Whole) → OfferTableLimits table → IsWhole task table whole → Covers templates (core-needs task table whole) (whole_internal task whole) → IsMatched templates task table (whole_cost task table whole)
matched task templates table whole limits v cover =
    let prices : ℕ → ℕ = leaf_price table whole.body in
    let offered : (slot : ℕ) → slot < task.slots → IsOffered table slot (cover.other slot) (prices slot) = λ slot below.
    record {
      number = choice whole.body slot;
      within = choice-within task table whole v slot below;
      begins = begins_trans (leaf_order table whole.body slot) (core-needs task table whole slot) (cover.other slot) (core-is task table whole slot).begins (cover.fronts slot);
      costs = refl;
    } in
    let priced = priced-by task table cover.other prices cover.internal offered in
    let split = whole-cost-splits task table whole v in
    record {
      needs = cover.other;
      internal = cover.internal;
      template = cover.template;
      sum = priced.0;
      priced = priced.2;
      less = omega (arith, priced.1, split, cover.less);
    }

-- the templates cover the combination of a plan
core-covered : (task : Task) (templates : Templates) (table : OfferTable) (whole : Whole) → AreEnough task templates → OfferTableLimits table → IsWhole task table whole → Covers templates (core-needs task table whole) (whole_internal task whole)
core-covered task templates table whole enough limits v =
    let core-whole = core-plan task table whole limits v in
    let needs = core-needs task table whole in
    let cost = free-cost task needs (exchange_whole (λ slot. 0) whole) core-whole.valid ∙ core-whole.costs_same in
    subst (Covers templates needs) cost (enough.covers needs (exchange_whole (λ slot. 0) whole) (core-combination task table whole) core-whole.valid)

-- over a table that has it, what sound templates give is the cost of some plan
pub record AreSound (task : Task) (templates : Templates) : Type 0 where
  pub combination : (needs : Orders) (internal : ℕ) → templates needs internal → IsCombination task needs
  pub plan : (needs : Orders) (internal : ℕ) → templates needs internal → IsCostOfPlan task (free needs) internal

enough-sound : (task : Task) (templates : Templates) → AreEnough task templates → AreSound task templates
enough-sound task templates enough = record { combination = enough.combination; plan = enough.plan }

pub sound-plan : (task : Task) (templates : Templates) (table : OfferTable) (needs : Orders) (internal cost : ℕ) → AreSound task templates → templates needs internal → IsPriced task table needs internal cost → IsCostOfPlan task table cost
sound-plan task templates table needs internal cost sound template priced =
    template-plan task table needs internal cost (sound.combination needs internal template) (sound.plan needs internal template) priced

-- where templates cover the combination of a least plan, its cost is the least that they give
pub least-cached : (task : Task) (templates : Templates) (table : OfferTable) (cost : ℕ) → AreSound task templates → OfferTableLimits table → (least : Least task table cost) → Covers templates (core-needs task table least.plan.whole) (whole_internal task least.plan.whole) → CachedBy templates task table cost
least-cached task templates table cost sound limits least cover =
    let m = matched task templates table least.plan.whole limits least.plan.valid cover in
    let below : (other : Orders) (above sum : ℕ) → templates other above → IsPriced task table other above sum → cost ≤ sum = λ other above sum template priced.
    let plan = sound-plan task templates table other above sum sound template priced in
    omega (arith, least.none_less plan.whole plan.valid, plan.costs) in
    let same : m.sum ≡ cost = omega (arith, below m.needs m.internal m.sum m.template m.priced, m.less, least.plan.costs) in
    record {
      needs = m.needs;
      internal = m.internal;
      template = m.template;
      priced = subst (IsPriced task table m.needs m.internal) same m.priced;
      none_less = below;
    }

pub enough-decompose : (task : Task) (templates : Templates) → AreEnough task templates → (table : OfferTable) (cost : ℕ) → OfferTableLimits table → CachedBy templates task table cost ↔ Least task table cost
enough-decompose task templates enough table cost limits = (
  λ cached.
      record {
        plan = sound-plan task templates table cached.needs cached.internal cost (enough-sound task templates enough) cached.template cached.priced;
        none_less = λ whole v.
            let m = matched task templates table whole limits v (core-covered task templates table whole enough limits v) in
            omega (arith, cached.none_less m.needs m.internal m.sum m.template m.priced, m.less);
      },
  λ least.
      least-cached task templates table cost (enough-sound task templates enough) limits least
      (core-covered task templates table least.plan.whole enough limits least.plan.valid),
)
