-- Least costs over tables of offers that differ.
use Rattle.std.proofs.Common.{◌≡◌, ◌↔◌, inl, inr, ℕ, ◌+◌, ◌<◌, ◌≤◌, length, refl, sym, subst, arith}
use Rattle.std.proofs.lemmas.Bool.{cases_lt}
use Rattle.adv_base.specs.Items.{Order}
use Rattle.adv_base.specs.Offers.{OfferTable}
use Rattle.adv_base.proofs.Begins.{begins_trans}
use Rattle.plan_model.specs.declared.plan.Whole.{Whole}
use Rattle.plan_model.specs.declared.task.Task.{Task}
use Rattle.adv_base.specs.OfferTables.{price_at, order_at, OfferTableLimits}
use Rattle.plan_model.specs.Plans.{IsWhole}
use Rattle.plan_model.specs.Costs.{whole_cost}
use Rattle.plan_model.specs.Least.{IsCostOfPlan, Least}
use Rattle.plan_model.specs.Exchange.{whole_internal, choice, leaf_price, sum_below, ServesLike}
use Rattle.plan_model.specs.Comparisons.{IsBetter, NoDearer, HasOffersOf, IsRaised, charges, IsBest}
use Rattle.plan_model.proofs.SetLaws.{sum_below-le, sum_below-add}
use Rattle.plan_model.proofs.Exchanging.{whole-cost-splits}
use Rattle.plan_model.proofs.Decomposing.{choice-within, exchange-cost, core, least-price}

pub least-one : (task : Task) (table : OfferTable) (first second : ℕ) → Least task table first → Least task table second → first ≡ second
least-one task table first second a b =
    omega (arith, a.none_less b.plan.whole b.plan.valid, a.plan.costs, b.none_less a.plan.whole a.plan.valid, b.plan.costs)

-- ## Offers that serve as well at no higher price

-- a plan over the old table gives one over the new that costs no more
pub record IsNoDearerPlan (task : Task) (new : OfferTable) (cost : ℕ) : Type 0 where
  pub other : ℕ
  pub less : other ≤ cost
  pub plan : IsCostOfPlan task new other

pub better-plan : (task : Task) (old new : OfferTable) (whole : Whole) → OfferTableLimits old → NoDearer task old new → IsWhole task old whole → IsNoDearerPlan task new (whole_cost task old whole)
better-plan task old new whole limits better v =
    let pick : (slot : ℕ) → (number : ℕ) × (slot < task.slots → IsBetter task old new slot (choice whole.body slot) number) = λ slot.
    elim (cases_lt slot task.slots) [
      | inl below ↦ let b = better slot (choice whole.body slot) below (choice-within task old whole v slot below) in (b.0, λ _. b.1)
      | inr past ↦ (0, λ below. absurd (omega (arith, past, below)))
    ] in
    let prices : ℕ → ℕ = λ slot. price_at new slot (pick slot).0 in
    let plan : IsCostOfPlan task new (whole_internal task whole + sum_below prices task.slots) =
    exchange-cost task old new whole (λ slot. (pick slot).0) prices limits v
    (λ slot below. record { within = ((pick slot).1 below).within; serves = ((pick slot).1 below).serves; costs = refl }) in
    let split = whole-cost-splits task old whole v in
    let less : sum_below prices task.slots ≤ sum_below (leaf_price old whole.body) task.slots =
    sum_below-le prices (leaf_price old whole.body) task.slots (λ slot below. ((pick slot).1 below).cheaper) in
    record { other = whole_internal task whole + sum_below prices task.slots; less = omega (arith, split, less); plan = plan }

pub least-never-rises : (task : Task) (old new : OfferTable) (before after : ℕ) → OfferTableLimits old → NoDearer task old new → Least task old before → Least task new after → after ≤ before
least-never-rises task old new before after limits better a b =
    let made = better-plan task old new a.plan.whole limits better a.plan.valid in
    omega (arith, made.less, a.plan.costs, b.none_less made.plan.whole made.plan.valid, made.plan.costs)

pub serves-same : (task : Task) (slot : ℕ) (o r : Order) → r ≡ o → ServesLike task slot o r
serves-same task slot o r same = subst (ServesLike task slot o) (sym same) (λ k d within begins. begins)

offers-better : (task : Task) (old new : OfferTable) → HasOffersOf task old new → NoDearer task old new
offers-better task old new has slot number below within =
    let offer = has slot number below within in (
      offer.number,
      record {
        within = offer.within;
        serves = serves-same task slot (order_at old slot number) (order_at new slot offer.number) offer.order_is;
        cheaper = omega (arith, offer.price_is);
      },
    )

pub added-never-raises : (task : Task) (old new : OfferTable) (before after : ℕ) → OfferTableLimits old → HasOffersOf task old new → Least task old before → Least task new after → after ≤ before
added-never-raises task old new before after limits has = least-never-rises task old new before after limits (offers-better task old new has)

-- ## Tables that serve alike

-- two tables of which neither is dearer have the same least costs
pub least-alike : (task : Task) (old new : OfferTable) (cost : ℕ) → OfferTableLimits old → OfferTableLimits new → NoDearer task old new → NoDearer task new old → Least task old cost → Least task new cost
least-alike task old new cost limits limits' there back least =
    let made = better-plan task old new least.plan.whole limits there least.plan.valid in
    let below : (whole : Whole) → IsWhole task new whole → cost ≤ whole_cost task new whole = λ whole v.
    let old-plan = better-plan task new old whole limits' back v in
    omega (arith, old-plan.less, least.none_less old-plan.plan.whole old-plan.plan.valid, old-plan.plan.costs) in
    let same : made.other ≡ cost = omega (arith, made.less, least.plan.costs, below made.plan.whole made.plan.valid, made.plan.costs) in
    record { plan = subst (IsCostOfPlan task new) same made.plan; none_less = below }

best-there : (task : Task) (table best : OfferTable) → IsBest task table best → NoDearer task table best
best-there task table best is slot number below within =
    let found = core task slot (order_at table slot number) in
    let cheapest = least-price table slot found.0 (price_at table slot number) (record { number = number; within = within; begins = found.1.begins; costs = refl }) in
    let offer = is.all slot found.0 cheapest.0 below found.1.among cheapest.2 in (
      offer.number,
      record {
        within = offer.within;
        serves = subst (ServesLike task slot (order_at table slot number)) (sym offer.order_is) found.1.serves;
        cheaper = omega (arith, offer.price_is, cheapest.1);
      },
    )

best-back : (task : Task) (table best : OfferTable) → IsBest task table best → NoDearer task best table
best-back task table best is slot number below within =
    let offer = (is.each slot number below within).offered in (
      offer.number,
      record {
        within = offer.within;
        serves = λ k d in_list begins. begins_trans (order_at table slot offer.number) (order_at best slot number) _ offer.begins begins;
        cheaper = omega (arith, offer.costs);
      },
    )

pub best-is-enough : (task : Task) (table best : OfferTable) (cost : ℕ) → OfferTableLimits table → OfferTableLimits best → IsBest task table best → Least task table cost ↔ Least task best cost
best-is-enough task table best cost limits limits' is = (
  least-alike task table best cost limits limits' (best-there task table best is) (best-back task table best is),
  least-alike task best table cost limits' limits (best-back task table best is) (best-there task table best is),
)

-- ## Raised prices

raised-back : (task : Task) (old new : OfferTable) (charge : ℕ → ℕ → ℕ) → IsRaised task old new charge → NoDearer task new old
raised-back task old new charge is slot number below within =
    let inside : number < length (old slot) = omega (arith, within, is.count slot below) in (
      number,
      record {
        within = inside;
        serves = serves-same task slot (order_at new slot number) (order_at old slot number) (sym (is.order slot number below inside));
        cheaper = is.least slot number below inside;
      },
    )

raised-plan : (task : Task) (old new : OfferTable) (charge : ℕ → ℕ → ℕ) (whole : Whole) → OfferTableLimits old → IsRaised task old new charge → IsWhole task old whole → IsNoDearerPlan task new (whole_cost task old whole + charges task charge whole)
raised-plan task old new charge whole limits is v =
    let prices : ℕ → ℕ = leaf_price new whole.body in
    let plan : IsCostOfPlan task new (whole_internal task whole + sum_below prices task.slots) =
    exchange-cost task old new whole (choice whole.body) prices limits v
    (λ slot below.
    let inside = choice-within task old whole v slot below in
    record {
      within = omega (arith, inside, is.count slot below);
      serves = serves-same task slot (order_at old slot (choice whole.body slot)) (order_at new slot (choice whole.body slot)) (is.order slot (choice whole.body slot) below inside);
      costs = refl;
    }) in
    let split = whole-cost-splits task old whole v in
    let most : sum_below prices task.slots ≤ sum_below (λ slot. leaf_price old whole.body slot + charge slot (choice whole.body slot)) task.slots =
    sum_below-le prices (λ slot. leaf_price old whole.body slot + charge slot (choice whole.body slot)) task.slots
    (λ slot below. is.most slot (choice whole.body slot) below (choice-within task old whole v slot below)) in
    let parts : sum_below (λ slot. leaf_price old whole.body slot + charge slot (choice whole.body slot)) task.slots ≡ sum_below (leaf_price old whole.body) task.slots + charges task charge whole =
    sum_below-add (leaf_price old whole.body) (λ slot. charge slot (choice whole.body slot)) task.slots in
    record { other = whole_internal task whole + sum_below prices task.slots; less = omega (arith, split, most, parts); plan = plan }

pub raised-lies-between : (task : Task) (old new : OfferTable) (charge : ℕ → ℕ → ℕ) (before after : ℕ) → OfferTableLimits old → OfferTableLimits new → IsRaised task old new charge → Least task old before → Least task new after → (before ≤ after) × ((whole : Whole) → IsWhole task old whole → whole_cost task old whole ≡ before → after ≤ before + charges task charge whole)
raised-lies-between task old new charge before after limits limits' is a b = (
  least-never-rises task new old after before limits' (raised-back task old new charge is) b a,
  λ whole v costs.
      let made = raised-plan task old new charge whole limits is v in
      omega (arith, made.less, costs, b.none_less made.plan.whole made.plan.valid, made.plan.costs),
)
