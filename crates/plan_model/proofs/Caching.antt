-- The least cost over all combinations, or over those that are kept, is that of a least plan.
use Rattle.std.proofs.Common.{◌≡◌, ◌↔◌, inl, inr, ℕ, zero, suc, ◌+◌, ◌<◌, ◌≤◌, length, take, refl, sym, ap, ◌∙◌, subst, arith}
use Rattle.std.proofs.Math.Seq.{take-length}
use Rattle.std.proofs.lemmas.Bool.{cases_lt}
use Rattle.adv_base.specs.Items.{Order, BeginsWith}
use Rattle.adv_base.specs.Offers.{OfferTable}
use Rattle.adv_base.proofs.Begins.{begins_length, begins_self, begins_trans}
use Rattle.plan_model.specs.declared.plan.Whole.{Whole}
use Rattle.plan_model.specs.declared.task.Task.{Task}
use Rattle.adv_base.specs.OfferTables.{OfferTableLimits}
use Rattle.plan_model.specs.Plans.{IsWhole}
use Rattle.plan_model.specs.Costs.{whole_cost}
use Rattle.plan_model.specs.Least.{IsCostOfPlan, Least}
use Rattle.plan_model.specs.Exchange.{whole_internal, choice, leaf_price, leaf_order, sum_below, exchange_whole, ServesLike}
use Rattle.plan_model.specs.Combinations.{Orders, free, CachedBy, IsEach, Cached, Weakens, IsKept, Templates, Covers}
use Rattle.plan_model.proofs.SetLaws.{sum_below-le}
use Rattle.plan_model.proofs.Exchanging.{whole-cost-splits}
use Rattle.plan_model.proofs.Decomposing.{free-limits, free-cost, free-begins, exchange-cost, choice-within, AreSound, sound-plan, least-cached, matched, core-needs, core-is, core-combination, core-plan}

-- ## There is a least plan where there is one: so much follows without a search

weakly-least : (task : Task) (table : OfferTable) (n : ℕ) (whole : Whole) → IsWhole task table whole → whole_cost task table whole < n → ((cost : ℕ) → Least task table cost → ⊥) → ⊥
weakly-least task table zero whole v below never = absurd (omega (arith, below))
weakly-least task table (suc n) whole v below never =
    never (whole_cost task table whole) (record {
      plan = record { whole = whole; valid = v; costs = refl };
      none_less = λ other valid.
          elim (cases_lt (whole_cost task table other) (whole_cost task table whole)) [
            | inl less ↦ absurd (weakly-least task table n other valid (omega (arith, less, below)) never)
            | inr more ↦ more
          ];
    })

-- ## All combinations

each-sound : (task : Task) → AreSound task (IsEach task)
each-sound task = record { combination = λ needs internal each. each.combination; plan = λ needs internal each. each.least.plan }

-- over the free leaves that it needs, a least plan is a least one
pub least-core : (task : Task) (table : OfferTable) (cost : ℕ) → OfferTableLimits table → (least : Least task table cost) → IsEach task (core-needs task table least.plan.whole) (whole_internal task least.plan.whole)
least-core task table cost limits least =
    let whole = least.plan.whole in
    let valid = least.plan.valid in
    let needs = core-needs task table whole in
    let done = core-plan task table whole limits valid in
    let split = whole-cost-splits task table whole valid in
    record {
      combination = core-combination task table whole;
      least =
          record {
            plan = record { whole = exchange_whole (λ slot. 0) whole; valid = done.valid; costs = free-cost task needs (exchange_whole (λ slot. 0) whole) done.valid ∙ done.costs_same };
            none_less = λ other v.
                let back : IsCostOfPlan task table (whole_internal task other + sum_below (leaf_price table whole.body) task.slots) =
                exchange-cost task (free needs) table other (choice whole.body) (leaf_price table whole.body) (free-limits task needs (core-combination task table whole)) v
                (λ slot below. record {
                  within = choice-within task table whole valid slot below;
                  serves = subst (λ (o : Order). ServesLike task slot o (leaf_order table whole.body slot)) (sym (free-begins task needs other v slot below))
                      (λ k d in_list begins. begins_trans (leaf_order table whole.body slot) (needs slot) _ (core-is task table whole slot).begins begins);
                  costs = refl;
                }) in
                omega (arith, least.none_less back.whole back.valid, back.costs, split, least.plan.costs, free-cost task needs other v);
          };
    }

pub each-covers : (task : Task) (needs : Orders) (internal cost : ℕ) → IsEach task needs internal → internal ≤ cost → Covers (IsEach task) needs cost
each-covers task needs internal cost each less =
    record { other = needs; internal = internal; template = each; fronts = λ slot. begins_self (needs slot); less = less }

-- what is least over templates that weakly cover each combination is least over plans
pub covered-least : (task : Task) (templates : Templates) (table : OfferTable) (cost : ℕ) → OfferTableLimits table → AreSound task templates → ((needs : Orders) (internal : ℕ) → IsEach task needs internal → (Covers templates needs internal → ⊥) → ⊥) → CachedBy templates task table cost → Least task table cost
covered-least task templates table cost limits sound weakly cached =
    record {
      plan = sound-plan task templates table cached.needs cached.internal cost sound cached.template cached.priced;
      none_less = λ whole v.
          elim (cases_lt (whole_cost task table whole) cost) [
            | inr more ↦ more
            | inl less ↦
                let needs = core-needs task table whole in
                let done = core-plan task table whole limits v in
                let same = free-cost task needs (exchange_whole (λ slot. 0) whole) done.valid ∙ done.costs_same in
                absurd (weakly-least task (free needs) (suc (whole_cost task (free needs) (exchange_whole (λ slot. 0) whole))) (exchange_whole (λ slot. 0) whole) done.valid (omega arith)
                (λ internal least.
                weakly needs internal (record { combination = core-combination task table whole; least = least })
                (λ cover.
                let upto : cover.internal ≤ whole_internal task whole = omega (arith, cover.less, least.none_less (exchange_whole (λ slot. 0) whole) done.valid, same) in
                let m = matched task templates table whole limits v (record { other = cover.other; internal = cover.internal; template = cover.template; fronts = cover.fronts; less = upto }) in
                omega (arith, cached.none_less m.needs m.internal m.sum m.template m.priced, m.less, less))))
          ];
    }

pub cache-decomposes : (task : Task) (table : OfferTable) (cost : ℕ) → OfferTableLimits table → Cached task table cost ↔ Least task table cost
cache-decomposes task table cost limits = (
  covered-least task (IsEach task) table cost limits (each-sound task)
      (λ needs internal each never. never (each-covers task needs internal internal each (omega arith))),
  λ least.
      least-cached task (IsEach task) table cost (each-sound task) limits least
      (each-covers task (core-needs task table least.plan.whole) (whole_internal task least.plan.whole) (whole_internal task least.plan.whole) (least-core task table cost limits least) (omega arith)),
)

-- ## Combinations that are kept

-- how many items a combination asks for
pub size : Task → Orders → ℕ
size task needs = sum_below (λ slot. length (needs slot)) task.slots

sum-less : (f g : ℕ → ℕ) (n k : ℕ) → ((slot : ℕ) → slot < n → f slot ≤ g slot) → k < n → f k < g k → sum_below f n < sum_below g n
sum-less f g zero k each below less = absurd (omega (arith, below))
sum-less f g (suc n) k each below less =
    let last : f n ≤ g n = each n (omega arith) in
    elim (cases_lt k n) [
      | inl before ↦
          let rest : sum_below f n < sum_below g n = sum-less f g n k (λ slot b. each slot (omega (arith, b))) before less in
          omega (arith, rest, last)
      | inr here ↦
          let same : k ≡ n = omega (arith, here, below) in
          let strict : f n < g n = subst (λ t. f t < g t) same less in
          let rest : sum_below f n ≤ sum_below g n = sum_below-le f g n (λ slot b. each slot (omega (arith, b))) in
          omega (arith, rest, strict)
    ]

-- a front of the same length is the order itself
pub front-whole : (o r : Order) → BeginsWith o r → length o ≤ length r → r ≡ o
front-whole o r begins long =
    let same : length r ≡ length o = omega (arith, begins_length o r begins, long) in
    sym begins ∙ (ap (λ n. take n o) same ∙ take-length o)

weaker-smaller : (task : Task) (weaker needs : Orders) → Weakens task weaker needs → size task weaker < size task needs
unfolding size
weaker-smaller task weaker needs w =
    sum-less (λ slot. length (weaker slot)) (λ slot. length (needs slot)) task.slots w.slot
    (λ slot below. begins_length (needs slot) (weaker slot) (w.fronts slot)) w.of_task
    (elim (cases_lt (length (weaker w.slot)) (length (needs w.slot))) [
      | inl less ↦ less
      | inr long ↦ absurd (w.differs (front-whole (needs w.slot) (weaker w.slot) (w.fronts w.slot) long))
    ])

-- a combination is covered by a kept one
pub weakly-kept : (task : Task) (n : ℕ) (needs : Orders) (internal : ℕ) → IsEach task needs internal → size task needs < n → (Covers (IsKept task) needs internal → ⊥) → ⊥
weakly-kept task zero needs internal each below never = absurd (omega (arith, below))
weakly-kept task (suc n) needs internal each below never =
    never (record {
      other = needs;
      internal = internal;
      template =
          record {
            each = each;
            none_weaker = λ weaker other w weak.
                elim (cases_lt internal other) [
                  | inl dearer ↦ dearer
                  | inr cheaper ↦
                      absurd (weakly-kept task n weaker other weak (omega (arith, weaker-smaller task weaker needs w, below))
                      (λ cover. never (record {
                        other = cover.other;
                        internal = cover.internal;
                        template = cover.template;
                        fronts = λ slot. begins_trans (needs slot) (weaker slot) (cover.other slot) (w.fronts slot) (cover.fronts slot);
                        less = omega (arith, cover.less, cheaper);
                      })))
                ];
          };
      fronts = λ slot. begins_self (needs slot);
      less = omega arith;
    })

pub kept-decompose : (task : Task) (table : OfferTable) (cost : ℕ) → OfferTableLimits table → CachedBy (IsKept task) task table cost → Least task table cost
kept-decompose task table cost limits =
    covered-least task (IsKept task) table cost limits
    (record { combination = λ needs internal kept. kept.each.combination; plan = λ needs internal kept. kept.each.least.plan })
    (λ needs internal each. weakly-kept task (suc (size task needs)) needs internal each (omega arith))
