-- What makes the part of a statement.
use Rattle.std.proofs.Common.{◌≡◌, ◌∙◌, ◌⊎◌, inl, inr, ℕ, zero, suc, ◌+◌, ◌<◌, ◌≤◌, List, [], ◌∷◌, ◌++◌, length, get_or, All, map, refl, sym, ap, subst, arith, length-append}
use Rattle.std.specs.Prelude.{Some, slice_get}
use Rattle.std.proofs.lemmas.List.{length-map}
use Rattle.std.proofs.lemmas.Option.{slice_get_within}
use Rattle.adv_base.specs.declared.workload.block.Block.{Block}
use Rattle.adv_base.specs.declared.workload.parts.Slot.{Slot}
use Rattle.adv_base.specs.Items.{Order}
use Rattle.adv_base.specs.Offers.{index_offer, offers}
use Rattle.adv_base.specs.Settings.{TheSetting}
use Rattle.plan_model.specs.declared.task.Task.{Task}
use Rattle.plan_model.specs.declared.template.Template.{Template}
use Rattle.plan_model.specs.Orders.{interesting_orders}
use Rattle.plan_model.specs.Totals.{no_candidates}
use Rattle.inum_cache.specs.declared.cache.Cache.{Cache}
use Rattle.inum_cache.specs.Caches.{IsCacheOf, orders_of}
use Rattle.inum_cache.specs.Numbering.{size_in}
use Rattle.inum_cache.specs.Templates.{FitsOrders}
use Rattle.bip_model.specs.declared.slot_part.SlotPart.{SlotPart}
use Rattle.bip_model.specs.Limits.Parts.{TemplateLimits}
use Rattle.bip_model.specs.Values.{need}
use Rattle.bip_model.specs.StandsFor.{given, least_given, candidates_on, IsGrant, IsSlotPart}
use Rattle.bip_model.proofs.Lists.{each-map}
use Rattle.programme_parts.specs.Kept.{AsksNothingPast}
use Rattle.programme_parts.specs.inner.Prices.{ArePriced, IsGrantOf, IsSlotPriced}

-- ## The slots' prices

-- what stands in a list to which one was added stood there before, or is the last
push-cases : {A : Type 0} (xs : List A) (x y : A) (i : ℕ) → slice_get (xs ++ y ∷ []) i ≡ Some x → (slice_get xs i ≡ Some x) ⊎ ((i ≡ length xs) × (x ≡ y))
push-cases [] x y zero e = inr (refl, cc)
push-cases [] x y (suc i) e = cc
push-cases (z ∷ zs) x y zero e = inl e
push-cases (z ∷ zs) x y (suc i) e =
    elim (push-cases zs x y i e) [
      | inl before ↦ inl before
      | inr last ↦ inr (ap suc last.0, last.1)
    ]

pub priced-none : (setting : TheSetting) (block : Block) (cache : Cache) → ArePriced setting block cache 0 []
priced-none setting block cache = record { count = refl; each = λ s own found. absurd (cc) }

pub priced-more : (setting : TheSetting) (block : Block) (cache : Cache) (k : ℕ) (parts : List SlotPart) (own : SlotPart) → ArePriced setting block cache k parts → IsSlotPriced setting.cat block setting.shapes k (orders_of cache k) own → ArePriced setting block cache (k + 1) (parts ++ own ∷ [])
priced-more setting block cache k parts own before is =
    record {
      count = omega (arith, length-append parts (own ∷ []), before.count);
      each = λ s x found.
          elim (push-cases parts x own s found) [
            | inl there ↦ before.each s x there
            | inr last ↦
                let place : k ≡ s = omega (arith, last.0, before.count) in
                subst (λ (p : SlotPart). IsSlotPriced setting.cat block setting.shapes s (orders_of cache s) p) (sym last.1)
                (subst (λ (t : ℕ). IsSlotPriced setting.cat block setting.shapes t (orders_of cache t) own) place is)
          ];
    }

-- ## The templates

pub template-limits : (setting : TheSetting) (block : Block) (cache : Cache) (n : ℕ) (parts : List SlotPart) → ArePriced setting block cache n parts → n ≡ length cache.choices.orders → All (TemplateLimits parts) cache.templates
template-limits setting block cache n parts priced count = λ i d h.
    let template : Template = get_or cache.templates i d in
    let fit : FitsOrders cache.choices.orders template = cache.fit i d h in
    record {
      internal_most = fit.most;
      needs_within = λ s own found.
          let within : s < length parts = slice_get_within parts s own found in
          let below : s < n = omega (arith, within, priced.count) in
          let is = priced.each s own found in
          let length_is : length own.base ≡ length (orders_of cache s) =
          ap length is.base_is ∙ length-map (orders_of cache s) (λ (order : Order). least_given order (offers setting.cat block setting.shapes no_candidates s)) in
          let needs : need template s < size_in cache.choices.orders s = fit.within s (omega (arith, below, count)) in
          omega (arith, needs, length_is);
    }

-- no template asks anything past the task's slots
pub asks-past : (task : Task) (cache : Cache) → IsCacheOf task cache → All (AsksNothingPast task.slots) cache.templates
asks-past task cache is = λ k d h s past.
    let most : length cache.choices.orders ≤ s = omega (arith, is.slots, past) in
    (cache.fit k d h).past s most

-- ## The part

pub slot-part : (setting : TheSetting) (block : Block) (task : Task) (orders : List Order) (s : ℕ) (slot : Slot) (own : SlotPart) →
    slice_get block.slots s ≡ Some slot → orders ≡ interesting_orders task s → IsSlotPriced setting.cat block setting.shapes s orders own → IsSlotPart setting block task s slot own
slot-part setting block task orders s slot own found orders_are priced =
    let same : priced.slot ≡ slot = (let both = priced.slot_found in cc) in
    let is : IsSlotPart setting block task s priced.slot own =
    record {
      table = priced.table;
      table_found = priced.table_found;
      base_is = priced.base_is ∙ ap (map (λ (order : Order). least_given order (offers setting.cat block setting.shapes no_candidates s))) orders_are;
      grants_are =
          each-map (IsGrantOf orders (index_offer setting.cat block s priced.slot priced.table)) (IsGrant setting block task s priced.slot priced.table)
          (λ n grant one. record {
            candidate_is = one.candidate_is;
            prices_are = one.prices_are ∙ ap (map (λ (order : Order). given order (index_offer setting.cat block s priced.slot priced.table n.1))) orders_are;
          }) (candidates_on setting.shapes priced.slot.table) own.grants priced.grants_are;
    } in
    subst (λ (x : Slot). IsSlotPart setting block task s x own) same is
