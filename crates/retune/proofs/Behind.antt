-- Limits of parts whose statements and candidates get other numbers.
use Rattle.std.proofs.Common.{◌≡◌, ◌∙◌, ℕ, suc, ◌≤◌, List, [], ◌∷◌, length, All, ap, arith}
use Rattle.std.specs.Prelude.{Option}
use Rattle.std.proofs.lemmas.List.Elements.{All-cons, All-nil}
use Rattle.adv_base.specs.declared.limits.TheConstants.{MOST_STATEMENTS}
use Rattle.bip_model.specs.declared.grant.Grant.{Grant}
use Rattle.bip_model.specs.declared.slot_part.SlotPart.{SlotPart}
use Rattle.bip_model.specs.Limits.Parts.{PartLimits}
use Rattle.bip_model.specs.Limits.SlotParts.{SlotLimits}
use Rattle.bip_model.specs.StandsFor.{AreEach}
use Rattle.bip_model.proofs.Lists.{each-length}
use Rattle.plan_model.specs.declared.template.Template.{Template}
use Rattle.retune.specs.inner.Renewing.{IsGrantBehind, IsSlotBehind}
use Rattle.retune.proofs.Renumbered.{each-found}

-- what holds of all that they belong to
pub each-all : {A B : Type 0} (R : A → B → Type 0) (P : A → Type 0) (Q : B → Type 0) → ((x : A) (y : B) → R x y → P x → Q y) → (xs : List A) (ys : List B) → AreEach R xs ys → All P xs → All Q ys
each-all R P Q next [] [] are all = All-nil Q
each-all R P Q next [] (y ∷ ys) are all = absurd are
each-all R P Q next (x ∷ xs) [] are all = absurd are
each-all R P Q next (x ∷ xs) (y ∷ ys) are all =
    All-cons Q y ys (next x y are.0 (all 0 x (omega arith))) (each-all R P Q next xs ys are.1 (λ k d within. all (suc k) d (omega (arith, within))))

pub slot-limits : (number : ℕ → ℕ) (base : List (Option ℕ)) (olds news : List Grant) → SlotLimits base olds → AreEach (IsGrantBehind number) olds news → SlotLimits base news
slot-limits number base olds news limits are =
    record {
      orders_most = limits.orders_most;
      base_limits = limits.base_limits;
      grants_most = omega (arith, limits.grants_most, each-length (IsGrantBehind number) olds news are);
      one_each =
          each-all (IsGrantBehind number) (λ (grant : Grant). length grant.prices ≡ length base) (λ (grant : Grant). length grant.prices ≡ length base) (λ old new is long. ap length is.prices_are ∙ long)
          olds news are limits.one_each;
    }

pub part-limits : (number : ℕ → ℕ) (statement behind weight : ℕ) (templates : List Template) (olds news : List SlotPart) → PartLimits statement weight templates olds → 1 ≤ behind → behind ≤ MOST_STATEMENTS →
    AreEach (IsSlotBehind number) olds news → PartLimits behind weight templates news
part-limits number statement behind weight templates olds news limits least most are =
    let long : length news ≡ length olds = each-length (IsSlotBehind number) olds news are in
    record {
      statement_least = least;
      statement_most = most;
      weight_least = limits.weight_least;
      weight_most = limits.weight_most;
      slots_some = omega (arith, long, limits.slots_some);
      slots_most = omega (arith, long, limits.slots_most);
      templates_limits = λ k d within.
          let own = limits.templates_limits k d within in
          record {
            internal_most = own.internal_most;
            needs_within = λ s slot found.
                let before = each-found (IsSlotBehind number) olds news s slot are found in
                let same : length slot.base ≡ length before.0.base = ap length before.1.1.base_is in
                omega (arith, same, own.needs_within s before.0 before.1.0);
          };
    }
