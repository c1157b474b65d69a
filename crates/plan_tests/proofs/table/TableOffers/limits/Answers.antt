use Rattle.std.proofs.Common.{◌≡◌, ◌==◌, ℕ, ◌≤◌, Bool, true, cond, List, [], ◌∷◌, All, Option, Some, None, inl, inr, refl, subst, arith, ◌∙◌}
use Rattle.std.specs.List.{find}
use Rattle.std.specs.Option.{option_map_or}
use Rattle.std.proofs.lemmas.Bool.{cases_Bool, eqb-true}
use Rattle.std.proofs.lemmas.List.Elements.{All-cons, All-nil}
use Rattle.adv_base.specs.declared.workload.parts.Item.{Item}
use Rattle.plan_tests.specs.declared.table.Index.{Index}
use Rattle.plan_tests.specs.declared.table.Reads.{Reads}
use Rattle.adv_base.specs.OfferTables.{OfferLimits}
use Rattle.adv_base.specs.Items.{is_up_of}
use Rattle.plan_tests.proofs.table.TableOffers.limits.Goals as goal

find-passes : (p : Reads → Bool) (xs : List Reads) (x : Reads) → find p xs ≡ Some x → p x ≡ true
find-passes p [] x e = cc
find-passes p (y ∷ ys) x e =
    elim (cases_Bool (p y)) [
      | inl here ↦ let found : cond (p y) (Some y) (find p ys) ≡ Some x = e in let first : Some y ≡ Some x = rw here at found in let same : y ≡ x = cc in rw (← same) here
      | inr other ↦ let found : cond (p y) (Some y) (find p ys) ≡ Some x = e in let later : find p ys ≡ Some x = rw other at found in find-passes p ys x later
    ]

heap-limits : (slot price : ℕ) → price ≤ 4294967295 → OfferLimits slot ([], price)
heap-limits slot price most =
    record {
      price = omega (arith, most);
      own = All-nil (λ (item : Item). is_up_of slot item ≡ true);
      apart = λ i j d below within. absurd (omega (arith, within));
    }

index-limits : (index : Index) (slot : ℕ) → index.slot ≡ slot → OfferLimits slot (index.keys, index.price)
index-limits index slot same = subst (λ (s : ℕ). OfferLimits s (index.keys, index.price)) same index.limits

reads-limits : (slot : ℕ) (o : Option Reads) → ((r : Reads) → o ≡ Some r → (r.slot == slot) ≡ true) → All (OfferLimits slot) (option_map_or (λ reads. ([], reads.heap) ∷ (reads.first.keys, reads.first.price) ∷ (reads.second.keys, reads.second.price) ∷ []) o (([], 0) ∷ []))
reads-limits slot None h = All-cons (OfferLimits slot) ([], 0) [] (heap-limits slot 0 (omega arith)) (All-nil (OfferLimits slot))
reads-limits slot (Some r) h =
    let at : r.slot ≡ slot = eqb-true r.slot slot (h r refl) in
    All-cons (OfferLimits slot) ([], r.heap) ((r.first.keys, r.first.price) ∷ (r.second.keys, r.second.price) ∷ []) (heap-limits slot r.heap r.heap_most)
    (All-cons (OfferLimits slot) (r.first.keys, r.first.price) ((r.second.keys, r.second.price) ∷ []) (index-limits r.first slot (r.first_own ∙ at))
    (All-cons (OfferLimits slot) (r.second.keys, r.second.price) [] (index-limits r.second slot (r.second_own ∙ at)) (All-nil (OfferLimits slot))))

pub returns : goal.returns
returns c = λ slot.
    reads-limits slot (find (λ reads. reads.slot == slot) c.args.self.now.slots.items)
    (λ r found. find-passes (λ reads. reads.slot == slot) c.args.self.now.slots.items r found)
