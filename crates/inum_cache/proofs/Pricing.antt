-- The least prices of orders.
use Rattle.std.proofs.Common.{◌≡◌, ◌⊎◌, inl, inr, ℕ, zero, suc, ◌+◌, ◌*◌, ◌<◌, ◌≤◌, length, refl, sym, ◌∙◌, subst, arith}
use Rattle.std.specs.Prelude.{nat_lt}
use Rattle.std.proofs.lemmas.Bool.{cases_Bool, cases_lt, ltb-true, ltb-false}
use Rattle.std.proofs.Math.Nat.{suc-mul}
use Rattle.adv_base.specs.Items.{Order}
use Rattle.adv_base.specs.Offers.{OfferTable}
use Rattle.adv_base.specs.OfferTables.{price_at, order_at}
use Rattle.plan_model.specs.Exchange.{sum_below}
use Rattle.plan_model.specs.Combinations.{IsOffered, IsLeastPrice}
use Rattle.planner.specs.Fronts.{begins_test}
use Rattle.planner.proofs.Reading.{begins_from_test, test_from_begins}
use Rattle.inum_cache.specs.inner.Pricing.{lower, least_below, offer_price, best_price}

-- ## The least of what a function gives

lower-is : (a b : ℕ) → (lower a b ≤ a) × (lower a b ≤ b) × ((lower a b ≡ a) ⊎ (lower a b ≡ b))
lower-is a b =
    elim (cases_Bool (nat_lt b a)) [
      | inl less ↦ rw less (let low : b < a = ltb-true b a less in (omega (arith, low), omega arith, inr refl))
      | inr more ↦ rw more (omega arith, ltb-false b a more, inl refl)
    ]

pub lower-high : (a b : ℕ) → a ≤ b → a ≡ lower a b
lower-high a b high = elim (lower-is a b).2 [ inl same ↦ sym same | inr other ↦ omega (arith, high, other, (lower-is a b).0) ]

pub least_below-le : (most : ℕ) (f : ℕ → ℕ) (n k : ℕ) → k < n → least_below most f n ≤ f k
least_below-le most f zero k below = absurd (omega (arith, below))
least_below-le most f (suc n) k below =
    let last = lower-is (least_below most f n) (f n) in
    elim (cases_lt k n) [
      | inl less ↦ omega (arith, least_below-le most f n k less, last.0)
      | inr past ↦ let here : n ≡ k = omega (arith, below, past) in subst (λ j. least_below most f (suc n) ≤ f j) here last.1
    ]

pub least_below-is : (most : ℕ) (f : ℕ → ℕ) (n : ℕ) → (least_below most f n ≡ most) ⊎ ((k : ℕ) × (k < n) × (least_below most f n ≡ f k))
least_below-is most f zero = inl refl
least_below-is most f (suc n) =
    elim ((lower-is (least_below most f n) (f n)).2) [
      | inr here ↦ inr (n, omega arith, here)
      | inl before ↦
          elim (least_below-is most f n) [
            | inl none ↦ inl (before ∙ none)
            | inr found ↦ inr (found.0, omega (arith, found.1), before ∙ found.2)
          ]
    ]

pub least_below-most : (most : ℕ) (f : ℕ → ℕ) (n : ℕ) → least_below most f n ≤ most
least_below-most most f zero = omega arith
least_below-most most f (suc n) = omega (arith, least_below-most most f n, (lower-is (least_below most f n) (f n)).0)

-- ## The best price of an order

-- it is at most the price of each offer that begins with the order
pub best-le : (table : OfferTable) (slot : ℕ) (order : Order) (price : ℕ) → IsOffered table slot order price → best_price table slot order ≤ price
best-le table slot order price o =
    let low = least_below-le 1000000000000000000000000000000 (offer_price table slot order) (length (table slot)) o.number o.within in
    let so = test_from_begins (order_at table slot o.number) order o.begins in
    let is : offer_price table slot order o.number ≡ price_at table slot o.number = rw so refl in
    omega (arith, low, is, o.costs)

-- where it is a price at all, it is the least
pub best-is : (table : OfferTable) (slot : ℕ) (order : Order) → best_price table slot order < 1000000000000000000000000000000 → IsLeastPrice table slot order (best_price table slot order)
best-is table slot order some =
    elim (least_below-is 1000000000000000000000000000000 (offer_price table slot order) (length (table slot))) [
      | inl none ↦ absurd (omega (arith, none, some))
      | inr found ↦
          elim (cases_Bool (begins_test (order_at table slot found.0) order)) [
            | inl so ↦
                let is : offer_price table slot order found.0 ≡ price_at table slot found.0 = rw so refl in
                record {
                  offered = record { number = found.0; within = found.1; begins = begins_from_test (order_at table slot found.0) order so; costs = sym is ∙ sym found.2 };
                  none_less = λ other o. best-le table slot order other o;
                }
            | inr none ↦
                let is : offer_price table slot order found.0 ≡ 1000000000000000000000000000000 = rw none refl in
                absurd (omega (arith, is, found.2, some))
          ]
    ]

-- ## Sums

pub sum_below-most : (f : ℕ → ℕ) (k most : ℕ) → ((s : ℕ) → s < k → f s ≤ most) → sum_below f k ≤ k * most
sum_below-most f zero most h = omega arith
sum_below-most f (suc k) most h =
    let before : sum_below f k ≤ k * most = sum_below-most f k most (λ s b. h s (omega (arith, b))) in
    let here : f k ≤ most = h k (omega arith) in
    let product : suc k * most ≡ k * most + most = suc-mul k most in
    omega (arith, before, here, product)

-- more numbers have no lower sum
pub sum_below-more : (f : ℕ → ℕ) (n m : ℕ) → m ≤ n → sum_below f m ≤ sum_below f n
sum_below-more f zero zero h = omega arith
sum_below-more f zero (suc m) h = absurd (omega (arith, h))
sum_below-more f (suc n) m h =
    elim (cases_lt n m) [
      | inl past ↦ let same : m ≡ suc n = omega (arith, past, h) in subst (λ k. sum_below f k ≤ sum_below f (suc n)) (sym same) (omega arith)
      | inr within ↦ let rest : sum_below f m ≤ sum_below f n = sum_below-more f n m within in omega (arith, rest)
    ]
