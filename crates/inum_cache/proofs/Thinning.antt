-- A list of templates in order, in which none replaces another, is given one more.
use Rattle.std.proofs.Common.{◌≡◌, ◌⊎◌, inl, inr, ℕ, zero, suc, ◌<◌, ◌==◌, Bool, true, false, not, List, [], ◌∷◌, ◌++◌, get_or, All, refl, sym, ap, ◌∙◌, subst, arith}
use Rattle.std.specs.Prelude.{AllPairs, nat_lt}
use Rattle.std.specs.List.{list_any, filter}
use Rattle.std.specs.Cmp.Lexicographic.{slice_cmp}
use Rattle.std.specs.List.Sorted.{IsSortedByKey}
use Rattle.std.specs.Ordering.{is_lt, nat_cmp}
use Rattle.std.proofs.lemmas.Cmp.{nat_list_cmp_total}
use Rattle.std.proofs.lemmas.List.Sorted.{ranks_by, sorted_far}
use Rattle.std.proofs.lemmas.Bool.{cases_Bool, cases_lt, eq-eqb, false≢true, not-true, lt-ltb, le-ltb}
use Rattle.std.proofs.lemmas.List.{get_or_default}
use Rattle.std.proofs.lemmas.List.Folds.{list_any_at}
use Rattle.std.proofs.lemmas.List.Kept.{AllPairs-filter}
use Rattle.std.proofs.lemmas.List.Quantifiers.{all_pairs_push}
use Rattle.std.proofs.lemmas.Option.{slice_get_within, get_or_from_slice_get}
use Rattle.adv_base.specs.Items.{Order}
use Rattle.plan_model.specs.declared.template.Template.{Template}
use Rattle.inum_cache.specs.Templates.{AreInOrder}
use Rattle.inum_cache.specs.inner.Cells.{does_replace, AreApart, Precedes, Replaces, template_at, no_template, IsThin, Takes}
use Rattle.inum_cache.proofs.Fitting.{filter-from, filter-keeps, push-takes, replaces-from, replaces-true}
use Rattle.inum_cache.proofs.Taking.{like-replaces, replaced-more, replaces-trans}

-- ## A template more

module _ (orders : List (List Order)) (t : Template) (cell : List Template) where
  abbrev pub stays : Template → Bool
  stays other = not (does_replace orders t other)

  pub keep-takes : Takes orders (λ u. u ≡ t) cell (filter stays cell ++ t ∷ [])
  keep-takes =
      let more = push-takes orders t (filter stays cell) in
      record {
        from = λ k within.
            elim (more.from k within) [
              | inl old ↦ let w = filter-from stays cell old.0 old.1 in inl (w.0, w.1, w.2 ∙ old.2)
              | inr e ↦ inr e
            ];
        kept = λ u h.
            let v = template_at cell h.number in
            elim (cases_Bool (does_replace orders t v)) [
              | inl so ↦ replaced-more orders (filter stays cell ++ t ∷ []) t u (more.given t refl) (replaces-trans orders t v u (replaces-true orders t v so) h.replaces)
              | inr not_so ↦
                  let w = filter-keeps stays cell h.number h.within (ap not not_so) in
                  more.kept u (record { number = w.0; within = w.1; replaces = subst (λ x. Replaces orders x u) (sym w.2) h.replaces })
            ];
        given = more.given;
      }

  pub keep-thin : list_any (λ one. does_replace orders one t) cell ≡ false → IsThin orders cell → All (λ other. Precedes other t) cell → IsThin orders (filter stays cell ++ t ∷ [])
  keep-thin none thin behind =
      let kept = filter stays cell in
      record {
        none = all_pairs_push (AreApart orders) kept t (AllPairs-filter (AreApart orders) stays cell thin.none) (λ k d within.
            let w = filter-from stays cell k within in
            let v = template_at kept k in
            let same = get_or_default kept k d no_template within in (
              λ r. false≢true (sym none ∙ list_any_at (λ one. does_replace orders one t) cell w.0 no_template w.1 (ap (λ x. does_replace orders x t) w.2 ∙ replaces-from orders v t (subst (λ x. Replaces orders x t) same r))),
              λ r. false≢true (sym (not-true (does_replace orders t v) w.3) ∙ replaces-from orders t v (subst (Replaces orders t) same r)),
            ));
        in_order = all_pairs_push Precedes kept t (AllPairs-filter Precedes stays cell thin.in_order) (λ k d within.
            let w = filter-from stays cell k within in
            subst (λ x. Precedes x t) (w.2 ∙ sym (get_or_default kept k d no_template within)) (behind w.0 no_template w.1));
      }

-- ## Places in order

-- the same, or less at some slot and the same before
abbrev AreOrdered : (ℕ → ℕ) → (ℕ → ℕ) → Type 0
AreOrdered f g = ((s : ℕ) → f s ≡ g s) ⊎ ((slot : ℕ) × (f slot < g slot) × ((s : ℕ) → s < slot → f s ≡ g s))

shifted : (f g : ℕ → ℕ) → f 0 ≡ g 0 → (n : ℕ) → ((s : ℕ) → s < n → f (suc s) ≡ g (suc s)) → (s : ℕ) → s < suc n → f s ≡ g s
shifted f g e n h zero below = e
shifted f g e n h (suc s) below = h s (omega (arith, below))

one-more : (f g : ℕ → ℕ) → f 0 ≡ g 0 → AreOrdered (λ s. f (suc s)) (λ s. g (suc s)) → AreOrdered f g
one-more f g e (inl same) = inl (λ s. shifted f g e s (λ k _. same k) s (omega arith))
one-more f g e (inr w) = inr (suc w.0, w.1, shifted f g e w.0 w.2)

nil-least : (ys : List ℕ) → is_lt (slice_cmp nat_cmp ys []) ≡ false
nil-least [] = refl
nil-least (y ∷ ys) = refl

ordered : (xs ys : List ℕ) → is_lt (slice_cmp nat_cmp ys xs) ≡ false → AreOrdered (λ s. get_or xs s 0) (λ s. get_or ys s 0)
ordered [] [] h = inl (λ s. refl)
ordered (x ∷ xs) [] h = absurd (false≢true (sym h))
ordered [] (y ∷ ys) h =
    elim (cases_lt 0 y) [
      | inl less ↦ inr (0, less, λ s below. absurd (omega (arith, below)))
      | inr none ↦ one-more (λ s. 0) (λ s. get_or (y ∷ ys) s 0) (omega (arith, none)) (ordered [] ys (nil-least ys))
    ]
ordered (x ∷ xs) (y ∷ ys) h =
    elim (cases_lt x y) [
      | inl less ↦ inr (0, less, λ s below. absurd (omega (arith, below)))
      | inr past ↦
          elim (cases_lt y x) [
            | inl more ↦ absurd (let so : nat_lt y x ≡ true = lt-ltb y x more in let no = rw so at h in false≢true (sym no))
            | inr most ↦
                let e : y ≡ x = omega (arith, past, most) in
                let so : nat_lt y x ≡ false = le-ltb y x most in
                let is : (y == x) ≡ true = eq-eqb y x e in
                one-more (λ s. get_or (x ∷ xs) s 0) (λ s. get_or (y ∷ ys) s 0) (sym e) (ordered xs ys (rw (so, is) at h))
          ]
    ]

pub from-sorted : (xs : List Template) → IsSortedByKey (λ (t : Template). t.needs) (slice_cmp nat_cmp) xs → AllPairs Precedes xs
from-sorted xs up i j d less within =
    sorted_far (λ x y. is_lt (slice_cmp nat_cmp x.needs y.needs)) (ranks_by nat_list_cmp_total (λ (t : Template). t.needs)) xs up i j d (omega (arith, less)) within

pub in-order : (orders : List (List Order)) (templates : List Template) → IsThin orders templates → AreInOrder templates
in-order orders templates h i j first second less f s =
    let within = slice_get_within templates j second s in
    let a = get_or_from_slice_get templates i first no_template f in
    let b = get_or_from_slice_get templates j second no_template s in
    let near = subst (λ t. Precedes t second) a (subst (Precedes (get_or templates i no_template)) b (h.in_order i j no_template less within)) in
    let apart = subst (λ t. AreApart orders t second) a (subst (AreApart orders (get_or templates i no_template)) b (h.none i j no_template less within)) in
    elim (ordered first.needs second.needs near) [
      | inr w ↦ record { slot = w.0; less = w.1; same = w.2 }
      | inl same ↦
          absurd (elim (cases_lt second.internal first.internal) [
            | inl cheaper ↦ apart.1 (like-replaces orders second first (omega (arith, cheaper)) (λ slot. sym (same slot)))
            | inr most ↦ apart.0 (like-replaces orders first second most same)
          ])
    ]
