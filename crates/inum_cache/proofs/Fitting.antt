-- Which templates fit a combination, which replace others, and what a list keeps of those that it is given.
use Rattle.std.proofs.Common.{◌≡◌, inl, inr, ℕ, zero, suc, ◌<◌, ◌≤◌, Bool, true, false, cond, List, [], ◌∷◌, ◌++◌, length, get_or, refl, sym, ap, ◌∙◌, subst, arith}
use Rattle.std.specs.Prelude.{nat_le}
use Rattle.std.specs.List.{list_any, filter, Contains}
use Rattle.std.proofs.lemmas.Bool.{cases_Bool, cases_lt, cases_eq, false≢true, and_parts, and_from, leb-true, le-leb}
use Rattle.std.proofs.lemmas.List.{get_or_default, get_or_past, get_or_push, get_or_append_left, length_push}
use Rattle.std.proofs.lemmas.List.Elements.{All-contains_itself, All-filter, filter_passes}
use Rattle.std.proofs.lemmas.List.Folds.{Any-from_list_any}
use Rattle.adv_base.specs.Items.{Order, BeginsWith}
use Rattle.adv_base.proofs.Begins.{begins_nil, begins_trans}
use Rattle.plan_model.specs.declared.template.Template.{Template}
use Rattle.plan_model.specs.Combinations.{Orders}
use Rattle.planner.specs.Fronts.{begins_test}
use Rattle.planner.proofs.Reading.{begins_from_test, test_from_begins}
use Rattle.inum_cache.specs.inner.Cells.{place_at, asks, fits_below, does_fit, Fits, does_replace, Replaces, template_at, no_template, IsReplaced, IsAmong, NeedsSame, Takes, fit_cost, least_fit}
use Rattle.inum_cache.proofs.Pricing.{least_below-le, least_below-is, least_below-most}
use Rattle.inum_cache.proofs.Taking.{like-replaces, replaces-self, replaces-trans}

-- ## Tests and facts

pub asks-past : (orders : List (List Order)) (t : Template) (slot : ℕ) → length orders ≤ slot → asks orders t slot ≡ []
asks-past orders t slot past =
    ap (λ (os : List Order). get_or os (place_at t slot) []) (get_or_past orders slot [] past)
    ∙ get_or_past {X = Order} [] (place_at t slot) [] (omega arith)

fits_below-each : (orders : List (List Order)) (needs : Orders) (t : Template) (n slot : ℕ) → slot < n → fits_below orders needs t n ≡ true → BeginsWith (needs slot) (asks orders t slot)
fits_below-each orders needs t zero slot below h = absurd (omega (arith, below))
fits_below-each orders needs t (suc n) slot below h =
    let parts = and_parts (fits_below orders needs t n) (begins_test (needs n) (asks orders t n)) h in
    elim (cases_lt slot n) [
      | inl less ↦ fits_below-each orders needs t n slot less parts.0
      | inr past ↦
          let here : n ≡ slot = omega (arith, below, past) in
          subst (λ s. BeginsWith (needs s) (asks orders t s)) here (begins_from_test (needs n) (asks orders t n) parts.1)
    ]

fits_below-from : (orders : List (List Order)) (needs : Orders) (t : Template) (n : ℕ) → Fits orders needs t → fits_below orders needs t n ≡ true
fits_below-from orders needs t zero h = refl
fits_below-from orders needs t (suc n) h =
    and_from (fits_below orders needs t n) (begins_test (needs n) (asks orders t n)) (fits_below-from orders needs t n h) (test_from_begins (needs n) (asks orders t n) (h.fronts n))

pub fits-true : (orders : List (List Order)) (needs : Orders) (t : Template) → does_fit orders needs t ≡ true → Fits orders needs t
fits-true orders needs t h =
    record {
      fronts = λ slot.
          elim (cases_lt slot (length orders)) [
            | inl below ↦ fits_below-each orders needs t (length orders) slot below h
            | inr past ↦ subst (BeginsWith (needs slot)) (sym (asks-past orders t slot past)) (begins_nil (needs slot))
          ];
    }

pub fits-not : (orders : List (List Order)) (needs : Orders) (t : Template) (slot : ℕ) → begins_test (needs slot) (asks orders t slot) ≡ false → does_fit orders needs t ≡ false
fits-not orders needs t slot fails =
    elim (cases_Bool (does_fit orders needs t)) [
      | inl so ↦ absurd (false≢true (sym fails ∙ test_from_begins (needs slot) (asks orders t slot) ((fits-true orders needs t so).fronts slot)))
      | inr none ↦ none
    ]

pub replaces-true : (orders : List (List Order)) (one other : Template) → does_replace orders one other ≡ true → Replaces orders one other
replaces-true orders one other h =
    let parts = and_parts (nat_le one.internal other.internal) (does_fit orders (asks orders other) one) h in
    record { less = leb-true one.internal other.internal parts.0; fits = fits-true orders (asks orders other) one parts.1 }

pub replaces-from : (orders : List (List Order)) (one other : Template) → Replaces orders one other → does_replace orders one other ≡ true
replaces-from orders one other h =
    and_from (nat_le one.internal other.internal) (does_fit orders (asks orders other) one) (le-leb one.internal other.internal h.less) (fits_below-from orders (asks orders other) one (length orders) h.fits)

-- ## What a filter keeps

-- an element of a filtered list stands in the list, and passes
abbrev pub IsFrom : (Template → Bool) → List Template → Template → Type 0
IsFrom p cell t = (k : ℕ) × (k < length cell) × (template_at cell k ≡ t) × (p t ≡ true)

pub filter-from : (p : Template → Bool) (cell : List Template) (k : ℕ) → k < length (filter p cell) → IsFrom p cell (template_at (filter p cell) k)
filter-from p cell k within =
    let w = All-filter p (Contains cell) cell (All-contains_itself cell) k no_template within in
    (w.0, w.1, get_or_default cell w.0 no_template (template_at (filter p cell) k) w.1 ∙ w.2, filter_passes p cell k no_template within)

pub filter-keeps : (p : Template → Bool) (cell : List Template) (k : ℕ) → k < length cell → p (template_at cell k) ≡ true → IsAmong (filter p cell) (template_at cell k)
filter-keeps p [] k within h = absurd (omega arith)
filter-keeps p (x ∷ xs) zero within h =
    subst (λ b. IsAmong (cond b (x ∷ filter p xs) (filter p xs)) x) (sym h) (0, omega arith, refl)
filter-keeps p (x ∷ xs) (suc k) within h =
    let w = filter-keeps p xs k (omega (arith, within)) h in
    elim (cases_Bool (p x)) [
      | inl so ↦ subst (λ b. IsAmong (cond b (x ∷ filter p xs) (filter p xs)) (template_at xs k)) (sym so) (suc w.0, omega (arith, w.1), w.2)
      | inr not_so ↦ subst (λ b. IsAmong (cond b (x ∷ filter p xs) (filter p xs)) (template_at xs k)) (sym not_so) w
    ]

-- ## One template more

pub any-replaced : (orders : List (List Order)) (t : Template) (cell : List Template) → list_any (λ one. does_replace orders one t) cell ≡ true → IsReplaced orders cell t
any-replaced orders t cell h =
    let w = Any-from_list_any (λ one. does_replace orders one t) cell h in
    let is : template_at cell w.0 ≡ w.1 = get_or_default cell w.0 no_template w.1 w.2 ∙ w.3 in
    record { number = w.0; within = w.2; replaces = replaces-true orders (template_at cell w.0) t (ap (λ x. does_replace orders x t) is ∙ w.4) }

pub skip-takes : (orders : List (List Order)) (t : Template) (cell : List Template) → IsReplaced orders cell t → Takes orders (λ u. u ≡ t) cell cell
skip-takes orders t cell found =
    record {
      from = λ k within. inl (k, within, refl);
      kept = λ u r. r;
      given = λ u e. subst (IsReplaced orders cell) (sym e) found;
    }

pub push-takes : (orders : List (List Order)) (t : Template) (cell : List Template) → Takes orders (λ u. u ≡ t) cell (cell ++ t ∷ [])
push-takes orders t cell =
    let front : (k : ℕ) → k < length cell → template_at (cell ++ t ∷ []) k ≡ template_at cell k = λ k within. get_or_append_left cell (t ∷ []) no_template k within in
    let last : template_at (cell ++ t ∷ []) (length cell) ≡ t = get_or_push cell t no_template (length cell) refl in
    record {
      from = λ k within.
          elim (cases_lt k (length cell)) [
            | inl less ↦ inl (k, less, sym (front k less))
            | inr past ↦
                let here : length cell ≡ k = omega (arith, past, within, length_push cell t) in
                inr (subst (λ n. template_at (cell ++ t ∷ []) n ≡ t) here last)
          ];
      kept = λ u h. record {
        number = h.number;
        within = omega (arith, h.within, length_push cell t);
        replaces = subst (λ x. Replaces orders x u) (sym (front h.number h.within)) h.replaces;
      };
      given = λ u e. record {
        number = length cell;
        within = omega (arith, length_push cell t);
        replaces = subst (λ x. Replaces orders x u) (sym last) (subst (Replaces orders t) (sym e) (replaces-self orders t));
      };
    }

-- one that needs the same is replaced
pub lower-takes : (orders : List (List Order)) (t : Template) (cell new : List Template) (place : ℕ) → place < length cell → length new ≡ length cell → NeedsSame (template_at cell place) t → t.internal ≤ (template_at cell place).internal → template_at new place ≡ t → ((k : ℕ) → ¬ (k ≡ place) → template_at new k ≡ template_at cell k) → Takes orders (λ u. u ≡ t) cell new
lower-takes orders t cell new place within count same less here others =
    let v = template_at cell place in
    let by-new : (u : Template) → Replaces orders t u → IsReplaced orders new u = λ u r. record { number = place; within = omega (arith, within, count); replaces = subst (λ x. Replaces orders x u) (sym here) r } in
    record {
      from = λ k inside.
          elim (cases_eq k place) [
            | inl e ↦ inr (subst (λ n. template_at new n ≡ t) (sym e) here)
            | inr other ↦ inl (k, omega (arith, inside, count), sym (others k other))
          ];
      kept = λ u h.
          elim (cases_eq h.number place) [
            | inl e ↦ by-new u (replaces-trans orders t v u (like-replaces orders t v less (λ slot. sym (same slot))) (subst (λ n. Replaces orders (template_at cell n) u) e h.replaces))
            | inr other ↦ record {
              number = h.number;
              within = omega (arith, h.within, count);
              replaces = subst (λ x. Replaces orders x u) (sym (others h.number other)) h.replaces;
            }
          ];
      given = λ u e. by-new u (subst (Replaces orders t) (sym e) (replaces-self orders t));
    }

-- ## The least cost of the templates that fit a combination

pub least_fit-most : (orders : List (List Order)) (needs : Orders) (cell : List Template) → least_fit orders needs cell ≤ 1000000000000000000000000000000
least_fit-most orders needs cell = least_below-most 1000000000000000000000000000000 (fit_cost orders needs cell) (length cell)

pub least_fit-le : (orders : List (List Order)) (needs : Orders) (cell : List Template) (k : ℕ) → k < length cell → Fits orders needs (template_at cell k) → least_fit orders needs cell ≤ (template_at cell k).internal
least_fit-le orders needs cell k within h =
    let low = least_below-le 1000000000000000000000000000000 (fit_cost orders needs cell) (length cell) k within in
    let is : fit_cost orders needs cell k ≡ (template_at cell k).internal = ap (λ b. cond b (template_at cell k).internal 1000000000000000000000000000000) (fits_below-from orders needs (template_at cell k) (length orders) h) in
    omega (arith, low, is)

pub record FitAt (orders : List (List Order)) (needs : Orders) (cell : List Template) (cost : ℕ) : Type 0 where
  pub number : ℕ
  pub within : number < length cell
  pub fits : Fits orders needs (template_at cell number)
  pub costs : (template_at cell number).internal ≡ cost

pub least_fit-found : (orders : List (List Order)) (needs : Orders) (cell : List Template) → least_fit orders needs cell < 1000000000000000000000000000000 → FitAt orders needs cell (least_fit orders needs cell)
least_fit-found orders needs cell less =
    elim (least_below-is 1000000000000000000000000000000 (fit_cost orders needs cell) (length cell)) [
      | inl none ↦ absurd (omega (arith, less, none))
      | inr w ↦
          elim (cases_Bool (does_fit orders needs (template_at cell w.0))) [
            | inl so ↦
                let is : fit_cost orders needs cell w.0 ≡ (template_at cell w.0).internal = ap (λ b. cond b (template_at cell w.0).internal 1000000000000000000000000000000) so in
                record { number = w.0; within = w.1; fits = fits-true orders needs (template_at cell w.0) so; costs = sym (w.2 ∙ is) }
            | inr not_so ↦
                let is : fit_cost orders needs cell w.0 ≡ 1000000000000000000000000000000 = ap (λ b. cond b (template_at cell w.0).internal 1000000000000000000000000000000) not_so in
                absurd (omega (arith, less, w.2, is))
          ]
    ]

-- what replaces a template that fits is no dearer
pub least_fit-replaced : (orders : List (List Order)) (needs : Orders) (cell : List Template) (t : Template) → IsReplaced orders cell t → Fits orders needs t → least_fit orders needs cell ≤ t.internal
least_fit-replaced orders needs cell t h f =
    let u = template_at cell h.number in
    let fits : Fits orders needs u = record { fronts = λ slot. begins_trans (needs slot) (asks orders t slot) (asks orders u slot) (f.fronts slot) (h.replaces.fits.fronts slot) } in
    omega (arith, least_fit-le orders needs cell h.number h.within fits, h.replaces.less)
