-- Lists of templates that were given templates.
use Rattle.std.proofs.Common.{◌≡◌, ◌⊎◌, inl, inr, ℕ, ◌+◌, ◌≤◌, List, [], All, refl, sym, ◌∙◌, subst, arith}
use Rattle.std.specs.List.Sorted.{IsPermutation}
use Rattle.std.proofs.lemmas.Bool.{cases_lt, cases_eq}
use Rattle.std.proofs.lemmas.List.{get_or_default}
use Rattle.std.proofs.lemmas.List.Sorted.{All-permutation, Contains-permutation}
use Rattle.adv_base.specs.Items.{Order, BeginsWith}
use Rattle.adv_base.proofs.Begins.{begins_self, begins_trans}
use Rattle.plan_model.specs.declared.template.Template.{Template}
use Rattle.inum_cache.specs.Numbering.{order_in}
use Rattle.inum_cache.specs.inner.Passes.{IsLeaf}
use Rattle.inum_cache.specs.inner.Cells.{place_at, asks, template_at, no_template, Replaces, IsReplaced, IsAmong, Takes, SomeBelow}

pub replaces-self : (orders : List (List Order)) (t : Template) → Replaces orders t t
replaces-self orders t = record { less = omega arith; fits = record { fronts = λ slot. begins_self (asks orders t slot) } }

pub replaces-trans : (orders : List (List Order)) (a b c : Template) → Replaces orders a b → Replaces orders b c → Replaces orders a c
replaces-trans orders a b c x y =
    record {
      less = omega (arith, x.less, y.less);
      fits = record { fronts = λ slot. begins_trans (asks orders c slot) (asks orders b slot) (asks orders a slot) (y.fits.fronts slot) (x.fits.fronts slot) };
    }

pub replaced-more : (orders : List (List Order)) (cell : List Template) (t u : Template) → IsReplaced orders cell t → Replaces orders t u → IsReplaced orders cell u
replaced-more orders cell t u h r =
    record { number = h.number; within = h.within; replaces = replaces-trans orders (template_at cell h.number) t u h.replaces r }

-- one that needs the same and costs no more replaces the other
pub like-replaces : (orders : List (List Order)) (x t : Template) → x.internal ≤ t.internal → ((slot : ℕ) → place_at x slot ≡ place_at t slot) → Replaces orders x t
like-replaces orders x t costs places =
    record {
      less = costs;
      fits = record { fronts = λ slot. subst (λ p. BeginsWith (order_in orders slot p) (asks orders x slot)) (places slot) (begins_self (asks orders x slot)) };
    }

pub leaf-like : (orders : List (List Order)) (slot place : ℕ) (x t : Template) → IsLeaf slot place x → IsLeaf slot place t → Replaces orders x t
leaf-like orders slot place x t a b =
    like-replaces orders x t (omega (arith, a.costs, b.costs)) (λ s.
    elim (cases_eq s slot) [
      | inl here ↦ subst (λ k. place_at x k ≡ place_at t k) (sym here) (a.here ∙ sym b.here)
      | inr other ↦ a.others s other ∙ sym (b.others s other)
    ])

-- ## Giving templates, one list of them after the other

pub takes-none : (orders : List (List Order)) (Given : Template → Type 0) (cell : List Template) → ((t : Template) → Given t → ⊥) → Takes orders Given cell cell
takes-none orders Given cell none =
    record {
      from = λ k within. inl (k, within, refl);
      kept = λ t h. h;
      given = λ t h. absurd (none t h);
    }

pub takes-both : (orders : List (List Order)) (A B : Template → Type 0) (a b c : List Template) → Takes orders A a b → Takes orders B b c → Takes orders (λ t. A t ⊎ B t) a c
takes-both orders A B a b c x y =
    record {
      from = λ k within.
          elim (y.from k within) [
            | inr later ↦ inr (inr later)
            | inl old ↦
                elim (x.from old.0 old.1) [
                  | inl older ↦ inl (older.0, older.1, older.2 ∙ old.2)
                  | inr first ↦ inr (inl (subst A old.2 first))
                ]
          ];
      kept = λ t h. y.kept t (x.kept t h);
      given = λ t g. elim g [ inl first ↦ y.kept t (x.given t first) | inr later ↦ y.given t later ];
    }

pub takes-same : (orders : List (List Order)) (A B : Template → Type 0) (a b : List Template) → ((t : Template) → A t → B t) → ((t : Template) → B t → A t) → Takes orders A a b → Takes orders B a b
takes-same orders A B a b to back h =
    record {
      from = λ k within. elim (h.from k within) [ inl old ↦ inl old | inr given ↦ inr (to (template_at b k) given) ];
      kept = h.kept;
      given = λ t g. h.given t (back t g);
    }

-- one template stands for all that is like it
pub takes-like : (orders : List (List Order)) (B : Template → Type 0) (a b : List Template) (x : Template) → B x → ((t : Template) → B t → Replaces orders x t) → Takes orders (λ t. t ≡ x) a b → Takes orders B a b
takes-like orders B a b x is like h =
    record {
      from = λ k within. elim (h.from k within) [ inl old ↦ inl old | inr e ↦ inr (subst B (sym e) is) ];
      kept = h.kept;
      given = λ t g. replaced-more orders b x t (h.given x refl) (like t g);
    }

pub takes-start : (orders : List (List Order)) (Gives : ℕ → Template → Type 0) (cell : List Template) → Takes orders (SomeBelow 0 Gives) cell cell
takes-start orders Gives cell = takes-none orders (SomeBelow 0 Gives) cell (λ t w. absurd (omega (arith, w.1)))

pub takes-more : (orders : List (List Order)) (Gives : ℕ → Template → Type 0) (n : ℕ) (a b c : List Template) → Takes orders (SomeBelow n Gives) a b → Takes orders (Gives n) b c → Takes orders (SomeBelow (n + 1) Gives) a c
takes-more orders Gives n a b c x y =
    takes-same orders (λ t. SomeBelow n Gives t ⊎ Gives n t) (SomeBelow (n + 1) Gives) a c
    (λ t h. elim h [ inl w ↦ (w.0, omega (arith, w.1), w.2) | inr last ↦ (n, omega arith, last) ])
    (λ t w.
    elim (cases_lt w.0 n) [
      | inl less ↦ inl (w.0, less, w.2)
      | inr past ↦ let same : w.0 ≡ n = omega (arith, past, w.1) in inr (subst (λ k. Gives k t) same w.2)
    ])
    (takes-both orders (SomeBelow n Gives) (Gives n) a b c x y)

-- the bound of a loop under another name
pub takes-all : (orders : List (List Order)) (Gives : ℕ → Template → Type 0) (n m : ℕ) (a b : List Template) → n ≡ m → Takes orders (SomeBelow n Gives) a b → Takes orders (SomeBelow m Gives) a b
takes-all orders Gives n m a b same h = subst (λ k. Takes orders (SomeBelow k Gives) a b) same h

pub takes-when : (orders : List (List Order)) (H : Type 0) (Given : Template → Type 0) (a b : List Template) → H → Takes orders Given a b → Takes orders (λ t. H × Given t) a b
takes-when orders H Given a b so h =
    takes-same orders Given (λ t. H × Given t) a b (λ t g. (so, g)) (λ t w. w.1) h

pub takes-unless : (orders : List (List Order)) (H : Type 0) (Given : Template → Type 0) (cell : List Template) → (H → ⊥) → Takes orders (λ t. H × Given t) cell cell
takes-unless orders H Given cell never =
    takes-none orders (λ t. H × Given t) cell (λ t w. never w.0)

-- what a list was given, what is left of it was given
pub takes-thinned : (orders : List (List Order)) (Given : Template → Type 0) (all thin : List Template) → Takes orders Given [] all → Takes orders (IsAmong all) [] thin → Takes orders Given [] thin
takes-thinned orders Given all thin a b =
    record {
      from = λ k within.
          elim (b.from k within) [
            | inl old ↦ absurd (omega (arith, old.1))
            | inr w ↦
                elim (a.from w.0 w.1) [
                  | inl older ↦ absurd (omega (arith, older.1))
                  | inr given ↦ inr (subst Given w.2 given)
                ]
          ];
      kept = λ t h. absurd (omega (arith, h.within));
      given = λ t g.
          let h = a.given t g in
          replaced-more orders thin (template_at all h.number) t (b.given (template_at all h.number) (h.number, h.within, refl)) h.replaces;
    }

-- the same in another order
pub takes-moved : (orders : List (List Order)) (Given : Template → Type 0) (all moved : List Template) → IsPermutation all moved → Takes orders Given [] all → Takes orders Given [] moved
takes-moved orders Given all moved same h =
    let each : All Given all = λ i d within.
    elim (h.from i within) [
      | inl old ↦ absurd (omega (arith, old.1))
      | inr given ↦ subst Given (sym (get_or_default all i d no_template within)) given
    ] in
    record {
      from = λ k within. inr (All-permutation Given all moved same each k no_template within);
      kept = λ t r. absurd (omega (arith, r.within));
      given = λ t g.
          let r = h.given t g in
          let u = template_at all r.number in
          let w = Contains-permutation all moved u same (r.number, r.within, get_or_default all r.number u no_template r.within) in
          record { number = w.0; within = w.1; replaces = subst (λ x. Replaces orders x t) (sym (sym (get_or_default moved w.0 u no_template w.1) ∙ w.2)) r.replaces };
    }
