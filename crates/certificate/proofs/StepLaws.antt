-- What a step keeps.
use Rattle.std.proofs.Common.{◌≡◌, ℕ, zero, suc, ◌+◌, ◌-◌, ◌<◌, ◌≤◌, List, [], ◌∷◌, ◌++◌, length, sym, ap, subst, refl, arith, length-append}
use Rattle.std.specs.List.{AllByRecursion}
use Rattle.std.proofs.lemmas.List.Sums.{sum_by-append}
use Rattle.adv_base.specs.declared.limits.TheConstants.{MOST_PAGE_PRICE}
use Rattle.bip_model.specs.declared.answer.Node.{Node}
use Rattle.bip_model.specs.declared.answer.Node.TheVariants.{Branch, Bounded, Overfull}
use Rattle.certificate.specs.Limits.{EntryLimits, EntriesFrom, SetLimits, AreTrees, entry_place}
use Rattle.certificate.specs.declared.cert.Entry.{Entry}
use Rattle.certificate.specs.declared.cert.SparseSet.{SparseSet}
use Rattle.certificate.specs.inner.Outlines.{Draft, with_tree}
use Rattle.certificate.specs.declared.outline.TheConstants.{FIRST_PLACE, LAST_PLACE}
use Rattle.certificate.specs.inner.Steps.{trees_after, closed, closed_by, with_set, with_entry}
use Rattle.certificate.specs.inner.Drafts.{next_place, Leave, BodyFits, HasBegun, DraftFits, OutlineFits}
use Rattle.certificate.specs.declared.outline.Outline.{Outline}

-- all of a list, and one more
pub all-more : {X : Type 0} (P : X → Type 0) (xs : List X) (x : X) → AllByRecursion P xs → P x → AllByRecursion P (xs ++ x ∷ [])
all-more P [] x h p = (p, tt)
all-more P (y ∷ ys) x h p = (h.0, all-more P ys x h.1 p)

pub EntriesFrom-more : (least : ℕ) (es : List Entry) (e : Entry) → EntriesFrom least es → EntryLimits e → next_place least es ≤ entry_place e → EntriesFrom least (es ++ e ∷ [])
EntriesFrom-more least [] e h limits low = (limits, low, tt)
EntriesFrom-more least (f ∷ es) e h limits low = (h.0, h.1, EntriesFrom-more (entry_place f + 1) es e h.2 limits low)

pub next_place-more : (least : ℕ) (es : List Entry) (e : Entry) → next_place least (es ++ e ∷ []) ≡ entry_place e + 1
next_place-more least [] e = refl
next_place-more least (f ∷ es) e = next_place-more (entry_place f + 1) es e

-- a set may begin at any place
pub EntriesFrom-low : (least : ℕ) (es : List Entry) → EntriesFrom least es → EntriesFrom 0 es
EntriesFrom-low least [] h = tt
EntriesFrom-low least (e ∷ es) h = (h.0, omega arith, h.2)

pub Leave-more : (trees : ℕ) (nodes : List Node) (node : Node) (left : ℕ) → Leave trees nodes left → 0 < left → Leave trees (nodes ++ node ∷ []) (trees_after left node)
Leave-more zero [] node left h some = absurd (omega arith)
Leave-more (suc more) [] node left h some = ap (λ (n : ℕ). trees_after n node) h
Leave-more zero (n ∷ ns) node left h some = absurd h
Leave-more (suc more) (n ∷ ns) node left h some = Leave-more (trees_after (suc more) n) ns node left h some

-- nodes that leave no tree to come are whole trees
pub trees-whole : (trees : ℕ) (nodes : List Node) → Leave trees nodes 0 → AreTrees trees nodes
trees-whole zero [] h = tt
trees-whole (suc more) [] h = absurd (omega arith)
trees-whole zero (n ∷ ns) h = absurd h
trees-whole (suc more) (Branch a ∷ ns) h = trees-whole (suc (suc more)) ns (subst (λ (k : ℕ). Leave k ns 0) (omega arith) h)
trees-whole (suc more) (Bounded k ∷ ns) h = trees-whole more ns (subst (λ (k : ℕ). Leave k ns 0) (omega arith) h)
trees-whole (suc more) (Overfull ∷ ns) h = trees-whole more ns (subst (λ (k : ℕ). Leave k ns 0) (omega arith) h)

-- the set that is begun, put behind the whole ones where it needs no more entries
closed-fits : (n : ℕ) (d : Draft) → d.entries_left ≡ n → HasBegun d → BodyFits (closed_by n d)
closed-fits zero d none h = record {
  few = omega (arith, length-append d.sets (record { mu = d.mu; entries = d.entries } ∷ []), h.few, h.some);
  whole = all-more SetLimits d.sets (record { mu = d.mu; entries = d.entries }) h.whole (record { price = h.price; entries = EntriesFrom-low FIRST_PLACE d.entries h.rise });
  count = omega (arith, sum_by-append (λ (set : SparseSet). length set.entries) d.sets (record { mu = d.mu; entries = d.entries } ∷ []), h.count);
  price = h.price;
  rise = tt;
  least_is = λ some. absurd (omega arith);
  room = λ some. absurd (omega arith);
  begun = λ some. absurd (omega arith);
  idle = λ empty. refl;
}
closed-fits (suc n) d more h = record {
  few = h.few;
  whole = h.whole;
  count = h.count;
  price = h.price;
  rise = h.rise;
  least_is = λ some. h.least_is;
  room = λ some. h.room;
  begun = λ some. h.some;
  idle = λ empty. absurd (omega arith);
}

pub with_set-fits : (mu count : ℕ) (d : Draft) → d.entries_left ≡ 0 → 0 < d.sets_left → mu ≤ MOST_PAGE_PRICE → count ≤ d.spare → BodyFits d → BodyFits (with_set mu count d)
unfolding with_set closed
with_set-fits mu count d none some price few h =
    let empty = h.idle none in
    closed-fits count (record d { mu = mu; entries_left = count; spare = d.spare - count; least = FIRST_PLACE }) refl (
    record {
      some = some;
      few = h.few;
      whole = h.whole;
      count = omega (arith, h.count);
      price = price;
      rise = subst (λ (es : List Entry). EntriesFrom FIRST_PLACE es) (sym empty) tt;
      least_is = sym (ap (next_place FIRST_PLACE) empty);
      room = omega (arith, h.count);
    }
    )

pub with_entry-fits : (entry : Entry) (left : ℕ) (d : Draft) → d.entries_left ≡ suc left → EntryLimits entry → d.least ≤ entry_place entry → left + entry_place entry ≤ LAST_PLACE → BodyFits d → BodyFits (with_entry entry left d)
unfolding with_entry closed
with_entry-fits entry left d is limits low high h =
    let more : 0 < d.entries_left = omega arith in
    closed-fits left (record d { entries = d.entries ++ entry ∷ []; entries_left = left; least = entry_place entry + 1 }) refl (
    record {
      some = h.begun more;
      few = h.few;
      whole = h.whole;
      count = omega (arith, h.count, length-append d.entries (entry ∷ []));
      price = h.price;
      rise = EntriesFrom-more FIRST_PLACE d.entries entry h.rise limits (omega (arith, h.least_is more));
      least_is = sym (next_place-more FIRST_PLACE d.entries entry);
      room = omega arith;
    }
    )

-- what is known of an outline with some tree
pub outline-fits : (o : Outline) (tree : List Node) → DraftFits (with_tree o tree) → OutlineFits o
outline-fits o tree fits = record {
  few_sets = fits.body.few;
  few_entries = omega (arith, fits.body.count);
  begun = fits.body.begun;
  few_nodes = omega (arith, fits.nodes.few);
  enough = fits.nodes.enough;
  some_trees = fits.nodes.some;
}
