-- Tables that are marked, one after the other.
use Rattle.std.proofs.Common.{◌≡◌, ◌∙◌, inl, inr, ℕ, suc, ◌+◌, ◌<◌, Bool, true, false, List, length, set, sym, ap, arith}
use Rattle.std.specs.Prelude.{Some, slice_get}
use Rattle.std.proofs.lemmas.Bool.{cases_lt, cases_eq, false≢true}
use Rattle.std.proofs.lemmas.List.{get_or-set_same, get_or-set_other}
use Rattle.std.proofs.lemmas.Option.{same_Some}
use Rattle.adv_base.specs.declared.catalogue.index.IndexShape.{IndexShape}
use Rattle.adv_base.specs.declared.setting.Config.{Config}
use Rattle.adv_base.specs.declared.workload.parts.Slot.{Slot}
use Rattle.adv_base.specs.Configs.{has_candidate}
use Rattle.gap_checker.specs.inner.Changes.{is_marked}

-- ## One table

pub marked-own : (tables : List Bool) (t : ℕ) → t < length tables → is_marked (set tables t true) t ≡ true
marked-own tables t within = get_or-set_same tables t true true within

pub marked-others : (tables : List Bool) (t u : ℕ) → t < length tables → is_marked (set tables t true) u ≡ false → is_marked tables u ≡ false
marked-others tables t u within none =
    elim (cases_eq u t) [
      | inl same ↦ absurd (false≢true (sym none ∙ ap (is_marked (set tables t true)) same ∙ marked-own tables t within))
      | inr other ↦ sym (get_or-set_other tables t u true true other) ∙ none
    ]

-- ## Those of candidates

abbrev pub AgreeBelow : List Bool → Config → Config → List IndexShape → ℕ → Type 0
AgreeBelow tables from to shapes n =
    (k : ℕ) (shape : IndexShape) → k < n → slice_get shapes k ≡ Some shape → is_marked tables shape.table ≡ false → has_candidate from (suc k) ≡ has_candidate to (suc k)

pub agree-more : (old new : List Bool) (from to : Config) (shapes : List IndexShape) (a : ℕ) (shape : IndexShape) → slice_get shapes a ≡ Some shape → AgreeBelow old from to shapes a →
    (is_marked new shape.table ≡ false → has_candidate from (a + 1) ≡ has_candidate to (a + 1)) → ((t : ℕ) → is_marked new t ≡ false → is_marked old t ≡ false) → AgreeBelow new from to shapes (a + 1)
agree-more old new from to shapes a shape there agree own others = λ k other below found apart.
    elim (cases_lt k a) [
      | inl less ↦ agree k other less found (others other.table apart)
      | inr past ↦
          let same : a ≡ k = omega (arith, below, past) in
          let here : shape ≡ other = same_Some shape other (sym there ∙ ap (slice_get shapes) same ∙ found) in
          let number : a + 1 ≡ suc k = omega (arith, same) in
          sym (ap (has_candidate from) number) ∙ own (ap (λ (x : IndexShape). is_marked new x.table) here ∙ apart) ∙ ap (has_candidate to) number
    ]

-- ## Those of slots

abbrev pub NoneBelow : List Bool → List Slot → ℕ → Type 0
NoneBelow tables slots n = (s : ℕ) (slot : Slot) → s < n → slice_get slots s ≡ Some slot → is_marked tables slot.table ≡ false

pub none-more : (tables : List Bool) (slots : List Slot) (s : ℕ) (slot : Slot) → slice_get slots s ≡ Some slot → NoneBelow tables slots s → is_marked tables slot.table ≡ false → NoneBelow tables slots (s + 1)
none-more tables slots s slot there none one = λ k other below found.
    elim (cases_lt k s) [
      | inl less ↦ none k other less found
      | inr past ↦
          let same : s ≡ k = omega (arith, below, past) in
          let here : slot ≡ other = same_Some slot other (sym there ∙ ap (slice_get slots) same ∙ found) in
          ap (λ (x : Slot). is_marked tables x.table) (sym here) ∙ one
    ]
