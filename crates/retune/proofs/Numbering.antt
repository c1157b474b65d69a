-- The candidates on a table by their numbers.
use Rattle.std.proofs.Common.{◌≡◌, ◌≢◌, ◌∙◌, inl, inr, ℕ, suc, ◌+◌, ◌<◌, ◌≤◌, ◌==◌, List, [], ◌∷◌, ◌++◌, length, map, filter, get_or, get_or-set_other, get_or-set_same, set, take, refl, sym, ap, arith}
use Rattle.std.specs.List.{enumerate_from}
use Rattle.std.proofs.lemmas.Bool.{cases_Bool, eq-eqb, ne_eqb}
use Rattle.std.proofs.lemmas.Bool.Decides.{Decides-eqb}
use Rattle.std.proofs.lemmas.List.{append-nil, length-take-le, take_more, map-append}
use Rattle.std.proofs.lemmas.List.Elements.{filter-append}
use Rattle.adv_base.specs.declared.catalogue.index.IndexShape.{IndexShape}
use Rattle.bip_model.specs.StandsFor.{candidates_on}
use Rattle.retune.specs.inner.Renewing.{IsRenumbering}
use Rattle.retune.proofs.Untouched.{is_on, enumerate-append}

-- ## One shape more

until-more : (shapes : List IndexShape) (t k : ℕ) (d : IndexShape) → k < length shapes →
    candidates_on (take (k + 1) shapes) t ≡ candidates_on (take k shapes) t ++ filter (is_on t) ((k + 1, get_or shapes k d) ∷ [])
until-more shapes t k d within =
    let long : length (take k shapes) ≡ k = length-take-le k shapes (omega arith) in
    let next : 1 + length (take k shapes) ≡ k + 1 = omega (arith, long) in
    ap (λ (front : List IndexShape). candidates_on front t) (take_more shapes k d within)
    ∙ ap (filter (is_on t)) (enumerate-append 1 (take k shapes) (get_or shapes k d ∷ []))
    ∙ filter-append (is_on t) (enumerate_from 1 (take k shapes)) ((1 + length (take k shapes), get_or shapes k d) ∷ [])
    ∙ ap (λ (n : ℕ). candidates_on (take k shapes) t ++ filter (is_on t) ((n, get_or shapes k d) ∷ [])) next

pub until-own : (shapes : List IndexShape) (t k : ℕ) (d : IndexShape) → k < length shapes → (get_or shapes k d).table ≡ t →
    candidates_on (take (k + 1) shapes) t ≡ candidates_on (take k shapes) t ++ (k + 1, get_or shapes k d) ∷ []
until-own shapes t k d within own =
    let on = eq-eqb (get_or shapes k d).table t own in
    until-more shapes t k d within ∙ rw on refl

pub until-other : (shapes : List IndexShape) (t k : ℕ) (d : IndexShape) → k < length shapes → ((get_or shapes k d).table ≡ t → ⊥) →
    candidates_on (take (k + 1) shapes) t ≡ candidates_on (take k shapes) t
until-other shapes t k d within other =
    let off = ne_eqb (get_or shapes k d).table t other in
    until-more shapes t k d within ∙ rw off (append-nil (candidates_on (take k shapes) t))

-- ## Numbers

abbrev pub renumbered : (ℕ → ℕ) → List (ℕ × IndexShape) → List (ℕ × IndexShape)
renumbered number = map (λ (n : ℕ × IndexShape). (number n.0, n.1))

-- only the numbers of those on the table count
numbered-same : (first second : ℕ → ℕ) (t a : ℕ) (shapes : List IndexShape) → ((k : ℕ) (d : IndexShape) → k < length shapes → (get_or shapes k d).table ≡ t → first (a + k) ≡ second (a + k)) →
    renumbered first (filter (is_on t) (enumerate_from a shapes)) ≡ renumbered second (filter (is_on t) (enumerate_from a shapes))
numbered-same first second t a [] same = refl
numbered-same first second t a (shape ∷ shapes) same =
    let rest : renumbered first (filter (is_on t) (enumerate_from (a + 1) shapes)) ≡ renumbered second (filter (is_on t) (enumerate_from (a + 1) shapes)) =
    numbered-same first second t (a + 1) shapes (λ k d within on.
    let place : a + suc k ≡ (a + 1) + k = omega arith in
    sym (ap first place) ∙ same (suc k) d (omega (arith, within)) on ∙ ap second place) in
    elim (cases_Bool (shape.table == t)) [
      | inl on ↦
          let here : a + 0 ≡ a = omega arith in
          let own : first a ≡ second a = sym (ap first here) ∙ same 0 shape (omega arith) ((Decides-eqb shape.table t).0 on) ∙ ap second here in
          rw on (ap (λ (n : ℕ). (n, shape) ∷ renumbered first (filter (is_on t) (enumerate_from (a + 1) shapes))) own
          ∙ ap (λ (ns : List (ℕ × IndexShape)). (second a, shape) ∷ ns) rest)
      | inr off ↦ rw off rest
    ]

-- numbers that agree where a shape is on the table
pub renumbered-same : (first second : ℕ → ℕ) (t : ℕ) (shapes : List IndexShape) → ((k : ℕ) (d : IndexShape) → k < length shapes → (get_or shapes k d).table ≡ t → second (k + 1) ≡ first (k + 1)) →
    renumbered second (candidates_on shapes t) ≡ renumbered first (candidates_on shapes t)
renumbered-same first second t shapes same =
    numbered-same second first t 1 shapes (λ k d within on.
    let place : k + 1 ≡ 1 + k = omega arith in
    sym (ap second place) ∙ same k d within on ∙ ap first place)

-- what other tables have keeps its numbers
pub other-renumbering : (first second : ℕ → ℕ) (old new : List IndexShape) (table t : ℕ) → t ≢ table → ((k : ℕ) (d : IndexShape) → k < length old → (get_or old k d).table ≢ table → second (k + 1) ≡ first (k + 1)) →
    IsRenumbering first old new t → IsRenumbering second old new t
other-renumbering first second old new table t other same is =
    renumbered-same first second t old (λ k d within on. same k d within (λ own. other (sym on ∙ own))) ∙ is

-- ## One number written

-- numbers of others stay
pub others-more : (of : List ℕ) (old : List IndexShape) (t from number k : ℕ) (d : IndexShape) → (get_or old from d).table ≡ t → (get_or old k d).table ≢ t → get_or (set of (from + 1) number) (k + 1) 0 ≡ get_or of (k + 1) 0
others-more of old t from number k d own other =
    let apart : k + 1 ≢ from + 1 = λ same. let place : k ≡ from = omega (arith, same) in other (ap (λ (i : ℕ). (get_or old i d).table) place ∙ own) in
    get_or-set_other of (from + 1) (k + 1) number 0 apart

-- one shape more on both sides
pub written-more : (of : List ℕ) (old new : List IndexShape) (t from at : ℕ) (d : IndexShape) → from < length old → at < length new → from + 1 < length of → get_or old from d ≡ get_or new at d → (get_or old from d).table ≡ t →
    renumbered (λ n. get_or of n 0) (candidates_on (take from old) t) ≡ candidates_on (take at new) t →
    renumbered (λ n. get_or (set of (from + 1) (at + 1)) n 0) (candidates_on (take (from + 1) old) t) ≡ candidates_on (take (at + 1) new) t
written-more of old new t from at d within there has same own written =
    let first : ℕ → ℕ = λ n. get_or of n 0 in
    let second : ℕ → ℕ = λ n. get_or (set of (from + 1) (at + 1)) n 0 in
    let shape : IndexShape = get_or old from d in
    let long : length (take from old) ≡ from = length-take-le from old (omega (arith, within)) in
    let new_own : (get_or new at d).table ≡ t = sym (ap (λ (s : IndexShape). s.table) same) ∙ own in
    let before : renumbered second (candidates_on (take from old) t) ≡ candidates_on (take at new) t =
    renumbered-same first second t (take from old) (λ k e inside on. let apart : k + 1 ≢ from + 1 = omega (arith, inside, long) in get_or-set_other of (from + 1) (k + 1) (at + 1) 0 apart) ∙ written in
    ap (renumbered second) (until-own old t from d within own)
    ∙ map-append (λ (n : ℕ × IndexShape). (second n.0, n.1)) (candidates_on (take from old) t) ((from + 1, shape) ∷ [])
    ∙ ap (λ (ns : List (ℕ × IndexShape)). ns ++ (second (from + 1), shape) ∷ []) before
    ∙ ap (λ (n : ℕ). candidates_on (take at new) t ++ (n, shape) ∷ []) (get_or-set_same of (from + 1) (at + 1) 0 has)
    ∙ ap (λ (s : IndexShape). candidates_on (take at new) t ++ (at + 1, s) ∷ []) same
    ∙ sym (until-own new t at d there new_own)
