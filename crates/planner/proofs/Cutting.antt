-- The list of cuts, as it is made.
use Rattle.std.proofs.Common.{◌≡◌, ℕ, ◌+◌, ◌-◌, ◌^◌, ◌<◌, ◌≤◌, inl, inr, Bool, true, false, cond, List, [], ◌∷◌, ◌++◌, length, take, drop, bit_and, ◌==◌, ◌&&◌, slice_index, refl, sym, ap, ◌∙◌, subst, append_assoc, arith}
use Rattle.std.specs.List.{slice_range}
use Rattle.std.proofs.lemmas.Bool.{false≢true, cases_lt, and_parts, eqb-true, eq-eqb}
use Rattle.std.proofs.lemmas.Nat.{and_comm}
use Rattle.std.proofs.lemmas.List.{get_or_append_left, get_or-append_right, get_or_push, length_push, take-append-le, drop-append-le, drop_at, take_all, length-append, length-drop, append-nil}
use Rattle.plan_model.specs.declared.task.Task.{Task}
use Rattle.planner.specs.declared.front.Link.{Link}
use Rattle.planner.specs.declared.cuts.Cut.{Cut}
use Rattle.planner.specs.declared.cuts.Merge.{Merge}
use Rattle.planner.specs.Fronts.{crosses_link}
use Rattle.planner.specs.Cuts.{link_merge, merges_of, no_cut, cut_at, cuts_at, is_covered, may_cut, IsCut, IsCutOf, IsListed, AreCutsOf, AreCuts}
use Rattle.plan_model.specs.Costs.{hash_of, merge_of}
use Rattle.planner.specs.inner.Cutting.{AddsCuts}

pub merges_skip : (link : Link) (a b : ℕ) (merges : List Merge) → crosses_link a b link ≡ false → merges ≡ merges ++ merges_of (link ∷ []) a b
merges_skip link a b merges e =
    sym (append-nil merges) ∙ ap (λ t. merges ++ cond t (link_merge link a b ∷ []) []) (sym e)

range_none : {X : Type 0} (xs : List X) (i j : ℕ) → j ≤ i → slice_range xs i j ≡ []
range_none xs i j h = let none : j - i ≡ 0 = omega arith in ap (λ n. take n (drop i xs)) none

-- a part of a list stays where the list goes on
pub range_stays : {X : Type 0} (xs ys : List X) (i j : ℕ) → j ≤ length xs → slice_range (xs ++ ys) i j ≡ slice_range xs i j
range_stays xs ys i j within =
    elim (cases_lt j i) [
      | inl above ↦ range_none (xs ++ ys) i j (omega arith) ∙ sym (range_none xs i j (omega arith))
      | inr below ↦
          let a : drop i (xs ++ ys) ≡ drop i xs ++ ys = drop-append-le i xs ys (omega arith) in
          let room : j - i ≤ length (drop i xs) = omega (arith, length-drop i xs) in
          ap (take (j - i)) a ∙ take-append-le (j - i) (drop i xs) ys room
    ]

-- what a list goes on with
pub range_added : {X : Type 0} (xs ys zs : List X) (i j : ℕ) → zs ≡ xs ++ ys → i ≡ length xs → j ≡ length zs → slice_range zs i j ≡ ys
range_added xs ys zs i j whole from to =
    let sum : length zs ≡ length xs + length ys = ap length whole ∙ length-append xs ys in
    let a : drop i zs ≡ ys = ap (drop i) whole ∙ drop_at xs ys i (sym from) in
    ap (take (j - i)) a ∙ take_all (j - i) ys (omega arith)

-- a cut keeps its meaning where the list of merges goes on
pub cut_frame : (task : Task) (links : List Link) (merges more new : List Merge) (set : ℕ) (cut : Cut) → new ≡ merges ++ more → IsCutOf task links merges set cut → IsCutOf task links new set cut
cut_frame task links merges more new set cut is c =
    let sum : length new ≡ length merges + length more = ap length is ∙ length-append merges more in
    let within = c.within in
    record {
      parts = c.parts;
      rest = c.rest;
      hash = c.hash;
      merge = c.merge;
      some = c.some;
      within = omega arith;
      crossings = ap (λ ms. slice_range ms cut.from cut.to) is ∙ range_stays merges more cut.from cut.to within ∙ c.crossings;
    }

-- apart parts may be a cut where both are covered
may_is : (covered : List Bool) (set a b : ℕ) → b ≡ set - a → bit_and a b ≡ 0 → may_cut covered set a ≡ (is_covered covered a && is_covered covered b)
may_is covered set a b is apart =
    let none : (bit_and a (set - a) == 0) ≡ true = eq-eqb (bit_and a (set - a)) 0 (ap (bit_and a) (sym is) ∙ apart) in
    ap (λ t. t && is_covered covered a && is_covered covered (set - a)) none ∙ ap (λ t. is_covered covered a && is_covered covered t) (sym is)

may_right : (covered : List Bool) (set right : ℕ) → IsCut set right → may_cut covered set (set - right) ≡ (is_covered covered (set - right) && is_covered covered right)
may_right covered set right cut =
    let less = cut.less in
    may_is covered set (set - right) right (omega arith) (and_comm (set - right) right ∙ cut.apart)

-- no cut has its left part in the range
pub adds_nothing : (task : Task) (links : List Link) (covered : List Bool) (set m n : ℕ) (cuts : List Cut) (merges : List Merge) → ((a : ℕ) → m ≤ a → a < n → may_cut covered set a ≡ true → ⊥) → AddsCuts task links covered set m n cuts merges cuts merges
adds_nothing task links covered set m n cuts merges none =
    record {
      more = [];
      cuts_are = sym (append-nil cuts);
      more_merges = [];
      merges_are = sym (append-nil merges);
      each = λ k within. absurd (omega arith);
      all = λ a from to may crossed. absurd (none a from to may);
    }

apart_from_test : (covered : List Bool) (set a : ℕ) → may_cut covered set a ≡ true → bit_and a (set - a) ≡ 0
apart_from_test covered set a h =
    let p = and_parts _ _ h in
    let q = and_parts _ _ p.0 in
    eqb-true (bit_and a (set - a)) 0 q.0

-- there is no part of the set between two right ones
pub adds_skip : (task : Task) (links : List Link) (covered : List Bool) (set m right below : ℕ) (cuts : List Cut) (merges : List Merge) → right ≤ set → set - right < m → ((x : ℕ) → below < x → x < right → ¬ (bit_and x (set - x) ≡ 0)) → AddsCuts task links covered set m (set - below) cuts merges cuts merges
adds_skip task links covered set m right below cuts merges within after none =
    adds_nothing task links covered set m (set - below) cuts merges (λ a from to may.
    let back : set - (set - a) ≡ a = omega arith in
    let apart : bit_and (set - a) (set - (set - a)) ≡ 0 = and_comm (set - a) (set - (set - a)) ∙ ap (λ t. bit_and t (set - a)) back ∙ apart_from_test covered set a may in
    none (set - a) (omega arith) (omega arith) apart)

-- parts that aren't both covered
pub adds_none : (task : Task) (links : List Link) (covered : List Bool) (set right : ℕ) (cuts : List Cut) (merges : List Merge) → IsCut set right → (is_covered covered (set - right) && is_covered covered right) ≡ false → AddsCuts task links covered set (set - right) (set - right + 1) cuts merges cuts merges
adds_none task links covered set right cuts merges cut refused =
    adds_nothing task links covered set (set - right) (set - right + 1) cuts merges (λ a from to may.
    let same : a ≡ set - right = omega arith in
    absurd (false≢true (sym refused ∙ sym (may_right covered set right cut) ∙ ap (may_cut covered set) (sym same) ∙ may)))

-- a cut that no link crosses
pub adds_uncrossed : (task : Task) (links : List Link) (covered : List Bool) (set right : ℕ) (cuts : List Cut) (merges new : List Merge) → IsCut set right → new ≡ merges ++ merges_of links (set - right) right → length merges ≡ length new → AddsCuts task links covered set (set - right) (set - right + 1) cuts merges cuts new
adds_uncrossed task links covered set right cuts merges new cut is same =
    let crossings = merges_of links (set - right) right in
    let sum : length new ≡ length merges + length crossings = ap length is ∙ length-append merges crossings in
    let less = cut.less in
    record {
      more = [];
      cuts_are = sym (append-nil cuts);
      more_merges = crossings;
      merges_are = is;
      each = λ k within. absurd (omega arith);
      all = λ a from to may crossed.
          let here : a ≡ set - right = omega arith in
          let there : set - a ≡ right = omega arith in
          let some : 0 < length (merges_of links (set - right) right) = subst (λ t. 0 < length (merges_of links (set - right) t)) there (subst (λ t. 0 < length (merges_of links t (set - a))) here crossed) in
          absurd (omega arith);
    }

-- a cut that links cross
pub adds_cut : (task : Task) (links : List Link) (covered : List Bool) (set right : ℕ) (cuts new_cuts : List Cut) (merges new : List Merge) (from to hash merge : ℕ) → IsCut set right → new_cuts ≡ cuts ++ record { left = set - right; right = right; hash_price = hash; merge_price = merge; from = from; to = to } ∷ [] → new ≡ merges ++ merges_of links (set - right) right → from ≡ length merges → to ≡ length new → ¬ (from ≡ to) → hash ≡ hash_of task (set - right) right → merge ≡ merge_of task (set - right) right → AddsCuts task links covered set (set - right) (set - right + 1) cuts merges new_cuts new
adds_cut task links covered set right cuts new_cuts merges new from to hash merge parts cuts_are is from_is to_is differ hash_is merge_is =
    let cut : Cut = record { left = set - right; right = right; hash_price = hash; merge_price = merge; from = from; to = to } in
    let crossings = merges_of links (set - right) right in
    let sum : length new ≡ length merges + length crossings = ap length is ∙ length-append merges crossings in
    let some = parts.some in
    let less = parts.less in
    let back : right ≡ set - (set - right) = omega arith in
    let here : IsCutOf task links new set cut = record {
      parts = record { some = omega arith; less = omega arith; apart = ap (bit_and (set - right)) (sym back) ∙ and_comm (set - right) right ∙ parts.apart };
      rest = back;
      hash = hash_is;
      merge = merge_is;
      some = omega arith;
      within = omega arith;
      crossings = range_added merges crossings new from to is from_is to_is;
    } in
    record {
      more = cut ∷ [];
      cuts_are = cuts_are;
      more_merges = crossings;
      merges_are = is;
      each = λ k within. let first : 0 ≡ k = omega arith in subst (λ t. IsCutOf task links new set (cut_at (cut ∷ []) t)) first here;
      all = λ a low high may crossed.
          record { number = 0; within = omega arith; is = (let same : set - right ≡ a = omega arith in same) };
    }

listed_left : (x y : List Cut) (a : ℕ) → IsListed x a → IsListed (x ++ y) a
listed_left x y a h =
    let within = h.within in
    record {
      number = h.number;
      within = omega (arith, length-append x y);
      is = ap (λ (t : Cut). t.left) (get_or_append_left x y no_cut h.number within) ∙ h.is;
    }

listed_right : (x y : List Cut) (a : ℕ) → IsListed y a → IsListed (x ++ y) a
listed_right x y a h =
    let within = h.within in
    let back : length x + h.number - length x ≡ h.number = omega arith in
    record {
      number = length x + h.number;
      within = omega (arith, length-append x y);
      is = ap (λ (t : Cut). t.left) (get_or-append_right x y (length x) (length x + h.number) no_cut refl (omega arith) ∙ ap (cut_at y) back) ∙ h.is;
    }

-- cuts from m to n, then from n to p
pub adds_then : (task : Task) (links : List Link) (covered : List Bool) (set m n p : ℕ) (c1 c2 c3 : List Cut) (m1 m2 m3 : List Merge) → AddsCuts task links covered set m n c1 m1 c2 m2 → AddsCuts task links covered set n p c2 m2 c3 m3 → AddsCuts task links covered set m p c1 m1 c3 m3
adds_then task links covered set m n p c1 c2 c3 m1 m2 m3 s t =
    record {
      more = s.more ++ t.more;
      cuts_are = t.cuts_are ∙ ap (λ x. x ++ t.more) s.cuts_are ∙ append_assoc c1 s.more t.more;
      more_merges = s.more_merges ++ t.more_merges;
      merges_are = t.merges_are ∙ ap (λ x. x ++ t.more_merges) s.merges_are ∙ append_assoc m1 s.more_merges t.more_merges;
      each = λ k within.
          let sum = length-append s.more t.more in
          elim (cases_lt k (length s.more)) [
            | inl less ↦ subst (IsCutOf task links m3 set) (sym (get_or_append_left s.more t.more no_cut k less)) (cut_frame task links m2 t.more_merges m3 set (cut_at s.more k) t.merges_are (s.each k less))
            | inr past ↦ subst (IsCutOf task links m3 set) (sym (get_or-append_right s.more t.more (length s.more) k no_cut refl past)) (t.each (k - length s.more) (omega arith))
          ];
      all = λ i from to yes crossed.
          elim (cases_lt i n) [
            | inl less ↦ listed_left s.more t.more i (s.all i from less yes crossed)
            | inr past ↦ listed_right s.more t.more i (t.all i past to yes crossed)
          ];
    }

covered_stays : (covered : List Bool) (flag : Bool) (s : ℕ) → s < length covered → is_covered (covered ++ flag ∷ []) s ≡ is_covered covered s
covered_stays covered flag s h = get_or_append_left covered (flag ∷ []) false s h

-- the cuts of a set keep their meaning where the lists go on
pub cuts_frame : (task : Task) (links : List Link) (merges more new : List Merge) (covered : List Bool) (flag : Bool) (set : ℕ) (cuts : List Cut) → new ≡ merges ++ more → set ≤ length covered → AreCutsOf task links merges covered set cuts → AreCutsOf task links new (covered ++ flag ∷ []) set cuts
cuts_frame task links merges more new covered flag set cuts is within h =
    record {
      each = λ k inside. cut_frame task links merges more new set (cut_at cuts k) is (h.each k inside);
      all = λ a some less yes crossed.
          let left : is_covered (covered ++ flag ∷ []) a ≡ is_covered covered a = covered_stays covered flag a (omega arith) in
          let right : is_covered (covered ++ flag ∷ []) (set - a) ≡ is_covered covered (set - a) = covered_stays covered flag (set - a) (omega arith) in
          let same : may_cut (covered ++ flag ∷ []) set a ≡ may_cut covered set a = ap (λ t. (bit_and a (set - a) == 0) && t && is_covered (covered ++ flag ∷ []) (set - a)) left ∙ ap (λ t. (bit_and a (set - a) == 0) && is_covered covered a && t) right in
          h.all a some less (sym same ∙ yes) crossed;
    }

-- the cuts of one more set
module _ (task : Task) (links : List Link) (n : ℕ) (cuts new_cuts : List Cut) (merges new : List Merge) (starts : List ℕ) (covered : List Bool) (flag : Bool) (old : AreCuts task links cuts merges starts covered n) (adds : AddsCuts task links covered n 1 n cuts merges new_cuts new) (slot : (s : ℕ) → s < task.slots → 2 ^ s ≡ n → flag ≡ true) (some : length cuts < length new_cuts → flag ≡ true) where
  longer : length new_cuts ≡ length cuts + length adds.more
  longer = ap length adds.cuts_are ∙ length-append cuts adds.more

  start_stays : (s : ℕ) → s < n + 1 → slice_index (starts ++ length new_cuts ∷ []) s ≡ slice_index starts s
  start_stays s h = get_or_append_left starts (length new_cuts ∷ []) 0 s (omega (arith, old.starts_count))

  start_last : slice_index (starts ++ length new_cuts ∷ []) (n + 1) ≡ length new_cuts
  start_last = get_or_push starts (length new_cuts) 0 (n + 1) old.starts_count

  flag_last : is_covered (covered ++ flag ∷ []) n ≡ flag
  flag_last = get_or_push covered flag false n old.covered_count

  cuts_stay : (s : ℕ) → s < n → cuts_at new_cuts (starts ++ length new_cuts ∷ []) s ≡ cuts_at cuts starts s
  cuts_stay s h =
      let within = (old.rising s h).1 in
      ap (λ i. slice_range new_cuts i (slice_index (starts ++ length new_cuts ∷ []) (s + 1))) (start_stays s (omega arith))
      ∙ ap (slice_range new_cuts (slice_index starts s)) (start_stays (s + 1) (omega arith))
      ∙ ap (λ cs. slice_range cs (slice_index starts s) (slice_index starts (s + 1))) adds.cuts_are
      ∙ range_stays cuts adds.more (slice_index starts s) (slice_index starts (s + 1)) within

  cuts_last : cuts_at new_cuts (starts ++ length new_cuts ∷ []) n ≡ adds.more
  cuts_last =
      range_added cuts adds.more new_cuts (slice_index (starts ++ length new_cuts ∷ []) n) (slice_index (starts ++ length new_cuts ∷ []) (n + 1)) adds.cuts_are (start_stays n (omega arith) ∙ old.ends) start_last

  set_last : AreCutsOf task links new (covered ++ flag ∷ []) n adds.more
  set_last =
      let here : AreCutsOf task links new covered n adds.more = record {
        each = adds.each;
        all = λ a positive less may crossed. ∣ adds.all a positive less may crossed ∣₁;
      } in
      cuts_frame task links new [] new covered flag n adds.more (sym (append-nil new)) (omega (arith, old.covered_count)) here

  pub cuts_add : AreCuts task links new_cuts new (starts ++ length new_cuts ∷ []) (covered ++ flag ∷ []) (n + 1)
  cuts_add =
      record {
        starts_count = omega (arith, length_push starts (length new_cuts), old.starts_count);
        covered_count = omega (arith, length_push covered flag, old.covered_count);
        ends = start_last;
        rising = λ s h.
            elim (cases_lt s n) [
              | inl less ↦
                  let r = old.rising s less in
                  let a = start_stays s (omega arith) in
                  let b = start_stays (s + 1) (omega arith) in
                  (omega (arith, r.0), omega (arith, r.1, longer))
              | inr past ↦
                  let same : s ≡ n = omega arith in
                  let a : slice_index (starts ++ length new_cuts ∷ []) s ≡ length cuts = ap (slice_index (starts ++ length new_cuts ∷ [])) same ∙ start_stays n (omega arith) ∙ old.ends in
                  let b : slice_index (starts ++ length new_cuts ∷ []) (s + 1) ≡ length new_cuts = ap (λ t. slice_index (starts ++ length new_cuts ∷ []) (t + 1)) same ∙ start_last in
                  (omega (arith, longer), omega arith)
            ];
        sets = λ s h.
            elim (cases_lt s n) [
              | inl less ↦ subst (AreCutsOf task links new (covered ++ flag ∷ []) s) (sym (cuts_stay s less)) (cuts_frame task links merges adds.more_merges new covered flag s (cuts_at cuts starts s) adds.merges_are (omega (arith, old.covered_count)) (old.sets s less))
              | inr past ↦
                  let same : n ≡ s = omega arith in
                  subst (λ t. AreCutsOf task links new (covered ++ flag ∷ []) t (cuts_at new_cuts (starts ++ length new_cuts ∷ []) t)) same (subst (AreCutsOf task links new (covered ++ flag ∷ []) n) (sym cuts_last) set_last)
            ];
        slots = λ s one h within is.
            elim (cases_lt s n) [
              | inl less ↦ covered_stays covered flag s (omega (arith, old.covered_count)) ∙ old.slots s one less within is
              | inr past ↦ let same : s ≡ n = omega arith in ap (is_covered (covered ++ flag ∷ [])) same ∙ flag_last ∙ slot one within (is ∙ same)
            ];
        joined = λ s h off.
            elim (cases_lt s n) [
              | inl less ↦
                  start_stays s (omega arith) ∙ old.joined s less (sym (covered_stays covered flag s (omega (arith, old.covered_count))) ∙ off) ∙ sym (start_stays (s + 1) (omega arith))
              | inr past ↦
                  let same : s ≡ n = omega arith in
                  let unset : flag ≡ false = sym flag_last ∙ ap (is_covered (covered ++ flag ∷ [])) (sym same) ∙ off in
                  let a : slice_index (starts ++ length new_cuts ∷ []) s ≡ length cuts = ap (slice_index (starts ++ length new_cuts ∷ [])) same ∙ start_stays n (omega arith) ∙ old.ends in
                  let b : slice_index (starts ++ length new_cuts ∷ []) (s + 1) ≡ length new_cuts = ap (λ t. slice_index (starts ++ length new_cuts ∷ []) (t + 1)) same ∙ start_last in
                  elim (cases_lt (length cuts) (length new_cuts)) [
                    | inl more ↦ absurd (false≢true (sym unset ∙ some more))
                    | inr not_more ↦ omega (arith, longer)
                  ]
            ];
      }
