-- Laws of groups as the code holds them.
use Rattle.std.proofs.Common.{◌≡◌, ℕ, zero, suc, ◌+◌, ◌-◌, ◌<◌, ◌≤◌, Bool, true, false, if◌then◌else◌, List, [], ◌∷◌, ◌++◌, length, map, get_or, set, drop, refl, sym, ap, ◌∙◌, subst, arith}
use Rattle.std.specs.Prelude.{nat_le, fold, All}
use Rattle.std.specs.List.{enumerate_from}
use Rattle.std.proofs.lemmas.Bool.{and_parts}
use Rattle.std.proofs.lemmas.Bool.Decides.{nat_tests}
use Rattle.std.proofs.lemmas.List.{drop_all}
use Rattle.std.proofs.lemmas.List.Elements.{All-set}
use Rattle.adv_base.specs.declared.catalogue.Catalogue.{Catalogue}
use Rattle.adv_base.specs.declared.limits.TheConstants.{MOST_WEIGHT}
use Rattle.adv_base.specs.declared.workload.Statement.{Statement}
use Rattle.candidates.proofs.KnownLemmas.{drop_here}
use Rattle.workload_fold.specs.declared.gathered.Gathered.{Gathered}
use Rattle.workload_fold.specs.Alike.{is_alike}
use Rattle.workload_fold.specs.Groups.{Group, takes, heavier, begun, joined}
use Rattle.workload_fold.specs.inner.Gathering.{IsKept, plain_group, plain_groups, place_from}

-- the place is no earlier than where counting begins
place_least : (cat : Catalogue) (s : Statement) (n : ℕ) (gs : List Gathered) → n ≤ place_from cat s n gs
place_least cat s n [] = omega arith
place_least cat s n (g ∷ gs) = by_case (place_least cat s (n + 1) gs) (takes cat s (plain_group g))
  where
    by_case : n + 1 ≤ place_from cat s (n + 1) gs → (b : Bool) → n ≤ (if b then n else place_from cat s (n + 1) gs)
    by_case later true = omega arith
    by_case later false = omega (arith, later)

-- what stands at the place takes the statement, and the groups with it heavier are those that the statement joined
pub record TakenAt (cat : Catalogue) (s : Statement) (n : ℕ) (gs : List Gathered) (at : ℕ) (g : Gathered) : Type 0 where
  pub room : g.weight + s.weight ≤ MOST_WEIGHT
  pub joins : (v : Gathered) → plain_group v ≡ heavier (plain_group g) s.weight → plain_groups (set gs at v) ≡ joined cat (plain_groups gs) (n, s)

taken_from : (cat : Catalogue) (s : Statement) (n k : ℕ) (gs : List Gathered) (at : ℕ) (g : Gathered) → place_from cat s k gs ≡ k + at → at < length gs → g ≡ get_or gs at g → TakenAt cat s n gs at g
taken_from cat s n k [] at g is within own = absurd (omega (arith, within))
taken_from cat s n k (h ∷ gs) zero g is within own = by_case (place_least cat s (k + 1) gs) (takes cat s (plain_group h)) refl is
  where
    by_case : k + 1 ≤ place_from cat s (k + 1) gs → (b : Bool) → takes cat s (plain_group h) ≡ b → (if b then k else place_from cat s (k + 1) gs) ≡ k + 0 → TakenAt cat s n (h ∷ gs) 0 g
    by_case later false e at_k = absurd (omega (arith, later, at_k))
    by_case later true e at_k =
        let both = and_parts (nat_le (h.weight + s.weight) MOST_WEIGHT) (is_alike cat h.first.now.work s.work) e in
        let fits : nat_le (h.weight + s.weight) MOST_WEIGHT ≡ true = both.0 in
        let low : h.weight + s.weight ≤ MOST_WEIGHT = grind (arith, nat_tests) in
        let same : g.weight ≡ h.weight = ap (λ (x : Gathered). x.weight) own in
        record {
          room = omega (arith, low, same);
          joins = λ v heavy.
              (λ i. heavy i ∷ plain_groups gs)
              ∙ (λ i. heavier (plain_group (own i)) s.weight ∷ plain_groups gs)
              ∙ sym (ap (λ (b : Bool). if b then heavier (plain_group h) s.weight ∷ plain_groups gs else plain_group h ∷ joined cat (plain_groups gs) (n, s)) e);
        }
taken_from cat s n k (h ∷ gs) (suc at) g is within own =
    by_case (λ e. taken_from cat s n (k + 1) gs at g e (omega (arith, within)) own) (takes cat s (plain_group h)) refl is
  where
    by_case : (place_from cat s (k + 1) gs ≡ k + 1 + at → TakenAt cat s n gs at g) → (b : Bool) → takes cat s (plain_group h) ≡ b → (if b then k else place_from cat s (k + 1) gs) ≡ k + suc at → TakenAt cat s n (h ∷ gs) (suc at) g
    by_case later true e at_k = absurd (omega (arith, at_k))
    by_case later false e at_k =
        let rest = later (omega (arith, at_k)) in
        record {
          room = rest.room;
          joins = λ v heavy.
              (λ i. plain_group h ∷ rest.joins v heavy i)
              ∙ sym (ap (λ (b : Bool). if b then heavier (plain_group h) s.weight ∷ plain_groups gs else plain_group h ∷ joined cat (plain_groups gs) (n, s)) e);
        }

pub taken_at : (cat : Catalogue) (s : Statement) (n : ℕ) (gs : List Gathered) (at : ℕ) (g : Gathered) → at ≡ place_from cat s 0 gs → at < length gs → g ≡ get_or gs at g → TakenAt cat s n gs at g
taken_at cat s n gs at g is within own = let e : place_from cat s 0 gs ≡ 0 + at = omega (arith, is) in taken_from cat s n 0 gs at g e within own

-- where none takes it, the statement begins a group
untaken_from : (cat : Catalogue) (s : Statement) (n k : ℕ) (gs : List Gathered) (v : Gathered) → k + length gs ≤ place_from cat s k gs → plain_group v ≡ begun (n, s) → plain_groups (gs ++ v ∷ []) ≡ joined cat (plain_groups gs) (n, s)
untaken_from cat s n k [] v past is = λ i. is i ∷ []
untaken_from cat s n k (h ∷ gs) v past is = by_case (λ e. untaken_from cat s n (k + 1) gs v e is) (takes cat s (plain_group h)) refl past
  where
    by_case : (k + 1 + length gs ≤ place_from cat s (k + 1) gs → plain_groups (gs ++ v ∷ []) ≡ joined cat (plain_groups gs) (n, s)) → (b : Bool) → takes cat s (plain_group h) ≡ b
        → k + length (h ∷ gs) ≤ (if b then k else place_from cat s (k + 1) gs) → plain_groups ((h ∷ gs) ++ v ∷ []) ≡ joined cat (plain_groups (h ∷ gs)) (n, s)
    by_case later true e over = absurd (omega (arith, over))
    by_case later false e over =
        (λ i. plain_group h ∷ later (omega (arith, over)) i)
        ∙ sym (ap (λ (b : Bool). if b then heavier (plain_group h) s.weight ∷ plain_groups gs else plain_group h ∷ joined cat (plain_groups gs) (n, s)) e)

pub untaken : (cat : Catalogue) (s : Statement) (n : ℕ) (gs : List Gathered) (at : ℕ) (v : Gathered) → at ≡ place_from cat s 0 gs → length gs ≤ at → plain_group v ≡ begun (n, s) → plain_groups (gs ++ v ∷ []) ≡ joined cat (plain_groups gs) (n, s)
untaken cat s n gs at v is past same = untaken_from cat s n 0 gs v (omega (arith, is, past)) same

-- one statement more
pub groups_turn : (cat : Catalogue) (xs : List Statement) (i : ℕ) (x : Statement) (groups after total : List Group) → i < length xs → x ≡ get_or xs i x → after ≡ joined cat groups (i + 1, x)
    → fold (joined cat) groups (enumerate_from (i + 1) (drop i xs)) ≡ total → fold (joined cat) after (enumerate_from (i + 1 + 1) (drop (i + 1) xs)) ≡ total
groups_turn cat xs i x groups after total within is put so_far =
    ap (λ (gs : List Group). fold (joined cat) gs (enumerate_from (i + 1 + 1) (drop (i + 1) xs))) put
    ∙ sym (ap (λ (ys : List Statement). fold (joined cat) groups (enumerate_from (i + 1) ys)) (drop_here xs i x within is))
    ∙ so_far

-- what the code's groups tell is what the groups tell
pub numbers_plain : (gs : List Gathered) → map (λ g. g.number) gs ≡ map (λ g. g.number) (plain_groups gs)
numbers_plain [] = refl
numbers_plain (g ∷ gs) = let rest = numbers_plain gs in λ i. g.number ∷ rest i

pub weights_plain : (gs : List Gathered) → map (λ g. g.weight) gs ≡ map (λ g. g.weight) (plain_groups gs)
weights_plain [] = refl
weights_plain (g ∷ gs) = let rest = weights_plain gs in λ i. g.weight ∷ rest i

-- what is kept of each group is kept where one grows
pub kept_at : (cat : Catalogue) (gs after : List Gathered) (at : ℕ) (g v : Gathered) → All (IsKept cat) gs → at < length gs → g ≡ get_or gs at g → ((c : Catalogue) → IsKept c g → IsKept c v) → after ≡ set gs at v → All (IsKept cat) after
kept_at cat gs after at g v all within is keeps put =
    subst (All (IsKept cat)) (sym put) (All-set (IsKept cat) gs at v (keeps cat (subst (IsKept cat) (sym is) (all at g within))) all)

-- with none left they are all
pub groups_end : (cat : Catalogue) (xs : List Statement) (i : ℕ) (groups total : List Group) → length xs ≤ i → fold (joined cat) groups (enumerate_from (i + 1) (drop i xs)) ≡ total → groups ≡ total
groups_end cat xs i groups total past so_far =
    sym (ap (λ (ys : List Statement). fold (joined cat) groups (enumerate_from (i + 1) ys)) (drop_all i xs past)) ∙ so_far
