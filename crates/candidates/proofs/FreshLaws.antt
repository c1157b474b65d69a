-- Proposals that are known behind the indexes that exist are the fresh ones.
use Rattle.std.proofs.Common.{◌≡◌, ◌<◌, ◌≤◌, ◌==◌, Bool, true, false, ◌&&◌, ◌||◌, List, [], ◌∷◌, ◌++◌, length, map, get_or, refl, sym, ap, subst, ◌∙◌, arith}
use Rattle.std.specs.Prelude.{nat_eq, nat_lt, fold, All}
use Rattle.std.specs.List.{list_any, flat_map}
use Rattle.std.specs.Bool.{beq}
use Rattle.std.specs.Cmp.{IsEquivalence, bool_eq_equiv}
use Rattle.std.specs.Cmp.Lexicographic.{pointwise}
use Rattle.std.proofs.lemmas.Bool.{and_parts, or_parts}
use Rattle.std.proofs.lemmas.Bool.Decides.{nat_tests}
use Rattle.std.proofs.lemmas.Cmp.{nat_eq_equiv, nat_list_eq_equiv}
use Rattle.std.proofs.lemmas.List.{append_assoc, append-nil}
use Rattle.std.proofs.lemmas.List.Elements.{All-nil, All-head, All-tail, All-push, All-append, All-map}
use Rattle.std.proofs.lemmas.List.Folds.{list_any-append}
use Rattle.std.proofs.lemmas.Map.Steps.{list_any_congr}
use Rattle.adv_base.specs.declared.limits.TheConstants.{MOST_KEYS}
use Rattle.adv_base.specs.declared.catalogue.Catalogue.{Catalogue}
use Rattle.adv_base.specs.declared.catalogue.index.Index.{Index}
use Rattle.adv_base.specs.declared.workload.Statement.{Statement}
use Rattle.candidates.specs.Proposals.{Proposal, proposals}
use Rattle.candidates.specs.Candidates.{is_same, is_left_out, with_proposal, plain_form, existing_indexes, fresh_proposals}
use Rattle.candidates.proofs.KnownLemmas.{left_out-short, with_proposal-left, with_proposal-added}

or_false : (a : Bool) → (a || false) ≡ a
or_false true = refl
or_false false = refl

or_assoc : (a b c : Bool) → ((a || b) || c) ≡ (a || (b || c))
or_assoc true b c = refl
or_assoc false b c = refl

pub same_refl : (p : Proposal) → is_same p p ≡ true
same_refl p =
    let table = nat_eq_equiv.refl p.table in
    let keys = nat_list_eq_equiv.refl p.keys in
    let clustered = bool_eq_equiv.refl p.clustered in
    rw (table, keys, clustered)

same_symm : (p q : Proposal) → is_same p q ≡ is_same q p
same_symm p q =
    let table = nat_eq_equiv.symm p.table q.table in
    let keys = nat_list_eq_equiv.symm p.keys q.keys in
    let clustered = bool_eq_equiv.symm p.clustered q.clustered in
    rw (table, keys, clustered)

same_congr : (p q r : Proposal) → is_same p q ≡ true → is_same p r ≡ is_same q r
same_congr p q r h =
    let first = and_parts (p.table == q.table) (pointwise nat_eq p.keys q.keys && beq p.clustered q.clustered) h in
    let later = and_parts (pointwise nat_eq p.keys q.keys) (beq p.clustered q.clustered) first.1 in
    let table = nat_eq_equiv.congr p.table q.table r.table first.0 in
    let keys = nat_list_eq_equiv.congr p.keys q.keys r.keys later.0 in
    let clustered = bool_eq_equiv.congr p.clustered q.clustered r.clustered later.1 in
    rw (table, keys, clustered)

same_laws : IsEquivalence is_same
same_laws = record { refl = same_refl; symm = same_symm; congr = same_congr }

-- 1 to 8 columns
pub record Fits (p : Proposal) : Type 0 where
  pub some : 0 < length p.keys
  pub few : length p.keys ≤ MOST_KEYS

-- what isn't left out has 1 to 8 columns
pub left_out-fits : (existing before : List Proposal) (p : Proposal) → is_left_out existing before p ≡ false → Fits p
left_out-fits existing before p h =
    let a = or_parts ((length p.keys == 0 || nat_lt MOST_KEYS (length p.keys)) || list_any (is_same p) before) (list_any (is_same p) existing) h in
    let b = or_parts (length p.keys == 0 || nat_lt MOST_KEYS (length p.keys)) (list_any (is_same p) before) a.0 in
    let c = or_parts (length p.keys == 0) (nat_lt MOST_KEYS (length p.keys)) b.0 in
    let none = c.0 in
    let many = c.1 in
    record { some = grind (arith, nat_tests); few = grind (arith, nat_tests) }

-- a proposal that is added, or known already, is known
any-with_proposal : (q p : Proposal) (known : List Proposal) → Fits p → list_any (is_same q) (with_proposal [] known p) ≡ (list_any (is_same q) known || is_same q p)
any-with_proposal q p known fits = by_case (list_any (is_same p) known) refl
  where
    left : is_left_out [] known p ≡ (list_any (is_same p) known || false)
    left = left_out-short [] known p fits.some fits.few

    if_same : (s : Bool) → is_same q p ≡ s → list_any (is_same p) known ≡ true → list_any (is_same q) known ≡ (list_any (is_same q) known || s)
    if_same true e there = let k = list_any_congr same_laws q p known e ∙ there in rw k refl
    if_same false e there = sym (or_false (list_any (is_same q) known))

    by_case : (b : Bool) → list_any (is_same p) known ≡ b → list_any (is_same q) (with_proposal [] known p) ≡ (list_any (is_same q) known || is_same q p)
    by_case true there =
        ap (list_any (is_same q)) (with_proposal-left [] known p (left ∙ ap (λ (t : Bool). t || false) there))
        ∙ if_same (is_same q p) refl there
    by_case false new =
        ap (list_any (is_same q)) (with_proposal-added [] known p (left ∙ ap (λ (t : Bool). t || false) new))
        ∙ list_any-append (is_same q) known (p ∷ [])
        ∙ ap (λ (t : Bool). list_any (is_same q) known || t) (or_false (is_same q p))

-- what is known after some proposals were added
pub any-added : (q : Proposal) (known ps : List Proposal) → All Fits ps → list_any (is_same q) (fold (with_proposal []) known ps) ≡ (list_any (is_same q) known || list_any (is_same q) ps)
any-added q known [] fits = sym (or_false (list_any (is_same q) known))
any-added q known (p ∷ ps) fits =
    any-added q (with_proposal [] known p) ps (All-tail Fits p ps fits)
    ∙ ap (λ (t : Bool). t || list_any (is_same q) ps) (any-with_proposal q p known (All-head Fits p ps fits))
    ∙ or_assoc (list_any (is_same q) known) (is_same q p) (list_any (is_same q) ps)

regrouped : (x b k : Bool) → ((x || (b || k)) || false) ≡ ((x || k) || b)
regrouped true b k = refl
regrouped false true true = refl
regrouped false true false = refl
regrouped false false true = refl
regrouped false false false = refl

-- adding a proposal behind the indexes that exist is adding it to the fresh ones
with_proposal-behind : (existing base kept : List Proposal) (p : Proposal) → list_any (is_same p) base ≡ list_any (is_same p) existing
    → with_proposal [] (base ++ kept) p ≡ base ++ with_proposal existing kept p
with_proposal-behind existing base kept p agrees = by_case (is_left_out existing kept p) refl
  where
    left : is_left_out [] (base ++ kept) p ≡ is_left_out existing kept p
    left =
        ap (λ (t : Bool). ((length p.keys == 0 || nat_lt MOST_KEYS (length p.keys)) || t) || false) (list_any-append (is_same p) base kept)
        ∙ regrouped (length p.keys == 0 || nat_lt MOST_KEYS (length p.keys)) (list_any (is_same p) base) (list_any (is_same p) kept)
        ∙ ap (λ (t : Bool). ((length p.keys == 0 || nat_lt MOST_KEYS (length p.keys)) || list_any (is_same p) kept) || t) agrees

    by_case : (b : Bool) → is_left_out existing kept p ≡ b → with_proposal [] (base ++ kept) p ≡ base ++ with_proposal existing kept p
    by_case true e =
        with_proposal-left [] (base ++ kept) p (left ∙ e) ∙ ap (λ (ys : List Proposal). base ++ ys) (sym (with_proposal-left existing kept p e))
    by_case false e =
        with_proposal-added [] (base ++ kept) p (left ∙ e) ∙ append_assoc base kept (p ∷ [])
        ∙ ap (λ (ys : List Proposal). base ++ ys) (sym (with_proposal-added existing kept p e))

pub known-behind : (existing base kept ps : List Proposal) → ((q : Proposal) → list_any (is_same q) base ≡ list_any (is_same q) existing)
    → fold (with_proposal []) (base ++ kept) ps ≡ base ++ fold (with_proposal existing) kept ps
known-behind existing base kept [] agrees = refl
known-behind existing base kept (p ∷ ps) agrees =
    ap (λ (known : List Proposal). fold (with_proposal []) known ps) (with_proposal-behind existing base kept p (agrees p))
    ∙ known-behind existing base (with_proposal existing kept p) ps agrees

-- what holds of each proposal of 1 to 8 columns holds of the fresh ones
pub All-fresh : (P : Proposal → Type 0) (existing kept ps : List Proposal) → All P kept → All (λ p. Fits p → P p) ps → All P (fold (with_proposal existing) kept ps)
All-fresh P existing kept [] before each = before
All-fresh P existing kept (p ∷ ps) before each =
    All-fresh P existing (with_proposal existing kept p) ps (one (is_left_out existing kept p) refl) (All-tail (λ p'. Fits p' → P p') p ps each)
  where
    one : (b : Bool) → is_left_out existing kept p ≡ b → All P (with_proposal existing kept p)
    one true e = subst (All P) (sym (with_proposal-left existing kept p e)) before
    one false e = subst (All P) (sym (with_proposal-added existing kept p e)) (All-push P kept p before (All-head (λ p'. Fits p' → P p') p ps each (left_out-fits existing kept p e)))

-- what holds of each list that a function gives
pub All-flat_map : {X Y : Type 0} (P : Y → Type 0) (f : X → List Y) (xs : List X) → All (λ x. All P (f x)) xs → All P (flat_map f xs)
All-flat_map P f [] each = All-nil P
All-flat_map P f (x ∷ xs) each =
    All-append P (f x) (flat_map f xs) (All-head (λ y. All P (f y)) x xs each) (All-flat_map P f xs (All-tail (λ y. All P (f y)) x xs each))

-- the keys of an index that exists have 1 to 8 columns
existing-fits : (cat : Catalogue) → All Fits (existing_indexes cat)
unfolding existing_indexes
existing-fits cat =
    All-flat_map Fits (λ table. map (λ index. plain_form index.shape) table.indexes) cat.tables
    (λ t table within. All-map Fits (λ (index : Index). plain_form index.shape) (get_or cat.tables t table).indexes
    (λ i index below. let shape = (get_or (get_or cat.tables t table).indexes i index).shape in record { some = shape.limits.some; few = shape.limits.few }))

-- what is known once they are is what exists
pub base-agrees : (cat : Catalogue) (base : List Proposal) → base ≡ fold (with_proposal []) [] (existing_indexes cat)
    → (q : Proposal) → list_any (is_same q) base ≡ list_any (is_same q) (existing_indexes cat)
base-agrees cat base first q = ap (list_any (is_same q)) first ∙ any-added q [] (existing_indexes cat) (existing-fits cat)

-- behind the indexes that exist stand the fresh proposals
pub known-fresh : (cat : Catalogue) (statements : List Statement) (base known : List Proposal) → base ≡ fold (with_proposal []) [] (existing_indexes cat)
    → known ≡ fold (with_proposal []) base (proposals cat statements) → known ≡ base ++ fresh_proposals cat statements
unfolding fresh_proposals
known-fresh cat statements base known first then =
    let agrees = base-agrees cat base first in
    then ∙ ap (λ (b : List Proposal). fold (with_proposal []) b (proposals cat statements)) (sym (append-nil base))
    ∙ known-behind (existing_indexes cat) base [] (proposals cat statements) agrees
