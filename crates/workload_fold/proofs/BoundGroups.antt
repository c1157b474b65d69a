-- Statements bound one by one, and the groups of those that were bound.
use Rattle.std.proofs.Common.{◌≡◌, ℕ, ◌+◌, ◌-◌, ◌≤◌, Bool, true, false, if◌then◌else◌, List, [], ◌∷◌, ◌++◌, length, Result, Ok, refl, sym, ap, ◌∙◌, append_assoc, append-nil, arith}
use Rattle.std.specs.Prelude.{nat_le, fold, slice_get}
use Rattle.std.specs.List.{enumerate_from}
use Rattle.std.proofs.lemmas.Bool.{and_parts, leb-true}
use Rattle.std.proofs.lemmas.Bool.Decides.{nat_tests}
use Rattle.adv_base.specs.declared.catalogue.Catalogue.{Catalogue}
use Rattle.adv_base.specs.declared.limits.TheConstants.{MOST_WEIGHT, MOST_SLOTS_IN_ALL}
use Rattle.adv_base.specs.declared.workload.Statement.{Statement}
use Rattle.adv_base.specs.Readings.{◌>>=◌, where_holds, in_turn}
use Rattle.sql_reader.specs.declared.parsed.ParsedStatement.{ParsedStatement}
use Rattle.binder.specs.declared.fault.BindFault.{BindFault}
use Rattle.binder.specs.declared.fault.BindFault.TheVariants.{TooManySlotsInAll}
use Rattle.binder.specs.Plain.{PlainWork, PlainStatement, plain_work, plain_statements}
use Rattle.binder.specs.Statements.{work_of, PlainBound, slot_count, counted_work, with_statement}
use Rattle.binder.proofs.Readings.{bind_ok, where_ok, ok_is}
use Rattle.workload_fold.specs.Alike.{is_alike}
use Rattle.workload_fold.specs.Groups.{Group, takes, heavier, joined, groups_of}
use Rattle.workload_fold.specs.Pairs.{Pairs}
use Rattle.workload_fold.proofs.Numbered.{AreNumbered, all_numbered}
use Rattle.workload_fold.proofs.TokensAhead.{Each}

-- ## Binding one statement

abbrev pub bound_with : PlainBound → ℕ → PlainWork → PlainBound
bound_with a weight work = record { slots = a.slots + slot_count work; statements = a.statements ++ (record { weight = weight; work = work }) ∷ [] }

-- what a statement means, where it is bound behind others
pub record StepBound (cat : Catalogue) (text : List ℕ) (a : PlainBound) (s : ParsedStatement) (b : PlainBound) : Type 0 where
  pub work : PlainWork
  pub means : work_of cat text s.place s.body ≡ Ok work
  pub few : a.slots + slot_count work ≤ MOST_SLOTS_IN_ALL
  pub after : b ≡ bound_with a s.weight work

step_bound : (cat : Catalogue) (text : List ℕ) (a : PlainBound) (s : ParsedStatement) (b : PlainBound) → with_statement cat text a s ≡ Ok b → StepBound cat text a s b
unfolding with_statement counted_work
step_bound cat text a s b e =
    let counted = bind_ok (counted_work cat text a.slots s) (λ (c : PlainWork × ℕ). Ok (record { slots = c.1; statements = a.statements ++ (record { weight = s.weight; work = c.0 }) ∷ [] })) b e in
    let work = bind_ok (work_of cat text s.place s.body) (λ (w : PlainWork). where_holds (TooManySlotsInAll s.place) (nat_le (a.slots + slot_count w) MOST_SLOTS_IN_ALL) (w, a.slots + slot_count w)) counted.0 counted.1 in
    let w : PlainWork = work.0 in
    let held = where_ok (TooManySlotsInAll s.place) (nat_le (a.slots + slot_count w) MOST_SLOTS_IN_ALL) (w, a.slots + slot_count w) counted.0 work.2 in
    record {
      work = w;
      means = work.1;
      few = leb-true (a.slots + slot_count w) MOST_SLOTS_IN_ALL held.0;
      after = sym (ok_is (record { slots = counted.0.1; statements = a.statements ++ (record { weight = s.weight; work = counted.0.0 }) ∷ [] }) b counted.2)
          ∙ sym (ap (λ (c : PlainWork × ℕ). record { slots = c.1; statements = a.statements ++ (record { weight = s.weight; work = c.0 }) ∷ [] }) held.1);
    }

abbrev bound_ok : PlainBound → Result PlainBound BindFault
bound_ok b = Ok b

step_given : (cat : Catalogue) (text : List ℕ) (a : PlainBound) (s : ParsedStatement) (work : PlainWork) → work_of cat text s.place s.body ≡ Ok work → a.slots + slot_count work ≤ MOST_SLOTS_IN_ALL
    → with_statement cat text a s ≡ bound_ok (bound_with a s.weight work)
unfolding with_statement counted_work
step_given cat text a s work means few =
    let fits : nat_le (a.slots + slot_count work) MOST_SLOTS_IN_ALL ≡ true = grind (arith, nat_tests) in
    rw means (rw fits refl)

-- ## Binding all

-- a statement means this
abbrev pub Means : Catalogue → List ℕ → ParsedStatement → PlainStatement → Type 0
Means cat text s x = (x.weight ≡ s.weight) × (work_of cat text s.place s.body ≡ Ok x.work)

abbrev pub slots_in : List PlainStatement → ℕ
slots_in [] = 0
slots_in (x ∷ xs) = slot_count x.work + slots_in xs

pub record AllBound (cat : Catalogue) (text : List ℕ) (a : PlainBound) (xs : List ParsedStatement) (b : PlainBound) : Type 0 where
  pub new : List PlainStatement
  pub mean : Pairs (Means cat text) xs new
  pub all : b.statements ≡ a.statements ++ new
  pub count : b.slots ≡ a.slots + slots_in new
  pub few : b.slots ≤ MOST_SLOTS_IN_ALL

pub all_bound : (cat : Catalogue) (text : List ℕ) (xs : List ParsedStatement) (a b : PlainBound) → a.slots ≤ MOST_SLOTS_IN_ALL → in_turn (with_statement cat text) a xs ≡ bound_ok b → AllBound cat text a xs b
all_bound cat text [] a b low e =
    let same : a ≡ b = ok_is a b e in
    let slots : a.slots ≡ b.slots = ap (λ (x : PlainBound). x.slots) same in
    record { new = []; mean = tt; all = ap (λ (x : PlainBound). x.statements) (sym same) ∙ sym (append-nil a.statements); count = omega (arith, slots); few = omega (arith, slots, low) }
all_bound cat text (s ∷ xs) a b low e =
    let first = bind_ok (with_statement cat text a s) (λ (u : PlainBound). in_turn (with_statement cat text) u xs) b e in
    let m : PlainBound = first.0 in
    let one = step_bound cat text a s m first.1 in
    let slots : m.slots ≡ a.slots + slot_count one.work = ap (λ (x : PlainBound). x.slots) one.after in
    let rest = all_bound cat text xs m b (omega (arith, slots, one.few)) first.2 in
    let new : PlainStatement = record { weight = s.weight; work = one.work } in
    record {
      new = new ∷ rest.new;
      mean = ((refl, one.means), rest.mean);
      all = rest.all ∙ ap (λ (x : PlainBound). x.statements ++ rest.new) one.after ∙ append_assoc a.statements (new ∷ []) rest.new;
      count = omega (arith, rest.count, slots);
      few = rest.few;
    }

with_slots : ℕ → List PlainStatement → Result PlainBound BindFault
with_slots n xs = Ok (record { slots = n; statements = xs })

pub all_given : (cat : Catalogue) (text : List ℕ) (xs : List ParsedStatement) (new : List PlainStatement) (a : PlainBound) → Pairs (Means cat text) xs new → a.slots + slots_in new ≤ MOST_SLOTS_IN_ALL
    → in_turn (with_statement cat text) a xs ≡ bound_ok (record { slots = a.slots + slots_in new; statements = a.statements ++ new })
unfolding with_slots
all_given cat text [] [] a mean few =
    let slots : a.slots ≡ a.slots + 0 = omega arith in
    (λ i. with_slots (slots i) (sym (append-nil a.statements) i))
all_given cat text [] (x ∷ new) a mean few = absurd mean
all_given cat text (s ∷ xs) [] a mean few = absurd mean
all_given cat text (s ∷ xs) (x ∷ new) a mean few =
    let m : PlainBound = bound_with a s.weight x.work in
    let rest = all_given cat text xs new m mean.1 (omega (arith, few)) in
    let slots : a.slots + slot_count x.work + slots_in new ≡ a.slots + (slot_count x.work + slots_in new) = omega arith in
    let one : with_statement cat text a s ≡ bound_ok m = step_given cat text a s x.work mean.0.1 (omega (arith, few)) in
    ap (λ (r : Result PlainBound BindFault). r >>= λ u. in_turn (with_statement cat text) u xs) one
    ∙ rest
    ∙ (λ i. with_slots (slots i) (append_assoc a.statements ((record { weight = s.weight; work = x.work }) ∷ []) new i))
    ∙ ap (λ (w : ℕ). with_slots (a.slots + (slot_count x.work + slots_in new)) (a.statements ++ (record { weight = w; work = x.work }) ∷ new)) (sym mean.0.0)

-- ## Groups of statements

-- a group has a weight
abbrev pub IsWeighted : Group → Type 0
IsWeighted g = (1 ≤ g.weight) × (g.weight ≤ MOST_WEIGHT)

abbrev pub group_slots : List Group → ℕ
group_slots [] = 0
group_slots (g ∷ gs) = slot_count (plain_work g.first.work) + group_slots gs

joined_weighted : (cat : Catalogue) (gs : List Group) (n : ℕ) (s : Statement) → Each IsWeighted gs → Each IsWeighted (joined cat gs (n, s))
joined_weighted cat [] n s are = ((s.limits.weight_least, s.limits.weight_most), tt)
joined_weighted cat (g ∷ gs) n s are = by_case (joined_weighted cat gs n s are.1) (takes cat s g) refl
  where
    by_case : Each IsWeighted (joined cat gs (n, s)) → (b : Bool) → takes cat s g ≡ b → Each IsWeighted (if b then heavier g s.weight ∷ gs else g ∷ joined cat gs (n, s))
    by_case later true e =
        let fits = leb-true (g.weight + s.weight) MOST_WEIGHT (and_parts (nat_le (g.weight + s.weight) MOST_WEIGHT) (is_alike cat g.first.work s.work) e).0 in
        let own = are.0.0 in
        ((omega (arith, own), fits), are.1)
    by_case later false e = (are.0, later)

joined_fewer : (cat : Catalogue) (gs : List Group) (n : ℕ) (s : Statement) → (length (joined cat gs (n, s)) ≤ length gs + 1) × (group_slots (joined cat gs (n, s)) ≤ group_slots gs + slot_count (plain_work s.work))
joined_fewer cat [] n s = (omega arith, omega arith)
joined_fewer cat (g ∷ gs) n s = by_case (joined_fewer cat gs n s) (takes cat s g)
  where
    by_case : (length (joined cat gs (n, s)) ≤ length gs + 1) × (group_slots (joined cat gs (n, s)) ≤ group_slots gs + slot_count (plain_work s.work)) → (b : Bool) →
        (length (if b then heavier g s.weight ∷ gs else g ∷ joined cat gs (n, s)) ≤ length (g ∷ gs) + 1)
        × (group_slots (if b then heavier g s.weight ∷ gs else g ∷ joined cat gs (n, s)) ≤ group_slots (g ∷ gs) + slot_count (plain_work s.work))
    by_case (many, slots) true = (omega arith, omega arith)
    by_case (many, slots) false = (omega (arith, many), omega (arith, slots))

all_weighted : (cat : Catalogue) (gs : List Group) (i : ℕ) (xs : List Statement) → Each IsWeighted gs → Each IsWeighted (fold (joined cat) gs (enumerate_from i xs))
all_weighted cat gs i [] are = are
all_weighted cat gs i (x ∷ xs) are = all_weighted cat (joined cat gs (i, x)) (i + 1) xs (joined_weighted cat gs i x are)

all_fewer : (cat : Catalogue) (gs : List Group) (i : ℕ) (xs : List Statement) → (length (fold (joined cat) gs (enumerate_from i xs)) ≤ length gs + length xs)
    × (group_slots (fold (joined cat) gs (enumerate_from i xs)) ≤ group_slots gs + slots_in (plain_statements xs))
all_fewer cat gs i [] = (omega arith, omega arith)
all_fewer cat gs i (x ∷ xs) =
    let one = joined_fewer cat gs i x in
    let rest = all_fewer cat (joined cat gs (i, x)) (i + 1) xs in
    let many = one.0 in
    let slots = one.1 in
    let later_many = rest.0 in
    let later_slots = rest.1 in
    (omega (arith, many, later_many), omega (arith, slots, later_slots))

-- what is known of the groups of statements
pub record GoodGroups (cat : Catalogue) (statements : List Statement) (gs : List Group) : Type 0 where
  pub numbered : AreNumbered statements gs
  pub weighted : Each IsWeighted gs
  pub few : length gs ≤ length statements
  pub slots : group_slots gs ≤ slots_in (plain_statements statements)

pub good_groups : (cat : Catalogue) (statements : List Statement) → GoodGroups cat statements (groups_of cat statements)
unfolding groups_of
good_groups cat statements =
    let fewer = all_fewer cat [] 1 statements in
    let many = fewer.0 in
    let slots = fewer.1 in
    record {
      numbered = all_numbered cat statements [] 0 statements (λ k. (let same : 0 + k ≡ k = omega arith in ap (slice_get statements) (sym same))) tt;
      weighted = all_weighted cat [] 1 statements tt;
      few = omega (arith, many);
      slots = omega (arith, slots);
    }
