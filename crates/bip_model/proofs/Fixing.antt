-- Fixing never lowers the Lagrangian value: a side of a branch has no more candidates to rent than its node.
use Rattle.std.proofs.Common.{◌≡◌, ◌∙◌, ◌⊎◌, inl, inr, ℕ, zero, suc, ◌+◌, ◌-◌, ◌*◌, ◌≤◌, Bool, true, false, cond, not, ◌||◌, List, [], ◌∷◌, ◌++◌, map, ℤ, pos, negsuc, refl, sym, ap, subst, arith}
use Rattle.std.specs.Prelude.{Option, Some, None, if◌then◌else◌, filter, nat_le, slice_get, ◌≤ℤ◌}
use Rattle.std.specs.Option.{option_map_or}
use Rattle.std.proofs.Math.Nat.{mul-le-mul}
use Rattle.std.proofs.lemmas.Bool.{cases_Bool, false≢true, or_cases, and_parts, and_from, not-true}
use Rattle.std.proofs.lemmas.Bool.Decides.{nat_tests}
use Rattle.std.proofs.lemmas.Option.{slice_get_cases, slice_get_within}
use Rattle.adv_base.specs.declared.catalogue.Catalogue.{Catalogue}
use Rattle.adv_base.specs.declared.catalogue.index.IndexShape.{IndexShape}
use Rattle.adv_base.specs.declared.catalogue.table.Table.{Table}
use Rattle.adv_base.specs.declared.setting.Config.{Config}
use Rattle.adv_base.specs.declared.workload.Statement.{Statement}
use Rattle.adv_base.specs.declared.workload.Work.{Work}
use Rattle.adv_base.specs.declared.workload.Work.TheVariants.{Select, Update, Delete, Insert}
use Rattle.adv_base.specs.declared.workload.block.Block.{Block}
use Rattle.adv_base.specs.declared.workload.parts.Slot.{Slot}
use Rattle.adv_base.specs.Configs.{has_candidate, config_pages, candidate_pages}
use Rattle.adv_base.specs.Laws.{IsRent}
use Rattle.adv_base.specs.Lookups.{table_at}
use Rattle.adv_base.specs.Nodes as nodes
use Rattle.adv_base.specs.Nodes.{is_free, is_open, is_available, available}
use Rattle.adv_base.specs.Offers.{Offer, Heap, Existing, candidate_path, numbered_on, paths_on, charged_path_offer, charged_offers_on, charged_offers_of, charged_offers}
use Rattle.adv_base.specs.Settings.{TheSetting}
use Rattle.adv_base.proofs.OfferBounds.{charged-limits}
use Rattle.plan_model.specs.declared.task.Task.{Task}
use Rattle.plan_model.specs.Comparisons.{HasOffersOf}
use Rattle.plan_model.specs.Least.{Least}
use Rattle.plan_model.specs.Lagrangian.{TheMultipliers, IsRentedCost, IsRentedPlan, AreRentedPlans, IsWithin, weighted_kept, candidate_cost, candidate_rents, costs_inside, earnings, IsRoundedUp, IsLagrangian}
use Rattle.plan_model.specs.Totals.{weighted_sum}
use Rattle.plan_model.proofs.Comparing.{added-never-raises}
use Rattle.plan_model.proofs.Unique.{one-task}
use Rattle.bip_model.specs.StandsFor.{candidates_on}
use Rattle.bip_model.specs.Trees.{with_candidate, in_side, out_side, IsBranch}
use Rattle.bip_model.proofs.Showing.{with_candidate-has, with_candidate-keeps, true-config_of, pages-more}
use Rattle.bip_model.proofs.Standing.{chosen-on}
use lib.Dec.{le→leb}

-- ## Fewer candidates, fewer offers

-- an element of a list
pub record Has {X : Type 0} (xs : List X) (x : X) : Type 0 where
  pub number : ℕ
  pub found : slice_get xs number ≡ Some x

has-later : {X : Type 0} (y : X) (ys : List X) (x : X) → Has ys x → Has (y ∷ ys) x
has-later y ys x h = record { number = suc h.number; found = h.found }

-- what passes the one test passes the other
filter-more : {X : Type 0} (few many : X → Bool) → ((x : X) → few x ≡ true → many x ≡ true) → (xs : List X) (x : X) → Has (filter few xs) x → Has (filter many xs) x
filter-more few many more [] x h = absurd (cc)
filter-more {X} few many more (y ∷ ys) x h =
    elim (cases_Bool (few y)) [
      | inl passes ↦
          let kept : Has (y ∷ filter few ys) x = subst (λ (b : Bool). Has (cond b (y ∷ filter few ys) (filter few ys)) x) passes h in
          subst (λ (b : Bool). Has (cond b (y ∷ filter many ys) (filter many ys)) x) (sym (more y passes)) (first kept (λ g. filter-more few many more ys x g))
      | inr fails ↦
          let kept : Has (filter few ys) x = subst (λ (b : Bool). Has (cond b (y ∷ filter few ys) (filter few ys)) x) fails h in
          let rest : Has (filter many ys) x = filter-more few many more ys x kept in
          put (many y) rest
    ]
  where
    first : Has (y ∷ filter few ys) x → (Has (filter few ys) x → Has (filter many ys) x) → Has (y ∷ filter many ys) x
    first h rest = at' h.number h.found
      where
        at' : (i : ℕ) → slice_get (y ∷ filter few ys) i ≡ Some x → Has (y ∷ filter many ys) x
        at' zero found = record { number = 0; found = found }
        at' (suc i) found = has-later y (filter many ys) x (rest (record { number = i; found = found }))

    put : (b : Bool) → Has (filter many ys) x → Has (cond b (y ∷ filter many ys) (filter many ys)) x
    put true rest = has-later y (filter many ys) x rest
    put false rest = rest

-- what a mapped list has comes of an element
pub record IsImage {X Y : Type 0} (f : X → Y) (xs : List X) (y : Y) : Type 0 where
  pub element : X
  pub has : Has xs element
  pub is : f element ≡ y

pub image-of : {X Y : Type 0} (f : X → Y) (xs : List X) (i : ℕ) (y : Y) → slice_get (map f xs) i ≡ Some y → IsImage f xs y
image-of f [] i y found = absurd (cc)
image-of f (x ∷ xs) zero y found = record { element = x; has = record { number = 0; found = refl }; is = cc }
image-of f (x ∷ xs) (suc i) y found = let rest = image-of f xs i y found in record { element = rest.element; has = has-later x xs rest.element rest.has; is = rest.is }

pub mapped-at : {X Y : Type 0} (f : X → Y) (xs : List X) (i : ℕ) (x : X) → slice_get xs i ≡ Some x → slice_get (map f xs) i ≡ Some (f x)
mapped-at f [] i x found = absurd (cc)
mapped-at f (z ∷ zs) zero x found = let same : z ≡ x = cc in ap (λ w. Some (f w)) same
mapped-at f (z ∷ zs) (suc i) x found = mapped-at f zs i x found

map-has : {X Y : Type 0} (f : X → Y) (few many : List X) → ((x : X) → Has few x → Has many x) → (y : Y) → Has (map f few) y → Has (map f many) y
map-has f few many more y h =
    let image = image-of f few h.number y h.found in
    let there = more image.element image.has in
    record { number = there.number; found = mapped-at f many there.number image.element there.found ∙ ap Some image.is }

append-has : {X : Type 0} (front few many : List X) → ((x : X) → Has few x → Has many x) → (x : X) → Has (front ++ few) x → Has (front ++ many) x
append-has [] few many more x h = more x h
append-has (y ∷ front) few many more x h = at' h.number h.found (λ g. append-has front few many more x g)
  where
    at' : (i : ℕ) → slice_get (y ∷ front ++ few) i ≡ Some x → (Has (front ++ few) x → Has (front ++ many) x) → Has (y ∷ front ++ many) x
    at' zero found rest = record { number = 0; found = found }
    at' (suc i) found rest = has-later y (front ++ many) x (rest (record { number = i; found = found }))

numbered-more : (shapes : List IndexShape) (few many : Config) (t : ℕ) → IsWithin few many → (n : ℕ × IndexShape) → Has (numbered_on shapes few t) n → Has (numbered_on shapes many t) n
numbered-more shapes few many t within n h =
    subst (λ (ns : List (ℕ × IndexShape)). Has ns n) (chosen-on shapes many t)
    (filter-more (λ (m : ℕ × IndexShape). has_candidate few m.0) (λ m. has_candidate many m.0) (λ m on. within m.0 on) (candidates_on shapes t) n
    (subst (λ (ns : List (ℕ × IndexShape)). Has ns n) (sym (chosen-on shapes few t)) h))

charged-on : (rent : ℕ → ℕ → ℕ) (cat : Catalogue) (block : Block) (shapes : List IndexShape) (few many : Config) (s : ℕ) (slot : Slot) (table : Option Table) → IsWithin few many →
    (offer : Offer) → Has (charged_offers_on rent cat block shapes few s slot table) offer → Has (charged_offers_on rent cat block shapes many s slot table) offer
charged-on rent cat block shapes few many s slot None within offer h = h
charged-on rent cat block shapes few many s slot (Some table) within offer h =
    map-has (charged_path_offer rent cat block s slot table) (paths_on shapes few slot.table table) (paths_on shapes many slot.table table)
    (λ path there. append-has (Heap ∷ map Existing table.indexes) (map candidate_path (numbered_on shapes few slot.table)) (map candidate_path (numbered_on shapes many slot.table))
    (λ p in_few. map-has candidate_path (numbered_on shapes few slot.table) (numbered_on shapes many slot.table) (numbered-more shapes few many slot.table within) p in_few) path there)
    offer h

charged-of : (rent : ℕ → ℕ → ℕ) (cat : Catalogue) (block : Block) (shapes : List IndexShape) (few many : Config) (s : ℕ) (slot : Option Slot) → IsWithin few many →
    (offer : Offer) → Has (charged_offers_of rent cat block shapes few s slot) offer → Has (charged_offers_of rent cat block shapes many s slot) offer
charged-of rent cat block shapes few many s None within offer h = h
charged-of rent cat block shapes few many s (Some slot) within offer h = charged-on rent cat block shapes few many s slot (table_at cat slot.table) within offer h

charged-more : (rent : ℕ → ℕ → ℕ) (cat : Catalogue) (block : Block) (shapes : List IndexShape) (few many : Config) (task : Task) → IsWithin few many →
    HasOffersOf task (charged_offers rent cat block shapes few) (charged_offers rent cat block shapes many)
unfolding charged_offers
charged-more rent cat block shapes few many task within s number below inside =
    let old : List Offer = charged_offers_of rent cat block shapes few s (slice_get block.slots s) in
    let new : List Offer = charged_offers_of rent cat block shapes many s (slice_get block.slots s) in
    elim (slice_get_cases old number).1 [
      | inl there ↦
          let offer : Offer = there.0 in
          let has = charged-of rent cat block shapes few many s (slice_get block.slots s) within offer (record { number = number; found = there.2 }) in
          record {
            number = has.number;
            within = slice_get_within new has.number offer has.found;
            order_is = ap (λ (o : Option Offer). option_map_or (λ x. x.0) o []) has.found ∙ sym (ap (λ (o : Option Offer). option_map_or (λ x. x.0) o []) there.2);
            price_is = ap (λ (o : Option Offer). option_map_or (λ x. x.1) o 0) has.found ∙ sym (ap (λ (o : Option Offer). option_map_or (λ x. x.1) o 0) there.2);
          }
      | inr past ↦ absurd (omega (arith, past.0, inside))
    ]

-- ## So least costs with rents never fall

pub rented-more : (setting : TheSetting) (few many : Config) (rent : ℕ → ℕ → ℕ) (block : Block) (more less : ℕ) → IsRent rent → IsWithin few many →
    IsRentedCost setting few rent block more → IsRentedCost setting many rent block less → less ≤ more
rented-more setting few many rent block more less limit within a b =
    let same : a.task ≡ b.task = one-task setting.cat block a.task b.task a.task_is b.task_is in
    let least : Least b.task (charged_offers rent setting.cat block setting.shapes few) more = subst (λ (t : Task). Least t (charged_offers rent setting.cat block setting.shapes few) more) same a.least in
    added-never-raises b.task (charged_offers rent setting.cat block setting.shapes few) (charged_offers rent setting.cat block setting.shapes many) more less
    (charged-limits rent limit setting.cat block setting.shapes few) (charged-more rent setting.cat block setting.shapes few many b.task within) least b.least

plan-more : (setting : TheSetting) (few many : Config) (rent : ℕ → ℕ → ℕ) (work : Work) (more less : ℕ) → IsRent rent → IsWithin few many →
    IsRentedPlan setting few rent work more → IsRentedPlan setting many rent work less → less ≤ more
plan-more setting few many rent (Select block) more less limit within a b = rented-more setting few many rent block more less limit within a b
plan-more setting few many rent (Update block columns) more less limit within a b = rented-more setting few many rent block more less limit within a b
plan-more setting few many rent (Delete block) more less limit within a b = rented-more setting few many rent block more less limit within a b
plan-more setting few many rent (Insert table rows) more less limit within a b = omega (arith, a, b)

plans-more : (setting : TheSetting) (few many : Config) (rent : ℕ → ℕ → ℕ → ℕ) (q : ℕ) (statements : List Statement) (more less : List ℕ) → ((k : ℕ) → IsRent (rent k)) → IsWithin few many →
    AreRentedPlans setting few rent q statements more → AreRentedPlans setting many rent q statements less → weighted_sum statements less ≤ weighted_sum statements more
plans-more setting few many rent q [] [] [] limit within a b = omega arith
plans-more setting few many rent q [] [] (y ∷ ys) limit within a b = absurd b
plans-more setting few many rent q [] (x ∷ xs) less limit within a b = absurd a
plans-more setting few many rent q (statement ∷ statements) [] less limit within a b = absurd a
plans-more setting few many rent q (statement ∷ statements) (x ∷ xs) [] limit within a b = absurd b
plans-more setting few many rent q (statement ∷ statements) (x ∷ xs) (y ∷ ys) limit within a b =
    let here : y ≤ x = plan-more setting few many (rent q) statement.work x y (limit q) within a.0 b.0 in
    let rest : weighted_sum statements ys ≤ weighted_sum statements xs = plans-more setting few many rent (suc q) statements xs ys limit within a.1 b.1 in
    let self : statement.weight ≤ statement.weight = omega arith in
    let weighted : statement.weight * y ≤ statement.weight * x = mul-le-mul self here in
    omega (arith, weighted, rest)

-- ## A narrower node

-- all that is in stays in; what comes in was open; what is open was so
pub record IsNarrower (setting : TheSetting) (budget : ℕ) (node other : nodes.Node) : Type 0 where
  pub keeps : (k : ℕ) → has_candidate node.inside k ≡ true → has_candidate other.inside k ≡ true
  pub added : (k : ℕ) → has_candidate other.inside k ≡ true → has_candidate node.inside k ≡ false → is_open setting.cat setting.shapes budget node k ≡ true
  pub opens : (k : ℕ) → is_open setting.cat setting.shapes budget other k ≡ true → is_open setting.cat setting.shapes budget node k ≡ true

from-either : (a b : Bool) → (a ≡ true) ⊎ (b ≡ true) → (a || b) ≡ true
from-either true b h = refl
from-either false b h = elim h [ inl a ↦ absurd (false≢true a) | inr is ↦ is ]

narrower-available : (setting : TheSetting) (budget : ℕ) (node other : nodes.Node) → IsNarrower setting budget node other →
    IsWithin (available setting.cat setting.shapes budget other) (available setting.cat setting.shapes budget node)
narrower-available setting budget node other is k on =
    true-config_of (is_available setting.cat setting.shapes budget other) (is_available setting.cat setting.shapes budget node) k on
    (λ there.
    from-either (has_candidate node.inside k) (is_open setting.cat setting.shapes budget node k)
    (elim (or_cases (has_candidate other.inside k) (is_open setting.cat setting.shapes budget other k) there) [
      | inl inside ↦
          elim (cases_Bool (has_candidate node.inside k)) [
            | inl old ↦ inl old
            | inr new ↦ inr (is.added k inside new)
          ]
      | inr open' ↦ inr (is.opens k open')
    ]))

one-candidate : (in_n open_n in_o open_o : Bool) (cost rents : ℕ) → (in_n ≡ true → in_o ≡ true) → (in_o ≡ true → in_n ≡ false → open_n ≡ true) → (open_o ≡ true → open_n ≡ true) →
    (if in_n then cost else 0) + (if in_o then rents else if open_o then rents - cost else 0) ≤ (if in_o then cost else 0) + (if in_n then rents else if open_n then rents - cost else 0)
one-candidate true open_n true open_o cost rents keeps added opens = omega arith
one-candidate true open_n false open_o cost rents keeps added opens = absurd (false≢true (keeps refl))
one-candidate false true true open_o cost rents keeps added opens = omega arith
one-candidate false false true open_o cost rents keeps added opens = absurd (false≢true (added refl refl))
one-candidate false true false true cost rents keeps added opens = omega arith
one-candidate false false false true cost rents keeps added opens = absurd (false≢true (opens refl))
one-candidate false open_n false false cost rents keeps added opens = omega arith

candidates-more : (setting : TheSetting) (multipliers : TheMultipliers) (budget : ℕ) (node other : nodes.Node) → IsNarrower setting budget node other → (a : ℕ) (shapes : List IndexShape) →
    costs_inside setting multipliers node a shapes + earnings setting multipliers budget other a shapes ≤ costs_inside setting multipliers other a shapes + earnings setting multipliers budget node a shapes
candidates-more setting multipliers budget node other is a [] = omega arith
candidates-more setting multipliers budget node other is a (shape ∷ shapes) =
    let here = one-candidate (has_candidate node.inside a) (is_open setting.cat setting.shapes budget node a) (has_candidate other.inside a) (is_open setting.cat setting.shapes budget other a)
    (candidate_cost setting multipliers shape) (candidate_rents setting multipliers a shape) (is.keeps a) (is.added a) (is.opens a) in
    let rest = candidates-more setting multipliers budget node other is (suc a) shapes in
    omega (arith, here, rest)

rounded-more : (m1 l1 m2 l2 : ℕ) (before after : ℤ) → IsRoundedUp m1 l1 before → IsRoundedUp m2 l2 after → m1 + l2 ≤ m2 + l1 → before ≤ℤ after
rounded-more m1 l1 m2 l2 (pos b) (pos a) x y less = let below : b ≤ a = omega (arith, x.0, x.1, y.0, y.1, less) in record { le = le→leb b a below }
rounded-more m1 l1 m2 l2 (pos b) (negsuc a) x y less = absurd (omega (arith, x.0, x.1, y.0, y.1, less))
rounded-more m1 l1 m2 l2 (negsuc b) (pos a) x y less = record { le = tt }
rounded-more m1 l1 m2 l2 (negsuc b) (negsuc a) x y less = let below : a ≤ b = omega (arith, x.0, x.1, y.0, y.1, less) in record { le = le→leb a b below }

-- the Lagrangian value of a narrower node is no less
pub narrower-value : (setting : TheSetting) (budget : ℕ) (node other : nodes.Node) (multipliers : TheMultipliers) (before after : ℤ) → ((q : ℕ) → IsRent (multipliers.rent q)) → IsNarrower setting budget node other →
    IsLagrangian setting budget node multipliers before → IsLagrangian setting budget other multipliers after → before ≤ℤ after
narrower-value setting budget node other multipliers before after limit is a b =
    let within = narrower-available setting budget node other is in
    let plans = plans-more setting (available setting.cat setting.shapes budget other) (available setting.cat setting.shapes budget node) multipliers.rent 1 setting.statements b.costs a.costs limit within b.costs_are a.costs_are in
    let candidates = candidates-more setting multipliers budget node other is 1 setting.shapes in
    rounded-more
    (65536 * (weighted_sum setting.statements a.costs + weighted_kept setting) + costs_inside setting multipliers node 1 setting.shapes)
    (earnings setting multipliers budget node 1 setting.shapes + multipliers.page * budget)
    (65536 * (weighted_sum setting.statements b.costs + weighted_kept setting) + costs_inside setting multipliers other 1 setting.shapes)
    (earnings setting multipliers budget other 1 setting.shapes + multipliers.page * budget)
    before after a.value_is b.value_is (omega (arith, plans, candidates))

-- ## The sides of a branch

less-test : (few many room : ℕ) → few ≤ many → nat_le many room ≡ true → nat_le few room ≡ true
less-test few many room less fits = grind (arith, nat_tests)

pub out-narrower : (setting : TheSetting) (budget : ℕ) (node : nodes.Node) (a : ℕ) → IsBranch setting node a → IsNarrower setting budget node (out_side node a)
out-narrower setting budget node a branch =
    record {
      keeps = λ k on. on;
      added = λ k on off. absurd (false≢true (sym off ∙ on));
      opens = λ k open'.
          let parts = and_parts (is_free (out_side node a) k) (nat_le (config_pages setting.cat setting.shapes node.inside + candidate_pages setting.cat setting.shapes k) budget) open' in
          let free = and_parts (not (has_candidate node.inside k)) (not (has_candidate (with_candidate node.outside a) k)) parts.0 in
          and_from (is_free node k) (nat_le (config_pages setting.cat setting.shapes node.inside + candidate_pages setting.cat setting.shapes k) budget)
          (and_from (not (has_candidate node.inside k)) (not (has_candidate node.outside k)) free.0
          (elim (cases_Bool (has_candidate node.outside k)) [
            | inl out' ↦ absurd (false≢true (sym (not-true (has_candidate (with_candidate node.outside a) k) free.1) ∙ with_candidate-keeps node.outside a k out'))
            | inr not_out ↦ ap not not_out
          ])) parts.1;
    }

pub in-narrower : (setting : TheSetting) (budget : ℕ) (node : nodes.Node) (a : ℕ) → IsBranch setting node a → is_open setting.cat setting.shapes budget node a ≡ true → IsNarrower setting budget node (in_side node a)
in-narrower setting budget node a branch is_open' =
    record {
      keeps = λ k on. with_candidate-keeps node.inside a k on;
      added = λ k on off.
          elim (with_candidate-has node.inside a k branch.some on) [
            | inl old ↦ absurd (false≢true (sym off ∙ old))
            | inr new ↦ subst (λ b. is_open setting.cat setting.shapes budget node b ≡ true) (sym new) is_open'
          ];
      opens = λ k open'.
          let more = pages-more setting.cat setting.shapes node.inside (with_candidate node.inside a) (with_candidate-keeps node.inside a) in
          let parts = and_parts (is_free (in_side node a) k) (nat_le (config_pages setting.cat setting.shapes (with_candidate node.inside a) + candidate_pages setting.cat setting.shapes k) budget) open' in
          let free = and_parts (not (has_candidate (with_candidate node.inside a) k)) (not (has_candidate node.outside k)) parts.0 in
          and_from (is_free node k) (nat_le (config_pages setting.cat setting.shapes node.inside + candidate_pages setting.cat setting.shapes k) budget)
          (and_from (not (has_candidate node.inside k)) (not (has_candidate node.outside k))
          (elim (cases_Bool (has_candidate node.inside k)) [
            | inl in' ↦ absurd (false≢true (sym (not-true (has_candidate (with_candidate node.inside a) k) free.0) ∙ with_candidate-keeps node.inside a k in'))
            | inr not_in ↦ ap not not_in
          ]) free.1)
          (less-test (config_pages setting.cat setting.shapes node.inside + candidate_pages setting.cat setting.shapes k) (config_pages setting.cat setting.shapes (with_candidate node.inside a) + candidate_pages setting.cat setting.shapes k) budget (omega (arith, more)) parts.1);
    }
