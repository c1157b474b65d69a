-- Lists of templates that decompose their task.
use Rattle.std.proofs.Common.{◌≡◌, ◌⊎◌, inl, inr, ℕ, zero, suc, ◌<◌, ◌≤◌, true, List, [], ◌∷◌, length, get_or, take, Option, Some, None, refl, sym, ◌∙◌, subst, arith}
use Rattle.std.specs.Prelude.{slice_get}
use Rattle.std.proofs.lemmas.Bool.{cases_Bool, cases_lt, or_cases, false≢true}
use Rattle.std.specs.List.{list_any}
use Rattle.std.proofs.lemmas.List.Folds.{list_any_at}
use Rattle.std.proofs.lemmas.Option.{slice_get_within}
use Rattle.adv_base.specs.Items.{Order, BeginsWith, is_same_order}
use Rattle.adv_base.proofs.ItemLaws.{is_same_order-decides, order_same}
use Rattle.plan_model.specs.declared.task.Task.{Task}
use Rattle.plan_model.specs.declared.template.Template.{Template}
use Rattle.plan_model.specs.Orders.{interesting_orders}
use Rattle.plan_model.specs.Exchange.{whole_internal}
use Rattle.plan_model.specs.Combinations.{Orders, IsCombination, IsEach, IsKept, Templates, Covers, needed, IsIn, Decompose, AreEach, AreKept}
use Rattle.plan_model.proofs.OrderLaws.{past-none}
use Rattle.plan_model.proofs.Decomposing.{AreSound, core-needs, least-cached}
use Rattle.plan_model.proofs.Caching.{least-core, covered-least, each-covers, weakly-kept, size}

-- ## Whether some template of a list covers a combination

-- what each of two lists of orders asks of the slots below n
Fronts : Orders → Orders → ℕ → Type 0
Fronts needs other n = (slot : ℕ) → slot < n → BeginsWith (needs slot) (other slot)

fronts-decide : (needs other : Orders) (n : ℕ) → Fronts needs other n ⊎ (Fronts needs other n → ⊥)
unfolding Fronts
fronts-decide needs other zero = inl (λ slot below. absurd (omega (arith, below)))
fronts-decide needs other (suc n) =
    elim (fronts-decide needs other n) [
      | inr lacks ↦ inr (λ all. lacks (λ slot below. all slot (omega (arith, below))))
      | inl before ↦
          elim (cases_Bool (is_same_order (take (length (other n)) (needs n)) (other n))) [
            | inl begins ↦
                let last : BeginsWith (needs n) (other n) = (is_same_order-decides (take (length (other n)) (needs n)) (other n)).0 begins in
                inl (λ slot below.
                elim (cases_lt slot n) [
                  | inl less ↦ before slot less
                  | inr more ↦ let same : n ≡ slot = omega (arith, below, more) in subst (λ s. BeginsWith (needs s) (other s)) same last
                ])
            | inr differs ↦
                inr (λ all. false≢true (sym differs ∙ (is_same_order-decides (take (length (other n)) (needs n)) (other n)).1 (all n (omega arith))))
          ]
    ]

record CoversAt (task : Task) (templates : List Template) (needs : Orders) (cost number : ℕ) : Type 0 where
  template : Template
  found : slice_get templates number ≡ Some template
  fronts : Fronts needs (needed task template) task.slots
  less : template.internal ≤ cost

at-decides : (task : Task) (templates : List Template) (needs : Orders) (cost number : ℕ) (there : Option Template) → slice_get templates number ≡ there → CoversAt task templates needs cost number ⊎ (CoversAt task templates needs cost number → ⊥)
at-decides task templates needs cost number None e = inr (λ c. let f = c.found in cc)
at-decides task templates needs cost number (Some template) e =
    elim (fronts-decide needs (needed task template) task.slots) [
      | inr lacks ↦ inr (λ c. lacks (let f = c.found in let same : c.template ≡ template = cc in subst (λ t. Fronts needs (needed task t) task.slots) same c.fronts))
      | inl fronts ↦
          elim (cases_lt cost template.internal) [
            | inl dearer ↦ inr (λ c. let f = c.found in let same : c.template ≡ template = cc in let less : template.internal ≤ cost = subst (λ (t : Template). t.internal ≤ cost) same c.less in omega (arith, less, dearer))
            | inr less ↦ inl (record { template = template; found = e; fronts = fronts; less = less })
          ]
    ]

below-decides : (task : Task) (templates : List Template) (needs : Orders) (cost n : ℕ) → ((number : ℕ) × CoversAt task templates needs cost number) ⊎ ((number : ℕ) → number < n → CoversAt task templates needs cost number → ⊥)
below-decides task templates needs cost zero = inr (λ number below c. omega (arith, below))
below-decides task templates needs cost (suc n) =
    elim (below-decides task templates needs cost n) [
      | inl found ↦ inl found
      | inr before ↦
          elim (at-decides task templates needs cost n (slice_get templates n) refl) [
            | inl here ↦ inl (n, here)
            | inr lacks ↦
                inr (λ number below c.
                elim (cases_lt number n) [
                  | inl less ↦ before number less c
                  | inr more ↦ let same : number ≡ n = omega (arith, below, more) in lacks (subst (CoversAt task templates needs cost) same c)
                ])
          ]
    ]

fronts-at : (needs other : Orders) (n : ℕ) → Fronts needs other n → (slot : ℕ) → slot < n → BeginsWith (needs slot) (other slot)
unfolding Fronts
fronts-at needs other n fronts slot below = fronts slot below

covers-from : (task : Task) (templates : List Template) (needs : Orders) (cost number : ℕ) → AreSound task (IsIn task templates) → CoversAt task templates needs cost number → Covers (IsIn task templates) needs cost
covers-from task templates needs cost number sound c =
    let member : IsIn task templates (needed task c.template) c.template.internal = record { number = number; template = c.template; found = c.found; needs_are = λ slot. refl; internal_is = refl } in
    let combination = sound.combination (needed task c.template) c.template.internal member in
    record {
      other = needed task c.template;
      internal = c.template.internal;
      template = member;
      fronts = λ slot.
          elim (cases_lt slot task.slots) [
            | inl below ↦ fronts-at needs (needed task c.template) task.slots c.fronts slot below
            | inr past ↦ subst (BeginsWith (needs slot)) (sym (past-none task slot (needed task c.template slot) past (combination slot))) refl
          ];
      less = c.less;
    }

covers-at : (task : Task) (templates : List Template) (needs : Orders) (cost : ℕ) (c : Covers (IsIn task templates) needs cost) → CoversAt task templates needs cost c.template.number
unfolding Fronts
covers-at task templates needs cost c =
    record {
      template = c.template.template;
      found = c.template.found;
      fronts = λ slot below. subst (BeginsWith (needs slot)) (c.template.needs_are slot) (c.fronts slot);
      less = omega (arith, c.less, c.template.internal_is);
    }

-- what is not refuted is found
covered : (task : Task) (templates : List Template) (needs : Orders) (cost : ℕ) → AreSound task (IsIn task templates) → ((Covers (IsIn task templates) needs cost → ⊥) → ⊥) → Covers (IsIn task templates) needs cost
covered task templates needs cost sound weakly =
    elim (below-decides task templates needs cost (length templates)) [
      | inl found ↦ covers-from task templates needs cost found.0 sound found.1
      | inr lacks ↦
          absurd (weakly (λ c. lacks c.template.number (slice_get_within templates c.template.number c.template.template c.template.found) (covers-at task templates needs cost c)))
    ]

-- ## Lists that decompose

pub weakly-decompose : (task : Task) (templates : List Template) → AreSound task (IsIn task templates) → ((needs : Orders) (internal : ℕ) → IsEach task needs internal → (Covers (IsIn task templates) needs internal → ⊥) → ⊥) → Decompose task templates
weakly-decompose task templates sound weakly table cost limits = (
  covered-least task (IsIn task templates) table cost limits sound weakly,
  λ least.
      let needs = core-needs task table least.plan.whole in
      let internal = whole_internal task least.plan.whole in
      least-cached task (IsIn task templates) table cost sound limits least
      (covered task templates needs internal sound (weakly needs internal (least-core task table cost limits least))),
)

covers-in : (task : Task) (templates : Templates) (list : List Template) (needs : Orders) (cost : ℕ) → ((other : Orders) (internal : ℕ) → templates other internal → IsIn task list other internal) → Covers templates needs cost → Covers (IsIn task list) needs cost
covers-in task templates list needs cost all c =
    record { other = c.other; internal = c.internal; template = all c.other c.internal c.template; fronts = c.fronts; less = c.less }

pub each-decompose : (task : Task) (templates : List Template) → AreEach task templates → Decompose task templates
each-decompose task templates are =
    weakly-decompose task templates
    (record { combination = λ needs internal m. (are.each needs internal m).combination; plan = λ needs internal m. (are.each needs internal m).least.plan })
    (λ needs internal each none.
    none (covers-in task (IsEach task) templates needs internal are.all (each-covers task needs internal internal each (omega arith))))

pub kept-list-decompose : (task : Task) (templates : List Template) → AreKept task templates → Decompose task templates
kept-list-decompose task templates are =
    weakly-decompose task templates
    (record { combination = λ needs internal m. (are.kept needs internal m).each.combination; plan = λ needs internal m. (are.kept needs internal m).each.least.plan })
    (λ needs internal each none.
    weakly-kept task (suc (size task needs)) needs internal each (omega arith)
    (λ c. none (covers-in task (IsKept task) templates needs internal are.all c)))

-- ## Combinations by the numbers of their orders

-- an order of a list, by its number, is among its orders
numbered-among : (orders : List Order) (k : ℕ) → k < length orders → list_any (is_same_order (get_or orders k [])) orders ≡ true
numbered-among orders k within = list_any_at (is_same_order (get_or orders k [])) orders k [] within (order_same (get_or orders k []))

-- one among the orders of a list has a number
among-number : (o : Order) (orders : List Order) → list_any (is_same_order o) orders ≡ true → (k : ℕ) × (k < length orders) × (get_or orders k [] ≡ o)
among-number o [] among = absurd (false≢true among)
among-number o (x ∷ xs) among =
    elim (or_cases (is_same_order o x) (list_any (is_same_order o) xs) among) [
      | inl here ↦ (0, omega arith, sym ((is_same_order-decides o x).0 here))
      | inr later ↦ let rest = among-number o xs later in (suc rest.0, omega (arith, rest.1), rest.2)
    ]

-- numbers of orders that each slot has make a combination
pub numbers-combination : (task : Task) (numbers : ℕ → ℕ) → ((slot : ℕ) → numbers slot < length (interesting_orders task slot)) → IsCombination task (λ slot. get_or (interesting_orders task slot) (numbers slot) [])
numbers-combination task numbers within slot = numbered-among (interesting_orders task slot) (numbers slot) (within slot)

-- and a combination has such numbers
pub combination-number : (task : Task) (needs : Orders) → IsCombination task needs → (slot : ℕ) → (k : ℕ) × (k < length (interesting_orders task slot)) × (get_or (interesting_orders task slot) k [] ≡ needs slot)
combination-number task needs c slot = among-number (needs slot) (interesting_orders task slot) (c slot)
