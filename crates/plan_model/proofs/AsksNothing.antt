-- One of the templates that decompose a task asks for no order.
use Rattle.std.proofs.Common.{◌≡◌, ◌≢◌, ◌∙◌, ◌⊎◌, inl, inr, ℕ, zero, suc, ◌<◌, ◌≤◌, List, [], ◌∷◌, Some, slice_get, refl, sym, ap, subst, arith}
use Rattle.std.proofs.lemmas.Bool.{cases_lt}
use Rattle.std.proofs.lemmas.List.{nil_from_length}
use Rattle.adv_base.specs.Items.{Order, BeginsWith}
use Rattle.adv_base.proofs.Begins.{begins_length}
use Rattle.plan_model.specs.declared.plan.Whole.{Whole}
use Rattle.plan_model.specs.declared.task.Task.{Task}
use Rattle.plan_model.specs.declared.template.Template.{Template}
use Rattle.plan_model.specs.Orders.{interesting_orders}
use Rattle.plan_model.specs.Plans.{IsWhole}
use Rattle.plan_model.specs.Costs.{whole_cost}
use Rattle.plan_model.specs.Least.{IsCostOfPlan}
use Rattle.plan_model.specs.Combinations.{Orders, IsCombination, free, CachedBy, needed, IsIn, Decompose, SomeAsksNothing}
use Rattle.plan_model.proofs.Decomposing.{free-limits, free-order}
use Rattle.plan_model.proofs.Exists.{some-item, has-plan}

-- ## Whether a template does is decided

abbrev pub AsksNothing : Task → Template → Type 0
AsksNothing task template = (slot : ℕ) → slot < task.slots → needed task template slot ≡ []

-- no template of a list does
abbrev pub NoneAsksNothing : Task → List Template → Type 0
NoneAsksNothing task templates = (number : ℕ) (template : Template) → slice_get templates number ≡ Some template → AsksNothing task template → ⊥

none-or-some : (order : Order) → (order ≡ []) ⊎ (order ≢ [])
none-or-some [] = inl refl
none-or-some (item ∷ items) = inr (some-item item items)

-- none of the slots below n has an order, or one has
below-or : (orders : Orders) (n : ℕ) → ((slot : ℕ) → slot < n → orders slot ≡ []) ⊎ ((slot : ℕ) × ((slot < n) × (orders slot ≢ [])))
below-or orders zero = inl (λ slot below. absurd (omega (arith, below)))
below-or orders (suc n) =
    elim (below-or orders n) [
      | inr some ↦ inr (some.0, (omega (arith, some.1.0), some.1.1))
      | inl none ↦
          elim (none-or-some (orders n)) [
            | inr here ↦ inr (n, (omega arith, here))
            | inl empty ↦
                inl
                (λ slot below.
                elim (cases_lt slot n) [
                  | inl earlier ↦ none slot earlier
                  | inr last ↦ let same : slot ≡ n = omega (arith, last, below) in ap orders same ∙ empty
                ])
          ]
    ]

asks-or : (task : Task) (template : Template) → AsksNothing task template ⊎ (AsksNothing task template → ⊥)
asks-or task template =
    elim (below-or (needed task template) task.slots) [
      | inl none ↦ inl none
      | inr some ↦ inr (λ asks. some.1.1 (asks some.0 some.1.0))
    ]

none-more : (task : Task) (template : Template) (templates : List Template) → (AsksNothing task template → ⊥) → NoneAsksNothing task templates →
    (number : ℕ) (other : Template) → slice_get (template ∷ templates) number ≡ Some other → AsksNothing task other → ⊥
none-more task template templates here later zero other found asks = let same : template ≡ other = cc in here (subst (AsksNothing task) (sym same) asks)
none-more task template templates here later (suc number) other found asks = later number other found asks

one-or-none : (task : Task) (templates : List Template) → SomeAsksNothing task templates ⊎ NoneAsksNothing task templates
one-or-none task [] = inr (λ number template found asks. absurd (cc))
one-or-none task (template ∷ templates) =
    elim (asks-or task template) [
      | inl asks ↦ inl (record { number = 0; template = template; found = refl; asks_nothing = asks })
      | inr here ↦
          elim (one-or-none task templates) [
            | inl one ↦ inl (record { number = suc one.number; template = one.template; found = one.found; asks_nothing = one.asks_nothing })
            | inr none ↦ inr (none-more task template templates here none)
          ]
    ]

-- ## Where none does, a table of offers in no order has no least plan, and so no plan

abbrev pub nothing : Orders
nothing slot = []

nothing-combination : (task : Task) → IsCombination task nothing
unfolding interesting_orders
nothing-combination task slot = refl

-- a template that gives a cost for such offers asks for nothing
no-cost : (task : Task) (templates : List Template) → NoneAsksNothing task templates → (cost : ℕ) → CachedBy (IsIn task templates) task (free nothing) cost → ⊥
no-cost task templates none cost cached =
    let asks : AsksNothing task cached.template.template = λ slot below.
    let offered = (cached.priced.each slot below).offered in
    let begins : BeginsWith [] (cached.needs slot) =
    subst (λ (order : Order). BeginsWith order (cached.needs slot)) (free-order nothing slot offered.number offered.within) offered.begins in
    let empty : cached.needs slot ≡ [] = nil_from_length (cached.needs slot) (omega (arith, begins_length [] (cached.needs slot) begins)) in
    sym (cached.template.needs_are slot) ∙ empty in
    none cached.template.number cached.template.template cached.template.found asks

-- by induction on a bound of its cost: a plan with none below it is a least one
no-plan : (task : Task) (templates : List Template) → Decompose task templates → NoneAsksNothing task templates → (n cost : ℕ) → cost < n → IsCostOfPlan task (free nothing) cost → ⊥
no-plan task templates decompose none zero cost below plan = absurd (omega (arith, below))
no-plan task templates decompose none (suc n) cost below plan =
    let none_less : (whole : Whole) → IsWhole task (free nothing) whole → cost ≤ whole_cost task (free nothing) whole = λ whole valid.
    elim (cases_lt (whole_cost task (free nothing) whole) cost) [
      | inl less ↦ absurd (no-plan task templates decompose none n (whole_cost task (free nothing) whole) (omega (arith, less, below)) (record { whole = whole; valid = valid; costs = refl }))
      | inr more ↦ more
    ] in
    no-cost task templates none cost
    ((decompose (free nothing) cost (free-limits task nothing (nothing-combination task))).1 (record { plan = plan; none_less = none_less }))

pub some-asks-nothing : (task : Task) (templates : List Template) → Decompose task templates → SomeAsksNothing task templates
some-asks-nothing task templates decompose =
    elim (one-or-none task templates) [
      | inl one ↦ one
      | inr none ↦
          let plan = has-plan task (free nothing) (free-limits task nothing (nothing-combination task)) (λ slot below. omega arith) in
          let cost : ℕ = whole_cost task (free nothing) plan.whole in
          absurd (no-plan task templates decompose none (suc cost) cost (omega arith) (record { whole = plan.whole; valid = plan.valid; costs = refl }))
    ]
