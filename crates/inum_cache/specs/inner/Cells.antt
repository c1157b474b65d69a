-- Lists of templates of a set of slots.
use Rattle.std.specs.Prelude.{◌≡◌, ℕ, zero, suc, ◌+◌, ◌<◌, ◌≤◌, nat_le, ◌==◌, Bool, true, false, ◌&&◌, ◌⊎◌, if◌then◌else◌, List, [], length, AllPairs, slice_index_or}
use Rattle.std.specs.Cmp.Lexicographic.{slice_cmp}
use Rattle.std.specs.Ordering.{is_lt, nat_cmp}
use Rattle.adv_base.specs.Items.{Order, BeginsWith}
use Rattle.plan_model.specs.declared.template.Template.{Template}
use Rattle.plan_model.specs.Combinations.{Orders}
use Rattle.planner.specs.Fronts.{begins_test}
use Rattle.inum_cache.specs.Numbering.{order_in}
use Rattle.inum_cache.specs.inner.Pricing.{least_below}

abbrev pub place_at : Template → ℕ → ℕ
place_at template slot = slice_index_or template.needs slot 0

-- the order that a template needs of a slot
abbrev pub asks : List (List Order) → Template → ℕ → Order
asks orders template slot = order_in orders slot (place_at template slot)

-- whether a template needs of each slot below n a front of what the combination has
abbrev pub fits_below : List (List Order) → Orders → Template → ℕ → Bool
fits_below orders needs template zero = true
fits_below orders needs template (suc n) =
    fits_below orders needs template n && begins_test (needs n) (asks orders template n)

-- whether it does of all slots
abbrev pub does_fit : List (List Order) → Orders → Template → Bool
does_fit orders needs template = fits_below orders needs template (length orders)

-- the same as a fact
pub record Fits (orders : List (List Order)) (needs : Orders) (template : Template) : Type 0 where
  pub fronts : (slot : ℕ) → BeginsWith (needs slot) (asks orders template slot)

-- whether a template needs of each slot a front of what another needs, and costs no more
abbrev pub does_replace : List (List Order) → Template → Template → Bool
does_replace orders one other = nat_le one.internal other.internal && does_fit orders (asks orders other) one

-- the same as a fact
pub record Replaces (orders : List (List Order)) (one other : Template) : Type 0 where
  pub less : one.internal ≤ other.internal
  pub fits : Fits orders (asks orders other) one

abbrev pub no_template : Template
no_template = record { internal = 0; needs = [] }

abbrev pub template_at : List Template → ℕ → Template
template_at cell k = slice_index_or cell k no_template

-- some template of the list replaces one
pub record IsReplaced (orders : List (List Order)) (cell : List Template) (template : Template) : Type 0 where
  pub number : ℕ
  pub within : number < length cell
  pub replaces : Replaces orders (template_at cell number) template

-- a template of the list
abbrev pub IsAmong : List Template → Template → Type 0
IsAmong cell template = (number : ℕ) × (number < length cell) × (template_at cell number ≡ template)

-- two templates need the same orders
abbrev pub NeedsSame : Template → Template → Type 0
NeedsSame one other = (slot : ℕ) → place_at one slot ≡ place_at other slot

-- neither of two templates replaces the other
abbrev pub AreApart : List (List Order) → Template → Template → Type 0
AreApart orders one other = ¬ Replaces orders one other × ¬ Replaces orders other one

-- the places of what the second template needs don't stand before those of the first
abbrev pub Precedes : Template → Template → Type 0
Precedes first second = is_lt (slice_cmp nat_cmp second.needs first.needs) ≡ false

-- no template of the list replaces another, and they stand in order
pub record IsThin (orders : List (List Order)) (cell : List Template) : Type 0 where
  pub none : AllPairs (AreApart orders) cell
  pub in_order : AllPairs Precedes cell

-- The list was given templates: all that is new in it was given, and whatever was in it or was given is replaced, perhaps
-- by itself.
pub record Takes (orders : List (List Order)) (Given : Template → Type 0) (old new : List Template) : Type 0 where
  pub from : (k : ℕ) → k < length new → IsAmong old (template_at new k) ⊎ Given (template_at new k)
  pub kept : (template : Template) → IsReplaced orders old template → IsReplaced orders new template
  pub given : (template : Template) → Given template → IsReplaced orders new template

-- one of the first n
abbrev pub SomeBelow : ℕ → (ℕ → Template → Type 0) → Template → Type 0
SomeBelow n Gives template = (k : ℕ) × (k < n) × Gives k template

-- so cheap that sums of a few costs fit
abbrev pub IsSmall : Template → Type 0
IsSmall template = template.internal ≤ 1000000000000000000000

-- the template with a cost more
pub record IsRaised (from : Template) (price : ℕ) (template : Template) : Type 0 where
  pub costs : template.internal ≡ from.internal + price
  pub needs : (slot : ℕ) → place_at template slot ≡ place_at from slot

abbrev pub RaiseGives : List Template → ℕ → Template → Type 0
RaiseGives from price = SomeBelow (length from) (λ i template. IsRaised (template_at from i) price template)

-- the place of a slot in one list of places, or where that has 0 there, in another
abbrev pub joined_place : List ℕ → List ℕ → ℕ → ℕ
joined_place left right slot =
    if slice_index_or left slot 0 == 0 then slice_index_or right slot 0 else slice_index_or left slot 0

-- what comes of two templates of disjoint sets by a join of that price
pub record IsJoined (left right : Template) (price : ℕ) (template : Template) : Type 0 where
  pub costs : template.internal ≡ left.internal + right.internal + price
  pub needs : (slot : ℕ) → place_at template slot ≡ joined_place left.needs right.needs slot

abbrev pub JoinGivesOf : Template → List Template → ℕ → Template → Type 0
JoinGivesOf left right price = SomeBelow (length right) (λ j template. IsJoined left (template_at right j) price template)

abbrev pub JoinGives : List Template → List Template → ℕ → Template → Type 0
JoinGives left right price = SomeBelow (length left) (λ i. JoinGivesOf (template_at left i) right price)

-- what a template costs where it fits a combination; elsewhere a number above every cost
abbrev pub fit_cost : List (List Order) → Orders → List Template → ℕ → ℕ
fit_cost orders needs cell k =
    if does_fit orders needs (template_at cell k) then (template_at cell k).internal else 1000000000000000000000000000000

-- the least cost of the templates that fit a combination
abbrev pub least_fit : List (List Order) → Orders → List Template → ℕ
least_fit orders needs cell = least_below 1000000000000000000000000000000 (fit_cost orders needs cell) (length cell)
