-- The configuration that a search finds fits, obeys the root and has its cost.
use Rattle.std.proofs.Common.{◌≡◌, ◌∙◌, ◌≢◌, inl, inr, ℕ, ◌<◌, ◌≤◌, Bool, true, false, cond, List, [], length, map, sum, refl, sym, ap, subst, arith, get_or-set_other}
use Rattle.std.specs.Prelude.{nat_lt}
use Rattle.std.proofs.Math.ListN.{get_or-map}
use Rattle.adv_base.specs.declared.catalogue.index.IndexShape.{IndexShape}
use Rattle.adv_base.specs.declared.setting.Config.{Config}
use Rattle.adv_base.specs.Configs.{chosen, IsApart}
use Rattle.bip_model.specs.declared.answer.Node.{Node}
use Rattle.bip_model.specs.declared.fix.Fix.{Fix}
use Rattle.bip_model.specs.declared.fix.State.{State}
use Rattle.bip_model.specs.declared.fix.State.TheVariants.{Free, In, Out}
use Rattle.bip_model.specs.declared.programme.Programme.{Programme}
use Rattle.bip_model.specs.Trees.{Tree, Branches, Leaf, Full}
use Rattle.bip_model.specs.Values.{value}
use Rattle.bip_model.specs.Views.{is_in, state_at}
use Rattle.bip_model.proofs.Lists.{map-set}
use Rattle.branch_bound.specs.declared.climb.Costed.{Costed}
use Rattle.branch_bound.specs.declared.found.Found.{Found}
use Rattle.branch_bound.specs.Sides.{fixed, inside, pages, total, IsRoot}
use Rattle.branch_bound.specs.inner.Climbs.{IsSound, IsSoundHere}
use Rattle.branch_bound.specs.inner.Runs.{Rules, visited, started, IsChoice, IsExplored, branched, Runs}
use Rattle.branch_bound.proofs.Choices.{open-choice}
use Rattle.branch_bound.proofs.Climbing.{pages-off, pages-on}

-- what a node fixes beyond its root; the pages of what is in are within the budget
pub record IsUnder (programme : Programme) (budget : ℕ) (root fix : Fix) : Type 0 where
  pub space : pages programme (inside fix) ≤ budget
  pub holds : (i : ℕ) → state_at root i ≡ In → state_at fix i ≡ In
  pub lacks : (i : ℕ) → state_at root i ≡ Out → state_at fix i ≡ Out
  pub past : (i : ℕ) → length programme.sizes ≤ i → state_at fix i ≡ Free

pub under-root : (programme : Programme) (shapes : List IndexShape) (budget : ℕ) (root : Fix) → IsRoot programme shapes budget root → IsUnder programme budget root root
under-root programme shapes budget root is = record { space = is.fits; holds = λ i at. at; lacks = λ i at. at; past = is.past }

other-than : (fix : Fix) (i j : ℕ) (state : State) → state_at fix i ≡ Free → state_at fix j ≡ state → (Free ≡ state → ⊥) → j ≢ i
other-than fix i j state free is apart same = apart (sym free ∙ ap (state_at fix) (sym same) ∙ is)

-- a side of a branch
under-side : (programme : Programme) (budget : ℕ) (root fix : Fix) (i : ℕ) (new : State) → IsUnder programme budget root fix → state_at fix i ≡ Free → i < length programme.sizes →
    pages programme (inside (fixed fix i new)) ≤ budget → IsUnder programme budget root (fixed fix i new)
under-side programme budget root fix i new under free within room =
    record {
      space = room;
      holds = λ j at. get_or-set_other fix.state i j new Free (other-than fix i j In free (under.holds j at) (λ wrong. cc)) ∙ under.holds j at;
      lacks = λ j at. get_or-set_other fix.state i j new Free (other-than fix i j Out free (under.lacks j at) (λ wrong. cc)) ∙ under.lacks j at;
      past = λ j beyond. let other : j ≢ i = (λ same. omega (arith, same, beyond, within)) in get_or-set_other fix.state i j new Free other ∙ under.past j beyond;
    }

under-in : (rules : Rules) (root fix : Fix) (i : ℕ) → IsUnder rules.programme rules.budget root fix → IsChoice rules fix i → IsUnder rules.programme rules.budget root (fixed fix i In)
under-in rules root fix i under choice =
    let own = open-choice rules fix i choice.chosen in
    let is = ap (λ (flags : List Bool). sum (chosen flags rules.programme.sizes)) (map-set is_in fix.state i In) in
    let more = pages-on (map is_in fix.state) rules.programme.sizes i in
    under-side rules.programme rules.budget root fix i In under own.free choice.within (omega (arith, is, more, own.room))

under-out : (rules : Rules) (root fix : Fix) (i : ℕ) → IsUnder rules.programme rules.budget root fix → IsChoice rules fix i → IsUnder rules.programme rules.budget root (fixed fix i Out)
under-out rules root fix i under choice =
    let own = open-choice rules fix i choice.chosen in
    let is = ap (λ (flags : List Bool). sum (chosen flags rules.programme.sizes)) (map-set is_in fix.state i Out) in
    let fewer = pages-off (map is_in fix.state) rules.programme.sizes i in
    under-side rules.programme rules.budget root fix i Out under own.free choice.within (omega (arith, is, fewer, under.space))

-- ## What was found

pub sound-inside : (programme : Programme) (shapes : List IndexShape) (budget : ℕ) (root fix : Fix) → IsUnder programme budget root fix → IsApart shapes (inside fix) →
    IsSound programme shapes budget root (inside fix) (total programme fix)
sound-inside programme shapes budget root fix under apart =
    record {
      cost_is = refl;
      fits = record { space = under.space; apart = apart };
      holds = λ i at. get_or-map is_in fix.state i Free ∙ ap is_in (under.holds i at);
      lacks = λ i at. get_or-map is_in fix.state i Free ∙ ap is_in (under.lacks i at);
      past = λ i beyond. get_or-map is_in fix.state i Free ∙ ap is_in (under.past i beyond);
    }

abbrev pub IsSoundFound : Rules → Fix → Found → Type 0
IsSoundFound rules root found = IsSound rules.programme rules.shapes rules.budget root found.config found.cost

sound-visited : (rules : Rules) (root fix : Fix) (before : Found) → IsUnder rules.programme rules.budget root fix → IsApart rules.shapes (inside fix) → IsSoundFound rules root before → IsSoundFound rules root (visited rules fix before)
sound-visited rules root fix before under apart sound = to (nat_lt (total rules.programme fix) before.cost)
  where
    to : (b : Bool) → IsSoundFound rules root (cond b (record { config = inside fix; cost = total rules.programme fix; low = before.low; made = before.made }) before)
    to true = sound-inside rules.programme rules.shapes rules.budget root fix under apart
    to false = sound

pub runs-sound : (rules : Rules) (root fix : Fix) (before : Found) (tree : Tree) (after : Found) → IsUnder rules.programme rules.budget root fix → IsSoundFound rules root before →
    Runs rules fix before tree after → IsSoundFound rules root after
runs-sound rules root fix before (Leaf k) after under sound run =
    elim run [
      | inl closed ↦ subst (λ (f : Found). IsSoundFound rules root f) (sym closed.after_is) (sound-visited rules root fix before under closed.apart sound)
      | inr forced ↦ subst (λ (f : Found). IsSoundFound rules root f) (sym forced.after_is) (sound-visited rules root fix before under forced.apart sound)
    ]
runs-sound rules root fix before (Branches a inside_tree outside_tree) after under sound run =
    let i = run.index in
    let here = sound-visited rules root fix before under run.apart sound in
    let first = runs-sound rules root (fixed fix i In) (branched (visited rules fix before)) inside_tree run.middle (under-in rules root fix i under run.branch.choice) here run.inside_run in
    runs-sound rules root (fixed fix i Out) run.middle outside_tree after (under-out rules root fix i under run.branch.choice) first run.outside_run
runs-sound rules root fix before Full after under sound run = subst (λ (f : Found). IsSoundFound rules root f) (sym run.after_is) sound

-- what is in at the root is so, and so is what is found below it
pub sound-bare : (programme : Programme) (shapes : List IndexShape) (budget : ℕ) (root : Fix) (known : Costed) → IsRoot programme shapes budget root → known.config ≡ inside root → known.cost ≡ value programme (inside root) →
    IsSoundHere programme shapes budget root known
sound-bare programme shapes budget root known is config_is cost_is =
    subst (λ (n : ℕ). IsSound programme shapes budget root known.config n) (sym cost_is)
    (subst (λ (c : Config). IsSound programme shapes budget root c (total programme root)) (sym config_is) (sound-inside programme shapes budget root root (under-root programme shapes budget root is) is.apart))

pub explored-sound : (rules : Rules) (root : Fix) (known : Costed) (after : Found) (list : List Node) → IsRoot rules.programme rules.shapes rules.budget root → IsSoundHere rules.programme rules.shapes rules.budget root known →
    IsExplored rules root (started known) [] after list → IsSoundFound rules root after
explored-sound rules root known after list is sound explored =
    runs-sound rules root root (started known) explored.tree after (under-root rules.programme rules.shapes rules.budget root is) sound explored.run
