-- What a choice at a node tells.
use Rattle.std.proofs.Common.{◌≡◌, ◌∙◌, ℕ, suc, ◌+◌, ◌-◌, ◌≤◌, true, false, refl, sym, ap, arith}
use Rattle.std.specs.Prelude.{slice_index_or}
use Rattle.std.proofs.Math.ListN.{get_or-map}
use Rattle.std.proofs.lemmas.Bool.{false≢true, and_parts, leb-true}
use Rattle.adv_base.specs.Configs.{Space, pages_in, size_in, fits_beside}
use Rattle.adv_base.specs.Nodes.{is_free, is_open_in}
use Rattle.plan_model.proofs.Renting.{flag-of}
use Rattle.bip_model.specs.declared.fix.Fix.{Fix}
use Rattle.bip_model.specs.declared.fix.State.{State}
use Rattle.bip_model.specs.declared.fix.State.TheVariants.{Free, In, Out}
use Rattle.bip_model.specs.Views.{space_in, is_in, is_out, node_of, state_at}
use Rattle.bip_model.proofs.Sides.{free-parts}
use Rattle.branch_bound.specs.Sides.{is_free_state}
use Rattle.branch_bound.specs.inner.Runs.{Rules, is_choice}
use Rattle.branch_bound.proofs.Climbing.{free-is}

is-free-of : (state : State) → is_in state ≡ false → is_out state ≡ false → is_free_state state ≡ true
is-free-of Free a b = refl
is-free-of In a b = absurd (false≢true (sym a))
is-free-of Out a b = absurd (false≢true (sym b))

-- what is free at the node is free in its fix
pub free-of : (fix : Fix) (i : ℕ) → is_free (node_of fix) (suc i) ≡ true → is_free_state (state_at fix i) ≡ true
free-of fix i free =
    let parts = free-parts (node_of fix) (suc i) free in
    is-free-of (state_at fix i) (sym (get_or-map is_in fix.state i Free) ∙ sym (flag-of (node_of fix).inside i) ∙ parts.0) (sym (get_or-map is_out fix.state i Free) ∙ sym (flag-of (node_of fix).outside i) ∙ parts.1)

pub record IsOpenChoice (rules : Rules) (fix : Fix) (i : ℕ) : Type 0 where
  pub useful : slice_index_or rules.useful i false ≡ true
  pub opens : is_open_in (space_in rules.programme rules.budget) (node_of fix) (suc i) ≡ true
  pub free : state_at fix i ≡ Free
  pub room : pages_in rules.programme.sizes (node_of fix).inside + slice_index_or rules.programme.sizes i 0 ≤ rules.budget

pub open-choice : (rules : Rules) (fix : Fix) (i : ℕ) → is_choice rules fix i ≡ true → IsOpenChoice rules fix i
open-choice rules fix i chosen =
    let space : Space = space_in rules.programme rules.budget in
    let both = and_parts (slice_index_or rules.useful i false) (is_open_in space (node_of fix) (suc i)) chosen in
    let own = and_parts (is_free (node_of fix) (suc i)) (fits_beside space (node_of fix).inside (suc i)) both.1 in
    let place : suc i - 1 ≡ i = omega arith in
    let size : size_in rules.programme.sizes (suc i) ≡ slice_index_or rules.programme.sizes i 0 = ap (λ (k : ℕ). slice_index_or rules.programme.sizes k 0) place in
    let fits : pages_in rules.programme.sizes (node_of fix).inside + size_in rules.programme.sizes (suc i) ≤ rules.budget =
    leb-true (pages_in rules.programme.sizes (node_of fix).inside + size_in rules.programme.sizes (suc i)) rules.budget own.1 in
    record { useful = both.0; opens = both.1; free = free-is (state_at fix i) (free-of fix i own.0); room = omega (arith, size, fits) }
