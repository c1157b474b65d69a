-- A fix with one state written is a side of its node; with the state written back it is the node again.
use Rattle.std.proofs.Common.{◌≡◌, ◌∙◌, ℕ, zero, suc, ◌-◌, ◌≤◌, Bool, true, false, not, ◌&&◌, List, map, sym, ap, arith}
use Rattle.std.specs.Prelude.{slice_index_or, slice_set}
use Rattle.std.proofs.lemmas.Bool.{not-true, and_parts}
use Rattle.adv_base.specs.declared.setting.Config.{Config}
use Rattle.adv_base.specs.Configs.{has_candidate}
use Rattle.adv_base.specs.Nodes as nodes
use Rattle.adv_base.specs.Nodes.{is_free}
use Rattle.plan_model.proofs.Renting.{flag-of}
use Rattle.bip_model.specs.declared.fix.Fix.{Fix}
use Rattle.bip_model.specs.declared.fix.State.TheVariants.{In, Out}
use Rattle.bip_model.specs.Trees.{in_side, out_side}
use Rattle.bip_model.specs.Views.{is_in, is_out, node_of}
use Rattle.bip_model.proofs.Lists.{map-set, set-same}

-- what is free is neither in nor out
pub free-parts : (node : nodes.Node) (a : ℕ) → is_free node a ≡ true → (has_candidate node.inside a ≡ false) × (has_candidate node.outside a ≡ false)
free-parts node a free =
    let parts = and_parts (not (has_candidate node.inside a)) (not (has_candidate node.outside a)) free in
    (not-true (has_candidate node.inside a) parts.0, not-true (has_candidate node.outside a) parts.1)

pub parts-free : (node : nodes.Node) (a : ℕ) → has_candidate node.inside a ≡ false → has_candidate node.outside a ≡ false → is_free node a ≡ true
parts-free node a not_in not_out = ap (λ (b : Bool). not b && not (has_candidate node.outside a)) not_in ∙ ap not not_out

flag-off : (config : Config) (a : ℕ) → 1 ≤ a → has_candidate config a ≡ false → slice_index_or config.on (a - 1) false ≡ false
flag-off config zero some off = absurd (omega (arith, some))
flag-off config (suc i) some off =
    let same : suc i - 1 ≡ i = omega arith in
    ap (λ (k : ℕ). slice_index_or config.on k false) same ∙ sym (flag-of config i) ∙ off

-- the node of flags
abbrev flagged : List Bool → List Bool → nodes.Node
flagged inside outside = record { inside = record { on = inside }; outside = record { on = outside } }

flagged-same : (i j o p : List Bool) → i ≡ j → o ≡ p → flagged i o ≡ flagged j p
flagged-same i j o p inside outside = ap (λ (x : List Bool). flagged x o) inside ∙ ap (λ (x : List Bool). flagged j x) outside

-- ## Writing a state

pub written-in : (old new : Fix) (a : ℕ) → 1 ≤ a → is_free (node_of old) a ≡ true → new.state ≡ slice_set old.state (a - 1) In → node_of new ≡ in_side (node_of old) a
written-in old new a some free is =
    let inside : map is_in new.state ≡ slice_set (map is_in old.state) (a - 1) true = ap (map is_in) is ∙ map-set is_in old.state (a - 1) In in
    let off = flag-off (node_of old).outside a some (free-parts (node_of old) a free).1 in
    let outside : map is_out new.state ≡ map is_out old.state =
    ap (map is_out) is ∙ map-set is_out old.state (a - 1) In ∙ set-same (map is_out old.state) (a - 1) off in
    flagged-same (map is_in new.state) (slice_set (map is_in old.state) (a - 1) true) (map is_out new.state) (map is_out old.state) inside outside

pub written-out : (old new : Fix) (a : ℕ) → 1 ≤ a → is_free (node_of old) a ≡ true → new.state ≡ slice_set old.state (a - 1) Out → node_of new ≡ out_side (node_of old) a
written-out old new a some free is =
    let outside : map is_out new.state ≡ slice_set (map is_out old.state) (a - 1) true = ap (map is_out) is ∙ map-set is_out old.state (a - 1) Out in
    let off = flag-off (node_of old).inside a some (free-parts (node_of old) a free).0 in
    let inside : map is_in new.state ≡ map is_in old.state =
    ap (map is_in) is ∙ map-set is_in old.state (a - 1) Out ∙ set-same (map is_in old.state) (a - 1) off in
    flagged-same (map is_in new.state) (map is_in old.state) (map is_out new.state) (slice_set (map is_out old.state) (a - 1) true) inside outside
