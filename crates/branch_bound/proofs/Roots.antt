-- A search can start from the root that leaves each candidate free.
use Rattle.std.proofs.Common.{◌≡◌, ◌∙◌, ℕ, zero, suc, Bool, false, List, [], ◌∷◌, map, replicate, slice_index_or, refl, sym, ap, subst, arith}
use Rattle.std.specs.Prelude.{◌&&◌, sum}
use Rattle.std.proofs.lemmas.Bool.{false≢true, and_parts}
use Rattle.adv_base.specs.declared.catalogue.index.IndexShape.{IndexShape}
use Rattle.adv_base.specs.declared.limits.TheConstants.{MOST_CANDIDATES}
use Rattle.adv_base.specs.declared.setting.Config.{Config}
use Rattle.adv_base.specs.Configs.{chosen, has_candidate, is_clash, IsApart}
use Rattle.adv_base.specs.Nodes as nodes
use Rattle.adv_base.proofs.ConfigLaws.{chosen-none}
use Rattle.plan_model.specs.Totals.{no_candidates}
use Rattle.bip_model.specs.declared.fix.Fix.{Fix}
use Rattle.bip_model.specs.declared.fix.State.{State}
use Rattle.bip_model.specs.declared.fix.State.TheVariants.{Free}
use Rattle.bip_model.specs.declared.programme.Programme.{Programme}
use Rattle.bip_model.specs.Proves.{free_node}
use Rattle.bip_model.specs.Views.{is_in, is_out, node_of}
use Rattle.bip_model.proofs.Showing.{none-off}
use Rattle.branch_bound.specs.Sides.{inside, IsRoot}

-- flags of states that are all free
unset : (f : State → Bool) → f Free ≡ false → (states : List State) → states ≡ replicate MOST_CANDIDATES Free → map f states ≡ replicate MOST_CANDIDATES false
unset f off states free = ap (map f) free ∙ each MOST_CANDIDATES
  where
    each : (n : ℕ) → map f (replicate n Free) ≡ replicate n false
    each zero = refl
    each (suc n) = ap (λ (flag : Bool). flag ∷ map f (replicate n Free)) off ∙ ap (λ (flags : List Bool). false ∷ flags) (each n)

free-at : (n i : ℕ) → slice_index_or (replicate n Free) i Free ≡ Free
free-at zero i = refl
free-at (suc n) zero = refl
free-at (suc n) (suc i) = free-at n i

pub root-is : (root : Fix) → root.state ≡ replicate MOST_CANDIDATES Free → node_of root ≡ free_node
root-is root free =
    let inside = unset is_in refl root.state free in
    let outside = unset is_out refl root.state free in
    let Made : List Bool → List Bool → nodes.Node = λ i o. record { inside = record { on = i }; outside = record { on = o } } in
    ap (λ (i : List Bool). Made i (map is_out root.state)) inside ∙ ap (λ (o : List Bool). Made (replicate MOST_CANDIDATES false) o) outside

-- no two clash where there is none
none-apart : (shapes : List IndexShape) → IsApart shapes no_candidates
none-apart shapes a b h =
    let pair = and_parts (has_candidate no_candidates a && has_candidate no_candidates b) (is_clash shapes a b) h.clash in
    let has = and_parts (has_candidate no_candidates a) (has_candidate no_candidates b) pair.0 in
    false≢true (sym (none-off a) ∙ has.0)

pub root-starts : (programme : Programme) (shapes : List IndexShape) (budget : ℕ) (root : Fix) → root.state ≡ replicate MOST_CANDIDATES Free → IsRoot programme shapes budget root
root-starts programme shapes budget root free =
    let none : chosen (map is_in root.state) programme.sizes ≡ [] =
    ap (λ (flags : List Bool). chosen flags programme.sizes) (unset is_in refl root.state free) ∙ chosen-none MOST_CANDIDATES programme.sizes in
    let inside_is : inside root ≡ no_candidates = ap (λ (node : nodes.Node). node.inside) (root-is root free) in
    let pages : sum (chosen (map is_in root.state) programme.sizes) ≡ 0 = ap sum none in
    record {
      fits = omega (arith, pages);
      apart = subst (λ (config : Config). IsApart shapes config) (sym inside_is) (none-apart shapes);
      past = λ i past. ap (λ (states : List State). slice_index_or states i Free) free ∙ free-at MOST_CANDIDATES i;
    }
