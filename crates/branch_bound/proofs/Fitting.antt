-- What fits, as a programme and a setting for which it stands see it; and that what is in fits at each node of a run that
-- isn't called overfull.
use Rattle.std.proofs.Common.{◌≡◌, ◌≢◌, inl, inr, ℕ, zero, suc, ◌≤◌, List, [], ◌∷◌, ◌++◌, refl, sym, subst, arith}
use Rattle.std.specs.Prelude.{Some, slice_get}
use Rattle.adv_base.specs.declared.catalogue.index.IndexShape.{IndexShape}
use Rattle.adv_base.specs.declared.setting.Config.{Config}
use Rattle.adv_base.specs.Configs.{IsApart, Fits}
use Rattle.adv_base.specs.Nodes as nodes
use Rattle.adv_base.specs.Settings.{TheSetting}
use Rattle.bip_model.specs.declared.fix.Fix.{Fix}
use Rattle.bip_model.specs.declared.fix.State.TheVariants.{In, Out}
use Rattle.bip_model.specs.Best.{Subproblem, subproblems, AreWorthwhile}
use Rattle.bip_model.specs.SearchLaws.{NodesFit}
use Rattle.bip_model.specs.Trees.{Tree, Branches, Leaf, Full, in_side, out_side}
use Rattle.bip_model.specs.Views.{node_of}
use Rattle.bip_model.proofs.Deciding.{pages-same}
use Rattle.bip_model.proofs.Descending.{useful-branches, space-below}
use Rattle.bip_model.proofs.Lists.{either-of}
use Rattle.branch_bound.specs.declared.found.Found.{Found}
use Rattle.branch_bound.specs.Sides.{fixed, inside, pages}
use Rattle.branch_bound.specs.inner.Climbs.{IsFitting}
use Rattle.branch_bound.specs.inner.Runs.{Rules, visited, branched, Runs}
use Rattle.branch_bound.proofs.Running.{AreRulesFor, in-is, out-is, good-choice}

-- ## A configuration

pub fits-in : (setting : TheSetting) (rules : Rules) (config : Config) → AreRulesFor setting rules → IsFitting rules.programme rules.shapes rules.budget config → Fits setting.cat setting.shapes config rules.budget
fits-in setting rules config are fits =
    record {
      pages = omega (arith, pages-same setting rules.programme config are.stands, fits.space);
      apart = subst (λ (shapes : List IndexShape). IsApart shapes config) (sym are.shapes_are) fits.apart;
    }

pub fitting-of : (setting : TheSetting) (rules : Rules) (config : Config) → AreRulesFor setting rules → Fits setting.cat setting.shapes config rules.budget → IsFitting rules.programme rules.shapes rules.budget config
fitting-of setting rules config are fits =
    record {
      space = omega (arith, pages-same setting rules.programme config are.stands, fits.pages);
      apart = subst (λ (shapes : List IndexShape). IsApart shapes config) are.shapes_are fits.apart;
    }

-- ## The nodes of a run

-- what is in is apart at each node that isn't called overfull
abbrev AreApart : List IndexShape → List Subproblem → Type 0
AreApart shapes list = (i : ℕ) (s : Subproblem) → slice_get list i ≡ Some s → (s.tree ≢ Full) → IsApart shapes s.node.inside

one-apart : (shapes : List IndexShape) (s : Subproblem) → ((s.tree ≢ Full) → IsApart shapes s.node.inside) → AreApart shapes (s ∷ [])
one-apart shapes s apart zero x found other =
    let same : s ≡ x = cc in
    subst (λ (y : Subproblem). (y.tree ≢ Full) → IsApart shapes y.node.inside) same apart other
one-apart shapes s apart (suc i) x found other = absurd (cc)

both-apart : (shapes : List IndexShape) (xs ys : List Subproblem) → AreApart shapes xs → AreApart shapes ys → AreApart shapes (xs ++ ys)
both-apart shapes xs ys one two i s found other =
    elim (either-of xs ys i s found) [
      | inl front ↦ one i s front other
      | inr back ↦ two back.number s back.found other
    ]

runs-apart : (setting : TheSetting) (rules : Rules) (fix : Fix) (before : Found) (tree : Tree) (after : Found) → AreRulesFor setting rules → Runs rules fix before tree after → AreApart rules.shapes (subproblems (node_of fix) tree)
runs-apart setting rules fix before (Leaf k) after are run =
    one-apart rules.shapes (record { node = node_of fix; tree = Leaf k })
    (λ other. elim run [
      | inl closed ↦ closed.apart
      | inr forced ↦ forced.apart
    ])
runs-apart setting rules fix before (Branches a inside_tree outside_tree) after are run =
    let i = run.index in
    let good = good-choice setting rules fix a i are run.numbered run.branch.choice in
    let first = subst (λ (n : nodes.Node). AreApart rules.shapes (subproblems n inside_tree)) (in-is fix a i run.numbered good.free)
    (runs-apart setting rules (fixed fix i In) (branched (visited rules fix before)) inside_tree run.middle are run.inside_run) in
    let second = subst (λ (n : nodes.Node). AreApart rules.shapes (subproblems n outside_tree)) (out-is fix a i run.numbered good.free)
    (runs-apart setting rules (fixed fix i Out) run.middle outside_tree after are run.outside_run) in
    let xs : List Subproblem = subproblems (in_side (node_of fix) a) inside_tree in
    let ys : List Subproblem = subproblems (out_side (node_of fix) a) outside_tree in
    let own : Subproblem = record { node = node_of fix; tree = Branches a inside_tree outside_tree } in
    both-apart rules.shapes (own ∷ []) (xs ++ ys) (one-apart rules.shapes own (λ other. run.apart)) (both-apart rules.shapes xs ys first second)
runs-apart setting rules fix before Full after are run =
    one-apart rules.shapes (record { node = node_of fix; tree = Full }) (λ other. absurd (other refl))

pub runs-fit : (setting : TheSetting) (rules : Rules) (fix : Fix) (before : Found) (tree : Tree) (after : Found) → AreRulesFor setting rules → pages rules.programme (inside fix) ≤ rules.budget →
    AreWorthwhile setting rules.budget (subproblems (node_of fix) tree) → Runs rules fix before tree after → NodesFit setting rules.budget (subproblems (node_of fix) tree)
runs-fit setting rules fix before tree after are space worthwhile run i s found other =
    let at' = useful-branches setting rules.budget (node_of fix) tree worthwhile in
    let apart = runs-apart setting rules fix before tree after are run i s found other in
    record {
      pages = space-below setting rules.budget (node_of fix) tree at' (omega (arith, pages-same setting rules.programme (inside fix) are.stands, space)) i s found;
      apart = subst (λ (shapes : List IndexShape). IsApart shapes s.node.inside) (sym are.shapes_are) apart;
    }
