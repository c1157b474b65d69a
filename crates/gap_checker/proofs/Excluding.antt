-- A fault and a proof exclude each other.
use Rattle.std.proofs.Common.{◌≡◌, ◌∙◌, ℕ, zero, suc, ◌-◌, ◌≤◌, ℤ, true, List, [], ◌∷◌, ◌++◌, get_or, refl, sym, ap, subst, arith}
use Rattle.std.specs.Prelude.{All, Some, None, slice_get, option_map, ◌≤ℤ◌, ◌<ℤ◌}
use Rattle.std.specs.List.{AllByRecursion}
use Rattle.std.proofs.lemmas.Option.{slice_get-map, get_or_from_slice_get, slice_get_within, same_Some}
use Rattle.std.proofs.lemmas.Int.{ints}
use Rattle.std.proofs.lemmas.List.Elements.{All-head}
use Rattle.adv_base.specs.Configs.{IsConfigOf, Fits, config_pages, has_candidate}
use Rattle.adv_base.proofs.Clashing.{clash-or-apart}
use Rattle.adv_base.specs.Nodes as nodes
use Rattle.adv_base.specs.Settings.{TheSetting, KeepsLimits}
use Rattle.plan_model.proofs.Unique.{one-total, one-lagrangian}
use Rattle.bip_model.specs.declared.answer.Node.{Node}
use Rattle.bip_model.specs.declared.answer.Node.TheVariants.{Branch, Bounded, Overfull}
use Rattle.bip_model.specs.Laws.{BoundsAll}
use Rattle.bip_model.specs.Proves.{free_node, RentsUses}
use Rattle.bip_model.specs.Trees.{preorder}
use Rattle.bip_model.proofs.Showing.{proved-bound, below-free}
use Rattle.certificate.specs.declared.cert.Cert.{Cert}
use Rattle.certificate.specs.declared.cert.SparseSet.{SparseSet}
use Rattle.certificate.specs.Limits.{CertLimits, SetLimits, EntriesFrom}
use Rattle.plan_model.specs.Lagrangian.{TheMultipliers, IsLagrangian}
use Rattle.plan_model.specs.Totals.{IsTotal}
use Rattle.gap_checker.specs.declared.fault.CheckFault.{CheckFault}
use Rattle.gap_checker.specs.declared.fault.CheckFault.TheVariants as faults
use Rattle.gap_checker.specs.Faults.{IsFault, IsNodeAt, IsBadConfig, IsOverBudget, IsClashing, IsOtherCost, IsBadPair, IsLeafBelow, IsNotOverfull}
use Rattle.gap_checker.specs.Views.{config_of, sets_of, multipliers_of, rule_of, IsProof}
use Rattle.gap_checker.specs.Visits.{Visit, visits, IsRight, IsRightAt}
use Rattle.gap_checker.proofs.Naming.{entry-rent}
use Rattle.gap_checker.proofs.Numbers.{has-flag, number-has, config-count}
use Rattle.gap_checker.proofs.Overfull.{full-or-fits}
use Rattle.gap_checker.proofs.Visiting.{shown-right}

-- ## Nodes

behind-nothing : (xs : List Node) → xs ≡ xs ++ []
behind-nothing [] = refl
behind-nothing (x ∷ xs) = ap (λ (ys : List Node). x ∷ ys) (behind-nothing xs)

some-there : {X : Type 0} (P : X → Type 0) (before : List X) (x : X) (rest : List X) → All P (before ++ x ∷ rest) → P x
some-there P [] x rest all = All-head P x rest all
some-there P (y ∷ before) x rest all = some-there P before x rest (λ k d within. all (suc k) d (omega (arith, within)))

-- each node of a proof's tree is right
right-there : (setting : TheSetting) (root : nodes.Node) (cert : Cert) (number : ℕ) (at : nodes.Node) (node : Node) → IsProof setting root cert → IsNodeAt setting root cert number at node → IsRightAt (rule_of cert.version) setting cert.budget cert.bound (sets_of cert) at node
right-there setting root cert number at node proof is =
    let P : Visit → Type 0 = IsRight (rule_of cert.version) setting cert.budget cert.bound (sets_of cert) in
    let all = shown-right (rule_of cert.version) setting cert.budget cert.bound (sets_of cert) root [] proof.shown.tree [] proof.shown.shows (λ k d within. absurd (omega (arith, within))) in
    let moved : All P (visits (root ∷ []) cert.tree) = subst (λ (list : List Node). All P (visits (root ∷ []) list)) (sym (behind-nothing (preorder proof.shown.tree)) ∙ sym proof.shown.list_is) all in
    some-there P is.before (record { at = at; node = node }) is.rest (subst (All P) is.parts moved)

not-below : (bound value : ℤ) → bound ≤ℤ value → value <ℤ bound → ⊥
not-below bound value least below = omega (arith, ints, least, below)

-- a leaf below the bound isn't right
pub leaf-wrong : (setting : TheSetting) (root : nodes.Node) (cert : Cert) (n : ℕ) (computed claimed : ℤ) (is : IsLeafBelow setting root cert n computed claimed) → IsRightAt (rule_of cert.version) setting cert.budget cert.bound (sets_of cert) is.at (Bounded is.set) → ⊥
leaf-wrong setting root cert n computed claimed is right =
    let same : right.multipliers ≡ is.multipliers = same_Some right.multipliers is.multipliers (sym right.found ∙ is.found) in
    let value : right.value ≡ computed = one-lagrangian setting cert.budget is.at is.multipliers right.value computed (subst (λ (m : TheMultipliers). IsLagrangian setting cert.budget is.at m right.value) same right.value_is) is.value_is in
    not-below claimed computed (subst (λ (v : ℤ). claimed ≤ℤ v) value (subst (λ (b : ℤ). b ≤ℤ right.value) (sym is.claimed_is) right.at_least)) is.below

-- nor is one that is called overfull where what is in fits
pub full-wrong : (setting : TheSetting) (root : nodes.Node) (cert : Cert) (n size : ℕ) (is : IsNotOverfull setting root cert n size) → IsRightAt (rule_of cert.version) setting cert.budget cert.bound (sets_of cert) is.at Overfull → ⊥
full-wrong setting root cert n size is right = full-or-fits (rule_of cert.version) setting cert.budget is.at right is.fits

-- ## Configurations and pairs

pub not-over : (setting : TheSetting) (cert : Cert) (size budget : ℕ) → config_pages setting.cat setting.shapes (config_of cert) ≤ cert.budget → IsOverBudget setting cert size budget → ⊥
not-over setting cert size budget pages is = omega (arith, is.over, is.size_is, pages)

pub not-clashing : (setting : TheSetting) (cert : Cert) (first second : ℕ) → Fits setting.cat setting.shapes (config_of cert) cert.budget → IsClashing setting cert first second → ⊥
not-clashing setting cert first second fits is = clash-or-apart setting.shapes (config_of cert) first second is.clash fits.apart

pub not-other : (setting : TheSetting) (cert : Cert) (claimed computed : ℕ) → IsTotal setting.cat setting.shapes (config_of cert) setting.statements cert.cost → IsOtherCost setting cert claimed computed → ⊥
not-other setting cert claimed computed total is =
    is.differ (is.claimed_is ∙ one-total setting.cat setting.shapes (config_of cert) setting.statements cert.cost computed total is.computed_is)

pub bad-number : (setting : TheSetting) (cert : Cert) (number : ℕ) → CertLimits cert → IsConfigOf setting.shapes (config_of cert) → IsBadConfig setting cert number → ⊥
bad-number setting cert number limits members bad =
    let has = number-has 1 cert.config bad.place number (omega arith) limits.config bad.found in
    let place : suc (number - 1) ≡ number = omega (arith, bad.past) in
    let on : has_candidate (config_of cert) (suc (number - 1)) ≡ true = ap (has_candidate (config_of cert)) place ∙ has.0 in
    let flag = has-flag (config_of cert) (number - 1) on (omega (arith, config-count cert.config, has.1, bad.past)) in
    omega (arith, members (number - 1) flag, bad.past)

pub bad-pair : (setting : TheSetting) (cert : Cert) (number place : ℕ) → ((j : ℕ) (set : SparseSet) → slice_get cert.sets j ≡ Some set → EntriesFrom 0 set.entries) → All (RentsUses setting) (sets_of cert) → IsBadPair setting cert number place → ⊥
bad-pair setting cert number place rise rents bad =
    let within = slice_get_within cert.sets (number - 1) bad.set bad.set_found in
    let set : slice_get (sets_of cert) (number - 1) ≡ Some (multipliers_of bad.set) = slice_get-map multipliers_of cert.sets (number - 1) ∙ ap (option_map multipliers_of) bad.set_found in
    let inside = slice_get_within (sets_of cert) (number - 1) (multipliers_of bad.set) set in
    let uses = rents (number - 1) (multipliers_of bad.set) inside in
    let same : get_or (sets_of cert) (number - 1) (multipliers_of bad.set) ≡ multipliers_of bad.set = get_or_from_slice_get (sets_of cert) (number - 1) (multipliers_of bad.set) (multipliers_of bad.set) set in
    let named : RentsUses setting (multipliers_of bad.set) = subst (RentsUses setting) same uses in
    bad.none (named bad.entry.statement (bad.entry.slot - 1) bad.entry.candidate (entry-rent bad.set.entries 0 (place - 1) bad.entry (rise (number - 1) bad.set bad.set_found) bad.entry_found))

-- what proves is refused only for want of memory
pub excluded : (setting : TheSetting) (root : nodes.Node) (cert : Cert) (fault : CheckFault) → CertLimits cert → ((j : ℕ) (set : SparseSet) → slice_get cert.sets j ≡ Some set → EntriesFrom 0 set.entries) →
    IsProof setting root cert → IsFault setting root cert fault → fault ≡ faults.Memory
excluded setting root cert faults.Memory limits rise proof is = refl
excluded setting root cert (faults.BadConfig n) limits rise proof is = absurd (bad-number setting cert n limits proof.members is)
excluded setting root cert (faults.OverBudget size budget) limits rise proof is = absurd (not-over setting cert size budget proof.fits.pages is)
excluded setting root cert (faults.Clash first second) limits rise proof is = absurd (not-clashing setting cert first second proof.fits is)
excluded setting root cert (faults.CostDiffers claimed computed) limits rise proof is = absurd (not-other setting cert claimed computed proof.cost_is is)
excluded setting root cert (faults.BadPair set entry) limits rise proof is = absurd (bad-pair setting cert set entry rise proof.rents is)
excluded setting root cert (faults.BadBranch n) limits rise proof is = absurd (is.wrong (right-there setting root cert n is.at (Branch is.candidate) proof is.node_is))
excluded setting root cert (faults.LeafBelow n computed claimed) limits rise proof is =
    absurd (leaf-wrong setting root cert n computed claimed is (right-there setting root cert n is.at (Bounded is.set) proof is.node_is))
excluded setting root cert (faults.NotInfeasible n size) limits rise proof is =
    absurd (full-wrong setting root cert n size is (right-there setting root cert n is.at Overfull proof is.node_is))

-- the entries of a certificate's sets are in order
pub sets-rise : (sets : List SparseSet) → AllByRecursion SetLimits sets → (j : ℕ) (set : SparseSet) → slice_get sets j ≡ Some set → EntriesFrom 0 set.entries
sets-rise [] limits j set there = absurd (none j there)
  where
    none : (j : ℕ) → None ≡ Some set → ⊥
    none j e = cc
sets-rise (first ∷ sets) limits zero set there = subst (λ (s : SparseSet). EntriesFrom 0 s.entries) (same_Some first set there) limits.0.entries
sets-rise (first ∷ sets) limits (suc j) set there = sets-rise sets limits.1 j set there

-- a proof bounds every fitting configuration
pub bounds-all : (setting : TheSetting) (cert : Cert) → KeepsLimits setting → IsProof setting free_node cert → BoundsAll setting cert.budget cert.cost cert.bound
bounds-all setting cert limits proof =
    record {
      all = λ other sum is fits sum_is. proved-bound (rule_of cert.version) setting cert.budget free_node (config_of cert) cert.cost cert.bound (sets_of cert) cert.tree other sum limits proof is fits (below-free other) sum_is;
      own = proved-bound (rule_of cert.version) setting cert.budget free_node (config_of cert) cert.cost cert.bound (sets_of cert) cert.tree (config_of cert) cert.cost limits proof proof.members proof.fits (below-free (config_of cert)) proof.cost_is;
    }
