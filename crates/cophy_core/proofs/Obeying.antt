-- The root that rules make, and the one fault that they have.
use Rattle.std.proofs.Common.{◌≡◌, ◌∙◌, ◌⊎◌, inl, inr, ℕ, List, length, Ok, Err, refl, sym, subst, arith}
use Rattle.std.proofs.lemmas.List.{length-map}
use Rattle.adv_base.specs.Configs.{Fits}
use Rattle.adv_base.specs.Settings.{TheSetting}
use Rattle.bip_model.specs.declared.fix.Fix.{Fix}
use Rattle.bip_model.specs.declared.programme.Programme.{Programme}
use Rattle.bip_model.specs.StandsFor.{StandsFor}
use Rattle.bip_model.specs.Views.{node_of}
use Rattle.branch_bound.specs.Sides.{IsRoot}
use Rattle.dba_rules.specs.declared.fault.RuleFault.{RuleFault}
use Rattle.dba_rules.specs.Rules.{root_of, IsFreePast}
use Rattle.dba_rules.specs.Settled.{IsFault}
use Rattle.dba_rules.proofs.Unique.{one_fault, fault_or_fits}
use Rattle.cophy_core.specs.commands.Ruled.{IsRootOf, IsUnsettled, HasRuleFault}

pub one_root : (setting : TheSetting) (rules : List ℕ) (root other : Fix) → root_of setting rules ≡ Ok root → root_of setting rules ≡ Ok other → root ≡ other
one_root setting rules root other a b = let both : Ok root ≡ Ok other = sym a ∙ b in cc

pub not_both : (setting : TheSetting) (rules : List ℕ) (root : Fix) (fault : RuleFault) → root_of setting rules ≡ Ok root → root_of setting rules ≡ Err fault → ⊥
not_both setting rules root fault a b = let both : Ok root ≡ Err fault = sym a ∙ b in cc

-- rules with a fault make no root
pub faulty_or_root : (setting : TheSetting) (rules : List ℕ) (budget : ℕ) (fault : RuleFault) (root : Fix) → HasRuleFault setting rules budget fault → IsRootOf setting rules budget root → ⊥
faulty_or_root setting rules budget fault root has is =
    elim has.first [
      | inl first ↦ not_both setting rules root fault is.root_is first
      | inr h ↦
          let same = one_root setting rules root h.root is.root_is h.root_is in
          let fits = subst (λ (r : Fix). Fits setting.cat setting.shapes (node_of r).inside budget) same is.fits in
          fault_or_fits setting (node_of h.root).inside budget fault h.fault_is fits
    ]

-- ## The root

-- a search can start from it
pub root_starts : (setting : TheSetting) (programme : Programme) (budget : ℕ) (root : Fix) → StandsFor setting programme → Fits setting.cat setting.shapes (node_of root).inside budget → IsFreePast setting.shapes root → IsRoot programme setting.shapes budget root
root_starts setting programme budget root stands fits past =
    let sizes = stands.sizes_are in
    let count : length programme.sizes ≡ length setting.shapes = rw (sizes, length-map) refl in
    record {
      fits = rw sizes fits.pages;
      apart = fits.apart;
      past = λ i h. past i (omega (arith, count, h));
    }

-- ## One fault

-- rules, with what they make in, have one first fault
pub one_rule_fault : (setting : TheSetting) (rules : List ℕ) (budget : ℕ) (fault other : RuleFault) → HasRuleFault setting rules budget fault → HasRuleFault setting rules budget other → other ≡ fault
one_rule_fault setting rules budget fault other a b = by_first a.first b.first
  where
    by_first : (root_of setting rules ≡ Err fault) ⊎ IsUnsettled setting rules budget fault → (root_of setting rules ≡ Err other) ⊎ IsUnsettled setting rules budget other → other ≡ fault
    by_first (inl x) (inl y) = let both : Err other ≡ Err fault = sym y ∙ x in cc
    by_first (inl x) (inr y) = absurd (not_both setting rules y.root fault y.root_is x)
    by_first (inr x) (inl y) = absurd (not_both setting rules x.root other x.root_is y)
    by_first (inr x) (inr y) =
        let same = one_root setting rules x.root y.root x.root_is y.root_is in
        one_fault setting (node_of y.root).inside budget fault other (subst (λ (r : Fix). IsFault setting (node_of r).inside budget fault) same x.fault_is) y.fault_is
