-- What is overfull at a node by the rule of a certificate's version, and what isn't.
use Rattle.std.proofs.Common.{◌≡◌, inl, inr, ℕ, zero, suc, ◌-◌, ℤ, Bool, false, ◌&&◌, List, [], ◌∷◌, refl, ap, arith}
use Rattle.std.specs.Prelude.{slice_get}
use Rattle.std.specs.List.{list_any}
use Rattle.std.specs.Option.{option_map_or}
use Rattle.std.proofs.lemmas.Bool.{cases_Bool, cases_lt, or_parts}
use Rattle.adv_base.specs.declared.catalogue.index.IndexShape.{IndexShape}
use Rattle.adv_base.specs.declared.setting.Config.{Config}
use Rattle.adv_base.specs.Configs.{has_candidate, config_pages, IsApart}
use Rattle.adv_base.proofs.Clashing.{unclustered-apart}
use Rattle.adv_base.specs.Nodes as nodes
use Rattle.adv_base.specs.Settings.{TheSetting}
use Rattle.bip_model.specs.declared.answer.Node.{Node}
use Rattle.bip_model.specs.Proves.{Proves}
use Rattle.bip_model.specs.Trees.{Tree, Branches, Leaf, Full, Rule, ByPages, ByFit, in_side, out_side, IsOverfull, Shows}
use Rattle.certificate.specs.Answers.{version_of}
use Rattle.plan_model.specs.Lagrangian.{TheMultipliers}
use Rattle.gap_checker.specs.Faults.{FitsBy}
use Rattle.gap_checker.specs.Views.{rule_of}

-- nothing is overfull and fits
pub full-or-fits : (rule : Rule) (setting : TheSetting) (budget : ℕ) (at : nodes.Node) → IsOverfull rule setting budget at → FitsBy rule setting budget at → ⊥
full-or-fits ByPages setting budget at full fits = omega (arith, full, fits)
full-or-fits ByFit setting budget at full fits = full fits

-- ## The certificate of an answer

abbrev some-clustered : List IndexShape → Bool
some-clustered shapes = list_any (λ shape. shape.clustered) shapes

no-clustered : (shapes : List IndexShape) (k : ℕ) → some-clustered shapes ≡ false → option_map_or (λ (shape : IndexShape). shape.clustered) (slice_get shapes k) false ≡ false
no-clustered [] k none = refl
no-clustered (shape ∷ shapes) zero none = (or_parts shape.clustered (some-clustered shapes) none).0
no-clustered (shape ∷ shapes) (suc k) none = no-clustered shapes k (or_parts shape.clustered (some-clustered shapes) none).1

-- where no candidate is clustered, none clash
all-apart : (shapes : List IndexShape) (config : Config) → some-clustered shapes ≡ false → IsApart shapes config
all-apart shapes config none a b h =
    unclustered-apart shapes config b (ap (λ (flag : Bool). flag && has_candidate config b) (no-clustered shapes (b - 1) none)) a h

-- so what is overfull is so by its pages
full-pages : (setting : TheSetting) (budget : ℕ) (at : nodes.Node) → some-clustered setting.shapes ≡ false → IsOverfull ByFit setting budget at → IsOverfull ByPages setting budget at
full-pages setting budget at none full =
    elim (cases_lt budget (config_pages setting.cat setting.shapes at.inside)) [
      | inl over ↦ over
      | inr within ↦ absurd (full (record { pages = within; apart = all-apart setting.shapes at.inside none }))
    ]

shows-pages : (setting : TheSetting) (budget : ℕ) (bound : ℤ) (sets : List TheMultipliers) (at : nodes.Node) (tree : Tree) → some-clustered setting.shapes ≡ false →
    Shows ByFit setting budget bound sets at tree → Shows ByPages setting budget bound sets at tree
shows-pages setting budget bound sets at (Branches a inside outside) none shows =
    (shows.0, shows-pages setting budget bound sets (in_side at a) inside none shows.1, shows-pages setting budget bound sets (out_side at a) outside none shows.2)
shows-pages setting budget bound sets at (Leaf k) none shows = shows
shows-pages setting budget bound sets at Full none shows = full-pages setting budget at none shows

-- what a search proves, its certificate's version does
pub in-version : (setting : TheSetting) (budget : ℕ) (root : nodes.Node) (config : Config) (cost : ℕ) (bound : ℤ) (sets : List TheMultipliers) (list : List Node) → Proves ByFit setting budget root config cost bound sets list →
    Proves (rule_of (version_of setting.shapes)) setting budget root config cost bound sets list
in-version setting budget root config cost bound sets list proves =
    elim (cases_Bool (some-clustered setting.shapes)) [
      | inl some ↦ rw some proves
      | inr none ↦
          rw none
          (record {
            members = proves.members;
            fits = proves.fits;
            cost_is = proves.cost_is;
            rents = proves.rents;
            shown = record { tree = proves.shown.tree; list_is = proves.shown.list_is; shows = shows-pages setting budget bound sets root proves.shown.tree none proves.shown.shows };
          })
    ]
