-- What a tree shows: a bound on the total of every fitting configuration below its root.
use Rattle.std.proofs.Common.{◌≡◌, ◌∙◌, ◌⊎◌, inl, inr, ℕ, zero, suc, ◌+◌, ◌-◌, ◌≤◌, Bool, true, false, List, [], ◌∷◌, replicate, ℤ, pos, negsuc, refl, sym, ap, arith}
use Rattle.std.specs.Prelude.{slice_index_or, slice_set, ◌≤ℤ◌}
use lib.Dec.{leb→le}
use Rattle.std.proofs.lemmas.Bool.{cases_Bool, false≢true}
use Rattle.adv_base.specs.declared.catalogue.Catalogue.{Catalogue}
use Rattle.adv_base.specs.declared.catalogue.index.IndexShape.{IndexShape}
use Rattle.adv_base.specs.declared.limits.TheConstants.{MOST_CANDIDATES}
use Rattle.adv_base.specs.declared.setting.Config.{Config}
use Rattle.adv_base.specs.declared.workload.Statement.{Statement}
use Rattle.adv_base.specs.Configs.{has_candidate, config_pages, IsConfigOf, Fits}
use Rattle.adv_base.proofs.Clashing.{fewer-apart}
use Rattle.adv_base.specs.Nodes as nodes
use Rattle.adv_base.specs.Nodes.{flags_from, config_of, IsBelow}
use Rattle.adv_base.specs.Settings.{TheSetting, KeepsLimits}
use Rattle.adv_base.specs.Sizes.{shape_pages}
use Rattle.adv_base.proofs.OfferBounds.{offers-limits}
use Rattle.plan_model.specs.Lagrangian.{TheMultipliers, IsAtMost}
use Rattle.plan_model.specs.Totals.{no_candidates, IsTotal, OffersKeepLimits}
use Rattle.plan_model.proofs.Duality.{weak-duality, pages-passing}
use Rattle.plan_model.proofs.Renting.{flag-of}
use Rattle.plan_model.proofs.Sums.{passing-more}
use Rattle.bip_model.specs.declared.answer.Node.{Node}
use Rattle.bip_model.specs.Trees.{Tree, Branches, Leaf, Full, Rule, ByPages, ByFit, IsOverfull, with_candidate, in_side, out_side, Shows}
use Rattle.bip_model.specs.Proves.{free_node, Proves}

-- ## Sides of branches

-- a flag that is set is new, or was on before
set-true : (flags : List Bool) (j i : ℕ) → slice_index_or (slice_set flags j true) i false ≡ true → (slice_index_or flags i false ≡ true) ⊎ (i ≡ j)
set-true [] j i on = inl on
set-true (flag ∷ flags) zero zero on = inr refl
set-true (flag ∷ flags) zero (suc i) on = inl on
set-true (flag ∷ flags) (suc j) zero on = inl on
set-true (flag ∷ flags) (suc j) (suc i) on =
    elim (set-true flags j i on) [
      | inl before ↦ inl before
      | inr new ↦ inr (ap suc new)
    ]

-- and what was on stays on
set-keeps : (flags : List Bool) (j i : ℕ) → slice_index_or flags i false ≡ true → slice_index_or (slice_set flags j true) i false ≡ true
set-keeps [] j i on = on
set-keeps (flag ∷ flags) zero zero on = refl
set-keeps (flag ∷ flags) zero (suc i) on = on
set-keeps (flag ∷ flags) (suc j) zero on = on
set-keeps (flag ∷ flags) (suc j) (suc i) on = set-keeps flags j i on

pub with_candidate-has : (config : Config) (a b : ℕ) → 1 ≤ a → has_candidate (with_candidate config a) b ≡ true → (has_candidate config b ≡ true) ⊎ (b ≡ a)
with_candidate-has config a zero some on = absurd (false≢true on)
with_candidate-has config a (suc i) some on =
    elim (set-true config.on (a - 1) i (sym (flag-of (with_candidate config a) i) ∙ on)) [
      | inl before ↦ inl (flag-of config i ∙ before)
      | inr new ↦ let same : suc i ≡ a = omega (arith, new, some) in inr same
    ]

pub with_candidate-keeps : (config : Config) (a b : ℕ) → has_candidate config b ≡ true → has_candidate (with_candidate config a) b ≡ true
with_candidate-keeps config a zero on = absurd (false≢true on)
with_candidate-keeps config a (suc i) on = flag-of (with_candidate config a) i ∙ set-keeps config.on (a - 1) i (sym (flag-of config i) ∙ on)

-- what passes one test in a configuration of all that pass passes the other in its
flags-more : (few many : ℕ → Bool) (a n i : ℕ) → slice_index_or (flags_from few a n) i false ≡ true → (few (a + i) ≡ true → many (a + i) ≡ true) → slice_index_or (flags_from many a n) i false ≡ true
unfolding flags_from
flags-more few many a zero i on more = absurd (false≢true on)
flags-more few many a (suc n) zero on more =
    let here : a ≡ a + 0 = omega arith in
    ap many here ∙ more (ap few (sym here) ∙ on)
flags-more few many a (suc n) (suc i) on more =
    let next : suc a + i ≡ a + suc i = omega arith in
    flags-more few many (suc a) n i on (λ h. ap many next ∙ more (ap few (sym next) ∙ h))

pub true-config_of : (few many : ℕ → Bool) (b : ℕ) → has_candidate (config_of few) b ≡ true → (few b ≡ true → many b ≡ true) → has_candidate (config_of many) b ≡ true
unfolding config_of
true-config_of few many zero on more = absurd (false≢true on)
true-config_of few many (suc i) on more =
    let same : 1 + i ≡ suc i = omega arith in
    flag-of (record { on = flags_from many 1 MOST_CANDIDATES }) i
    ∙ flags-more few many 1 MOST_CANDIDATES i (sym (flag-of (record { on = flags_from few 1 MOST_CANDIDATES }) i) ∙ on) (λ h. ap many same ∙ more (ap few (sym same) ∙ h))

below-in : (node : nodes.Node) (config : Config) (a : ℕ) → 1 ≤ a → IsBelow node config → has_candidate config a ≡ true → IsBelow (in_side node a) config
below-in node config a some below on =
    record {
      holds = λ b there.
          elim (with_candidate-has node.inside a b some there) [
            | inl old ↦ below.holds b old
            | inr new ↦ ap (has_candidate config) new ∙ on
          ];
      lacks = below.lacks;
    }

below-out : (node : nodes.Node) (config : Config) (a : ℕ) → 1 ≤ a → IsBelow node config → has_candidate config a ≡ false → IsBelow (out_side node a) config
below-out node config a some below off =
    record {
      holds = below.holds;
      lacks = λ b there.
          elim (with_candidate-has node.outside a b some there) [
            | inl old ↦ below.lacks b old
            | inr new ↦ ap (has_candidate config) new ∙ off
          ];
    }

-- ## Pages

-- more candidates have no fewer pages
pub pages-more : (cat : Catalogue) (shapes : List IndexShape) (few many : Config) → ((a : ℕ) → has_candidate few a ≡ true → has_candidate many a ≡ true) → config_pages cat shapes few ≤ config_pages cat shapes many
pages-more cat shapes few many more =
    omega (arith, pages-passing cat shapes few, pages-passing cat shapes many, passing-more (has_candidate few) (has_candidate many) (λ k shape. shape_pages cat shape) 1 shapes more)

-- what has fewer candidates than a configuration that fits does too
pub fits-less : (cat : Catalogue) (shapes : List IndexShape) (few many : Config) (budget : ℕ) → ((a : ℕ) → has_candidate few a ≡ true → has_candidate many a ≡ true) → Fits cat shapes many budget → Fits cat shapes few budget
fits-less cat shapes few many budget more fits =
    record { pages = omega (arith, fits.pages, pages-more cat shapes few many more); apart = fewer-apart shapes few many more fits.apart }

-- no configuration below an overfull node fits
pub overfull-none : (rule : Rule) (setting : TheSetting) (budget : ℕ) (node : nodes.Node) (config : Config) → IsOverfull rule setting budget node → IsBelow node config → Fits setting.cat setting.shapes config budget → ⊥
overfull-none ByPages setting budget node config over below fits =
    omega (arith, over, fits.pages, pages-more setting.cat setting.shapes node.inside config below.holds)
overfull-none ByFit setting budget node config over below fits =
    over (fits-less setting.cat setting.shapes node.inside config budget below.holds fits)

-- ## Trees

at_most-trans : (bound value : ℤ) (sum_of : ℕ) → bound ≤ℤ value → IsAtMost value sum_of → IsAtMost bound sum_of
at_most-trans (pos b) (pos v) sum_of less most = let below : b ≤ v = leb→le b v less.le in omega (arith, below, most)
at_most-trans (pos b) (negsuc v) sum_of less most = absurd less.le
at_most-trans (negsuc b) value sum_of less most = tt

all-limits : (setting : TheSetting) (config : Config) (statements : List Statement) → OffersKeepLimits setting.cat setting.shapes config statements
all-limits setting config statements = λ k d within block is. offers-limits setting.cat block setting.shapes config

pub shown : (rule : Rule) (setting : TheSetting) (budget : ℕ) (bound : ℤ) (sets : List TheMultipliers) (node : nodes.Node) (tree : Tree) (config : Config) (sum_of : ℕ) → KeepsLimits setting →
    Shows rule setting budget bound sets node tree → IsConfigOf setting.shapes config → Fits setting.cat setting.shapes config budget → IsBelow node config →
    IsTotal setting.cat setting.shapes config setting.statements sum_of → IsAtMost bound sum_of
shown rule setting budget bound sets node (Branches a inside outside) config sum_of limits shows is fits below cost =
    elim (cases_Bool (has_candidate config a)) [
      | inl on ↦ shown rule setting budget bound sets (in_side node a) inside config sum_of limits shows.1 is fits (below-in node config a shows.0.some below on) cost
      | inr off ↦ shown rule setting budget bound sets (out_side node a) outside config sum_of limits shows.2 is fits (below-out node config a shows.0.some below off) cost
    ]
shown rule setting budget bound sets node (Leaf k) config sum_of limits shows is fits below cost =
    at_most-trans bound shows.value sum_of shows.at_least
    (weak-duality setting budget node shows.multipliers shows.value config sum_of (all-limits setting config setting.statements) fits is limits.shapes_most below shows.value_is cost)
shown rule setting budget bound sets node Full config sum_of limits shows is fits below cost =
    absurd (overfull-none rule setting budget node config shows below fits)

-- ## Proofs of answers

replicate-off : (n i : ℕ) → slice_index_or (replicate n false) i false ≡ false
replicate-off zero i = refl
replicate-off (suc n) zero = refl
replicate-off (suc n) (suc i) = replicate-off n i

pub none-off : (a : ℕ) → has_candidate no_candidates a ≡ false
none-off zero = refl
none-off (suc i) = flag-of no_candidates i ∙ replicate-off MOST_CANDIDATES i

pub below-free : (config : Config) → IsBelow free_node config
below-free config = record { holds = λ a on. absurd (false≢true (sym (none-off a) ∙ on)); lacks = λ a on. absurd (false≢true (sym (none-off a) ∙ on)) }

pub proved-bound : (rule : Rule) (setting : TheSetting) (budget : ℕ) (root : nodes.Node) (config : Config) (cost : ℕ) (bound : ℤ) (sets : List TheMultipliers) (list : List Node) (other : Config) (sum_of : ℕ) → KeepsLimits setting →
    Proves rule setting budget root config cost bound sets list → IsConfigOf setting.shapes other → Fits setting.cat setting.shapes other budget → IsBelow root other →
    IsTotal setting.cat setting.shapes other setting.statements sum_of → IsAtMost bound sum_of
proved-bound rule setting budget root config cost bound sets list other sum_of limits proves is fits below total_is =
    shown rule setting budget bound sets root proves.shown.tree other sum_of limits proves.shown.shows is fits below total_is
