-- A line leads from a draft to one draft.
use Rattle.std.proofs.Common.{◌≡◌, ◌∙◌, ℕ, zero, suc, ◌<◌, ◌^◌, List, [], ◌∷◌, ◌++◌, length, sym, ap, subst, refl, arith}
use Rattle.std.specs.Prelude.{ℤ}
use Rattle.bip_model.specs.declared.answer.Node.{Node}
use Rattle.certificate.specs.declared.cert.Entry.{Entry}
use Rattle.certificate.specs.inner.Outlines.{Draft}
use Rattle.certificate.specs.declared.stage.Stage.{Stage}
use Rattle.certificate.specs.declared.stage.Stage.TheVariants as stages
use Rattle.certificate.specs.inner.Steps.{trees_after, with_set, with_entry, StepAt, BodyStep, NodeStep}
use Rattle.certificate.specs.inner.Drafts.{DraftFits}
use Rattle.certificate.specs.inner.Runs.{Run}
use Rattle.certificate.proofs.Keeps.{fits-step}
use Rattle.certificate.proofs.Taken.{one-title, one-budget, one-config, one-cost, one-bound, one-sets, one-tree, one-set, one-entry, one-node}

body-one : (m k : ℕ) (d e f : Draft) (line : List ℕ) → d.spare < 2 ^ 128 → BodyStep m k d line e → BodyStep m k d line f → e ≡ f
body-one (suc m) k d e f line small h g =
    h.5 ∙ ap (λ (x : Entry). with_entry x m d) (one-entry h.0 g.0 h.1 g.1 (sym h.2 ∙ g.2)) ∙ sym g.5
body-one zero (suc k) d e f line small h g =
    let same = one-set d.spare line h.0 g.0 h.1 g.1 small h.2 g.2 in
    h.3 ∙ (λ i. with_set (same.0 i) (same.1 i) d) ∙ sym g.3
body-one zero zero d e f line small h g =
    h.4 ∙ ap (λ (n : ℕ). record d { nodes_left = n; stage = stages.Nodes }) (one-tree h.0 g.0 h.1 g.1 (sym h.3 ∙ g.3)) ∙ sym g.4

node-one : (m : ℕ) (d e f : Draft) (line : List ℕ) → length d.sets < 2 ^ 128 → NodeStep m d line e → NodeStep m d line f → e ≡ f
node-one (suc m) d e f line small h g =
    h.5 ∙ ap (λ (x : Node). record d { tree = d.tree ++ x ∷ []; nodes_left = m; trees_left = trees_after d.trees_left x }) (one-node (length d.sets) h.0 g.0 small h.1 g.1 (sym h.2 ∙ g.2)) ∙ sym g.5
node-one zero d e f line small h g = h.1 ∙ sym g.1

step-one : (s : Stage) (d e f : Draft) (line : List ℕ) → DraftFits d → StepAt s d line e → StepAt s d line f → e ≡ f
step-one stages.Title d e f line fits h g = h.4 ∙ ap (λ (n : ℕ). record d { version = n; stage = stages.Budget }) (one-title h.0 g.0 h.2 g.2 (sym h.3 ∙ g.3)) ∙ sym g.4
step-one stages.Budget d e f line fits h g = h.3 ∙ ap (λ (n : ℕ). record d { budget = n; stage = stages.Config }) (one-budget h.0 g.0 h.1 g.1 (sym h.2 ∙ g.2)) ∙ sym g.3
step-one stages.Config d e f line fits h g = h.3 ∙ ap (λ (ns : List ℕ). record d { config = ns; stage = stages.Cost }) (one-config h.0 g.0 h.1 g.1 (sym h.2 ∙ g.2)) ∙ sym g.3
step-one stages.Cost d e f line fits h g = h.3 ∙ ap (λ (n : ℕ). record d { cost = n; stage = stages.Bound }) (one-cost h.0 g.0 h.1 g.1 (sym h.2 ∙ g.2)) ∙ sym g.3
step-one stages.Bound d e f line fits h g = h.3 ∙ ap (λ (z : ℤ). record d { bound = z; stage = stages.Sets }) (one-bound h.0 g.0 h.1 g.1 (sym h.2 ∙ g.2)) ∙ sym g.3
step-one stages.Sets d e f line fits h g = h.3 ∙ ap (λ (n : ℕ). record d { sets_left = n; stage = stages.Body }) (one-sets h.0 g.0 h.1 g.1 (sym h.2 ∙ g.2)) ∙ sym g.3
step-one stages.Body d e f line fits h g = body-one d.entries_left d.sets_left d e f line (omega (arith, fits.body.count)) h g
step-one stages.Nodes d e f line fits h g = node-one d.nodes_left d e f line (omega (arith, fits.body.few)) h g
step-one stages.Done d e f line fits h g = absurd h

-- lines lead to one draft
pub run-one : (lines : List (List ℕ)) (d e f : Draft) → DraftFits d → Run d lines e → Run d lines f → e ≡ f
run-one [] d e f fits h g = sym h ∙ g
run-one (line ∷ lines) d e f fits h g =
    let same : h.0 ≡ g.0 = step-one d.stage d h.0 g.0 line fits h.1 g.1 in
    run-one lines h.0 e f (fits-step d.stage d h.0 line refl fits h.1) h.2 (subst (λ (x : Draft). Run x lines f) (sym same) g.2)

run-split : (xs ys : List (List ℕ)) (d f : Draft) → Run d (xs ++ ys) f → (e : Draft) × Run d xs e × Run e ys f
run-split [] ys d f h = (d, refl, h)
run-split (x ∷ xs) ys d f h =
    let rest = run-split xs ys h.0 f h.2 in (rest.0, (h.0, h.1, rest.1), rest.2)

-- where no step takes a line, no lines that begin so lead anywhere
pub no-run : (xs more : List (List ℕ)) (line : List ℕ) (d e f : Draft) → DraftFits d → Run d xs e → ((g : Draft) → StepAt e.stage e line g → ⊥) → Run d (xs ++ line ∷ more) f → ⊥
no-run xs more line d e f fits run none h =
    let parts = run-split xs (line ∷ more) d f h in
    let same : parts.0 ≡ e = run-one xs d parts.0 e fits parts.1 run in
    let step = parts.2 in
    none step.0 (subst (λ (x : Draft). StepAt x.stage x line step.0) same step.1)
