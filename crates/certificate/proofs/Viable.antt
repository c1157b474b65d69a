-- From every draft that fits some lines lead to the end.
use Rattle.std.proofs.Common.{◌≡◌, ◌∙◌, inl, inr, ℕ, zero, suc, ◌+◌, ◌-◌, ◌/◌, ◌%◌, ◌<◌, ◌≤◌, List, [], ◌∷◌, ◌++◌, length, sym, ap, subst, refl, arith}
use Rattle.std.specs.Prelude.{pos}
use Rattle.std.proofs.lemmas.Bool.{cases_lt}
use Rattle.bip_model.specs.declared.answer.Node.{Node}
use Rattle.bip_model.specs.declared.answer.Node.TheVariants.{Branch, Overfull}
use Rattle.certificate.specs.Limits.{NodeLimits, EntryLimits, EntriesFrom, entry_place}
use Rattle.certificate.specs.Texts.{title_line, budget_line, config_line, cost_line, bound_line, sets_line, set_line, entry_line, tree_line, node_line, end_line}
use Rattle.certificate.specs.declared.cert.Entry.{Entry}
use Rattle.certificate.specs.inner.Outlines.{Draft}
use Rattle.certificate.specs.declared.stage.Stage.{Stage}
use Rattle.certificate.specs.declared.stage.Stage.TheVariants as stages
use Rattle.certificate.specs.declared.outline.TheConstants.{FIRST_PLACE, LAST_PLACE}
use Rattle.certificate.specs.inner.Steps.{trees_after, closed, with_set, with_entry, StepAt, BodyStep, NodeStep}
use Rattle.certificate.specs.inner.Drafts.{DraftFits, next_place}
use Rattle.certificate.specs.inner.Runs.{Run}
use Rattle.certificate.proofs.Keeps.{fits-step}

-- lines lead to the end
pub record Ends (d : Draft) : Type 0 where
  pub lines : List (List ℕ)
  pub last : Draft
  pub run : Run d lines last
  pub done : last.stage ≡ stages.Done

steps-on : (d f : Draft) (line : List ℕ) → StepAt d.stage d line f → Ends f → Ends d
steps-on d f line step h = record { lines = line ∷ h.lines; last = h.last; run = (f, step, h.run); done = h.done }

done-ends : (d : Draft) → d.stage ≡ stages.Done → Ends d
done-ends d at = record { lines = []; last = d; run = refl; done = at }

at-stage : (s : Stage) (d f : Draft) (line : List ℕ) → d.stage ≡ s → StepAt s d line f → StepAt d.stage d line f
at-stage s d f line at step = subst (λ (t : Stage). StepAt t d line f) (sym at) step

-- the tree: a leaf where each node must be one, else a branch
node-for : (sets t m : ℕ) → 0 < t → t ≤ suc m → (t + suc m) % 2 ≡ 0 → (node : Node) × NodeLimits sets node × (trees_after t node ≤ m) × (trees_after t node ≡ 0 → m ≡ 0)
node-for sets t m some enough even =
    elim (cases_lt t (suc m)) [
      | inl less ↦ (Branch 1, (omega arith, omega arith), omega arith, λ none. absurd (omega (arith, none)))
      | inr all ↦ (Overfull, tt, omega arith, λ none. omega (arith, none))
    ]

tree-ends : (m : ℕ) (d : Draft) → d.stage ≡ stages.Nodes → d.nodes_left ≡ m → DraftFits d → Ends d
tree-ends zero d at left fits =
    let f : Draft = record d { stage = stages.Done } in
    let step : NodeStep d.nodes_left d end_line f = subst (λ (k : ℕ). NodeStep k d end_line f) (sym left) (refl, refl) in
    steps-on d f end_line (at-stage stages.Nodes d f end_line at step) (done-ends f refl)
tree-ends (suc m) d at left fits =
    let even : (d.trees_left + suc m) % 2 ≡ 0 = ap (λ (n : ℕ). (d.trees_left + n) % 2) (sym left) ∙ fits.nodes.even in
    let pick = node-for (length d.sets) d.trees_left m (fits.nodes.some (omega (arith, left))) (omega (arith, fits.nodes.enough, left)) even in
    let line : List ℕ = node_line pick.0 in
    let f : Draft = record d { tree = d.tree ++ pick.0 ∷ []; nodes_left = m; trees_left = trees_after d.trees_left pick.0 } in
    let step : NodeStep d.nodes_left d line f = subst (λ (k : ℕ). NodeStep k d line f) (sym left) (pick.0, pick.1, refl, pick.2, pick.3, refl) in
    let there : StepAt d.stage d line f = at-stage stages.Nodes d f line at step in
    steps-on d f line there (tree-ends m f at refl (fits-step d.stage d f line refl fits there))

-- the sets: none has entries
sets-end : (k : ℕ) (d : Draft) → d.stage ≡ stages.Body → d.entries_left ≡ 0 → d.sets_left ≡ k → DraftFits d → Ends d
unfolding with_set closed
sets-end zero d at none left fits =
    let line : List ℕ = tree_line 1 in
    let f : Draft = record d { nodes_left = 1; stage = stages.Nodes } in
    let step : BodyStep d.entries_left d.sets_left d line f =
    subst (λ (n : ℕ). BodyStep n d.sets_left d line f) (sym none) (subst (λ (n : ℕ). BodyStep 0 n d line f) (sym left) (1, omega arith, refl, refl, refl)) in
    let there : StepAt d.stage d line f = at-stage stages.Body d f line at step in
    steps-on d f line there (tree-ends 1 f refl refl (fits-step d.stage d f line refl fits there))
sets-end (suc k) d at none left fits =
    let line : List ℕ = set_line 0 0 in
    let f : Draft = with_set 0 0 d in
    let step : BodyStep d.entries_left d.sets_left d line f =
    subst (λ (n : ℕ). BodyStep n d.sets_left d line f) (sym none)
    (subst (λ (n : ℕ). BodyStep 0 n d line f) (sym left) (0, 0, record { text = refl; price = omega arith; few = omega arith }, refl)) in
    let there : StepAt d.stage d line f = at-stage stages.Body d f line at step in
    let fewer : d.sets_left - 1 ≡ k = omega (arith, left) in
    steps-on d f line there (sets-end k f at refl fewer (fits-step d.stage d f line refl fits there))

-- each place from the first to the last is that of an entry
place-entry : (p : ℕ) → FIRST_PLACE ≤ p → p ≤ LAST_PLACE → (e : Entry) × EntryLimits e × (entry_place e ≡ p)
place-entry p low high =
    let r : ℕ = p - FIRST_PLACE in
    let e : Entry = record { statement = r / 2048 + 1; slot = r % 2048 / 256 + 1; candidate = r % 2048 % 256 + 1; lambda = 1 } in (
      e,
      record {
        statement_least = omega arith;
        statement_most = omega arith;
        slot_least = omega arith;
        slot_most = omega arith;
        candidate_least = omega arith;
        candidate_most = omega arith;
        lambda_least = omega arith;
        lambda_most = omega arith;
      },
      omega arith,
    )

next-low : (p : ℕ) (es : List Entry) → EntriesFrom p es → p ≤ next_place p es
next-low p [] h = omega arith
next-low p (e ∷ es) h = omega (arith, h.1, next-low (entry_place e + 1) es h.2)

entry-for : (m : ℕ) (d : Draft) → d.entries_left ≡ suc m → DraftFits d → (e : Entry) × EntryLimits e × (entry_place e ≡ d.least)
entry-for m d left fits =
    let more : 0 < d.entries_left = omega arith in
    place-entry d.least (omega (arith, fits.body.least_is more, next-low FIRST_PLACE d.entries fits.body.rise)) (omega (arith, fits.body.room more, left))

entry-step : (m : ℕ) (d : Draft) (left : d.entries_left ≡ suc m) (fits : DraftFits d) (e : Entry) → EntryLimits e → entry_place e ≡ d.least → BodyStep d.entries_left d.sets_left d (entry_line e) (with_entry e m d)
entry-step m d left fits e limits place =
    let more : 0 < d.entries_left = omega arith in
    subst (λ (n : ℕ). BodyStep n d.sets_left d (entry_line e) (with_entry e m d)) (sym left)
    (e, limits, refl, omega (arith, place), omega (arith, place, fits.body.room more, left), refl)

-- the set that is begun
entries-end : (m : ℕ) (d : Draft) → d.stage ≡ stages.Body → d.entries_left ≡ suc m → DraftFits d → Ends d
unfolding with_entry closed
entries-end zero d at left fits =
    let pick = entry-for 0 d left fits in
    let line : List ℕ = entry_line pick.0 in
    let f : Draft = with_entry pick.0 0 d in
    let there : StepAt d.stage d line f = at-stage stages.Body d f line at (entry-step 0 d left fits pick.0 pick.1 pick.2) in
    steps-on d f line there (sets-end f.sets_left f at refl refl (fits-step d.stage d f line refl fits there))
entries-end (suc m) d at left fits =
    let pick = entry-for (suc m) d left fits in
    let line : List ℕ = entry_line pick.0 in
    let f : Draft = with_entry pick.0 (suc m) d in
    let there : StepAt d.stage d line f = at-stage stages.Body d f line at (entry-step (suc m) d left fits pick.0 pick.1 pick.2) in
    steps-on d f line there (entries-end m f at refl (fits-step d.stage d f line refl fits there))

body-ends : (m : ℕ) (d : Draft) → d.stage ≡ stages.Body → d.entries_left ≡ m → DraftFits d → Ends d
body-ends zero d at left fits = sets-end d.sets_left d at left refl fits
body-ends (suc m) d at left fits = entries-end m d at left fits

from-sets : (d : Draft) → d.stage ≡ stages.Sets → DraftFits d → Ends d
from-sets d at fits =
    let line : List ℕ = sets_line 0 in
    let f : Draft = record d { sets_left = 0; stage = stages.Body } in
    let there : StepAt d.stage d line f = at-stage stages.Sets d f line at (0, omega arith, refl, refl) in
    steps-on d f line there (body-ends f.entries_left f refl refl (fits-step d.stage d f line refl fits there))

from-bound : (d : Draft) → d.stage ≡ stages.Bound → DraftFits d → Ends d
from-bound d at fits =
    let line : List ℕ = bound_line (pos 0) in
    let f : Draft = record d { bound = pos 0; stage = stages.Sets } in
    let there : StepAt d.stage d line f = at-stage stages.Bound d f line at (pos 0, omega arith, refl, refl) in
    steps-on d f line there (from-sets f refl (fits-step d.stage d f line refl fits there))

from-cost : (d : Draft) → d.stage ≡ stages.Cost → DraftFits d → Ends d
from-cost d at fits =
    let line : List ℕ = cost_line 0 in
    let f : Draft = record d { cost = 0; stage = stages.Bound } in
    let there : StepAt d.stage d line f = at-stage stages.Cost d f line at (0, omega arith, refl, refl) in
    steps-on d f line there (from-bound f refl (fits-step d.stage d f line refl fits there))

from-config : (d : Draft) → d.stage ≡ stages.Config → DraftFits d → Ends d
from-config d at fits =
    let line : List ℕ = config_line [] in
    let f : Draft = record d { config = []; stage = stages.Cost } in
    let there : StepAt d.stage d line f = at-stage stages.Config d f line at ([], tt, refl, refl) in
    steps-on d f line there (from-cost f refl (fits-step d.stage d f line refl fits there))

from-budget : (d : Draft) → d.stage ≡ stages.Budget → DraftFits d → Ends d
from-budget d at fits =
    let line : List ℕ = budget_line 0 in
    let f : Draft = record d { budget = 0; stage = stages.Config } in
    let there : StepAt d.stage d line f = at-stage stages.Budget d f line at (0, omega arith, refl, refl) in
    steps-on d f line there (from-config f refl (fits-step d.stage d f line refl fits there))

from-title : (d : Draft) → d.stage ≡ stages.Title → DraftFits d → Ends d
from-title d at fits =
    let line : List ℕ = title_line 1 in
    let f : Draft = record d { version = 1; stage = stages.Budget } in
    let there : StepAt d.stage d line f = at-stage stages.Title d f line at (1, omega arith, omega arith, refl, refl) in
    steps-on d f line there (from-budget f refl (fits-step d.stage d f line refl fits there))

pub ends-at : (s : Stage) (d : Draft) → d.stage ≡ s → DraftFits d → Ends d
ends-at stages.Title d at fits = from-title d at fits
ends-at stages.Budget d at fits = from-budget d at fits
ends-at stages.Config d at fits = from-config d at fits
ends-at stages.Cost d at fits = from-cost d at fits
ends-at stages.Bound d at fits = from-bound d at fits
ends-at stages.Sets d at fits = from-sets d at fits
ends-at stages.Body d at fits = body-ends d.entries_left d at refl fits
ends-at stages.Nodes d at fits = tree-ends d.nodes_left d at refl fits
ends-at stages.Done d at fits = done-ends d at

pub ends : (d : Draft) → DraftFits d → Ends d
ends d fits = ends-at d.stage d refl fits
