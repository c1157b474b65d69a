-- A step takes its line.
use Rattle.std.proofs.Common.{◌≡◌, ◌∙◌, ℕ, zero, suc, ◌+◌, ◌-◌, ◌<◌, List, [], ◌∷◌, ◌++◌, length, map, sym, ap, subst, refl, arith, length-append}
use Rattle.std.proofs.lemmas.List.{append-nil, append_assoc, map_push}
use Rattle.bip_model.specs.declared.answer.Node.{Node}
use Rattle.certificate.specs.Limits.{entry_place}
use Rattle.certificate.specs.Texts.{sets_line, set_line, entry_line, tree_line, node_line, head_lines, set_lines, sets_lines}
use Rattle.certificate.specs.declared.cert.Entry.{Entry}
use Rattle.certificate.specs.declared.cert.SparseSet.{SparseSet}
use Rattle.certificate.specs.inner.Outlines.{Draft}
use Rattle.certificate.specs.declared.stage.Stage.{Stage}
use Rattle.certificate.specs.declared.stage.Stage.TheVariants as stages
use Rattle.certificate.specs.declared.outline.TheConstants.{FIRST_PLACE}
use Rattle.certificate.specs.inner.Steps.{trees_after, closed, closed_by, with_set, with_entry, StepAt, BodyStep, NodeStep}
use Rattle.certificate.specs.inner.Drafts.{IsFresh, IsBody, StageFits, DraftFits}
use Rattle.certificate.specs.inner.Runs.{begun_lines, head_of, tree_of, lines_at}

sets_lines-more : (ss : List SparseSet) (s : SparseSet) → sets_lines (ss ++ s ∷ []) ≡ sets_lines ss ++ set_lines s
sets_lines-more [] s = append-nil (set_lines s)
sets_lines-more (t ∷ ss) s =
    ap (λ (xs : List (List ℕ)). set_lines t ++ xs) (sets_lines-more ss s) ∙ sym (append_assoc (set_lines t) (sets_lines ss) (set_lines s))

-- one more line behind the lines of the head and those of the sets
behind : (head sets tail : List (List ℕ)) (line : List ℕ) → head ++ (sets ++ (tail ++ line ∷ [])) ≡ (head ++ (sets ++ tail)) ++ line ∷ []
behind head sets tail line =
    ap (λ (xs : List (List ℕ)). head ++ xs) (sym (append_assoc sets tail (line ∷ []))) ∙ sym (append_assoc head (sets ++ tail) (line ∷ []))

closed-lines : (n : ℕ) (d : Draft) → d.entries_left ≡ n → 0 < d.sets_left →
    lines_at stages.Body (closed_by n d) ≡ head_of d ++ (sets_lines d.sets ++ (set_line d.mu (length d.entries + n) ∷ map entry_line d.entries))
closed-lines zero d none some =
    let set : SparseSet = record { mu = d.mu; entries = d.entries } in
    let count : length (d.sets ++ set ∷ []) + (d.sets_left - 1) ≡ length d.sets + d.sets_left = omega (arith, length-append d.sets (set ∷ [])) in
    let size : length d.entries ≡ length d.entries + 0 = omega arith in
    let e : Draft = closed_by zero d in
    let nothing : begun_lines d.entries_left e ≡ [] = ap (λ (n : ℕ). begun_lines n e) none in
    let lines : sets_lines (d.sets ++ set ∷ []) ++ begun_lines d.entries_left e ≡ sets_lines d.sets ++ (set_line d.mu (length d.entries + 0) ∷ map entry_line d.entries) =
    ap (λ (xs : List (List ℕ)). sets_lines (d.sets ++ set ∷ []) ++ xs) nothing ∙ append-nil (sets_lines (d.sets ++ set ∷ [])) ∙ sets_lines-more d.sets set
    ∙ ap (λ (n : ℕ). sets_lines d.sets ++ (set_line d.mu n ∷ map entry_line d.entries)) size in
    λ i. head_lines d.version d.budget d.config d.cost d.bound (count i) ++ lines i
closed-lines (suc n) d more some = ap (λ (k : ℕ). head_of d ++ (sets_lines d.sets ++ begun_lines k d)) more

-- what closing leaves as it was
closed-stage : (n : ℕ) (d : Draft) → (closed_by n d).stage ≡ d.stage
closed-stage zero d = refl
closed-stage (suc n) d = refl

body-lines : (m k : ℕ) (d e : Draft) (line : List ℕ) → d.stage ≡ stages.Body → d.entries_left ≡ m → d.sets_left ≡ k → DraftFits d → BodyStep m k d line e →
    lines_at e.stage e ≡ (head_of d ++ (sets_lines d.sets ++ begun_lines m d)) ++ line ∷ []
unfolding with_set with_entry closed
body-lines (suc m) k d e line at left sets fits h =
    let entry : Entry = h.0 in
    let f : Draft = record d { entries = d.entries ++ entry ∷ []; entries_left = m; least = entry_place entry + 1 } in
    let first : lines_at e.stage e ≡ lines_at stages.Body (closed_by m f) =
    ap (λ (x : Draft). lines_at x.stage x) h.5 ∙ ap (λ (s : Stage). lines_at s (closed_by m f)) (closed-stage m f ∙ at) in
    let second = closed-lines m f refl (fits.body.begun (omega arith)) in
    let count : length (d.entries ++ entry ∷ []) + m ≡ length d.entries + suc m = omega (arith, length-append d.entries (entry ∷ [])) in
    let more : map entry_line (d.entries ++ entry ∷ []) ≡ map entry_line d.entries ++ line ∷ [] =
    map_push entry_line d.entries entry ∙ ap (λ (l : List ℕ). map entry_line d.entries ++ l ∷ []) (sym h.2) in
    let tail : (set_line d.mu (length (d.entries ++ entry ∷ []) + m) ∷ map entry_line (d.entries ++ entry ∷ [])) ≡ (set_line d.mu (length d.entries + suc m) ∷ map entry_line d.entries) ++ line ∷ [] =
    (λ i. set_line d.mu (count i) ∷ more i) in
    first ∙ second ∙ ap (λ (xs : List (List ℕ)). head_of d ++ (sets_lines d.sets ++ xs)) tail
    ∙ behind (head_of d) (sets_lines d.sets) (set_line d.mu (length d.entries + suc m) ∷ map entry_line d.entries) line
body-lines zero (suc k) d e line at left sets fits h =
    let mu : ℕ = h.0 in
    let count : ℕ = h.1 in
    let f : Draft = record d { mu = mu; entries_left = count; spare = d.spare - count; least = FIRST_PLACE } in
    let first : lines_at e.stage e ≡ lines_at stages.Body (closed_by count f) =
    ap (λ (x : Draft). lines_at x.stage x) h.3 ∙ ap (λ (s : Stage). lines_at s (closed_by count f)) (closed-stage count f ∙ at) in
    let second = closed-lines count f refl (omega (arith, sets)) in
    let size : 0 + count ≡ count = omega arith in
    let tail : (set_line mu (length d.entries + count) ∷ map entry_line d.entries) ≡ line ∷ [] =
    ap (λ (es : List Entry). set_line mu (length es + count) ∷ map entry_line es) (fits.body.idle left) ∙ ap (λ (n : ℕ). set_line mu n ∷ []) size ∙ ap (λ (l : List ℕ). l ∷ []) (sym h.2.text) in
    first ∙ second ∙ ap (λ (xs : List (List ℕ)). head_of d ++ (sets_lines d.sets ++ xs)) tail ∙ behind (head_of d) (sets_lines d.sets) [] line
body-lines zero zero d e line at left sets fits h =
    let n : ℕ = h.0 in
    let body : IsBody d = subst (λ (s : Stage). StageFits s d) at fits.stage in
    let size : 0 + n ≡ n = omega arith in
    let tail : (tree_line (length d.tree + n) ∷ map node_line d.tree) ≡ line ∷ [] =
    ap (λ (ns : List Node). tree_line (length ns + n) ∷ map node_line ns) body.tree ∙ ap (λ (n : ℕ). tree_line n ∷ []) size ∙ ap (λ (l : List ℕ). l ∷ []) (sym h.3) in
    ap (λ (x : Draft). lines_at x.stage x) h.4 ∙ ap (λ (xs : List (List ℕ)). head_of d ++ (sets_lines d.sets ++ xs)) tail ∙ behind (head_of d) (sets_lines d.sets) [] line

node-lines : (m : ℕ) (d e : Draft) (line : List ℕ) → d.stage ≡ stages.Nodes → d.nodes_left ≡ m → NodeStep m d line e →
    lines_at e.stage e ≡ (head_of d ++ (sets_lines d.sets ++ tree_of d)) ++ line ∷ []
node-lines (suc m) d e line at left h =
    let node : Node = h.0 in
    let f : Draft = record d { tree = d.tree ++ node ∷ []; nodes_left = m; trees_left = trees_after d.trees_left node } in
    let count : length (d.tree ++ node ∷ []) + m ≡ length d.tree + d.nodes_left = omega (arith, length-append d.tree (node ∷ []), left) in
    let more : map node_line (d.tree ++ node ∷ []) ≡ map node_line d.tree ++ line ∷ [] =
    map_push node_line d.tree node ∙ ap (λ (l : List ℕ). map node_line d.tree ++ l ∷ []) (sym h.2) in
    let tail : (tree_line (length (d.tree ++ node ∷ []) + m) ∷ map node_line (d.tree ++ node ∷ [])) ≡ tree_of d ++ line ∷ [] = (λ i. tree_line (count i) ∷ more i) in
    ap (λ (x : Draft). lines_at x.stage x) h.5 ∙ ap (λ (s : Stage). lines_at s f) at
    ∙ ap (λ (xs : List (List ℕ)). head_of d ++ (sets_lines d.sets ++ xs)) tail ∙ behind (head_of d) (sets_lines d.sets) (tree_of d) line
node-lines zero d e line at left h =
    ap (λ (x : Draft). lines_at x.stage x) h.1 ∙ ap (λ (l : List ℕ). head_of d ++ (sets_lines d.sets ++ (tree_of d ++ l ∷ []))) (sym h.0)
    ∙ behind (head_of d) (sets_lines d.sets) (tree_of d) line

no-sets : (ss : List SparseSet) (m : ℕ) (d : Draft) → ss ≡ [] → m ≡ 0 → sets_lines ss ++ begun_lines m d ≡ []
no-sets [] zero d none left = refl
no-sets [] (suc m) d none left = absurd (omega arith)
no-sets (s ∷ ss) m d none left = absurd (omega (arith, ap length none))

-- a step puts its line behind those before
pub line-step : (s : Stage) (d e : Draft) (line : List ℕ) → d.stage ≡ s → DraftFits d → StepAt s d line e → lines_at e.stage e ≡ lines_at s d ++ line ∷ []
line-step stages.Title d e line at fits h = ap (λ (x : Draft). lines_at x.stage x) h.4 ∙ ap (λ (l : List ℕ). l ∷ []) (sym h.3)
line-step stages.Budget d e line at fits h = ap (λ (x : Draft). lines_at x.stage x) h.3 ∙ ap (λ (l : List ℕ). lines_at stages.Budget d ++ l ∷ []) (sym h.2)
line-step stages.Config d e line at fits h = ap (λ (x : Draft). lines_at x.stage x) h.3 ∙ ap (λ (l : List ℕ). lines_at stages.Config d ++ l ∷ []) (sym h.2)
line-step stages.Cost d e line at fits h = ap (λ (x : Draft). lines_at x.stage x) h.3 ∙ ap (λ (l : List ℕ). lines_at stages.Cost d ++ l ∷ []) (sym h.2)
line-step stages.Bound d e line at fits h = ap (λ (x : Draft). lines_at x.stage x) h.3 ∙ ap (λ (l : List ℕ). lines_at stages.Bound d ++ l ∷ []) (sym h.2)
line-step stages.Sets d e line at fits h =
    let fresh : IsFresh d = subst (λ (s : Stage). StageFits s d) at fits.stage in
    let n : ℕ = h.0 in
    let f : Draft = record d { sets_left = n; stage = stages.Body } in
    let count : length d.sets + n ≡ n = omega (arith, ap length fresh.sets) in
    ap (λ (x : Draft). lines_at x.stage x) h.3 ∙ ap (λ (xs : List (List ℕ)). head_of f ++ xs) (no-sets d.sets d.entries_left f fresh.sets fresh.entries_left)
    ∙ ap (λ (k : ℕ). lines_at stages.Sets d ++ sets_line k ∷ []) count ∙ ap (λ (l : List ℕ). lines_at stages.Sets d ++ l ∷ []) (sym h.2)
line-step stages.Body d e line at fits h = body-lines d.entries_left d.sets_left d e line at refl refl fits h
line-step stages.Nodes d e line at fits h = node-lines d.nodes_left d e line at refl h
line-step stages.Done d e line at fits h = absurd h
