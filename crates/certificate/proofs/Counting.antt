-- How lines are counted, and those before the nodes.
use Rattle.std.proofs.Common.{◌≡◌, ◌∙◌, ℕ, zero, suc, ◌+◌, ◌-◌, true, false, List, [], ◌∷◌, ◌++◌, length, map, sym, ap, subst, refl, arith, length-append}
use Rattle.std.proofs.lemmas.Bool.{false≢true}
use Rattle.bip_model.specs.declared.answer.Node.{Node}
use Rattle.certificate.specs.Limits.{entry_place}
use Rattle.certificate.specs.Texts.{text_of, tree_line, node_line, sets_lines}
use Rattle.certificate.specs.declared.counts.Counts.{Counts}
use Rattle.certificate.specs.declared.outline.Outline.{Outline}
use Rattle.certificate.specs.declared.stage.Stage.{Stage}
use Rattle.certificate.specs.declared.stage.Stage.TheVariants as stages
use Rattle.certificate.specs.declared.outline.TheConstants.{FIRST_PLACE}
use Rattle.certificate.specs.inner.Drafts.{IsFresh, IsBody, StageFits, DraftFits}
use Rattle.certificate.specs.inner.Outlines.{Draft, with_tree}
use Rattle.certificate.specs.inner.Pieces.{counts_of, with_line, front_of, front_at, Reaches}
use Rattle.certificate.specs.inner.Runs.{head_of, lines_at, Run}
use Rattle.certificate.specs.inner.Steps.{start, is_front, trees_after, closed, closed_by, with_set, with_entry, StepAt, BodyStep, NodeStep}
use Rattle.certificate.proofs.Keeps.{run-lines, run-more}
use Rattle.certificate.proofs.ReadLaws.{start-fits, start-lines}
use Rattle.certificate.proofs.Sizes.{line-front, lines-both}

-- ## The lines before the nodes

-- all lines so far stand before the nodes, and no node came
pub record IsAhead (d : Draft) : Type 0 where
  pub all : front_at d.stage d ≡ lines_at d.stage d
  pub none : length d.tree ≡ 0

closed-ahead : (n : ℕ) (d : Draft) → d.stage ≡ stages.Body → d.tree ≡ [] → IsAhead (closed_by n d)
closed-ahead zero d at none = record { all = subst (λ (s : Stage). front_at s (closed_by zero d) ≡ lines_at s (closed_by zero d)) (sym at) refl; none = ap length none }
closed-ahead (suc n) d at none = record { all = subst (λ (s : Stage). front_at s d ≡ lines_at s d) (sym at) refl; none = ap length none }

body-ahead : (m k : ℕ) (d e : Draft) (line : List ℕ) → d.stage ≡ stages.Body → d.tree ≡ [] → BodyStep m k d line e → IsAhead e
unfolding with_set with_entry closed
body-ahead (suc m) k d e line at none h = subst IsAhead (sym h.5) (closed-ahead m (record d { entries = d.entries ++ h.0 ∷ []; entries_left = m; least = entry_place h.0 + 1 }) at none)
body-ahead zero (suc k) d e line at none h = subst IsAhead (sym h.3) (closed-ahead h.1 (record d { mu = h.0; entries_left = h.1; spare = d.spare - h.1; least = FIRST_PLACE }) at none)
body-ahead zero zero d e line at none h =
    let f : Draft = record d { nodes_left = h.0; stage = stages.Nodes } in
    let all : front_of f ≡ lines_at stages.Nodes f = ap (λ (ns : List Node). head_of f ++ (sets_lines d.sets ++ (tree_line (length d.tree + h.0) ∷ map node_line ns))) (sym none) in
    subst IsAhead (sym h.4) (record { all = all; none = ap length none })

pub step-ahead : (s : Stage) (d e : Draft) (line : List ℕ) → d.stage ≡ s → DraftFits d → StepAt s d line e → is_front s ≡ true → IsAhead e
step-ahead stages.Title d e line at fits h front =
    let fresh : IsFresh d = subst (λ (s : Stage). StageFits s d) at fits.stage in
    subst IsAhead (sym h.4) (record { all = refl; none = ap length fresh.tree })
step-ahead stages.Budget d e line at fits h front =
    let fresh : IsFresh d = subst (λ (s : Stage). StageFits s d) at fits.stage in
    subst IsAhead (sym h.3) (record { all = refl; none = ap length fresh.tree })
step-ahead stages.Config d e line at fits h front =
    let fresh : IsFresh d = subst (λ (s : Stage). StageFits s d) at fits.stage in
    subst IsAhead (sym h.3) (record { all = refl; none = ap length fresh.tree })
step-ahead stages.Cost d e line at fits h front =
    let fresh : IsFresh d = subst (λ (s : Stage). StageFits s d) at fits.stage in
    subst IsAhead (sym h.3) (record { all = refl; none = ap length fresh.tree })
step-ahead stages.Bound d e line at fits h front =
    let fresh : IsFresh d = subst (λ (s : Stage). StageFits s d) at fits.stage in
    subst IsAhead (sym h.3) (record { all = refl; none = ap length fresh.tree })
step-ahead stages.Sets d e line at fits h front =
    let fresh : IsFresh d = subst (λ (s : Stage). StageFits s d) at fits.stage in
    subst IsAhead (sym h.3) (record { all = refl; none = ap length fresh.tree })
step-ahead stages.Body d e line at fits h front =
    let body : IsBody d = subst (λ (s : Stage). StageFits s d) at fits.stage in
    body-ahead d.entries_left d.sets_left d e line at body.tree h
step-ahead stages.Nodes d e line at fits h front = absurd (false≢true front)
step-ahead stages.Done d e line at fits h front = absurd (false≢true front)

-- the lines before the nodes stay, and how many nodes there are
pub record IsBehind (d e : Draft) : Type 0 where
  pub same : front_at e.stage e ≡ front_at d.stage d
  pub count : length e.tree + e.nodes_left ≡ length d.tree + d.nodes_left

node-behind : (m : ℕ) (d e : Draft) (line : List ℕ) → d.stage ≡ stages.Nodes → d.nodes_left ≡ m → NodeStep m d line e → IsBehind d e
node-behind (suc m) d e line at left h =
    let f : Draft = record d { tree = d.tree ++ h.0 ∷ []; nodes_left = m; trees_left = trees_after d.trees_left h.0 } in
    let count : length (d.tree ++ h.0 ∷ []) + m ≡ length d.tree + d.nodes_left = omega (arith, length-append d.tree (h.0 ∷ []), left) in
    let lines : front_of f ≡ front_of d = ap (λ (n : ℕ). head_of d ++ (sets_lines d.sets ++ tree_line n ∷ [])) count in
    let same : front_at d.stage f ≡ front_at d.stage d = subst (λ (s : Stage). front_at s f ≡ front_at s d) (sym at) lines in
    subst (IsBehind d) (sym h.5) (record { same = same; count = count })
node-behind zero d e line at left h =
    let f : Draft = record d { stage = stages.Done } in
    let same : front_of f ≡ front_at d.stage d = subst (λ (s : Stage). front_of f ≡ front_at s d) (sym at) refl in
    subst (IsBehind d) (sym h.1) (record { same = same; count = refl })

pub step-behind : (s : Stage) (d e : Draft) (line : List ℕ) → d.stage ≡ s → StepAt s d line e → is_front s ≡ false → IsBehind d e
step-behind stages.Title d e line at h behind = absurd (false≢true (sym behind))
step-behind stages.Budget d e line at h behind = absurd (false≢true (sym behind))
step-behind stages.Config d e line at h behind = absurd (false≢true (sym behind))
step-behind stages.Cost d e line at h behind = absurd (false≢true (sym behind))
step-behind stages.Bound d e line at h behind = absurd (false≢true (sym behind))
step-behind stages.Sets d e line at h behind = absurd (false≢true (sym behind))
step-behind stages.Body d e line at h behind = absurd (false≢true (sym behind))
step-behind stages.Nodes d e line at h behind = node-behind d.nodes_left d e line at refl h
step-behind stages.Done d e line at h behind = absurd h

-- ## Counts

counts-more : (lines : List (List ℕ)) (line : List ℕ) → with_line (counts_of lines) (length line) ≡ counts_of (lines ++ line ∷ [])
counts-more lines line =
    let bytes : length (text_of lines) + length line + 1 ≡ length (text_of (lines ++ line ∷ [])) = omega (arith, lines-both lines (line ∷ []), line-front line []) in
    let count : length lines + 1 ≡ length (lines ++ line ∷ []) = omega (arith, length-append lines (line ∷ [])) in
    λ i. record { bytes = bytes i; lines = count i }

run-all : (lines : List (List ℕ)) (d : Draft) → Run start lines d → lines_at d.stage d ≡ lines
run-all lines d run = (run-lines lines start d start-fits run).1 ∙ ap (λ (xs : List (List ℕ)). xs ++ lines) start-lines

-- one more line before the nodes
pub reaches-ahead : (lines : List (List ℕ)) (tree more : List Node) (o p : Outline) (read front : Counts) (nodes : ℕ) (line : List ℕ) →
    Reaches lines tree o read front nodes → StepAt o.stage (with_tree o tree) line (with_tree p more) → is_front o.stage ≡ true →
    Reaches (lines ++ line ∷ []) more p (with_line read (length line)) (with_line read (length line)) p.nodes_left
reaches-ahead lines tree more o p read front nodes line r step ahead =
    let d : Draft = with_tree o tree in
    let e : Draft = with_tree p more in
    let run : Run start (lines ++ line ∷ []) e = run-more lines line start d e r.run step in
    let is = step-ahead o.stage d e line refl (run-lines lines start d start-fits r.run).0 step ahead in
    let counts : with_line read (length line) ≡ counts_of (lines ++ line ∷ []) = ap (λ (c : Counts). with_line c (length line)) r.read_is ∙ counts-more lines line in
    record {
      run = run;
      read_is = counts;
      front_is = counts ∙ sym (ap counts_of (is.all ∙ run-all (lines ++ line ∷ []) e run));
      nodes_is = omega (arith, is.none);
    }

-- one more behind them
pub reaches-behind : (lines : List (List ℕ)) (tree more : List Node) (o p : Outline) (read front : Counts) (nodes : ℕ) (line : List ℕ) →
    Reaches lines tree o read front nodes → StepAt o.stage (with_tree o tree) line (with_tree p more) → is_front o.stage ≡ false →
    Reaches (lines ++ line ∷ []) more p (with_line read (length line)) front nodes
reaches-behind lines tree more o p read front nodes line r step behind =
    let d : Draft = with_tree o tree in
    let e : Draft = with_tree p more in
    let is = step-behind o.stage d e line refl step behind in
    record {
      run = run-more lines line start d e r.run step;
      read_is = ap (λ (c : Counts). with_line c (length line)) r.read_is ∙ counts-more lines line;
      front_is = r.front_is ∙ sym (ap counts_of is.same);
      nodes_is = r.nodes_is ∙ sym is.count;
    }
