-- The lines of a certificate lead to the end.
use Rattle.std.proofs.Common.{◌≡◌, ◌∙◌, ℕ, zero, suc, ◌+◌, ◌-◌, ◌%◌, ◌<◌, ◌≤◌, List, [], ◌∷◌, ◌++◌, length, map, sym, subst, refl, arith, length-append}
use Rattle.std.specs.List.{AllByRecursion}
use Rattle.std.proofs.lemmas.List.Sums.{sum_by-append}
use Rattle.adv_base.specs.declared.limits.TheConstants.{MOST_NODES, MOST_PAGE_PRICE}
use Rattle.bip_model.specs.declared.answer.Node.{Node}
use Rattle.bip_model.specs.declared.answer.Node.TheVariants.{Branch, Bounded, Overfull}
use Rattle.certificate.specs.Limits.{NodeLimits, EntryLimits, EntriesFrom, SetLimits, AreTrees, CertLimits, entry_place, entry_count}
use Rattle.certificate.specs.Texts.{set_line, entry_line, tree_line, node_line, end_line, set_lines, sets_lines, tree_lines, cert_lines}
use Rattle.certificate.specs.declared.cert.Cert.{Cert}
use Rattle.certificate.specs.declared.cert.Entry.{Entry}
use Rattle.certificate.specs.declared.cert.SparseSet.{SparseSet}
use Rattle.certificate.specs.inner.Outlines.{Draft}
use Rattle.certificate.specs.declared.stage.Stage.{Stage}
use Rattle.certificate.specs.declared.stage.Stage.TheVariants as stages
use Rattle.certificate.specs.declared.outline.TheConstants.{FIRST_PLACE, LAST_PLACE}
use Rattle.certificate.specs.inner.Steps.{start, trees_after, closed, with_set, with_entry, StepAt, BodyStep, NodeStep}
use Rattle.certificate.specs.inner.Runs.{Run}

pub run-append : (xs ys : List (List ℕ)) (d e f : Draft) → Run d xs e → Run e ys f → Run d (xs ++ ys) f
run-append [] ys d e f h g = subst (λ (x : Draft). Run x ys f) (sym h) g
run-append (x ∷ xs) ys d e f h g = (h.0, h.1, run-append xs ys h.0 e f h.2 g)

-- trees

trees-next : (t : ℕ) (node : Node) (ns : List Node) → AreTrees t (node ∷ ns) → AreTrees (trees_after t node) ns
trees-next zero node ns h = absurd h
trees-next (suc t) (Branch a) ns h = let more : suc (suc t) ≡ suc t + 1 = omega arith in subst (λ (k : ℕ). AreTrees k ns) more h
trees-next (suc t) (Bounded k) ns h = let fewer : t ≡ suc t - 1 = omega arith in subst (λ (k : ℕ). AreTrees k ns) fewer h
trees-next (suc t) Overfull ns h = let fewer : t ≡ suc t - 1 = omega arith in subst (λ (k : ℕ). AreTrees k ns) fewer h

pub trees-few : (t : ℕ) (ns : List Node) → AreTrees t ns → t ≤ length ns
trees-few zero [] h = omega arith
trees-few (suc t) [] h = absurd h
trees-few zero (n ∷ ns) h = absurd h
trees-few (suc t) (Branch a ∷ ns) h = omega (arith, trees-few (suc (suc t)) ns h)
trees-few (suc t) (Bounded k ∷ ns) h = omega (arith, trees-few t ns h)
trees-few (suc t) (Overfull ∷ ns) h = omega (arith, trees-few t ns h)

no-trees : (t : ℕ) (ns : List Node) → AreTrees t ns → t ≡ 0 → length ns ≡ 0
no-trees zero [] h none = refl
no-trees zero (n ∷ ns) h none = absurd h
no-trees (suc t) ns h none = absurd (omega arith)

-- the count of a tree's nodes is odd
trees-even : (t : ℕ) (ns : List Node) → AreTrees t ns → (t + length ns) % 2 ≡ 0
trees-even zero [] h = refl
trees-even (suc t) [] h = absurd h
trees-even zero (n ∷ ns) h = absurd h
trees-even (suc t) (Branch a ∷ ns) h = omega (arith, trees-even (suc (suc t)) ns h)
trees-even (suc t) (Bounded k ∷ ns) h = omega (arith, trees-even t ns h)
trees-even (suc t) (Overfull ∷ ns) h = omega (arith, trees-even t ns h)

nodes-run : (ns : List Node) (d : Draft) → d.stage ≡ stages.Nodes → d.nodes_left ≡ length ns → AreTrees d.trees_left ns → AllByRecursion (NodeLimits (length d.sets)) ns →
    (e : Draft) × Run d (map node_line ns) e × (e.stage ≡ stages.Nodes) × (e.nodes_left ≡ 0)
nodes-run [] d at left trees limits = (d, refl, at, left)
nodes-run (node ∷ ns) d at left trees limits =
    let next : AreTrees (trees_after d.trees_left node) ns = trees-next d.trees_left node ns trees in
    let f : Draft = record d { tree = d.tree ++ node ∷ []; nodes_left = length ns; trees_left = trees_after d.trees_left node } in
    let step : NodeStep d.nodes_left d (node_line node) f =
    subst (λ (k : ℕ). NodeStep k d (node_line node) f) (sym left) (node, limits.0, refl, trees-few (trees_after d.trees_left node) ns next, no-trees (trees_after d.trees_left node) ns next, refl) in
    let there : StepAt d.stage d (node_line node) f = subst (λ (s : Stage). StepAt s d (node_line node) f) (sym at) step in
    let rest = nodes-run ns f at refl next limits.1 in
    (rest.0, (f, there, rest.1), rest.2, rest.3)

-- sets

entries-room : (p : ℕ) (es : List Entry) → EntriesFrom p es → p ≤ LAST_PLACE + 1 → length es + p ≤ LAST_PLACE + 1
entries-room p [] h low = omega arith
entries-room p (e ∷ es) h low =
    let limits = h.0 in
    let high : entry_place e + 1 ≤ LAST_PLACE + 1 = omega (arith, limits.statement_most, limits.slot_most, limits.candidate_most) in
    omega (arith, h.1, entries-room (entry_place e + 1) es h.2 high)

entries-raise : (es : List Entry) → EntriesFrom 0 es → EntriesFrom FIRST_PLACE es
entries-raise [] h = tt
entries-raise (e ∷ es) h =
    let limits = h.0 in (h.0, omega (arith, limits.statement_least, limits.slot_least, limits.candidate_least), h.2)

-- what the lines of sets leave
record Moved (d e : Draft) (sets taken : ℕ) (lines : List (List ℕ)) : Type 0 where
  run : Run d lines e
  stage : e.stage ≡ stages.Body
  none : e.entries_left ≡ 0
  sets_left : e.sets_left + sets ≡ d.sets_left
  count : length e.sets ≡ length d.sets + sets
  trees_left : e.trees_left ≡ d.trees_left
  spare : e.spare + taken ≡ d.spare

entry-there : (m : ℕ) (d : Draft) (e : Entry) → d.stage ≡ stages.Body → d.entries_left ≡ suc m → EntryLimits e → d.least ≤ entry_place e → m + entry_place e ≤ LAST_PLACE → StepAt d.stage d (entry_line e) (with_entry e m d)
entry-there m d e at left limits low high =
    subst (λ (s : Stage). StepAt s d (entry_line e) (with_entry e m d)) (sym at)
    (subst (λ (n : ℕ). BodyStep n d.sets_left d (entry_line e) (with_entry e m d)) (sym left) (e, limits, refl, low, high, refl))

entries-run : (e : Entry) (es : List Entry) (d : Draft) → d.stage ≡ stages.Body → d.entries_left ≡ suc (length es) → 0 < d.sets_left → EntriesFrom d.least (e ∷ es) → (f : Draft) × Moved d f 1 0 (map entry_line (e ∷ es))
unfolding with_entry closed
entries-run e [] d at left some h =
    let limits = h.0 in
    let high : 0 + entry_place e ≤ LAST_PLACE = omega (arith, limits.statement_most, limits.slot_most, limits.candidate_most) in (
      with_entry e 0 d,
      record {
        run = (with_entry e 0 d, entry-there 0 d e at left limits h.1 high, refl);
        stage = at;
        none = refl;
        sets_left = omega arith;
        count = length-append d.sets _;
        trees_left = refl;
        spare = omega arith;
      },
    )
entries-run e (g ∷ es) d at left some h =
    let limits = h.0 in
    let low : entry_place e + 1 ≤ LAST_PLACE + 1 = omega (arith, limits.statement_most, limits.slot_most, limits.candidate_most) in
    let high : length (g ∷ es) + entry_place e ≤ LAST_PLACE = omega (arith, entries-room (entry_place e + 1) (g ∷ es) h.2 low) in
    let f : Draft = with_entry e (length (g ∷ es)) d in
    let rest = entries-run g es f at refl some h.2 in
    let moved = rest.1 in (
      rest.0,
      record {
        run = (f, entry-there (length (g ∷ es)) d e at left limits h.1 high, moved.run);
        stage = moved.stage;
        none = moved.none;
        sets_left = moved.sets_left;
        count = moved.count;
        trees_left = moved.trees_left;
        spare = moved.spare;
      },
    )

set-there : (k mu count : ℕ) (d : Draft) → 0 < k → mu ≤ MOST_PAGE_PRICE → count ≤ d.spare → BodyStep 0 k d (set_line mu count) (with_set mu count d)
set-there zero mu count d some price few = absurd (omega arith)
set-there (suc k) mu count d some price few = (mu, count, record { text = refl; price = price; few = few }, refl)

set-run : (mu : ℕ) (es : List Entry) (d : Draft) → d.stage ≡ stages.Body → d.entries_left ≡ 0 → 0 < d.sets_left → SetLimits (record { mu = mu; entries = es }) → length es ≤ d.spare →
    (f : Draft) × Moved d f 1 (length es) (set_lines (record { mu = mu; entries = es }))
unfolding with_set closed
set-run mu [] d at none some h few =
    let line : List ℕ = set_line mu 0 in
    let f : Draft = with_set mu 0 d in
    let there : StepAt d.stage d line f =
    subst (λ (s : Stage). StepAt s d line f) (sym at) (subst (λ (n : ℕ). BodyStep n d.sets_left d line f) (sym none) (set-there d.sets_left mu 0 d some h.price few)) in (
      f,
      record {
        run = (f, there, refl);
        stage = at;
        none = refl;
        sets_left = omega arith;
        count = length-append d.sets _;
        trees_left = refl;
        spare = omega arith;
      },
    )
set-run mu (e ∷ es) d at none some h few =
    let count : ℕ = length (e ∷ es) in
    let line : List ℕ = set_line mu count in
    let f : Draft = with_set mu count d in
    let there : StepAt d.stage d line f =
    subst (λ (s : Stage). StepAt s d line f) (sym at) (subst (λ (n : ℕ). BodyStep n d.sets_left d line f) (sym none) (set-there d.sets_left mu count d some h.price few)) in
    let rest = entries-run e es f at refl some (entries-raise (e ∷ es) h.entries) in
    let moved = rest.1 in (
      rest.0,
      record {
        run = (f, there, moved.run);
        stage = moved.stage;
        none = moved.none;
        sets_left = moved.sets_left;
        count = moved.count;
        trees_left = moved.trees_left;
        spare = omega (arith, moved.spare, few);
      },
    )

sets-run : (ss : List SparseSet) (d : Draft) → d.stage ≡ stages.Body → d.entries_left ≡ 0 → d.sets_left ≡ length ss → AllByRecursion SetLimits ss → entry_count ss ≤ d.spare →
    (f : Draft) × Moved d f (length ss) (entry_count ss) (sets_lines ss)
sets-run [] d at none left limits few =
    (d, record { run = refl; stage = at; none = none; sets_left = omega arith; count = omega arith; trees_left = refl; spare = omega arith })
sets-run (s ∷ ss) d at none left limits few =
    let total : entry_count (s ∷ ss) ≡ 0 + length s.entries + entry_count ss = sum_by-append (λ (x : SparseSet). length x.entries) (s ∷ []) ss in
    let one = set-run s.mu s.entries d at none (omega (arith, left)) limits.0 (omega (arith, few)) in
    let first = one.1 in
    let more = sets-run ss one.0 first.stage first.none (omega (arith, left, first.sets_left)) limits.1 (omega (arith, few, first.spare)) in
    let rest = more.1 in (
      more.0,
      record {
        run = run-append (set_lines s) (sets_lines ss) d one.0 more.0 first.run rest.run;
        stage = rest.stage;
        none = rest.none;
        sets_left = omega (arith, rest.sets_left, first.sets_left);
        count = omega (arith, rest.count, first.count);
        trees_left = rest.trees_left ∙ first.trees_left;
        spare = omega (arith, rest.spare, first.spare);
      },
    )

-- the tree, and the end
tree-run : (tree : List Node) (d : Draft) → d.stage ≡ stages.Body → d.entries_left ≡ 0 → d.sets_left ≡ 0 → d.trees_left ≡ 1 → length tree ≤ MOST_NODES → AreTrees 1 tree → AllByRecursion (NodeLimits (length d.sets)) tree →
    (e : Draft) × Run d (tree_lines tree ++ end_line ∷ []) e × (e.stage ≡ stages.Done)
tree-run tree d at none left one few trees limits =
    let n : ℕ = length tree in
    let f : Draft = record d { nodes_left = n; stage = stages.Nodes } in
    let step : BodyStep d.entries_left d.sets_left d (tree_line n) f =
    subst (λ (m : ℕ). BodyStep m d.sets_left d (tree_line n) f) (sym none)
    (subst (λ (m : ℕ). BodyStep 0 m d (tree_line n) f) (sym left) (n, few, omega (arith, trees-even 1 tree trees), refl, refl)) in
    let there : StepAt d.stage d (tree_line n) f = subst (λ (s : Stage). StepAt s d (tree_line n) f) (sym at) step in
    let nodes = nodes-run tree f refl refl (subst (λ (k : ℕ). AreTrees k tree) (sym one) trees) limits in
    let e : Draft = record nodes.0 { stage = stages.Done } in
    let last : StepAt nodes.0.stage nodes.0 end_line e =
    subst (λ (s : Stage). StepAt s nodes.0 end_line e) (sym nodes.2) (subst (λ (m : ℕ). NodeStep m nodes.0 end_line e) (sym nodes.3) (refl, refl)) in
    let end : Run nodes.0 (end_line ∷ []) e = (e, last, refl) in
    (e, (f, there, run-append (map node_line tree) (end_line ∷ []) f nodes.0 e nodes.1 end), refl)

-- the lines of a certificate lead from the start to the end
pub complete : (cert : Cert) → CertLimits cert → (e : Draft) × Run start (cert_lines cert) e × (e.stage ≡ stages.Done)
unfolding start
complete cert h =
    let d0 : Draft = start in
    let d1 : Draft = record d0 { version = cert.version; stage = stages.Budget } in
    let d2 : Draft = record d1 { budget = cert.budget; stage = stages.Config } in
    let d3 : Draft = record d2 { config = cert.config; stage = stages.Cost } in
    let d4 : Draft = record d3 { cost = cert.cost; stage = stages.Bound } in
    let d5 : Draft = record d4 { bound = cert.bound; stage = stages.Sets } in
    let d6 : Draft = record d5 { sets_left = length cert.sets; stage = stages.Body } in
    let sets = sets-run cert.sets d6 refl refl refl h.sets h.few_entries in
    let moved = sets.1 in
    let count : length sets.0.sets ≡ length cert.sets = omega (arith, moved.count) in
    let tree = tree-run cert.tree sets.0 moved.stage moved.none (omega (arith, moved.sets_left)) moved.trees_left h.few_nodes h.tree
    (subst (λ (k : ℕ). AllByRecursion (NodeLimits k) cert.tree) (sym count) h.nodes) in
    let body = run-append (sets_lines cert.sets) (tree_lines cert.tree ++ end_line ∷ []) d6 sets.0 tree.0 moved.run tree.1 in (
      tree.0,
      (d1, (cert.version, h.version_least, h.version_most, refl, refl), (d2, (cert.budget, h.budget, refl, refl), (d3, (cert.config, h.config, refl, refl), (d4, (cert.cost, h.cost, refl, refl), (d5, (cert.bound, h.bound, refl, refl), (d6, (length cert.sets, h.few_sets, refl, refl), body)))))),
      tree.2,
    )
