-- A step keeps what drafts keep.
use Rattle.std.proofs.Common.{◌≡◌, ◌∙◌, ℕ, zero, suc, ◌+◌, ◌-◌, ◌%◌, ◌<◌, List, [], ◌∷◌, ◌++◌, length, map, sym, ap, subst, refl, arith, length-append}
use Rattle.std.specs.List.{AllByRecursion}
use Rattle.std.proofs.lemmas.List.{append-nil, append_assoc}
use Rattle.bip_model.specs.declared.answer.Node.{Node}
use Rattle.bip_model.specs.declared.answer.Node.TheVariants.{Branch, Bounded, Overfull}
use Rattle.certificate.specs.Limits.{NodeLimits, CertLimits, entry_place}
use Rattle.certificate.specs.Texts.{sets_lines, tree_line, node_line, end_line, head_lines, cert_lines}
use Rattle.certificate.specs.inner.Outlines.{Draft}
use Rattle.certificate.specs.declared.stage.Stage.{Stage}
use Rattle.certificate.specs.declared.stage.Stage.TheVariants as stages
use Rattle.certificate.specs.declared.outline.TheConstants.{FIRST_PLACE}
use Rattle.certificate.specs.inner.Steps.{trees_after, closed, closed_by, with_set, with_entry, StepAt, BodyStep, NodeStep}
use Rattle.certificate.specs.inner.Drafts.{Leave, HeadFits, BodyFits, TreeFits, IsFresh, IsBody, IsTree, StageFits, DraftFits, cert_of}
use Rattle.certificate.specs.inner.Runs.{lines_at, Run}
use Rattle.certificate.proofs.StepLaws.{all-more, Leave-more, trees-whole, with_set-fits, with_entry-fits}
use Rattle.certificate.proofs.LineSteps.{line-step}

same-fresh : (d e : Draft) → IsFresh d → e.sets ≡ d.sets → e.sets_left ≡ d.sets_left → e.entries_left ≡ d.entries_left → e.tree ≡ d.tree → e.trees_left ≡ d.trees_left → IsFresh e
same-fresh d e h a b c t u = record { sets = a ∙ h.sets; sets_left = b ∙ h.sets_left; entries_left = c ∙ h.entries_left; tree = t ∙ h.tree; trees_left = u ∙ h.trees_left }

no-nodes : (k : ℕ) (nodes : List Node) → nodes ≡ [] → AllByRecursion (NodeLimits k) nodes
no-nodes k [] none = tt
no-nodes k (n ∷ ns) none = absurd (omega (arith, ap length none))

closed-keeps : (n : ℕ) (d : Draft) → d.stage ≡ stages.Body → HeadFits d.version d.budget d.config d.cost d.bound → BodyFits (closed_by n d) → (k : ℕ) → TreeFits k d.tree d.nodes_left d.trees_left → d.tree ≡ [] → d.trees_left ≡ 1 → DraftFits (closed_by n d)
closed-keeps zero d at head body k nodes none one = record {
  head = head;
  body = body;
  nodes = record { nodes = no-nodes _ d.tree none; leaves = nodes.leaves; few = nodes.few; some = nodes.some; enough = nodes.enough; even = nodes.even };
  stage = subst (λ (s : Stage). StageFits s (closed_by zero d)) (sym at) (record { tree = none; trees_left = one });
}
closed-keeps (suc n) d at head body k nodes none one = record {
  head = head;
  body = body;
  nodes = record { nodes = no-nodes _ d.tree none; leaves = nodes.leaves; few = nodes.few; some = nodes.some; enough = nodes.enough; even = nodes.even };
  stage = subst (λ (s : Stage). StageFits s d) (sym at) (record { tree = none; trees_left = one });
}

body-fits : (m k : ℕ) (d e : Draft) (line : List ℕ) → d.stage ≡ stages.Body → d.entries_left ≡ m → d.sets_left ≡ k → DraftFits d → BodyStep m k d line e → DraftFits e
unfolding with_set with_entry closed
body-fits (suc m) k d e line at left sets fits h =
    let body : IsBody d = subst (λ (s : Stage). StageFits s d) at fits.stage in
    let kept = with_entry-fits h.0 m d left h.1 h.3 h.4 fits.body in
    subst DraftFits (sym h.5) (closed-keeps m (record d { entries = d.entries ++ h.0 ∷ []; entries_left = m; least = entry_place h.0 + 1 }) at fits.head kept (length d.sets) fits.nodes body.tree body.trees_left)
body-fits zero (suc k) d e line at left sets fits h =
    let body : IsBody d = subst (λ (s : Stage). StageFits s d) at fits.stage in
    let kept = with_set-fits h.0 h.1 d left (omega (arith, sets)) h.2.price h.2.few fits.body in
    subst DraftFits (sym h.3) (closed-keeps h.1 (record d { mu = h.0; entries_left = h.1; spare = d.spare - h.1; least = FIRST_PLACE }) at fits.head kept (length d.sets) fits.nodes body.tree body.trees_left)
body-fits zero zero d e line at left sets fits h =
    let body : IsBody d = subst (λ (s : Stage). StageFits s d) at fits.stage in
    let none : length d.tree ≡ 0 = ap length body.tree in
    let one : d.trees_left ≡ 1 = body.trees_left in
    subst DraftFits (sym h.4) (
    record {
      head = fits.head;
      body = fits.body;
      nodes = record {
        nodes = fits.nodes.nodes;
        leaves = fits.nodes.leaves;
        few = omega (arith, h.1, none);
        some = λ some. omega (arith, one);
        enough = omega (arith, h.2, one);
        even = omega (arith, h.2, one);
      };
      stage = record { sets_left = sets; entries_left = left };
    }
    )

even-after : (node : Node) (t m : ℕ) → 0 < t → (t + suc m) % 2 ≡ 0 → (trees_after t node + m) % 2 ≡ 0
even-after (Branch a) t m some even = omega arith
even-after (Bounded k) t m some even = omega arith
even-after Overfull t m some even = omega arith

some-trees : (t m : ℕ) → (t ≡ 0 → m ≡ 0) → 0 < m → 0 < t
some-trees zero m h some = absurd (omega (arith, h refl))
some-trees (suc t) m h some = omega arith

node-fits : (m : ℕ) (d e : Draft) (line : List ℕ) → d.stage ≡ stages.Nodes → d.nodes_left ≡ m → DraftFits d → NodeStep m d line e → DraftFits e
node-fits (suc m) d e line at left fits h =
    let tree : IsTree d = subst (λ (s : Stage). StageFits s d) at fits.stage in
    let some : 0 < d.trees_left = fits.nodes.some (omega (arith, left)) in
    let f : Draft = record d { tree = d.tree ++ h.0 ∷ []; nodes_left = m; trees_left = trees_after d.trees_left h.0 } in
    subst DraftFits (sym h.5) (
    record {
      head = fits.head;
      body = fits.body;
      nodes = record {
        nodes = all-more (NodeLimits (length d.sets)) d.tree h.0 fits.nodes.nodes h.1;
        leaves = Leave-more 1 d.tree h.0 d.trees_left fits.nodes.leaves some;
        few = omega (arith, fits.nodes.few, left, length-append d.tree (h.0 ∷ []));
        some = some-trees (trees_after d.trees_left h.0) m h.4;
        enough = h.3;
        even = even-after h.0 d.trees_left m some (ap (λ (n : ℕ). (d.trees_left + n) % 2) (sym left) ∙ fits.nodes.even);
      };
      stage = subst (λ (s : Stage). StageFits s f) (sym at) (record { sets_left = tree.sets_left; entries_left = tree.entries_left });
    }
    )
node-fits zero d e line at left fits h =
    let tree : IsTree d = subst (λ (s : Stage). StageFits s d) at fits.stage in
    subst DraftFits (sym h.1) (
    record { head = fits.head; body = fits.body; nodes = fits.nodes; stage = (record { sets_left = tree.sets_left; entries_left = tree.entries_left }, left) }
    )

pub fits-step : (s : Stage) (d e : Draft) (line : List ℕ) → d.stage ≡ s → DraftFits d → StepAt s d line e → DraftFits e
fits-step stages.Title d e line at fits h =
    let fresh : IsFresh d = subst (λ (s : Stage). StageFits s d) at fits.stage in
    let head = fits.head in
    subst DraftFits (sym h.4) (record { head = record { version_least = h.1; version_most = h.2; budget_most = head.budget_most; config_rises = head.config_rises; cost_small = head.cost_small; bound_small = head.bound_small }; body = fits.body; nodes = fits.nodes; stage = same-fresh d _ fresh refl refl refl refl refl })
fits-step stages.Budget d e line at fits h =
    let fresh : IsFresh d = subst (λ (s : Stage). StageFits s d) at fits.stage in
    let head = fits.head in
    subst DraftFits (sym h.3) (record { head = record { version_least = head.version_least; version_most = head.version_most; budget_most = h.1; config_rises = head.config_rises; cost_small = head.cost_small; bound_small = head.bound_small }; body = fits.body; nodes = fits.nodes; stage = same-fresh d _ fresh refl refl refl refl refl })
fits-step stages.Config d e line at fits h =
    let fresh : IsFresh d = subst (λ (s : Stage). StageFits s d) at fits.stage in
    let head = fits.head in
    subst DraftFits (sym h.3) (record { head = record { version_least = head.version_least; version_most = head.version_most; budget_most = head.budget_most; config_rises = h.1; cost_small = head.cost_small; bound_small = head.bound_small }; body = fits.body; nodes = fits.nodes; stage = same-fresh d _ fresh refl refl refl refl refl })
fits-step stages.Cost d e line at fits h =
    let fresh : IsFresh d = subst (λ (s : Stage). StageFits s d) at fits.stage in
    let head = fits.head in
    subst DraftFits (sym h.3) (record { head = record { version_least = head.version_least; version_most = head.version_most; budget_most = head.budget_most; config_rises = head.config_rises; cost_small = h.1; bound_small = head.bound_small }; body = fits.body; nodes = fits.nodes; stage = same-fresh d _ fresh refl refl refl refl refl })
fits-step stages.Bound d e line at fits h =
    let fresh : IsFresh d = subst (λ (s : Stage). StageFits s d) at fits.stage in
    let head = fits.head in
    subst DraftFits (sym h.3) (record { head = record { version_least = head.version_least; version_most = head.version_most; budget_most = head.budget_most; config_rises = head.config_rises; cost_small = head.cost_small; bound_small = h.1 }; body = fits.body; nodes = fits.nodes; stage = same-fresh d _ fresh refl refl refl refl refl })
fits-step stages.Sets d e line at fits h =
    let fresh : IsFresh d = subst (λ (s : Stage). StageFits s d) at fits.stage in
    let b = fits.body in
    let none : length d.sets ≡ 0 = ap length fresh.sets in
    subst DraftFits (sym h.3) (
    record {
      head = fits.head;
      body = record {
        few = omega (arith, h.1, none);
        whole = b.whole;
        count = b.count;
        price = b.price;
        rise = b.rise;
        least_is = b.least_is;
        room = b.room;
        begun = λ some. absurd (omega (arith, fresh.entries_left));
        idle = b.idle;
      };
      nodes = fits.nodes;
      stage = record { tree = fresh.tree; trees_left = fresh.trees_left };
    }
    )
fits-step stages.Body d e line at fits h = body-fits d.entries_left d.sets_left d e line at refl refl fits h
fits-step stages.Nodes d e line at fits h = node-fits d.nodes_left d e line at refl fits h
fits-step stages.Done d e line at fits h = absurd h

-- lines that were taken stand behind those before
pub run-lines : (lines : List (List ℕ)) (d e : Draft) → DraftFits d → Run d lines e → DraftFits e × (lines_at e.stage e ≡ lines_at d.stage d ++ lines)
run-lines [] d e fits h = (subst DraftFits h fits, ap (λ (x : Draft). lines_at x.stage x) (sym h) ∙ sym (append-nil (lines_at d.stage d)))
run-lines (line ∷ lines) d e fits h =
    let rest = run-lines lines h.0 e (fits-step d.stage d h.0 line refl fits h.1) h.2 in
    (rest.0, rest.1 ∙ ap (λ (xs : List (List ℕ)). xs ++ lines) (line-step d.stage d h.0 line refl fits h.1) ∙ append_assoc (lines_at d.stage d) (line ∷ []) lines)

-- one more line
pub run-more : (lines : List (List ℕ)) (line : List ℕ) (d e f : Draft) → Run d lines e → StepAt e.stage e line f → Run d (lines ++ line ∷ []) f
run-more [] line d e f h step = (f, subst (λ (x : Draft). StepAt x.stage x line f) (sym h) step, refl)
run-more (l ∷ lines) line d e f h step = (h.0, h.1, run-more lines line h.0 e f h.2 step)

-- a draft whose lines were all taken is a certificate
pub done-cert : (d : Draft) → d.stage ≡ stages.Done → DraftFits d → CertLimits (cert_of d) × (lines_at d.stage d ≡ cert_lines (cert_of d))
done-cert d at fits =
    let done : StageFits stages.Done d = subst (λ (s : Stage). StageFits s d) at fits.stage in
    let sets : length d.sets + d.sets_left ≡ length d.sets = omega (arith, done.0.sets_left) in
    let nodes : length d.tree + d.nodes_left ≡ length d.tree = omega (arith, done.1) in
    let none : d.trees_left ≡ 0 = omega (arith, fits.nodes.enough, done.1) in (
      record {
        version_least = fits.head.version_least;
        version_most = fits.head.version_most;
        budget = fits.head.budget_most;
        config = fits.head.config_rises;
        cost = fits.head.cost_small;
        bound = fits.head.bound_small;
        few_sets = omega (arith, fits.body.few);
        sets = fits.body.whole;
        few_entries = omega (arith, fits.body.count);
        few_nodes = omega (arith, fits.nodes.few);
        nodes = fits.nodes.nodes;
        tree = trees-whole 1 d.tree (subst (λ (k : ℕ). Leave 1 d.tree k) none fits.nodes.leaves);
      },
      ap (λ (s : Stage). lines_at s d) at
          ∙ (λ i. head_lines d.version d.budget d.config d.cost d.bound (sets i) ++ (sets_lines d.sets ++ ((tree_line (nodes i) ∷ map node_line d.tree) ++ end_line ∷ []))),
    )
