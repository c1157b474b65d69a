use Rattle.std.proofs.Common.{ℕ, ◌<◌, ◌∙◌, length, below_more, ap, subst, arith}
use Rattle.std.proofs.lemmas.List.{get_or_default}
use Rattle.planner.specs.declared.cuts.Cut.{Cut}
use Rattle.planner.specs.Cells.{cost_at, row_of}
use Rattle.planner.specs.Cuts.{cut_at, no_cut}
use Rattle.planner.specs.inner.Steps.{IsStep}
use Rattle.planner.specs.Rows.{width, cuts_of, CutBound, IsCutBy, IsJoined}
use Rattle.planner.proofs.Steps.{step_then, step_wider}
use Rattle.planner.proofs.Tabling.{cut_falls}
use Rattle.planner.proofs.row.join_row.Goals as goal

pub loop-k-preserved : goal.loop-k-preserved
loop-k-preserved c =
    let ways = c.args.ways.now in
    let set = c.args.set in
    let rows = row_of (width ways) c.args.cells.now in
    let k = c.loop-k.k in
    let cuts = c.cuts_at-cuts.result.now in
    let within : k < length cuts = omega (arith, c.loop-k-test.true, c.loop-k.auto.k-end) in
    let inside : k < length (cuts_of ways set) = omega (arith, within, ap length c.cuts_at-cuts.ensures) in
    let is = get_or_default cuts k _ no_cut within ∙ ap (λ cs. cut_at cs k) c.cuts_at-cuts.ensures in
    let old = c.loop-k.row in
    let new = c.join_cut.new.row in
    let step = subst (λ (x : Cut). IsStep (width ways) (IsCutBy ways rows x) old new) is c.join_cut.ensures.step in
    let bounds = subst (λ (x : Cut). (f : ℕ) → f < width ways → CutBound ways rows x f (cost_at new f)) is c.join_cut.ensures.bounds in
    let P : ℕ → Type 0 = λ i. (f : ℕ) → f < width ways → CutBound ways rows (cut_at (cuts_of ways set) i) f (cost_at new f) in
    record {
      step = step_then (width ways) (IsJoined ways rows (cuts_of ways set)) c.args.row.now old new c.loop-k.invariant.step (step_wider (width ways) (IsCutBy ways rows (cut_at (cuts_of ways set) k)) (IsJoined ways rows (cuts_of ways set)) old new (λ f cost h. record { number = k; within = inside; joins = h }) step);
      bounds = below_more P k (λ i h f front_in. cut_falls ways rows (cut_at (cuts_of ways set) i) f (cost_at old f) (cost_at new f) (step.lower f) (c.loop-k.invariant.bounds i h f front_in)) bounds;
    }

pub returns-clause-bounds : goal.returns-clause-bounds
returns-clause-bounds c =
    λ k inside. c.loop-k.invariant.bounds k (omega (arith, inside, ap length c.cuts_at-cuts.ensures, c.loop-k-test.false, c.loop-k.auto.k-end))
