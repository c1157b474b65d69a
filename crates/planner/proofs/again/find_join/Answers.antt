use Rattle.std.proofs.Common.{ℕ, ◌<◌, length, below_more, ap, subst, ◌∙◌, arith}
use Rattle.std.proofs.lemmas.List.{get_or_default}
use Rattle.planner.specs.declared.cuts.Cut.{Cut}
use Rattle.planner.specs.Cells.{row_of}
use Rattle.planner.specs.Cuts.{cut_at, no_cut}
use Rattle.planner.specs.Rows.{width, cuts_of, IsCutBy}
use Rattle.planner.proofs.again.find_join.Goals as goal

pub loop-k-preserved : goal.loop-k-preserved
loop-k-preserved c =
    let ways = c.args.ways.now in
    let rows = row_of (width ways) c.args.cells.now in
    let k = c.loop-k.k in
    let cuts = c.cuts_at-cuts.result.now in
    let within : k < length cuts = omega (arith, c.loop-k-test.true, c.loop-k.auto.k-end) in
    let is = get_or_default cuts k _ no_cut within ∙ ap (λ cs. cut_at cs k) c.cuts_at-cuts.ensures in
    let none = subst (λ (x : Cut). ¬ (IsCutBy ways rows x c.args.f c.args.cost)) is (c.find_in_cut.ensures.none c.in_default.is) in
    let P : ℕ → Type 0 = λ i. ¬ (IsCutBy ways rows (cut_at (cuts_of ways c.args.set) i) c.args.f c.args.cost) in
    below_more P k c.loop-k.invariant none

pub returns-clause-none : goal.returns-clause-none
returns-clause-none c =
    λ none j. c.loop-k.invariant j.number (omega (arith, j.within, ap length c.cuts_at-cuts.ensures, c.loop-k-test.false, c.loop-k.auto.k-end)) j.joins
