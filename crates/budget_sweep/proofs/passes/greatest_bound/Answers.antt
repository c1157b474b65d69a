use Rattle.std.proofs.Common.{◌≡◌, ◌+◌, sym, subst, slice_index_or, to_z, of_z, rules, arith}
use Rattle.std.proofs.lemmas.Int.{to_z-of_z}
use Rattle.std.specs.Int.{int_max}
use Rattle.std.proofs.lemmas.Option.{slice_get-get_or}
use mir.Syntax.{w128}
use Rattle.budget_sweep.specs.Curves.{IsGreatestBound, answers_of}
use Rattle.budget_sweep.proofs.Passing.{greatest-last, greatest-more}
use Rattle.budget_sweep.proofs.passes.greatest_bound.Goals as goal

pub returns-then-number-points : goal.returns-then-number-points
returns-then-number-points c =
    let points = c.args.points.now in
    let number = c.args.number in
    let one = c.index-points-number.result in
    let own = slice_index_or points number one in
    let found = slice_get-get_or points number one c.requires.within in
    let same : to_z w128 (of_z w128 own.answer.bound) ≡ own.answer.bound = to_z-of_z w128 own.answer.bound (search rules) in
    subst (IsGreatestBound (answers_of points) number) (sym same) (greatest-last points number own found (omega (arith, c.if-number-points.true)))

pub returns : goal.returns
returns c =
    let points = c.args.points.now in
    let number = c.args.number in
    let one = c.index-points-number.result in
    let two = c.index-points-number-2.result in
    let own = slice_index_or points number one in
    let next = slice_index_or points (number + 1) two in
    let found = slice_get-get_or points number one c.requires.within in
    let there = slice_get-get_or points (number + 1) two (omega (arith, c.requires.within, c.if-number-points.false)) in
    let low = c.max.result in
    let same : to_z w128 (of_z w128 low) ≡ low = to_z-of_z w128 low (search rules) in
    let one_fits : to_z w128 (of_z w128 own.answer.bound) ≡ own.answer.bound = to_z-of_z w128 own.answer.bound (search rules) in
    let two_fits : to_z w128 (of_z w128 next.low) ≡ next.low = to_z-of_z w128 next.low (search rules) in
    let is : low ≡ int_max own.answer.bound next.low =
    subst (λ behind. low ≡ int_max own.answer.bound behind) two_fits (subst (λ bound. low ≡ int_max bound (to_z w128 (of_z w128 next.low))) one_fits c.max.ensures.value) in
    subst (IsGreatestBound (answers_of points) number) (sym same) (greatest-more points number own next low c.requires.behind found there is)
