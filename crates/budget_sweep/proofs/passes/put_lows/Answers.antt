use Rattle.std.proofs.Common.{◌≡◌, ◌∙◌, ◌+◌, ◌-◌, length, map, sym, ap, subst, to_z, of_z, rules, arith}
use Rattle.std.proofs.lemmas.Int.{to_z-of_z}
use mir.Syntax.{w128}
use Rattle.budget_sweep.specs.Curves.{IsGreatestBound, answers_of}
use Rattle.budget_sweep.specs.inner.Passes.{AreGreatest, bare}
use Rattle.budget_sweep.proofs.Points.{some-point, bare-set}
use Rattle.budget_sweep.proofs.Passing.{greatest-put}
use Rattle.budget_sweep.proofs.passes.put_lows.Goals as goal

pub loop-round-preserved : goal.loop-round-preserved
loop-round-preserved c =
    let count = length c.args.points.now in
    let points = c.loop-round.points in
    let number = count - 1 - c.loop-round.round in
    let behind_is : count - c.loop-round.round ≡ number + 1 = omega (arith, c.loop-round-test.true) in
    let here_is : number ≡ count - (c.loop-round.round + 1) = omega arith in
    let other = some-point points number (omega (arith, c.loop-round-test.true, c.loop-round.invariant.count)) in
    let low = c.greatest_bound-low.result in
    let same : to_z w128 (of_z w128 low) ≡ low = to_z-of_z w128 low (search rules) in
    let own = subst (IsGreatestBound (answers_of points) number) (sym same) c.greatest_bound-low.ensures in
    record {
      count = omega (arith, c.put_low.auto.points, c.loop-round.invariant.count);
      bare = ap (map bare) (c.put_low.ensures other) ∙ bare-set points number other _ ∙ c.loop-round.invariant.bare;
      greatest =
          subst (AreGreatest c.put_low.new.points) here_is
          (greatest-put points c.put_low.new.points number other (to_z w128 (of_z w128 low)) (c.put_low.ensures other)
          (subst (AreGreatest points) behind_is c.loop-round.invariant.greatest) own);
    }
