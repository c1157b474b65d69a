use Rattle.std.proofs.Common.{◌∙◌, ◌+◌, ◌*◌, ◌==◌, ℕ, drop, ap, arith}
use Rattle.std.specs.Prelude.{if◌then◌else◌, slice_index_or}
use Rattle.std.proofs.Math.Nat.{mul-add}
use Rattle.lagrange_bound.specs.inner.CostsByLists.{owned_rents}
use Rattle.lagrange_bound.proofs.FlatSlots.{owned-next}
use Rattle.lagrange_bound.proofs.uses.push_part.Goals as goal

pub loop-i-preserved : goal.loop-i-preserved
loop-i-preserved c =
    record {
      long = c.push_grant.ensures.long;
      within = λ a n most are. c.in_ok-push_grant.ensures.within a n (omega (arith, most, c.loop-i-test.true)) (c.loop-i.invariant.within a n most are);
      bring = λ a rents most.
          let here : ℕ = if slice_index_or c.args.owners.now c.loop-i.i 0 == a then slice_index_or rents (c.args.at + c.loop-i.i) 0 else 0 in
          let rest : ℕ = owned_rents a (drop (c.loop-i.i + 1) c.args.owners.now) (drop (c.args.at + (c.loop-i.i + 1)) rents) in
          let made = c.in_ok-push_grant.ensures.bring a rents in
          let step = owned-next c.args.owners.now rents a c.args.at c.loop-i.i c.loop-i-test.true (omega (arith, most, c.loop-i-test.true)) in
          let joined = ap (λ (n : ℕ). c.args.weight * n) step ∙ mul-add c.args.weight here rest in
          let before = c.loop-i.invariant.bring a rents most in
          omega (arith, made, joined, before);
    }
