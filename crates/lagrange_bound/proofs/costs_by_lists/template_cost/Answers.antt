use Rattle.std.proofs.Common.{◌≡◌, suc, length, sym, arith}
use Rattle.std.specs.Prelude.{None}
use Rattle.bip_model.specs.Values.{need}
use Rattle.bip_model.specs.Words.{row_cost}
use Rattle.bip_model.proofs.Pricing.{row_cost-none}
use Rattle.lagrange_bound.specs.inner.CostsByLists.{tails}
use Rattle.lagrange_bound.proofs.ListedCosts.{tails_at}
use Rattle.lagrange_bound.proofs.costs_by_lists.template_cost.Goals as goal

pub returns-then-price-clause-exact : goal.returns-then-price-clause-exact
unfolding row_cost
returns-then-price-clause-exact c =
    let there = tails_at c.args.least.now c.args.starts.now c.loop-s.s (need c.args.template.now c.loop-s.s) c.loop-s-test.true in
    let missing : row_cost (tails c.args.least.now c.args.starts.now) c.args.template.now (suc c.loop-s.s) ≡ None = grind (arith, there) in
    sym (row_cost-none (tails c.args.least.now c.args.starts.now) c.args.template.now (suc c.loop-s.s) (length c.args.starts.now) (omega (arith, c.loop-s-test.true)) missing)
