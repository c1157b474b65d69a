use Rattle.std.proofs.Common.{◌≡◌, suc, sym, arith}
use Rattle.std.specs.Prelude.{None}
use Rattle.bip_model.specs.Words.{row_cost}
use Rattle.bip_model.proofs.Pricing.{row_cost-none}
use Rattle.bip_model.proofs.rows.template_cost.Goals as goal

pub returns-then-price-clause-exact : goal.returns-then-price-clause-exact
unfolding row_cost
returns-then-price-clause-exact c =
    let missing : row_cost c.args.rows.now c.args.template.now (suc c.loop-s.s) ≡ None = grind arith in
    sym (row_cost-none c.args.rows.now c.args.template.now (suc c.loop-s.s) c.args.slots (omega (arith, c.loop-s-test.true)) missing)
