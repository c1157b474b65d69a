use Rattle.std.proofs.Common.{◌≤◌, get_or, arith, rules}
use Rattle.bip_model.specs.declared.grant.Grant.{Grant}
use Rattle.lagrange_bound.proofs.WrittenRents.{uses-step}
use Rattle.lagrange_bound.proofs.sharing.count_grants.Goals as goal

pub loop-i-preserved : goal.loop-i-preserved
loop-i-preserved c =
    let grant : Grant = get_or c.args.grants.now c.loop-i.i c.index-grants-i.result in
    let most : grant.candidate ≤ 256 = grant.limits.most in
    record {
      count = search (rules, c.loop-i.invariant.count);
      rest = λ a below.
          uses-step c.args.grants.now c.loop-i.uses c.loop-i.i c.index-grants-i.result a _ c.loop-i-test.true (omega (arith, most, c.loop-i.invariant.count)) (c.loop-i.invariant.rest a below);
    }
