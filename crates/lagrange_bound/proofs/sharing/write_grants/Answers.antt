use Rattle.std.proofs.Common.{◌≡◌, ◌∙◌, ◌+◌, ◌<◌, length, take, ap, arith, rules}
use Rattle.lagrange_bound.specs.Rents.{grant_rent}
use Rattle.lagrange_bound.proofs.WrittenRents.{written-more}
use Rattle.lagrange_bound.proofs.sharing.write_grants.Goals as goal

pub loop-i-preserved : goal.loop-i-preserved
loop-i-preserved c =
    let long : length c.loop-i.rents ≡ length c.args.rents.now = search rules in
    let inside : c.args.at + c.loop-i.i < length c.loop-i.rents = omega (arith, long, c.loop-i-test.true, c.requires.room) in
    written-more (grant_rent c.args.programme.now c.args.mu c.args.weight) c.args.grants.now c.loop-i.rents (take c.args.at c.args.rents.now) c.args.at c.loop-i.i c.grant_rent-rent.result c.index-grants-i.result
    c.loop-i-test.true inside (c.grant_rent-rent.ensures ∙ ap (grant_rent c.args.programme.now c.args.mu c.args.weight) c.index-grants-i.is) c.loop-i.invariant
