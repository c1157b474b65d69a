use Rattle.std.proofs.Common.{length, ap, arith}
use Rattle.gap_checker.specs.inner.Earnings.{rent_of}
use Rattle.gap_checker.proofs.Adding.{earned-length}
use Rattle.gap_checker.proofs.lagrangian.earning.Goals as goal

pub candidate_rents-rents-requires-clause-within : goal.candidate_rents-rents-requires-clause-within
candidate_rents-rents-requires-clause-within c =
    omega (arith, ap length c.requires.earned.earned_are, earned-length (rent_of c.args.set.now.rents) c.args.judge.now.setting.now.statements.now 1 c.args.judge.now.setting.now.shapes.now, c.requires.within)
