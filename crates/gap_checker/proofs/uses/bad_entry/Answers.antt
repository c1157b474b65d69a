use Rattle.std.proofs.Common.{◌+◌, arith}
use Rattle.adv_base.specs.Settings.{the_setting}
use Rattle.gap_checker.proofs.Naming.{named-more, named-all, bad-first, place-is}
use Rattle.gap_checker.proofs.uses.bad_entry.Goals as goal

pub loop-i-preserved : goal.loop-i-preserved
loop-i-preserved c = named-more (the_setting c.args.setting.now) c.args.set.now c.loop-i.i (c.is_bad-bad.ensures.no c.if-bad.false) c.loop-i.invariant

pub returns-then-bad-clause-found : goal.returns-then-bad-clause-found
returns-then-bad-clause-found c = λ place is. bad-first (the_setting c.args.setting.now) c.args.set.now c.loop-i.i place (place-is (c.loop-i.i + 1) place is) (c.is_bad-bad.ensures.yes c.if-bad.true) c.loop-i.invariant

pub returns-clause-none : goal.returns-clause-none
returns-clause-none c = λ e. named-all (the_setting c.args.setting.now) c.args.set.now c.loop-i.i (omega (arith, c.loop-i-test.false, c.len-i-end.ensures)) c.loop-i.invariant
