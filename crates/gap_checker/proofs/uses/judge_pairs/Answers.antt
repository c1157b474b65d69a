use Rattle.gap_checker.proofs.Naming.{set-limits, count-at, pair-first, sets-more}
use Rattle.std.proofs.Common.{◌+◌, refl, arith}
use Rattle.std.proofs.lemmas.Option.{slice_get_within}
use Rattle.adv_base.specs.Settings.{the_setting}
use Rattle.gap_checker.proofs.uses.judge_pairs.Goals as goal

pub bad_entry-requires-clause-limits : goal.bad_entry-requires-clause-limits
bad_entry-requires-clause-limits c = set-limits c.args.sets.now c.loop-j.j c.set_at-set.result.now c.requires.limits c.set_at-set.ensures

pub bad_entry-requires-clause-few : goal.bad_entry-requires-clause-few
bad_entry-requires-clause-few c = omega (arith, count-at c.args.sets.now c.loop-j.j c.set_at-set.result.now c.set_at-set.ensures, c.requires.few_entries)

pub returns-in-Some-clause-wrong : goal.returns-in-Some-clause-wrong
returns-in-Some-clause-wrong c =
    pair-first (the_setting c.args.setting.now) c.args.sets.now c.loop-j.j (c.loop-j.j + 1) c.in-Some.entry c.set_at-set.result.now refl c.set_at-set.ensures (c.in-Some.ensures.found c.in-Some.entry refl) c.loop-j.invariant

pub loop-j-preserved : goal.loop-j-preserved
loop-j-preserved c =
    sets-more (the_setting c.args.setting.now) c.args.sets.now c.loop-j.j c.set_at-set.result.now c.set_at-set.ensures (c.bad_entry.ensures.none c.in_default.is) c.loop-j.invariant

pub returns-clause-right : goal.returns-clause-right
returns-clause-right c = λ j set there.
    let within = slice_get_within c.args.sets.now j set there in
    c.loop-j.invariant j set (omega (arith, within, c.loop-j-test.false)) there
