use Rattle.std.proofs.Common.{◌∷◌, take}
use Rattle.bip_model.proofs.Lists.{each-more}
use Rattle.adv_base.specs.Settings.{the_setting}
use Rattle.gap_checker.specs.inner.Kept as keeping
use Rattle.gap_checker.proofs.Lists.{take-next}
use Rattle.gap_checker.proofs.judge.kept_sets.Goals as goal

pub loop-set-preserved : goal.loop-set-preserved
loop-set-preserved c =
    let sets = c.args.sets.now in
    let i = c.loop-set.set-index in
    rw (take-next sets i c.set-item.result c.loop-set-test.true c.set-item.is, c.in_ok-put-2.ensures)
    (each-more (keeping.IsKept (the_setting c.args.setting.now)) (keeping.zero_set ∷ take i sets) c.loop-set.kept.items c.set-item.result c.in_ok-own.own c.loop-set.invariant c.in_ok-own.ensures)
