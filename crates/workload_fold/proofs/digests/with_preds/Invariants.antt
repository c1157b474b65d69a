use Rattle.std.proofs.Common.{◌≡◌, take}
use Rattle.std.specs.Prelude.{fold}
use Rattle.workload_fold.specs.inner.Digests.{with_pred}
use Rattle.workload_fold.proofs.digests.with_preds.Given as goal

abbrev pub invariant-preds : goal.invariant-preds
invariant-preds l = l.so_far ≡ fold (with_pred l.cat l.block) l.digest (take l.pred-index l.block.preds)
