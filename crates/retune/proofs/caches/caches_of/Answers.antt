use Rattle.std.proofs.Common.{◌≡◌, ℕ, length, take, subst, arith}
use Rattle.std.proofs.Math.Seq.{take-length}
use Rattle.programme_parts.specs.Combinations.{AreFew}
use Rattle.retune.proofs.CacheLemmas.{caches-none}
use Rattle.retune.proofs.caches.caches_of.Goals as goal

pub loop-at-init : goal.loop-at-init
loop-at-init c = rw c.new-caches.ensures.items (caches-none c.args.cat.now c.args.statements.now)

pub returns-clause-few : goal.returns-clause-few
returns-clause-few c =
    let statements = c.args.statements.now in
    let end : c.loop-at.at ≡ length statements = omega arith in
    subst (AreFew c.args.cat.now) (take-length statements)
    (subst (λ (n : ℕ). AreFew c.args.cat.now (take n statements)) end c.loop-at.invariant.few)
