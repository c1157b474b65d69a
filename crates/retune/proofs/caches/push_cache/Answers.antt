use Rattle.std.proofs.Common.{◌≡◌, ◌∙◌, ◌+◌, ◌<◌, List, length, rules, sym, ap, subst, arith}
use Rattle.std.specs.Prelude.{Option, Some, slice_get}
use Rattle.std.proofs.lemmas.Option.{slice_get-get_or}
use Rattle.inum_cache.specs.declared.cache.Cache.{Cache}
use Rattle.retune.specs.Steps.{IsNewFault}
use Rattle.retune.specs.inner.Caches.{AreCachesBelow}
use Rattle.retune.proofs.CacheLemmas.{caches-more, first-fault}
use Rattle.retune.proofs.caches.push_cache.Goals as goal

pub returns-in_err-cache-clause-fault : goal.returns-in_err-cache-clause-fault
returns-in_err-cache-clause-fault c =
    let statements = c.args.statements.now in
    let statement = c.index-statements-at.result in
    let within : c.args.at < length statements = omega (arith, c.requires.within) in
    let found : slice_get statements c.args.at ≡ Some statement = slice_get-get_or statements c.args.at statement within ∙ ap Some (sym c.index-statements-at.is) in
    let fault = c.in_err-cache.field-0.0 in
    let h : IsNewFault c.args.cat.now statements fault =
    first-fault c.args.cat.now statements c.args.at statement fault found c.requires.before.few c.in_err-cache.ensures.fault in
    search (rules, h)

pub returns-clause-after : goal.returns-clause-after
returns-clause-after c =
    let statements = c.args.statements.now in
    let statement = c.index-statements-at.result in
    let within : c.args.at < length statements = omega (arith, c.requires.within) in
    let found : slice_get statements c.args.at ≡ Some statement = slice_get-get_or statements c.args.at statement within ∙ ap Some (sym c.index-statements-at.is) in
    subst (λ (caches : List (Option Cache)). AreCachesBelow c.args.cat.now statements (c.args.at + 1) caches) (sym c.in_ok-push.ensures.items)
    (caches-more c.args.cat.now statements c.args.at statement c.args.caches.now.items c.in_ok-cache.cache found c.requires.before c.in_ok-cache.ensures.cache c.in_ok-cache.ensures.few)
