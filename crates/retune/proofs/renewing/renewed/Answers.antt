use Rattle.std.proofs.Common.{get_or, sym, subst, arith}
use Rattle.std.proofs.lemmas.Option.{slice_get-get_or}
use Rattle.bip_model.proofs.Lists.{each-length}
use Rattle.programme_parts.specs.Caches.{IsCacheFor}
use Rattle.retune.proofs.CacheLemmas.{cached-at}
use Rattle.retune.proofs.renewing.renewed.Goals as goal

pub bounds-caches-at : goal.bounds-caches-at
bounds-caches-at c =
    let setting = c.args.setting.now in
    omega (arith, each-length (IsCacheFor setting.cat.now) setting.statements.now c.args.caches.now c.requires.cached)

pub push_renewed-requires-clause-found : goal.push_renewed-requires-clause-found
push_renewed-requires-clause-found c = slice_get-get_or c.args.setting.now.statements.now c.loop-at.at c.index-setting-at.result (omega arith)

pub push_renewed-requires-clause-cached : goal.push_renewed-requires-clause-cached
push_renewed-requires-clause-cached c =
    let setting = c.args.setting.now in
    subst (IsCacheFor setting.cat.now (get_or setting.statements.now c.loop-at.at c.index-setting-at.result)) (sym c.index-caches-at.is)
    (cached-at setting.cat.now setting.statements.now c.args.caches.now c.loop-at.at c.index-setting-at.result c.index-caches-at.result c.requires.cached (omega arith))
