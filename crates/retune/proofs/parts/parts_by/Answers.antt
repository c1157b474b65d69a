use Rattle.std.proofs.Common.{get_or, sym, subst, arith}
use Rattle.std.proofs.lemmas.Option.{slice_get-get_or}
use Rattle.adv_base.specs.Settings.{the_setting}
use Rattle.bip_model.proofs.Lists.{each-length}
use Rattle.programme_parts.specs.Caches.{IsCacheFor}
use Rattle.retune.proofs.CacheLemmas.{cached-at}
use Rattle.programme_parts.proofs.Statements.{parts-none}
use Rattle.retune.proofs.parts.parts_by.Goals as goal

pub loop-at-init : goal.loop-at-init
loop-at-init c = rw c.new-parts.ensures.items (parts-none (the_setting c.args.setting.now))

pub push_statement-requires-clause-found : goal.push_statement-requires-clause-found
push_statement-requires-clause-found c = slice_get-get_or c.args.setting.now.statements.now c.loop-at.at c.index-setting-at.result c.loop-at-test.true

pub bounds-caches-at : goal.bounds-caches-at
bounds-caches-at c =
    let setting = c.args.setting.now in
    omega (arith, each-length (IsCacheFor setting.cat.now) setting.statements.now c.args.caches.now c.requires)

pub push_statement-requires-clause-cached : goal.push_statement-requires-clause-cached
push_statement-requires-clause-cached c =
    let setting = c.args.setting.now in
    subst (IsCacheFor setting.cat.now (get_or setting.statements.now c.loop-at.at c.index-setting-at.result)) (sym c.index-caches-at.is)
    (cached-at setting.cat.now setting.statements.now c.args.caches.now c.loop-at.at c.index-setting-at.result c.index-caches-at.result c.requires c.loop-at-test.true)
