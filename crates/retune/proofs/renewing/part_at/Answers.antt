use Rattle.std.proofs.Common.{◌≡◌, get_or, sym, subst}
use Rattle.std.specs.Prelude.{Option, Some, None, slice_get}
use Rattle.std.proofs.lemmas.Option.{slice_get-get_or}
use Rattle.adv_base.specs.declared.workload.block.Block.{Block}
use Rattle.adv_base.specs.Settings.{TheSetting, the_setting}
use Rattle.plan_model.specs.Totals.{block_of}
use Rattle.inum_cache.specs.declared.cache.Cache.{Cache}
use Rattle.programme_parts.specs.Caches.{HoldsCache, IsCached}
use Rattle.retune.specs.inner.Renewing.{IsOwnPart}
use Rattle.retune.proofs.renewing.part_at.Goals as goal

pub part-requires-clause-cached : goal.part-requires-clause-cached
part-requires-clause-cached c =
    let setting = c.args.setting.now in
    let statement = get_or setting.statements.now c.args.at c.index-setting-at.result in
    let found : slice_get setting.statements.now c.args.at ≡ Some statement = slice_get-get_or setting.statements.now c.args.at c.index-setting-at.result c.requires.within in
    let holds = c.requires.cached statement found in
    subst (λ (kept : Option Cache). HoldsCache setting.cat.now (Some c.in-Some.block.now) kept) c.in-Some-cache.is
    (subst (λ (there : Option Block). HoldsCache setting.cat.now there c.args.cache.now) (sym c.in-Some.ensures) holds)

pub returns-in-None : goal.returns-in-None
returns-in-None c =
    let setting = c.args.setting.now in
    let s : TheSetting = the_setting setting in
    let statement = get_or setting.statements.now c.args.at c.index-setting-at.result in
    record {
      statement = statement;
      found = slice_get-get_or setting.statements.now c.args.at c.index-setting-at.result c.requires.within;
      is = subst (λ (there : Option Block). IsOwnPart s c.args.at statement.weight there None) c.in-None.ensures tt;
    }

pub returns-in-None-cache : goal.returns-in-None-cache
returns-in-None-cache c =
    let setting = c.args.setting.now in
    let statement = get_or setting.statements.now c.args.at c.index-setting-at.result in
    let found : slice_get setting.statements.now c.args.at ≡ Some statement = slice_get-get_or setting.statements.now c.args.at c.index-setting-at.result c.requires.within in
    let holds = c.requires.cached statement found in
    absurd (subst (λ (kept : Option Cache). HoldsCache setting.cat.now (Some c.in-Some.block.now) kept) c.in-None-cache.is
    (subst (λ (there : Option Block). HoldsCache setting.cat.now there c.args.cache.now) (sym c.in-Some.ensures) holds))

pub returns-in_ok-own-in-Some-cache : goal.returns-in_ok-own-in-Some-cache
returns-in_ok-own-in-Some-cache c =
    let setting = c.args.setting.now in
    let s : TheSetting = the_setting setting in
    let statement = get_or setting.statements.now c.args.at c.index-setting-at.result in
    let own = c.in_ok-own-in-Some-cache.own in
    record {
      statement = statement;
      found = slice_get-get_or setting.statements.now c.args.at c.index-setting-at.result c.requires.within;
      is = subst (λ (there : Option Block). IsOwnPart s c.args.at statement.weight there (Some own)) c.in-Some.ensures
          (record { is = c.in_ok-own-in-Some-cache.ensures.part_is; kept = c.in_ok-own-in-Some-cache.ensures.kept });
    }
