use Rattle.std.proofs.Common.{◌≡◌, ◌∙◌, ℕ, ◌+◌, ◌-◌, ◌*◌, List, ◌++◌, length, length-append, drop, get_or, sym, ap, subst, arith}
use Rattle.std.proofs.lemmas.List.{take_rest}
use Rattle.std.specs.Prelude.{Option, Some, slice_get, option_to_list}
use Rattle.std.proofs.lemmas.Option.{slice_get-get_or, get_or_from_slice_get}
use Rattle.adv_base.specs.declared.catalogue.index.IndexShape.{IndexShape}
use Rattle.adv_base.specs.declared.workload.Statement.{Statement}
use Rattle.adv_base.specs.Settings.{TheSetting, the_setting}
use Rattle.bip_model.specs.declared.programme.Programme.{Programme}
use Rattle.bip_model.proofs.Lists.{each-length}
use Rattle.programme_parts.specs.Caches.{IsCacheFor}
use Rattle.retune.specs.inner.Renewing.{IsRenewedBy, all_but_last, put_over}
use Rattle.retune.proofs.CacheLemmas.{cached-at}
use Rattle.retune.proofs.Widened.{few-renewed, on-err, parts-before, same_programme, widened, widened-is, widened-limits}
use Rattle.retune.proofs.widening.widen_programme.Goals as goal

pub bounds-caches-last : goal.bounds-caches-last
bounds-caches-last c =
    let setting = c.args.setting.now in
    omega (arith, each-length (IsCacheFor setting.cat.now) setting.statements.now c.args.caches.now c.requires.cached, c.requires.some)

pub part_at-requires-clause-cached : goal.part_at-requires-clause-cached
part_at-requires-clause-cached c = λ statement found.
    let setting = c.args.setting.now in
    let last : ℕ = length setting.statements.now - 1 in
    let read : get_or setting.statements.now last statement ≡ statement = get_or_from_slice_get setting.statements.now last statement statement found in
    subst (λ (s : Statement). IsCacheFor setting.cat.now s c.index-caches-last.result) read
    (subst (IsCacheFor setting.cat.now (get_or setting.statements.now last statement)) (sym c.index-caches-last.is)
    (cached-at setting.cat.now setting.statements.now c.args.caches.now last statement c.index-caches-last.result c.requires.cached (omega (arith, c.requires.some))))

pub returns-in_err-push_own-clause-same : goal.returns-in_err-push_own-clause-same
returns-in_err-push_own-clause-same c =
    let view = c.programme.view_is in
    on-err _ c.from_residual-in_err-push_own.result
    (same_programme _ c.args.programme.now (ap (λ (p : Programme). p.sizes) view) (ap (λ (p : Programme). p.upkeep) view) (ap (λ (p : Programme). p.kept) view)
    (c.in_err-push_own.ensures.same ∙ ap (λ (p : Programme). p.parts) view))

pub put_renewed-requires : goal.put_renewed-requires
put_renewed-requires c =
    let s : TheSetting = the_setting c.args.setting.now in
    let old = c.args.programme.now in
    let n : ℕ = length old.sizes in
    let known : c.len-known.result ≡ n = c.len-known.ensures ∙ ap (λ (p : Programme). length p.sizes) c.programme.view_is in
    let fresh = take_rest s.shapes c.len-known.result ∙ ap (λ (k : ℕ). drop k s.shapes) known in
    let anew = subst (λ (shapes : List IndexShape). IsRenewedBy s shapes (length s.statements - 1) c.in_ok-renewed.renewed.items) fresh c.in_ok-renewed.ensures in
    let few = few-renewed s n c.in_ok-renewed.renewed.items old.parts (parts-before (all_but_last s n) old c.requires.before) anew in
    let pushed : c.push_own.new.parts.items ≡ old.parts ++ option_to_list c.in_ok-own.own =
    c.in_ok-push_own.ensures.pushed ∙ ap (λ (p : Programme). p.parts ++ option_to_list c.in_ok-own.own) c.programme.view_is in
    omega (arith, few, ap length pushed, length-append old.parts (option_to_list c.in_ok-own.own))

pub invariant_of-programme-inside-2 : goal.invariant_of-programme-inside-2
invariant_of-programme-inside-2 c =
    let s : TheSetting = the_setting c.args.setting.now in
    let k : ℕ = length s.statements - 1 in
    let last : Statement = get_or s.statements k c.index-setting-last.result in
    let found : slice_get s.statements k ≡ Some last = slice_get-get_or s.statements k c.index-setting-last.result (omega (arith, c.requires.some)) in
    let view = c.programme.view_is in
    let figures = c.in_ok-figures.figures in
    let own = c.in_ok-own.own in
    let renewed = c.in_ok-renewed.renewed.items in
    let cost = c.kept_upkeep.result in
    let anew = subst (λ (shapes : List IndexShape). IsRenewedBy s shapes k renewed) (take_rest s.shapes c.len-known.result) c.in_ok-renewed.ensures in
    record {
      limits = widened-limits s _ _ _ _ c.args.setting.now.limits
          (widened s c.args.programme.now c.len-known.result figures last _ _ cost _ renewed own _ c.requires.some c.requires.before
          (c.len-known.ensures ∙ ap (λ (p : Programme). length p.sizes) view) c.in_ok-figures.ensures found
          (c.in_ok-sizes.ensures ∙ ap (λ (p : Programme). p.sizes ++ figures.sizes) view) c.in_ok-costs.ensures c.kept_upkeep.ensures.exact
          (ap (λ (p : Programme). p.kept + last.weight * cost) view) anew c.in_ok-own.ensures
          (c.put_renewed.ensures ∙ ap (put_over renewed) (c.in_ok-push_own.ensures.pushed ∙ ap (λ (p : Programme). p.parts ++ option_to_list own) view)));
    }

pub returns-clause-after : goal.returns-clause-after
returns-clause-after c =
    let s : TheSetting = the_setting c.args.setting.now in
    let k : ℕ = length s.statements - 1 in
    let last : Statement = get_or s.statements k c.index-setting-last.result in
    let found : slice_get s.statements k ≡ Some last = slice_get-get_or s.statements k c.index-setting-last.result (omega (arith, c.requires.some)) in
    let view = c.programme.view_is in
    let figures = c.in_ok-figures.figures in
    let own = c.in_ok-own.own in
    let renewed = c.in_ok-renewed.renewed.items in
    let cost = c.kept_upkeep.result in
    let anew = subst (λ (shapes : List IndexShape). IsRenewedBy s shapes k renewed) (take_rest s.shapes c.len-known.result) c.in_ok-renewed.ensures in
    widened-is s _
    (widened s c.args.programme.now c.len-known.result figures last _ _ cost _ renewed own _ c.requires.some c.requires.before
    (c.len-known.ensures ∙ ap (λ (p : Programme). length p.sizes) view) c.in_ok-figures.ensures found
    (c.in_ok-sizes.ensures ∙ ap (λ (p : Programme). p.sizes ++ figures.sizes) view) c.in_ok-costs.ensures c.kept_upkeep.ensures.exact
    (ap (λ (p : Programme). p.kept + last.weight * cost) view) anew c.in_ok-own.ensures
    (c.put_renewed.ensures ∙ ap (put_over renewed) (c.in_ok-push_own.ensures.pushed ∙ ap (λ (p : Programme). p.parts ++ option_to_list own) view)))
