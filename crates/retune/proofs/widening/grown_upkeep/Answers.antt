use Rattle.std.proofs.Common.{◌≡◌, ◌∙◌, ℕ, ◌+◌, ◌-◌, ◌*◌, ◌<◌, ◌≤◌, List, [], ◌∷◌, ◌++◌, length, map, take, drop, get_or, sym, ap, arith}
use Rattle.std.proofs.lemmas.List.{map_more}
use Rattle.adv_base.specs.declared.catalogue.index.IndexShape.{IndexShape}
use Rattle.adv_base.specs.declared.limits.TheConstants.{MOST_STATEMENTS, MOST_UPKEEP, MOST_WEIGHT}
use Rattle.adv_base.specs.Settings.{TheSetting, the_setting}
use Rattle.adv_base.specs.Upkeep.{upkeep, weighted_upkeep}
use Rattle.adv_base.proofs.UpkeepBounds.{upkeep-most}
use Rattle.retune.specs.inner.Renewing.{all_but_last}
use Rattle.retune.proofs.Grown.{known-few, mapped-parts}
use Rattle.retune.proofs.UpkeepWeights.{sum-most}
use Rattle.retune.proofs.Widened.{upkeep-grown}
use Rattle.retune.proofs.widening.grown_upkeep.Goals as goal

pub overflow_add-as_slice : goal.overflow_add-as_slice
overflow_add-as_slice c =
    let setting = c.args.setting.now in
    let s : TheSetting = the_setting setting in
    let item = get_or setting.shapes.now c.loop-at.at c.index-setting-at.result in
    let read : get_or c.as_slice.result.now c.loop-at.at 0 ≡ get_or c.args.known.now c.loop-at.at 0 = ap (λ (ks : List ℕ). get_or ks c.loop-at.at 0) c.as_slice.ensures in
    let within : c.loop-at.at < length c.args.known.now = omega (arith, c.loop-at-test.true, c.len-at-end.ensures) in
    let sum = upkeep-grown s c.args.last.now c.args.known.now c.loop-at.at c.index-setting-at.result c.upkeep.result c.requires.some c.requires.last c.requires.known within c.upkeep.ensures.exact in
    let most : weighted_upkeep s item ≤ MOST_STATEMENTS * (MOST_WEIGHT * MOST_UPKEEP) =
    sum-most (λ work. upkeep s.cat work item) MOST_UPKEEP s.statements (λ t. upkeep-most s.cat t.weight t.work item t.limits) setting.limits.statements_most in
    omega (arith, read, sum, most)

pub loop-at-preserved : goal.loop-at-preserved
loop-at-preserved c =
    let setting = c.args.setting.now in
    let s : TheSetting = the_setting setting in
    let at = c.loop-at.at in
    let f : IndexShape → ℕ = weighted_upkeep s in
    let item = get_or setting.shapes.now at c.index-setting-at.result in
    let read : get_or c.as_slice.result.now at 0 ≡ get_or c.args.known.now at 0 = ap (λ (ks : List ℕ). get_or ks at 0) c.as_slice.ensures in
    let within : at < length c.args.known.now = omega (arith, c.loop-at-test.true, c.len-at-end.ensures) in
    let few = known-few (weighted_upkeep (all_but_last s (length c.args.known.now))) c.args.known.now setting.shapes.now c.requires.known in
    let sum = upkeep-grown s c.args.last.now c.args.known.now at c.index-setting-at.result c.upkeep.result c.requires.some c.requires.last c.requires.known within c.upkeep.ensures.exact in
    let cost : get_or c.as_slice.result.now at 0 + c.args.last.now.weight * c.upkeep.result ≡ f item = ap (λ (n : ℕ). n + c.args.last.now.weight * c.upkeep.result) read ∙ sum in
    c.in_ok-push.ensures.items ∙ ap (λ (n : ℕ). c.loop-at.costs.items ++ n ∷ []) cost ∙ ap (λ (ns : List ℕ). ns ++ f item ∷ []) c.loop-at.invariant
    ∙ sym (map_more f setting.shapes.now at c.index-setting-at.result (omega (arith, within, few)))

pub returns : goal.returns
returns c =
    let setting = c.args.setting.now in
    let s : TheSetting = the_setting setting in
    let n : ℕ = length c.args.known.now in
    let f : IndexShape → ℕ = weighted_upkeep s in
    let end : c.loop-at.at ≡ n = omega (arith, c.loop-at-test.false, c.len-at-end.ensures, c.loop-at.auto.at-end) in
    let front : c.loop-at.costs.items ≡ map f (take n setting.shapes.now) = c.loop-at.invariant ∙ ap (λ (k : ℕ). map f (take k setting.shapes.now)) end in
    let back : c.as_slice-2.result.now ≡ map f (drop n setting.shapes.now) = c.as_slice-2.ensures ∙ c.requires.fresh in
    c.in_ok-extend_from_slice.ensures.items ∙ ap (λ (ns : List ℕ). ns ++ c.as_slice-2.result.now) front ∙ ap (λ (ns : List ℕ). map f (take n setting.shapes.now) ++ ns) back
    ∙ mapped-parts f n setting.shapes.now
