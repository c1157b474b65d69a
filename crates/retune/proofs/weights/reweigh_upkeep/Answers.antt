use Rattle.std.proofs.Common.{◌≡◌, ◌∙◌, ℕ, suc, ◌+◌, ◌-◌, ◌*◌, ◌≤◌, List, length, set, get_or, map, All, sym, ap, subst, arith}
use Rattle.std.proofs.lemmas.List.{length-map}
use Rattle.std.proofs.lemmas.List.Elements.{All-map}
use Rattle.adv_base.specs.declared.catalogue.index.IndexShape.{IndexShape}
use Rattle.adv_base.specs.declared.limits.TheConstants.{MOST_STATEMENTS, MOST_UPKEEP, MOST_WEIGHT}
use Rattle.adv_base.specs.Settings.{the_setting}
use Rattle.adv_base.specs.Upkeep.{upkeep, weighted_upkeep}
use Rattle.adv_base.proofs.UpkeepBounds.{upkeep-most}
use Rattle.retune.specs.inner.Weights.{with_statements}
use Rattle.retune.proofs.UpkeepWeights.{moved, has-share, sum-most, moved-most, moved-is, partly, partly-more, partly-at, partly-length, partly-whole, map-each}
use Rattle.retune.proofs.weights.reweigh_upkeep.Goals as goal

pub index-requires : goal.index-requires
index-requires c =
    let setting = c.args.setting.now in
    let xs = setting.statements.now in
    let shapes = setting.shapes.now in
    let d = c.index-setting-at.result in
    let f : IndexShape → ℕ = weighted_upkeep (the_setting setting) in
    let g : IndexShape → ℕ = λ s. moved (λ work. upkeep setting.cat.now work s) xs (get_or xs c.args.at d) c.args.weight in
    let long : length c.loop-a.costs-inside.items.items ≡ length shapes = ap length c.loop-a.invariant ∙ partly-length f g c.loop-a.a shapes in
    omega (arith, long, c.loop-a-test.true, c.loop-a.costs-inside.items.ok.0)

pub index_mut-requires : goal.index_mut-requires
index_mut-requires c =
    let setting = c.args.setting.now in
    let xs = setting.statements.now in
    let shapes = setting.shapes.now in
    let d = c.index-setting-at.result in
    let f : IndexShape → ℕ = weighted_upkeep (the_setting setting) in
    let g : IndexShape → ℕ = λ s. moved (λ work. upkeep setting.cat.now work s) xs (get_or xs c.args.at d) c.args.weight in
    let long : length c.loop-a.costs-inside.items.items ≡ length shapes = ap length c.loop-a.invariant ∙ partly-length f g c.loop-a.a shapes in
    omega (arith, long, c.loop-a-test.true, c.loop-a.costs-inside.items.ok.0)

pub with_weight-requires-clause-has : goal.with_weight-requires-clause-has
with_weight-requires-clause-has c =
    let setting = c.args.setting.now in
    let xs = setting.statements.now in
    let shapes = setting.shapes.now in
    let d = c.index-setting-at.result in
    let f : IndexShape → ℕ = weighted_upkeep (the_setting setting) in
    let g : IndexShape → ℕ = λ s. moved (λ work. upkeep setting.cat.now work s) xs (get_or xs c.args.at d) c.args.weight in
    let shape = get_or shapes c.loop-a.a c.index-setting-a.result in
    let read : c.index.result.now ≡ f shape = partly-at f g c.loop-a.a shapes c.loop-a.costs-inside.items.items c.index-setting-a.result c.index.result.now c.loop-a.invariant c.loop-a-test.true c.index.ensures in
    let old = get_or xs c.args.at d in
    let share = has-share (λ work. upkeep setting.cat.now work shape) xs c.args.at d c.requires.within in
    let same : old.weight * c.upkeep-each.result ≡ old.weight * upkeep setting.cat.now old.work shape = ap (λ (n : ℕ). old.weight * n) c.upkeep-each.ensures.exact in
    omega (arith, share, same, read)

pub with_weight-requires-clause-sum_most : goal.with_weight-requires-clause-sum_most
with_weight-requires-clause-sum_most c =
    let setting = c.args.setting.now in
    let xs = setting.statements.now in
    let shapes = setting.shapes.now in
    let d = c.index-setting-at.result in
    let f : IndexShape → ℕ = weighted_upkeep (the_setting setting) in
    let g : IndexShape → ℕ = λ s. moved (λ work. upkeep setting.cat.now work s) xs (get_or xs c.args.at d) c.args.weight in
    let shape = get_or shapes c.loop-a.a c.index-setting-a.result in
    let read : c.index.result.now ≡ f shape = partly-at f g c.loop-a.a shapes c.loop-a.costs-inside.items.items c.index-setting-a.result c.index.result.now c.loop-a.invariant c.loop-a-test.true c.index.ensures in
    let most = sum-most (λ work. upkeep setting.cat.now work shape) MOST_UPKEEP xs (λ s. upkeep-most setting.cat.now s.weight s.work shape s.limits) setting.limits.statements_most in
    omega (arith, read, most)

pub loop-a-preserved : goal.loop-a-preserved
loop-a-preserved c =
    let setting = c.args.setting.now in
    let xs = setting.statements.now in
    let shapes = setting.shapes.now in
    let d = c.index-setting-at.result in
    let f : IndexShape → ℕ = weighted_upkeep (the_setting setting) in
    let g : IndexShape → ℕ = λ s. moved (λ work. upkeep setting.cat.now work s) xs (get_or xs c.args.at d) c.args.weight in
    let shape = get_or shapes c.loop-a.a c.index-setting-a.result in
    let read : c.index.result.now ≡ f shape = partly-at f g c.loop-a.a shapes c.loop-a.costs-inside.items.items c.index-setting-a.result c.index.result.now c.loop-a.invariant c.loop-a-test.true c.index.ensures in
    let old = get_or xs c.args.at d in
    let a = c.loop-a.a in
    let value : c.with_weight.result ≡ g shape =
    c.with_weight.ensures ∙ ap (λ (n : ℕ). n - old.weight * c.upkeep-each.result + c.args.weight * c.upkeep-each.result) read
    ∙ ap (λ (n : ℕ). f shape - old.weight * n + c.args.weight * n) c.upkeep-each.ensures.exact in
    let next : suc a ≡ a + 1 = omega arith in
    ap (λ (n : ℕ). set c.loop-a.costs-inside.items.items a n) value ∙ ap (λ (costs : List ℕ). set costs a (g shape)) c.loop-a.invariant
    ∙ partly-more f g a shapes c.index-setting-a.result c.loop-a-test.true ∙ ap (λ (k : ℕ). partly f g k shapes) next

pub returns-clause-after : goal.returns-clause-after
returns-clause-after c = λ after h.
    let setting = c.args.setting.now in
    let xs = setting.statements.now in
    let shapes = setting.shapes.now in
    let d = c.index-setting-at.result in
    let f : IndexShape → ℕ = weighted_upkeep (the_setting setting) in
    let g : IndexShape → ℕ = λ s. moved (λ work. upkeep setting.cat.now work s) xs (get_or xs c.args.at d) c.args.weight in
    let end : c.loop-a.a ≡ length shapes = omega arith in
    c.loop-a.invariant ∙ ap (λ (k : ℕ). partly f g k shapes) end ∙ partly-whole f g shapes
    ∙ map-each g (weighted_upkeep (with_statements (the_setting setting) after)) (λ s. moved-is (λ work. upkeep setting.cat.now work s) xs after c.args.at c.args.weight d h) shapes

pub returns-clause-most : goal.returns-clause-most
returns-clause-most c =
    let setting = c.args.setting.now in
    let xs = setting.statements.now in
    let shapes = setting.shapes.now in
    let d = c.index-setting-at.result in
    let f : IndexShape → ℕ = weighted_upkeep (the_setting setting) in
    let g : IndexShape → ℕ = λ s. moved (λ work. upkeep setting.cat.now work s) xs (get_or xs c.args.at d) c.args.weight in
    let end : c.loop-a.a ≡ length shapes = omega arith in
    let all : All (λ (cost : ℕ). cost ≤ MOST_STATEMENTS * (MOST_WEIGHT * MOST_UPKEEP)) (map g shapes) =
    All-map (λ (cost : ℕ). cost ≤ MOST_STATEMENTS * (MOST_WEIGHT * MOST_UPKEEP)) g shapes
    (λ k e inside.
    let shape = get_or shapes k e in
    moved-most (λ work. upkeep setting.cat.now work shape) MOST_UPKEEP xs c.args.at c.args.weight d (λ s. upkeep-most setting.cat.now s.weight s.work shape s.limits) c.requires.within setting.limits.statements_most c.requires.weight_most) in
    subst (λ (costs : List ℕ). All (λ (cost : ℕ). cost ≤ MOST_STATEMENTS * (MOST_WEIGHT * MOST_UPKEEP)) costs)
    (sym (c.loop-a.invariant ∙ ap (λ (k : ℕ). partly f g k shapes) end ∙ partly-whole f g shapes)) all

pub returns-clause-count : goal.returns-clause-count
returns-clause-count c =
    let setting = c.args.setting.now in
    let xs = setting.statements.now in
    let shapes = setting.shapes.now in
    let d = c.index-setting-at.result in
    let f : IndexShape → ℕ = weighted_upkeep (the_setting setting) in
    let g : IndexShape → ℕ = λ s. moved (λ work. upkeep setting.cat.now work s) xs (get_or xs c.args.at d) c.args.weight in
    ap length c.loop-a.invariant ∙ partly-length f g c.loop-a.a shapes ∙ sym (length-map shapes f) ∙ ap length (sym c.requires.before)
