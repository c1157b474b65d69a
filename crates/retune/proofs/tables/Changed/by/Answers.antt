use Rattle.std.proofs.Common.{◌≡◌, true, take, subst, arith}
use Rattle.std.specs.Prelude.{All}
use Rattle.std.proofs.lemmas.List.{take_all}
use Rattle.std.proofs.lemmas.List.Elements.{All-more, All-weaker}
use Rattle.adv_base.specs.declared.catalogue.index.IndexShape.{IndexShape}
use Rattle.retune.specs.inner.Renewing.{has_changed}
use Rattle.retune.proofs.tables.Changed.by.Goals as goal

pub loop-shape-preserved : goal.loop-shape-preserved
loop-shape-preserved c =
    let shapes = c.args.shapes.now in
    let at = c.loop-shape.shape-index in
    All-more (λ (s : IndexShape). has_changed c.add.new.self s.table ≡ true) shapes at c.shape-item.result (omega arith)
    (All-weaker (λ (s : IndexShape). has_changed c.loop-shape.changed s.table ≡ true) (λ (s : IndexShape). has_changed c.add.new.self s.table ≡ true)
    (λ s before. c.add.ensures.others s.table before) (take at shapes) c.loop-shape.invariant)
    (subst (λ (s : IndexShape). has_changed c.add.new.self s.table ≡ true) c.shape-item.is c.add.ensures.own)

pub returns : goal.returns
returns c =
    subst (All (λ (s : IndexShape). has_changed c.loop-shape.changed s.table ≡ true)) (take_all c.loop-shape.shape-index c.args.shapes.now (omega arith)) c.loop-shape.invariant
