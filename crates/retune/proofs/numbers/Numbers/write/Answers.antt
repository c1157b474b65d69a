use Rattle.std.proofs.Common.{◌≡◌, ◌∙◌, ℕ, ◌+◌, ◌<◌, List, length, get_or, set, sym, ap, arith}
use Rattle.std.specs.Prelude.{slice_index_or}
use Rattle.std.proofs.lemmas.List.{get_or_default}
use Rattle.adv_base.specs.declared.catalogue.index.IndexShape.{IndexShape}
use Rattle.retune.proofs.Numbering.{other-renumbering, others-more, renumbered, written-more}
use Rattle.retune.proofs.numbers.Numbers.write.Goals as goal

pub returns-then-at-new-clause-others : goal.returns-then-at-new-clause-others
returns-then-at-new-clause-others c = λ t other is.
    other-renumbering (λ (n : ℕ). slice_index_or c.args.self.now.of n 0) (λ (n : ℕ). slice_index_or c.loop-from.self.of n 0) c.args.old.now c.args.new.now c.args.table t other
    c.loop-from.invariant.others is

pub loop-from-preserved : goal.loop-from-preserved
loop-from-preserved c =
    let old = c.args.old.now in
    let new = c.args.new.now in
    let of : List ℕ = c.loop-from.self.of in
    let from = c.loop-from.from in
    let at = c.loop-from.at in
    let d : IndexShape = c.index-old-from.result in
    let there : at < length new = c.if-at-new.false in
    let same : get_or old from d ≡ get_or new at d =
    sym c.index-old-from.is ∙ c.is_same_shape.ensures.same c.if-not-is_same_shape.false ∙ c.index-new-at.is ∙ get_or_default new at c.index-new-at.result d there in
    let own : (e : IndexShape) → (get_or old from e).table ≡ c.args.table = c.loop-from.invariant.on c.loop-from-test.true in
    let more = written-more of old new c.args.table from at d c.loop-from-test.true there (omega arith) same (own d) c.loop-from.invariant.written in
    record {
      changed = c.loop-from.invariant.changed;
      within = c.next_on-from-in-loop-from.ensures.most;
      at_within = c.next_on-at-in-loop-from.ensures.most;
      on = c.next_on-from-in-loop-from.ensures.on;
      at_on = c.next_on-at-in-loop-from.ensures.on;
      written =
          ap (renumbered (λ n. get_or (set of (from + 1) (at + 1)) n 0)) c.next_on-from-in-loop-from.ensures.none_between ∙ more ∙ sym c.next_on-at-in-loop-from.ensures.none_between;
      others = λ k e inside other. others-more of old c.args.table from (at + 1) k e (own e) other ∙ c.loop-from.invariant.others k e inside other;
    }

pub returns-clause-others : goal.returns-clause-others
returns-clause-others c = λ t other is.
    other-renumbering (λ (n : ℕ). slice_index_or c.args.self.now.of n 0) (λ (n : ℕ). slice_index_or c.loop-from.self.of n 0) c.args.old.now c.args.new.now c.args.table t other
    c.loop-from.invariant.others is
