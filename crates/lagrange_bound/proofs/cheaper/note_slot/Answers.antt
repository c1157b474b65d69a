use Rattle.std.proofs.Common.{◌∙◌, ℕ, List, subst}
use Rattle.std.specs.Prelude.{Option}
use Rattle.lagrange_bound.specs.inner.Marks.{IsNoted}
use Rattle.lagrange_bound.proofs.MarkedCosts.{grant-kept, noted-more, noted-all}
use Rattle.lagrange_bound.proofs.cheaper.note_slot.Goals as goal

pub loop-k-preserved : goal.loop-k-preserved
loop-k-preserved c =
    record {
      long = c.note_grant.ensures.long ∙ c.loop-k.invariant.long;
      keeps = λ k on. c.note_grant.ensures.keeps k (c.loop-k.invariant.keeps k on);
      noted =
          noted-more (IsNoted c.loop-k.flags c.args.place c.args.slot.now.base) (IsNoted c.note_grant.new.flags c.args.place c.args.slot.now.base) c.args.slot.now.grants c.as_slice-grants.result.now c.loop-k.k
          c.index-grants-k.result c.as_slice-grants.ensures c.loop-k-test.true c.index-grants-k.is (grant-kept c.loop-k.flags c.note_grant.new.flags c.args.place c.args.slot.now.base c.note_grant.ensures.keeps)
          c.loop-k.invariant.noted
          (subst (λ (base : List (Option ℕ)). IsNoted c.note_grant.new.flags c.args.place base c.index-grants-k.result) c.as_slice-base.ensures c.note_grant.ensures.noted);
    }

pub returns-clause-noted : goal.returns-clause-noted
returns-clause-noted c =
    noted-all (IsNoted c.loop-k.flags c.args.place c.args.slot.now.base) c.args.slot.now.grants c.as_slice-grants.result.now c.loop-k.k c.as_slice-grants.ensures c.loop-k-test.false c.loop-k.invariant.noted
