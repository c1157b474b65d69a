use Rattle.std.proofs.Common.{◌∙◌}
use Rattle.lagrange_bound.specs.inner.Marks.{AreNoted}
use Rattle.lagrange_bound.proofs.MarkedCosts.{slot-kept, noted-more, noted-all}
use Rattle.lagrange_bound.proofs.cheaper.note_part.Goals as goal

pub loop-s-preserved : goal.loop-s-preserved
loop-s-preserved c =
    record {
      long = c.note_slot.ensures.long ∙ c.loop-s.invariant.long;
      keeps = λ k on. c.note_slot.ensures.keeps k (c.loop-s.invariant.keeps k on);
      noted =
          noted-more (AreNoted c.loop-s.flags c.args.place) (AreNoted c.note_slot.new.flags c.args.place) c.args.part.now.slots c.as_slice-slots.result.now c.loop-s.s c.index-slots-s.result
          c.as_slice-slots.ensures c.loop-s-test.true c.index-slots-s.is (slot-kept c.loop-s.flags c.note_slot.new.flags c.args.place c.note_slot.ensures.keeps) c.loop-s.invariant.noted c.note_slot.ensures.noted;
    }

pub returns-clause-noted : goal.returns-clause-noted
returns-clause-noted c = noted-all (AreNoted c.loop-s.flags c.args.place) c.args.part.now.slots c.as_slice-slots.result.now c.loop-s.s c.as_slice-slots.ensures c.loop-s-test.false c.loop-s.invariant.noted
