use Rattle.std.proofs.Common.{ℕ, arith}
use Rattle.std.specs.Prelude.{slice_index_or}
use Rattle.retune.proofs.Behind.{part-limits}
use Rattle.retune.proofs.narrowing.renumber.Goals as goal

pub invariant_of-part : goal.invariant_of-part
invariant_of-part c =
    let part = c.args.part.now in
    record {
      limits =
          part-limits (λ (n : ℕ). slice_index_or c.args.numbers.now.of n 0) part.statement c.number_behind-part.result part.weight part.templates part.slots c.renumber_slots.new.slots part.limits
          (c.number_behind-part.ensures.least part.limits.statement_least) (omega (arith, c.number_behind-part.ensures.most, part.limits.statement_most)) c.renumber_slots.ensures;
    }
