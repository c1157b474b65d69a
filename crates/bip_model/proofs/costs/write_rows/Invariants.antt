use Rattle.std.proofs.Common.{◌≡◌, length}
use Rattle.bip_model.specs.Words as words
use Rattle.bip_model.proofs.costs.write_rows.Given as goal

abbrev pub invariant-loop-s : goal.invariant-loop-s
invariant-loop-s l =
    record {
      are : words.AreRows l.config l.slots l.s l.rows;
      count : length l.rows ≡ 8;
    }
