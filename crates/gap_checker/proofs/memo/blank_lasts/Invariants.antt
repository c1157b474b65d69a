use Rattle.std.proofs.Common.{◌≡◌, length}
use Rattle.std.specs.Prelude.{All}
use Rattle.gap_checker.specs.inner.Memos as memos
use Rattle.gap_checker.proofs.memo.blank_lasts.Given as goal

abbrev pub invariant-loop-set : goal.invariant-loop-set
invariant-loop-set l =
    record {
      count : length l.lasts.items ≡ l._set;
      blank : All (memos.IsBlank l.statements) l.lasts.items;
    }
