use Rattle.std.proofs.Common.{take}
use Rattle.gap_checker.specs.inner.Judges as judges
use Rattle.gap_checker.specs.inner.Memos.{IsMemo}
use Rattle.gap_checker.specs.inner.Nodes as kept
use Rattle.gap_checker.proofs.judge.Judge.judge_tree.Given as goal

abbrev pub invariant-loop-i : goal.invariant-loop-i
invariant-loop-i l =
    record {
      walk : judges.IsWalk l.self (take l.i l.tree) (kept.starts_of l.starts.items);
      memo_is : IsMemo (judges.setting_of l.self) l.self.claims.sets.now l.memo;
    }
