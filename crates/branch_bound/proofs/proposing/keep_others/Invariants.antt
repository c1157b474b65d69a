use Rattle.std.proofs.Common.{◌≤◌}
use Rattle.std.specs.Prelude.{All}
use Rattle.std.specs.Vec.{vec_capacity}
use Rattle.adv_base.specs.declared.limits.TheConstants.{MOST_SETS}
use Rattle.bip_model.specs.Views.{AreMultipliers}
use Rattle.branch_bound.specs.inner.Proposals as proposals
use Rattle.branch_bound.proofs.proposing.keep_others.Given as goal

abbrev pub invariant-loop-number : goal.invariant-loop-number
invariant-loop-number l =
    record {
      others : All (AreMultipliers l.task.programme.now) l.others.items;
      sets : proposals.AreRaised l.task.programme.now l.task.budget l.task.root.now l.task.most l.sets.items;
      room : MOST_SETS ≤ vec_capacity l.sets;
    }
