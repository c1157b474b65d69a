use Rattle.branch_bound.proofs.KeptSets.{raised-kept}
use Rattle.branch_bound.proofs.proposing.keep_other.Goals as goal

pub returns-clause-sets : goal.returns-clause-sets
returns-clause-sets c =
    raised-kept c.args.task.now.programme.now c.args.task.now.budget c.args.task.now.root.now c.args.task.now.most c.args.sets.now.items c.keep.new.sets.items _ c.requires.sets c.requires.few c.write_set.ensures
    c.keep.ensures.items
