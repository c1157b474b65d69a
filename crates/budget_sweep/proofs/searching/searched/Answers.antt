use Rattle.std.proofs.Common.{subst}
use Rattle.adv_base.specs.Nodes as nodes
use Rattle.bip_model.specs.Best.{IsBest}
use Rattle.branch_bound.proofs.Roots.{root-starts}
use Rattle.budget_sweep.proofs.searching.searched.Goals as goal

pub search-requires-clause-root : goal.search-requires-clause-root
search-requires-clause-root c = root-starts c.args.programme.now c.args.shapes.now c.args.budget c.free-root.result c.free-root.ensures.states

pub returns : goal.returns
returns c = λ setting limits stands shapes_are.
    subst (λ (node : nodes.Node). IsBest setting c.args.budget c.args.nodes node c.search.result) c.free-root.ensures.node
    (c.search.ensures setting limits stands shapes_are)
