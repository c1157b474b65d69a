use Rattle.std.proofs.Common.{None, slice_index_or}
use Rattle.plan_model.specs.declared.edge.TaskEdge.{TaskEdge}
use Rattle.planner.specs.Fronts.{listed}
use Rattle.planner.proofs.Growing.{links_more, needed_more, edge_found, slots_few}
use Rattle.planner.proofs.needs.add_link.Goals as goal

pub set_of-requires : goal.set_of-requires
set_of-requires c =
    (slots_few c.args.task.now c.as_slice.result.now c.args.k (record { left = 0; left_column = 0; left_need = None; right = 0; right_column = 0; right_need = None }) c.as_slice.ensures c.requires.number).0

pub set_of-requires-2 : goal.set_of-requires-2
set_of-requires-2 c =
    (slots_few c.args.task.now c.as_slice.result.now c.args.k (record { left = 0; left_column = 0; left_need = None; right = 0; right_column = 0; right_need = None }) c.as_slice.ensures c.requires.number).1

pub returns-clause-links : goal.returns-clause-links
returns-clause-links c =
    let none : TaskEdge = record { left = 0; left_column = 0; left_need = None; right = 0; right_column = 0; right_need = None } in
    let edge : TaskEdge = slice_index_or c.as_slice.result.now c.args.k none in
    let found = edge_found c.as_slice.result.now c.args.task.now.edges c.args.k none c.as_slice.ensures c.requires.number in
    links_more (listed c.args.task.now) c.args.fronts.now.items c.add_front.new.fronts.items c.add_front-2.new.fronts.items c.args.task.now.edges c.args.links.now.items c.keep_link.new.links.items c.args.k edge c.set_of.result c.set_of-2.result c.in_ok-left_front.left_front c.in_ok-right_front.right_front found c.set_of.ensures c.set_of-2.ensures c.in_ok-left_front.ensures.growing c.in_ok-right_front.ensures.growing c.in_ok-left_front.ensures.within c.in_ok-left_front.ensures.found c.in_ok-right_front.ensures.within c.in_ok-right_front.ensures.found c.in_ok-keep_link.ensures c.requires.links

pub returns-clause-needed : goal.returns-clause-needed
returns-clause-needed c =
    let none : TaskEdge = record { left = 0; left_column = 0; left_need = None; right = 0; right_column = 0; right_need = None } in
    let edge : TaskEdge = slice_index_or c.as_slice.result.now c.args.k none in
    let found = edge_found c.as_slice.result.now c.args.task.now.edges c.args.k none c.as_slice.ensures c.requires.number in
    needed_more c.args.task.now.edges c.args.fronts.now.items c.add_front.new.fronts.items c.add_front-2.new.fronts.items c.args.k edge found c.in_ok-left_front.ensures.growing c.in_ok-right_front.ensures.growing c.in_ok-left_front.ensures.added c.in_ok-right_front.ensures.added c.requires.needed
