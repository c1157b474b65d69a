-- What the first two fronts ask for.
use Rattle.std.proofs.Common.{◌≡◌, [], slice_index_or, ap, ◌∙◌, arith}
use Rattle.std.proofs.lemmas.List.{get_or_default}
use Rattle.planner.specs.declared.front.Front.TheVariants.{Any, Listed}
use Rattle.planner.specs.declared.ways.Ways.{Ways}
use Rattle.planner.specs.Fronts.{asked, front_order, listed}

pub nothing_asked : (ways : Ways) → asked (listed ways.task.now) ways.fronts.items 0 ≡ []
nothing_asked ways =
    let same : slice_index_or ways.fronts.items 0 Any ≡ Any = get_or_default ways.fronts.items 0 Any Listed (omega (arith, ways.known.needs.some)) ∙ ways.known.needs.nothing in
    ap (front_order (listed ways.task.now)) same

pub all_asked : (ways : Ways) → asked (listed ways.task.now) ways.fronts.items 1 ≡ listed ways.task.now
all_asked ways = ap (front_order (listed ways.task.now)) ways.known.needs.all
