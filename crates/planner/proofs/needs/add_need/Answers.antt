use Rattle.std.proofs.Common.{◌≡◌, ℕ, ◌<◌, List, length, slice_index_or, sym, subst}
use Rattle.planner.specs.declared.front.Front.{Front}
use Rattle.planner.specs.declared.front.Front.TheVariants.{Any, Need}
use Rattle.planner.specs.inner.Growing.{AreFronts, IsAdded}
use Rattle.planner.proofs.Growing.{fronts_push, added_push}
use Rattle.planner.proofs.needs.add_need.Goals as goal

pub returns-clause-fronts : goal.returns-clause-fronts
returns-clause-fronts c =
    let Missing : List Front → Type 0 = λ fs. (i : ℕ) → i < length fs → ¬ (slice_index_or fs i Any ≡ Need c.args.item) in
    let missing = subst Missing c.as_slice.ensures.value (c.find_need.ensures.missing c.in_default.is) in
    subst AreFronts (sym c.in_ok-push.ensures.items) (fronts_push c.args.fronts.now.items c.args.item c.requires missing)

pub returns-clause-added : goal.returns-clause-added
returns-clause-added c =
    subst (λ (fs : List Front). IsAdded c.args.fronts.now.items fs (Need c.args.item)) (sym c.in_ok-push.ensures.items) (added_push c.args.fronts.now.items (Need c.args.item))
