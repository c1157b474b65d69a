use Rattle.std.proofs.Common.{sym, rules}
use Rattle.std.proofs.lemmas.Slice.Eq.{slice_eq-Decides}
use Rattle.planner.proofs.Reading.{test_is}
use Rattle.planner.proofs.front.has_front.Goals as goal

pub returns : goal.returns
returns c =
    let same = slice_eq-Decides (λ a b. search rules) _ _ c.starts_with.result c.starts_with.ensures.value in
    test_is c.args.order.now c.args.list.now c.starts_with.result (λ yes. sym (same.0 yes), λ begins. same.1 (sym begins))
