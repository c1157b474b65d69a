use Rattle.inum_cache.proofs.Kept.{are-kept}
use Rattle.inum_cache.proofs.Made.{plain-is-in}
use Rattle.inum_cache.proofs.Thinning.{in-order}
use Rattle.inum_cache.proofs.building.made.Goals as goal

pub invariant_of-result : goal.invariant_of-result
invariant_of-result c = record { fit = c.in_ok-templates.ensures.fit }

pub returns : goal.returns
returns c =
    let task = c.args.task.now in
    let orders = c.in_ok-choices.choices.orders in
    let templates = c.in_ok-templates.templates in
    let are = c.in_ok-choices.ensures in
    let made = c.in_ok-templates.ensures in
    let plain = plain-is-in task templates made.enough in
    record {
      slots = are.count;
      orders = are.each;
      kept = are-kept task orders are templates made.enough made.thin.none;
      in_order = in-order orders templates made.thin;
      internal = plain.0;
      plain = plain.1;
    }
