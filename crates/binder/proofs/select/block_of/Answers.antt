use Rattle.std.proofs.Common.{refl}
use Rattle.binder.specs.Lists.{aggregates}
use Rattle.binder.specs.Blocks.{clause_mentions}
use Rattle.binder.specs.View.{names_of, plain_clauses}
use Rattle.binder.proofs.Limited.{select-limits}
use Rattle.binder.proofs.select.block_of.Goals as goal

pub invariant_of-result : goal.invariant_of-result
invariant_of-result c =
    let names = names_of c.args.scope.now in
    let clauses = plain_clauses c.args.clauses in
    let select = c.args.select.now in
    record {
      limits = rw (c.in_ok-parts.ensures.slots, c.in_ok-parts.ensures.group, c.in_ok-parts.ensures.order)
          (select-limits names select clauses c.args.clauses.tests.preds c.args.clauses.tests.edges (clause_mentions clauses)
          select.distinct (aggregates clauses.items select.order) c.requires.some c.args.scope.now.few c.requires.limits.conditions.most c.requires.bound (record { preds_are = refl; edges_are = refl }) c.requires.joined);
    }
