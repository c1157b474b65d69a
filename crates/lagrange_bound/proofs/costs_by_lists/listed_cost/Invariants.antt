use Rattle.std.proofs.Common.{◌≡◌, ◌≤◌, fold, length, take}
use Rattle.std.specs.Prelude.{None}
use Rattle.std.specs.Option.{ForSome}
use Rattle.bip_model.specs.Values as values
use Rattle.bip_model.specs.Words as words
use Rattle.lagrange_bound.specs.inner.CostsByLists as listed
use Rattle.lagrange_bound.proofs.costs_by_lists.listed_cost.Given as goal

abbrev pub invariant-loop-template : goal.invariant-loop-template
invariant-loop-template l =
    record {
      least : l.best ≡ fold (λ best template. values.lesser best (words.row_cost (listed.tails l.least l.starts) template (length l.part.slots))) None (take l.template-index l.part.templates);
      most : ForSome l.best (λ cost. cost ≤ values.MOST_PLAN);
    }
