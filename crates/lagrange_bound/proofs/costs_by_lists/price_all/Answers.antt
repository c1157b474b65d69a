use Rattle.std.proofs.Common.{◌∙◌, ℕ, List, length, sym, ap, subst, arith}
use Rattle.lagrange_bound.specs.ListedPrices.{slots_of}
use Rattle.lagrange_bound.specs.inner.CostsByLists.{HavePlaces, listed_costs}
use Rattle.lagrange_bound.proofs.ListedCosts.{are-least, have-places, listed_costs-are, owners-count, starts-count}
use Rattle.lagrange_bound.proofs.costs_by_lists.price_all.Goals as goal

pub write_least-requires-clause-rent_each : goal.write_least-requires-clause-rent_each
write_least-requires-clause-rent_each c = c.requires.rent_each ∙ sym (owners-count c.args.parts.now c.args.prices.now c.requires.prices)

pub write_listed_costs-requires-clause-start_each : goal.write_listed_costs-requires-clause-start_each
write_listed_costs-requires-clause-start_each c = ap length c.as_slice.ensures.value ∙ starts-count c.args.parts.now c.args.prices.now c.requires.prices

pub write_listed_costs-requires-clause-places : goal.write_listed_costs-requires-clause-places
write_listed_costs-requires-clause-places c =
    subst (λ (starts : List ℕ). HavePlaces (slots_of c.args.parts.now) starts c.write_least.new.least) (sym c.as_slice.ensures.value)
    (have-places (slots_of c.args.parts.now) c.args.prices.now c.write_least.new.least (c.write_least.ensures.long ∙ c.requires.place_each) c.requires.prices)

pub returns-clause-costs : goal.returns-clause-costs
returns-clause-costs c =
    let starts : List ℕ = c.args.prices.now.starts.items in
    let each = c.requires.rent_each ∙ sym (owners-count c.args.parts.now c.args.prices.now c.requires.prices) in
    let enough = starts-count c.args.parts.now c.args.prices.now c.requires.prices in
    let is = are-least c.args.config.now (slots_of c.args.parts.now) c.args.prices.now c.args.rents.now c.write_least.new.least c.requires.prices each c.requires.most c.write_least.ensures.exact in
    c.write_listed_costs.ensures ∙ ap (λ (starts : List ℕ). listed_costs c.args.parts.now starts c.write_least.new.least) c.as_slice.ensures.value
    ∙ listed_costs-are c.args.config.now c.args.parts.now c.args.rents.now starts c.write_least.new.least c.requires.most (omega (arith, enough)) is
