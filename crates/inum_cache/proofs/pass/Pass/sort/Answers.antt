use Rattle.std.proofs.Common.{◌≡◌, ◌<◌, ◌∙◌, ℕ, sym, ap, subst, arith}
use Rattle.std.proofs.lemmas.Bool.{false≢true}
use Rattle.plan_model.specs.Costs.{rows_in, sort_cost}
use Rattle.inum_cache.specs.inner.Cells.{RaiseGives, Takes}
use Rattle.inum_cache.specs.inner.Passes.{SortGives}
use Rattle.inum_cache.proofs.Taking.{takes-none, takes-same}
use Rattle.inum_cache.proofs.pass.Pass.sort.Goals as goal

pub returns-then-front-eq0 : goal.returns-then-front-eq0
returns-then-front-eq0 c =
    takes-none c.args.self.now.choices.now.orders (SortGives c.args.self.now.ways c.args.set c.args.front c.args.input.now) c.args.cell.now.items
    (λ t w. absurd (omega (arith, w.0, c.if-front-eq0.true)))

pub returns-then-not-can_sort : goal.returns-then-not-can_sort
returns-then-not-can_sort c =
    takes-none c.args.self.now.choices.now.orders (SortGives c.args.self.now.ways c.args.set c.args.front c.args.input.now) c.args.cell.now.items
    (λ t w. false≢true (c.if-not-can_sort.ensures ∙ w.1))

pub returns : goal.returns
returns c =
    let self = c.args.self.now in
    let orders = self.choices.now.orders in
    let task = self.ways.task.now in
    let input = c.args.input.now in
    let set = c.args.set in
    let some : 0 < c.args.front = omega (arith, c.if-front-eq0.false) in
    let price : c.sort_price-price.result ≡ sort_cost task.rates (rows_in task set) = c.sort_price-price.ensures.exact ∙ ap (sort_cost task.rates) c.rows_of.ensures.exact in
    let raised = subst (λ (p : ℕ). Takes orders (RaiseGives input p) c.args.cell.now.items c.raise_each.new.cell.items) price c.in_ok-raise_each.ensures in
    takes-same orders (RaiseGives input (sort_cost task.rates (rows_in task set))) (SortGives self.ways set c.args.front input) c.args.cell.now.items c.raise_each.new.cell.items
    (λ t w. (some, sym c.if-not-can_sort.ensures, w))
    (λ t w. w.2)
    raised
