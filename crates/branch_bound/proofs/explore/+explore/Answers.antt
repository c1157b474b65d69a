use Rattle.std.proofs.Common.{◌∙◌, ℕ, sym, ap, subst}
use Rattle.std.proofs.lemmas.Bool.{false≢true}
use Rattle.adv_base.specs.declared.setting.Config.{Config}
use Rattle.adv_base.specs.Configs.{IsApart}
use Rattle.branch_bound.specs.inner.Runs as runs
use Rattle.branch_bound.proofs.Explored.{closed-explored, forced-explored, branch-explored, full-explored}
use Rattle.branch_bound.proofs.explore.+explore.Goals as goal

pub explore-returns-in-Closed-clause-explored : goal.explore-returns-in-Closed-clause-explored
explore-returns-in-Closed-clause-explored t c =
    closed-explored (runs.rules_of c.args.frame.now) c.args.fix.now c.args.before c.visited-found.result c.in-Closed.set _ _ c.requires.apart
    (c.visited-found.ensures.exact ∙ ap (λ (n : ℕ). runs.visited_at c.args.fix.now n c.args.before) c.requires.cost) c.in-Closed.ensures.fate
    c.append.ensures.items

pub explore-returns-in-Forced-clause-explored : goal.explore-returns-in-Forced-clause-explored
explore-returns-in-Forced-clause-explored t c =
    forced-explored (runs.rules_of c.args.frame.now) c.args.fix.now c.args.before c.visited-found.result c.given_up.result c.in-Forced.set _ _ c.requires.apart
    (c.visited-found.ensures.exact ∙ ap (λ (n : ℕ). runs.visited_at c.args.fix.now n c.args.before) c.requires.cost) c.in-Forced.ensures.fate c.given_up.ensures.exact c.append-in-Forced.ensures.items

pub explore-returns-in-Branch-clause-explored : goal.explore-returns-in-Branch-clause-explored
explore-returns-in-Branch-clause-explored t c =
    branch-explored (runs.rules_of c.args.frame.now) c.args.fix.now c.fixed-within.result c.outside-without.result c.args.before c.visited-found.result c.branched-inner.result c.explore_inside-middle.result
    c.explore.result c.in-Branch.index c.args.walk.now.tree.items c.append-in-Branch.new.tree.items c.explore_inside-middle.new.walk.tree.items c.explore.new.walk.tree.items c.requires.apart
    (c.visited-found.ensures.exact ∙ ap (λ (n : ℕ). runs.visited_at c.args.fix.now n c.args.before) c.requires.cost) c.fixed-within.ensures
    c.outside-without.ensures.exact c.branched-inner.ensures c.in-Branch.ensures.fate c.append-in-Branch.ensures.items c.explore_inside-middle.ensures.explored c.explore.ensures.explored

pub explore_inside-returns-then-not-is_apart-clause-explored : goal.explore_inside-returns-then-not-is_apart-clause-explored
explore_inside-returns-then-not-is_apart-clause-explored t c =
    full-explored (runs.rules_of c.args.frame.now) c.args.fix.now c.args.before c.args.walk.now.tree.items c.append.new.tree.items
    (λ apart. let is = c.is_apart.ensures.1 (subst (λ (config : Config). IsApart c.args.frame.now.shapes.now config) (sym c.inside-inside.ensures) apart) in absurd (false≢true (sym c.if-not-is_apart.true ∙ is)))
    c.append.ensures.items
