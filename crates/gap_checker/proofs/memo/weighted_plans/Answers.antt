use Rattle.std.proofs.Common.{◌≡◌, ◌∙◌, List, ℕ, length, sym, ap, subst, rules}
use Rattle.adv_base.specs.Settings.{the_setting}
use Rattle.plan_model.specs.Totals as totals
use Rattle.gap_checker.specs.inner.Charges.{charge_of}
use Rattle.gap_checker.specs.inner.Memos as memos
use Rattle.gap_checker.proofs.Keeping.{renewed-start, all-rented, written}
use Rattle.gap_checker.proofs.memo.weighted_plans.Goals as goal

pub renew_costs-requires-clause-kept : goal.renew_costs-requires-clause-kept
renew_costs-requires-clause-kept c =
    let setting = the_setting c.args.setting.now in
    let config = c.args.terms.now.config.now in
    let rent = charge_of c.args.terms.now in
    let changes = c.changes_of-changes.result in
    subst (λ (costs : List ℕ). memos.AreRenewed setting config rent changes 0 costs) (sym c.as_mut_slice-costs.ensures.value)
    (renewed-start setting rent c.args.last.now changes config c.requires.last_is c.changes_of-changes.ensures.kept c.changes_of-changes.ensures.none)

pub returns-clause-sum : goal.returns-clause-sum
returns-clause-sum c =
    let setting = the_setting c.args.setting.now in
    let costs = c.renew_costs.new.costs in
    let count : length costs ≡ length setting.statements = search (rules, c.requires.last_is.count, c.as_mut_slice-costs.ensures.len, c.as_mut_slice-costs.ensures.value) in
    let full : c.args.last.now.costs.len ≡ length c.args.last.now.costs.items = sym c.as_mut_slice-costs.ensures.len ∙ ap length c.as_mut_slice-costs.ensures.value in
    let long : length costs ≡ length c.args.last.now.costs.items = count ∙ sym c.requires.last_is.count in
    record {
      costs = costs;
      costs_are = all-rented setting c.args.terms.now.config.now (charge_of c.args.terms.now) costs count c.in_ok-renew_costs.ensures.costs;
      sum_is = c.weighted_sum.ensures.exact ∙ ap (totals.weighted_sum setting.statements) (c.as_slice.ensures.value ∙ written c.args.last.now.costs.items costs c.args.last.now.costs.len full long);
    }
