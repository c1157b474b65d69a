use Rattle.std.proofs.Common.{◌≡◌, ◌∙◌, ◌≤◌, ℕ, Bool, List, All, length, sym, ap, subst, arith}
use Rattle.bip_model.specs.declared.part.Part.{Part}
use Rattle.bip_model.specs.Values.{MOST_PLAN}
use Rattle.lagrange_bound.specs.Rented.{plan_costs, weighted_costs}
use Rattle.lagrange_bound.specs.inner.Marks.{AreNoted}
use Rattle.lagrange_bound.proofs.CarriedCosts.{length-plan_costs, plan_costs-most}
use Rattle.lagrange_bound.proofs.MarkedCosts.{unmarked-priced}
use Rattle.lagrange_bound.proofs.ledger.moved.Goals as goal

pub price_marked-ledger-requires : goal.price_marked-ledger-requires
price_marked-ledger-requires c =
    let parts : List Part = c.args.programme.now.parts in
    let rents : List ℕ = c.args.multipliers.now.lambda in
    let is : c.as_mut_slice-least.result.now ≡ plan_costs c.args.ledger.now.config parts rents = c.as_mut_slice-least.ensures.value ∙ c.requires.ledger.costs in
    let marks_long : length c.as_mut_slice-marks.result.now ≡ length c.args.ledger.now.marks.items = ap length c.as_mut_slice-marks.ensures.value in
    record {
      one_each = ap length is ∙ length-plan_costs c.args.ledger.now.config parts rents ∙ ap length (sym c.as_slice-parts.ensures);
      most =
          subst (λ (costs : List ℕ). All (λ cost. cost ≤ MOST_PLAN) costs) (sym is)
          (plan_costs-most c.args.ledger.now.config parts rents c.requires.multipliers.rents_most);
      plans_are =
          c.requires.ledger.plans ∙ ap (weighted_costs parts) (sym c.as_mut_slice-least.ensures.value)
          ∙ ap (λ (ps : List Part). weighted_costs ps c.as_mut_slice-least.result.now) (sym c.as_slice-parts.ensures);
      before = λ k below. absurd (omega (arith, below));
      unmarked = λ k none.
          unmarked-priced c.as_slice-flags.result.now c.mark_changed.new.marks c.args.ledger.now.config c.args.config.now parts c.as_slice-parts.result.now rents c.as_slice-rents.result.now
          c.as_mut_slice-least.result.now (length c.as_mut_slice-marks.result.now) k c.as_slice-parts.ensures c.as_slice-rents.ensures is c.mark_changed.ensures.marked
          (omega (arith, marks_long, c.requires.ledger.marks))
          (λ i part found. subst (λ (flags : List Bool). All (AreNoted flags i) part.slots) (sym c.as_slice-flags.ensures.value) (c.requires.cheaper.noted i part found)) none;
    }
