-- A bound that is at least that of rent multipliers, as what it says of each setting for which the programme stands.
use Rattle.std.proofs.Common.{◌^◌, ◌<◌, ◌≤◌, ℕ, zero, suc, ℤ, refl, subst, arith}
use Rattle.std.specs.Prelude.{◌≤ℤ◌}
use Rattle.std.proofs.Math.Pow.{pow_mono}
use Rattle.adv_base.specs.declared.limits.TheConstants.{MOST_PAGE_PRICE}
use Rattle.plan_model.specs.Lagrangian.{TheMultipliers, IsLagrangian}
use Rattle.bip_model.specs.declared.fix.Fix.{Fix}
use Rattle.bip_model.specs.declared.multipliers.Multipliers.{Multipliers}
use Rattle.bip_model.specs.declared.programme.Programme.{Programme}
use Rattle.bip_model.specs.Views.{node_of, AreMultipliers}
use Rattle.lagrange_bound.specs.Bounds.{lagrangian}
use Rattle.lagrange_bound.specs.Laws.{ReachesRentsInEach}
use Rattle.lagrange_bound.specs.Rents.{rent_multipliers, tried_price}
use Rattle.lagrange_bound.proofs.StandingValue.{lagrangian-is}
use Rattle.lagrange_bound.proofs.WrittenRents.{rents-agree, rents-within}

tried-most : (i : ℕ) → i < 41 → tried_price i ≤ MOST_PAGE_PRICE
tried-most zero few = omega arith
tried-most (suc j) few = let less : j ≤ 39 = omega (arith, few) in let up : 2 ^ j ≤ 2 ^ 39 = pow_mono less in omega (arith, up)

pub tried-within : (programme : Programme) (i : ℕ) → i < 41 → AreMultipliers programme (rent_multipliers programme (tried_price i))
tried-within programme i few = rents-within programme (rent_multipliers programme (tried_price i)) (tried_price i) (tried-most i few) refl refl

pub reaches-rents : (programme : Programme) (budget : ℕ) (fix : Fix) (multipliers : Multipliers) (i : ℕ) → i < 41 → AreMultipliers programme multipliers →
    lagrangian programme budget fix (rent_multipliers programme (tried_price i)) ≤ℤ lagrangian programme budget fix multipliers → ReachesRentsInEach programme budget fix multipliers (tried_price i)
reaches-rents programme budget fix multipliers i few fit less setting limits stands =
    record {
      value = lagrangian programme budget fix (rent_multipliers programme (tried_price i));
      value_is =
          subst (λ (m : TheMultipliers). IsLagrangian setting budget (node_of fix) m (lagrangian programme budget fix (rent_multipliers programme (tried_price i)))) (rents-agree setting programme (tried_price i) stands)
          (lagrangian-is setting programme budget fix (rent_multipliers programme (tried_price i)) limits stands (tried-within programme i few));
      holds = record { value = lagrangian programme budget fix multipliers; value_is = lagrangian-is setting programme budget fix multipliers limits stands fit; holds = less };
    }
