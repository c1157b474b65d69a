use Rattle.std.proofs.Common.{◌≡◌, All, take}
use Rattle.adv_base.specs.Configs.{has_candidate}
use Rattle.lagrange_bound.proofs.carrying.differs_at.Given as goal

abbrev pub invariant-loop-grant : goal.invariant-loop-grant
invariant-loop-grant l = All (λ grant. has_candidate l.from grant.candidate ≡ has_candidate l.to grant.candidate) (take l.grant-index l.grants)
