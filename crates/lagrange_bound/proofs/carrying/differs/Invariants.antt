use Rattle.std.proofs.Common.{◌≡◌, All, take}
use Rattle.adv_base.specs.Configs.{has_candidate}
use Rattle.lagrange_bound.proofs.carrying.differs.Given as goal

abbrev pub invariant-loop-slot : goal.invariant-loop-slot
invariant-loop-slot l = All (λ slot. All (λ grant. has_candidate l.from grant.candidate ≡ has_candidate l.to grant.candidate) slot.grants) (take l.slot-index l.part.slots)
