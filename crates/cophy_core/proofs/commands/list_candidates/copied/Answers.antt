use Rattle.std.proofs.Common.{◌∙◌, refl}
use Rattle.cophy_core.proofs.OneSetting.{same_shape}
use Rattle.cophy_core.proofs.commands.list_candidates.copied.Goals as goal

pub invariant_of-result : goal.invariant_of-result
invariant_of-result c = record { limits = rw (c.in_ok-keys.ensures.items ∙ c.as_slice.ensures) c.args.shape.now.limits }

pub returns : goal.returns
returns c = same_shape _ _ refl (c.in_ok-keys.ensures.items ∙ c.as_slice.ensures) refl refl
