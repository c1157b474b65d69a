use Rattle.std.proofs.Common.{Bool, ap, sym, ◌∙◌}
use Rattle.std.specs.Prelude.{if◌then◌else◌}
use Rattle.cophy_core.proofs.Statuses.{status_is}
use Rattle.cophy_core.proofs.top.tuned_status.Goals as goal

pub returns-then-has_some_gap : goal.returns-then-has_some_gap
returns-then-has_some_gap c = sym (status_is c.args.all.now ∙ ap (λ (gap : Bool). if gap then 1 else 0) (sym c.has_some_gap.ensures ∙ c.if-has_some_gap.true))

pub returns-else-has_some_gap : goal.returns-else-has_some_gap
returns-else-has_some_gap c = sym (status_is c.args.all.now ∙ ap (λ (gap : Bool). if gap then 1 else 0) (sym c.has_some_gap.ensures ∙ c.if-has_some_gap.false))
