use Rattle.std.proofs.Common.{false, true}
use Rattle.std.specs.Prelude.{replicate}
use Rattle.std.proofs.lemmas.List.{get_or-replicate}
use Rattle.adv_base.specs.declared.limits.TheConstants.{MOST_TABLES}
use Rattle.retune.proofs.Marks.{every}
use Rattle.retune.proofs.tables.Changed.all.Goals as goal

pub returns : goal.returns
returns c = λ t. every (record { on = replicate MOST_TABLES true }) t (λ k within. get_or-replicate MOST_TABLES k true false within)
