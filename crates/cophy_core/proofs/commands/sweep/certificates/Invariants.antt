use Rattle.std.proofs.Common.{take}
use Rattle.adv_base.specs.Settings.{the_setting}
use Rattle.cophy_core.specs.Endings.{plain_puts}
use Rattle.cophy_core.specs.commands.Sweep.{AreCertificates}
use Rattle.cophy_core.proofs.commands.sweep.certificates.Given as goal

-- those of the points so far
abbrev pub invariant-points : goal.invariant-points
invariant-points l = AreCertificates (the_setting l.setting) l.prefix 1 (take l.at l.points) (plain_puts l.items.items)
