use Rattle.std.proofs.Common.{ap}
use Rattle.bip_model.specs.declared.fix.Fix.{Fix}
use Rattle.bip_model.proofs.Sides.{written-out}
use Rattle.bip_model.proofs.fix.Fix.out_side.Goals as goal

pub returns : goal.returns
returns c = written-out c.args.self.now c.with.result c.args.number c.requires.some c.requires.free (ap (λ (fix : Fix). fix.state) c.with.ensures)
