use Rattle.std.proofs.Common.{◌≡◌, ◌∙◌, Bool, List, length, sym, ap, arith, rules}
use Rattle.bip_model.specs.Views.{is_out}
use Rattle.bip_model.proofs.Spaces.{flags-are}
use Rattle.bip_model.proofs.fix.Fix.outside.Goals as goal

pub returns : goal.returns
returns c =
    let whole : length c.args.self.now.state ≡ 256 = search rules in
    ap (λ (on : List Bool). record { on = on })
    (flags-are is_out c.args.self.now.state c.loop-a.on (c.loop-a.invariant.count ∙ sym whole)
    (λ k below. c.loop-a.invariant.done k (omega (arith, below, whole, c.loop-a-test.false))))
