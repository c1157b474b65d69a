use Rattle.std.proofs.Common.{◌+◌, ◌≡◌, List, ap, arith, ◌∙◌}
use Rattle.bip_model.specs.declared.fix.State.{State}
use Rattle.dba_rules.specs.Rules.{root_behind, state_behind}
use Rattle.dba_rules.proofs.States.{states-are}
use Rattle.dba_rules.proofs.rules.root_behind.Goals as goal

pub returns : goal.returns
unfolding root_behind
returns c =
    ap (λ (states : List State). record { state = states })
    (states-are (state_behind c.args.target.now c.args.to c.args.shapes.now c.args.root.now) 0 256 c.loop-place.state c.loop-place.invariant.count
    (λ k below.
    let here : k ≡ 0 + k = omega arith in
    c.loop-place.invariant.done k (omega (arith, below, c.loop-place-test.false)) ∙ ap (state_behind c.args.target.now c.args.to c.args.shapes.now c.args.root.now) here))
