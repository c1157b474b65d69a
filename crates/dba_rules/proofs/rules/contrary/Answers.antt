use Rattle.std.proofs.Common.{◌+◌, ℕ, Some, None, Option, sym, ap, ◌∙◌, below_more, arith}
use Rattle.std.specs.Option.{option_map_or}
use Rattle.dba_rules.specs.Rules.{contrary, opposes}
use Rattle.dba_rules.proofs.States.{first-found, first-none}
use Rattle.dba_rules.proofs.rules.contrary.Goals as goal

pub returns-then-opposes : goal.returns-then-opposes
unfolding contrary
returns-then-opposes c =
    let within = c.loop-place-test.true in
    sym
    (ap (λ (found : Option ℕ). option_map_or (λ place. Some (place + 1)) found None)
    (first-found (opposes c.args.target.now c.args.to c.args.shapes.now c.args.root.now) 0 256 c.loop-place.place (omega arith) (omega arith) (sym c.opposes.ensures ∙ c.if-opposes.true)
    (λ j low high. c.loop-place.invariant j high)))

pub loop-place-preserved : goal.loop-place-preserved
loop-place-preserved c = below_more _ _ c.loop-place.invariant (sym c.opposes.ensures ∙ c.if-opposes.false)

pub returns : goal.returns
unfolding contrary
returns c =
    sym
    (ap (λ (found : Option ℕ). option_map_or (λ place. Some (place + 1)) found None)
    (first-none (opposes c.args.target.now c.args.to c.args.shapes.now c.args.root.now) 0 256 (λ j low high. c.loop-place.invariant j (omega (arith, high, c.loop-place-test.false)))))
