use Rattle.std.proofs.Common.{◌≡◌, length, sym, ◌∙◌, arith}
use Rattle.std.proofs.lemmas.List.{length-map}
use Rattle.bip_model.specs.Views.{is_in, is_out, node_of}
use Rattle.dba_rules.proofs.Members.{below, first_broken}
use Rattle.dba_rules.proofs.settling.broken.Goals as goal

pub returns-then-is_broken : goal.returns-then-is_broken
returns-then-is_broken c =
    first_broken (node_of c.args.root.now) c.args.config.now c.loop-number.number (sym c.is_broken.ensures ∙ c.if-is_broken.true) c.loop-number.invariant

pub returns : goal.returns
returns c =
    let whole : length c.args.root.now.state ≡ 256 = c.outside_of-outside.ensures.long in
    below (node_of c.args.root.now) c.args.config.now c.loop-number.number (length-map c.args.root.now.state is_in ∙ whole) (length-map c.args.root.now.state is_out ∙ whole) (omega (arith, c.loop-number-test.false)) c.loop-number.invariant
