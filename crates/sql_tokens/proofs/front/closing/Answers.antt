use Rattle.std.proofs.Common.{◌∙◌, ◌+◌, ◌<◌, eqb, length, sym, ap, refl, arith, rules}
use Rattle.std.proofs.lemmas.Grind.{common_steps}
use Rattle.std.proofs.lemmas.List.{length-drop}
use Rattle.sql_tokens.specs.Byte.{begins}
use Rattle.sql_tokens.proofs.Scan.{inside_step, doubled_step}
use Rattle.sql_tokens.proofs.front.closing.Goals as goal

pub loop-at-preserved-then-behind-at-ne39 : goal.loop-at-preserved-then-behind-at-ne39
loop-at-preserved-then-behind-at-ne39 c =
    let xs = c.args.behind.now in
    let i = c.loop-at.at in
    record {
      within = omega arith;
      end_within = search rules;
      same = sym (inside_step c.loop-at.end xs i (omega arith) (grind (arith, common_steps))) ∙ c.loop-at.invariant.same;
    }

pub loop-at-preserved : goal.loop-at-preserved
loop-at-preserved c =
    let xs = c.args.behind.now in
    let i = c.loop-at.at in
    let more : i + 1 < length xs =
    omega (arith, length-drop (i + 1) xs, ap length c.after.ensures, c.if-not-begins.ensures.some refl) in
    record {
      within = omega arith;
      end_within = omega arith;
      same = sym (doubled_step c.loop-at.end xs i more (grind (arith, common_steps)) (ap (begins (λ b. eqb b 39)) (sym c.after.ensures) ∙ sym c.if-not-begins.ensures.value)) ∙ c.loop-at.invariant.same;
    }
