use Rattle.std.proofs.Common.{◌∙◌, sym, arith, rules}
use Rattle.sql_tokens.proofs.Scan.{comment_step, comment_none}
use Rattle.sql_tokens.proofs.front.comment_end.Goals as goal

pub loop-at-preserved : goal.loop-at-preserved
loop-at-preserved c =
    record {
      within = omega arith;
      same = sym (comment_step c.args.behind.now c.loop-at.at (omega arith) (search rules)) ∙ c.loop-at.invariant.same;
    }

pub returns-clause-value : goal.returns-clause-value
returns-clause-value c =
    sym (comment_none c.args.behind.now c.loop-at.at (omega arith) c.loop-at.invariant.within) ∙ c.loop-at.invariant.same
