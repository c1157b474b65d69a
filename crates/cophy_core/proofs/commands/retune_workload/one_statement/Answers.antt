use Rattle.std.proofs.Common.{subst, sym, ◌∙◌}
use Rattle.sql_reader.specs.Workload.{IsWorkload}
use Rattle.cophy_core.proofs.Taking.{single_of}
use Rattle.cophy_core.proofs.commands.retune_workload.one_statement.Goals as goal

pub returns-then-len-eq1-clause-one : goal.returns-then-len-eq1-clause-one
returns-then-len-eq1-clause-one c =
    let single = single_of c.in-Ok.parsed.statements (sym c.len.ensures ∙ c.if-len-eq1.true) in
    record {
      statement = single.0;
      statements_are = single.1;
      is_workload = subst (IsWorkload c.args.sql.now) single.1 c.in-Ok.ensures.found;
      text_is = c.in-Ok.ensures.same_text;
    }
