use Rattle.std.proofs.Common.{sym}
use Rattle.cophy_core.proofs.commands.explain.explain.Goals as goal

pub returns-in-Err-clause-stop : goal.returns-in-Err-clause-stop
returns-in-Err-clause-stop c = record {
  statement = c.in-Some.statement.now;
  statement_is = sym c.in-Some.ensures;
  first = c.in-Err.ensures.fault;
}

pub returns-clause-gives : goal.returns-clause-gives
returns-clause-gives c = record {
  statement = c.in-Some.statement.now;
  config = c.in-Ok.config;
  statement_is = sym c.in-Some.ensures;
  config_is = c.in-Ok.ensures.conf;
  explains = c.in_ok-explained.ensures.explains;
}
