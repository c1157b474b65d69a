use Rattle.sql_reader.proofs.Unique.{one_workload, one_sql_fault, workload_or_fault}
use Rattle.sql_reader.proofs.law.one_answer.Goals as goal

pub returns : goal.returns
returns c = record {
  statements = λ text first second h1 h2. one_workload text first second h1 h2;
  fault = λ text first second h1 h2. one_sql_fault text first second h1 h2;
  either = λ text statements fault h1 h2. workload_or_fault text statements fault h1 h2;
}
