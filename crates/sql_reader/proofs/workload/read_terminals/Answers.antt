use Rattle.std.proofs.Common.{◌≡◌, List, subst}
use Rattle.sql_reader.specs.declared.parts.Progress.{Progress}
use Rattle.sql_reader.specs.declared.terminal.Terminal.{Terminal}
use Rattle.sql_reader.specs.Exact.{reads}
use Rattle.sql_reader.specs.Grammar.{grammar, workload}
use Rattle.sql_reader.specs.Rule.{Read, Stuck}
use Rattle.sql_reader.specs.inner.Ahead.{terminals_in}
use Rattle.sql_reader.specs.inner.Remaining.{remaining}
use Rattle.sql_reader.proofs.Outcome.{says_read, says_stuck, stuck_from}
use Rattle.sql_reader.proofs.workload.read_terminals.Goals as goal

pub returns-in-Ok-clause-ok : goal.returns-in-Ok-clause-ok
returns-in-Ok-clause-ok c =
    let list = terminals_in c.args.text.now in
    let progress = c.workload-outcome.new.progress in
    let rest = remaining c.workload-outcome.new.cursor in
    let of_text = subst (λ (ps : List Terminal). reads grammar 200 workload c.new-progress.result ps ≡ Read progress rest) c.at_front-cursor.ensures c.in-Ok.ensures in
    let e = subst (λ (s : Progress). reads grammar 200 workload s list ≡ Read progress rest) c.new-progress.ensures of_text in
    rw c.fault_behind-fault.ensures (says_read c.args.end list progress rest e)

pub returns-in_ok-fault-in-Err-clause-ok : goal.returns-in_ok-fault-in-Err-clause-ok
returns-in_ok-fault-in-Err-clause-ok c =
    let list = terminals_in c.args.text.now in
    let progress = c.workload-outcome.new.progress in
    let rest = remaining c.workload-outcome.new.cursor in
    let here =
    stuck_from c.in-Err.stop (reads grammar 200 workload c.new-progress.result (remaining c.at_front-cursor.result)) rest c.in_ok-fault-in-Err.ensures.ok.0 c.in-Err.ensures in
    let of_text = subst (λ (ps : List Terminal). reads grammar 200 workload c.new-progress.result ps ≡ Stuck rest) c.at_front-cursor.ensures here in
    let e = subst (λ (s : Progress). reads grammar 200 workload s list ≡ Stuck rest) c.new-progress.ensures of_text in
    rw c.in_ok-fault-in-Err.ensures.ok.1 (says_stuck c.args.end list progress rest e)
