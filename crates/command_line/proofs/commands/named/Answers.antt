use Rattle.std.proofs.Common.{codes, refl}
use Rattle.command_line.specs.CommandLine.{texts, named_command, cost_row, what_if_row, explain_row, candidates_row, advise_row, ruled_row, sweep_row, retune_row, check_row, check_ruled_row, fold_row, bench_row}
use Rattle.command_line.proofs.Rows.{row_gives, other_name}
use Rattle.command_line.proofs.commands.named.Goals as goal

pub returns-in-cost : goal.returns-in-cost
unfolding named_command
returns-in-cost c = row_gives cost_row c.args.name.now (texts c.args.words.now) c.cost.result c.in-cost.is refl c.cost.ensures

pub returns-in-whatif : goal.returns-in-whatif
unfolding named_command
returns-in-whatif c = row_gives what_if_row c.args.name.now (texts c.args.words.now) c.what_if.result c.in-whatif.is refl c.what_if.ensures

pub returns-in-explain : goal.returns-in-explain
unfolding named_command
returns-in-explain c = row_gives explain_row c.args.name.now (texts c.args.words.now) c.explain.result c.in-explain.is refl c.explain.ensures

pub returns-in-candidates : goal.returns-in-candidates
unfolding named_command
returns-in-candidates c = row_gives candidates_row c.args.name.now (texts c.args.words.now) c.candidates.result c.in-candidates.is refl c.candidates.ensures

pub returns-in-advise : goal.returns-in-advise
unfolding named_command
returns-in-advise c = row_gives advise_row c.args.name.now (texts c.args.words.now) c.advise.result c.in-advise.is refl c.advise.ensures

pub returns-in-sweep : goal.returns-in-sweep
unfolding named_command
returns-in-sweep c = row_gives sweep_row c.args.name.now (texts c.args.words.now) c.sweep.result c.in-sweep.is refl c.sweep.ensures

pub returns-in-retune : goal.returns-in-retune
unfolding named_command
returns-in-retune c = row_gives retune_row c.args.name.now (texts c.args.words.now) c.retune.result c.in-retune.is refl c.retune.ensures

pub returns-in-check : goal.returns-in-check
unfolding named_command
returns-in-check c = row_gives check_row c.args.name.now (texts c.args.words.now) c.check.result c.in-check.is refl c.check.ensures

pub returns-in-text : goal.returns-in-text
unfolding named_command
returns-in-text c = row_gives check_ruled_row c.args.name.now (texts c.args.words.now) c.check_ruled.result c.in-text.is refl c.check_ruled.ensures

pub returns-in-fold : goal.returns-in-fold
unfolding named_command
returns-in-fold c = row_gives fold_row c.args.name.now (texts c.args.words.now) c.fold.result c.in-fold.is refl c.fold.ensures

pub returns-in-bench : goal.returns-in-bench
unfolding named_command
returns-in-bench c = row_gives bench_row c.args.name.now (texts c.args.words.now) c.bench.result c.in-bench.is refl c.bench.ensures

pub returns-in-ruled : goal.returns-in-ruled
unfolding named_command
returns-in-ruled c = row_gives ruled_row c.args.name.now (texts c.args.words.now) c.ruled.result c.in-ruled.is refl c.ruled.ensures

pub returns-in_default : goal.returns-in_default
unfolding named_command
returns-in_default c = rw (
  other_name c.args.name.now (codes "cost") c.in_default.not-cost,
  other_name c.args.name.now (codes "whatif") c.in_default.not-whatif,
  other_name c.args.name.now (codes "explain") c.in_default.not-explain,
  other_name c.args.name.now (codes "candidates") c.in_default.not-candidates,
  other_name c.args.name.now (codes "advise") c.in_default.not-advise,
  other_name c.args.name.now (codes "ruled") c.in_default.not-ruled,
  other_name c.args.name.now (codes "sweep") c.in_default.not-sweep,
  other_name c.args.name.now (codes "retune") c.in_default.not-retune,
  other_name c.args.name.now (codes "check") c.in_default.not-check,
  other_name c.args.name.now (codes "check-ruled") c.in_default.not-text,
  other_name c.args.name.now (codes "fold") c.in_default.not-fold,
  other_name c.args.name.now (codes "bench") c.in_default.not-bench,
)
