use Rattle.std.proofs.Common.{◌+◌, ◌∙◌, length, Option, None, refl, inr, subst}
use Rattle.sql_reader.specs.declared.parsed.SqlFault.{SqlFault}
use Rattle.sql_reader.specs.Workload.{GrammarSays}
use Rattle.sql_reader.specs.inner.Ahead.{tokens_in, terminals_in}
use Rattle.sql_reader.proofs.Ahead.{are_terminals}
use Rattle.sql_reader.proofs.Limits.{limits}
use Rattle.sql_reader.proofs.Surveys.{first_of_survey, surveyed_says}
use Rattle.sql_reader.proofs.Unique.{no_grammar_fault, no_start}
use Rattle.sql_reader.proofs.workload.conclude.Goals as goal

pub parsed-requires-clause-within : goal.parsed-requires-clause-within
parsed-requires-clause-within c =
    let text = c.args.text.now in
    let list = tokens_in text in
    let terminals = terminals_in text in
    let are = c.requires.survey.are_tokens in
    let none = c.in-None.ensures ∙ first_of_survey text c.args.survey c.args.fault c.requires.survey in
    limits text list terminals c.args.progress c.requires.short are (are_terminals text c.requires.short are) (no_start text list terminals c.args.fault none)
    (subst (λ (o : Option SqlFault). GrammarSays (length text + 1) terminals c.args.progress o) (no_grammar_fault text list terminals c.args.fault none) c.requires.says)

pub returns-in-None-clause-found : goal.returns-in-None-clause-found
returns-in-None-clause-found c =
    surveyed_says c.args.text.now c.args.survey c.args.progress c.args.fault None c.parsed.result.statements c.requires.short c.requires.survey c.requires.says c.in-None.ensures c.parsed.ensures.statements

pub returns-in-Some-clause-fault : goal.returns-in-Some-clause-fault
returns-in-Some-clause-fault c =
    let statements = c.args.progress.statements in
    inr (
      statements,
      surveyed_says c.args.text.now c.args.survey c.args.progress c.args.fault _ statements c.requires.short c.requires.survey c.requires.says c.in-Some.ensures refl,
    )
