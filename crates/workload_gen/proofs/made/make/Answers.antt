use Rattle.std.proofs.Common.{◌≡◌, ◌∙◌, ap, arith}
use Rattle.workload_gen.specs.Texts.{catalogue_text, workload_text}
use Rattle.workload_gen.proofs.Lengths.{catalogue_short, workload_short}
use Rattle.workload_gen.proofs.made.make.Goals as goal

pub returns-in-Ok-clause-catalogue_short : goal.returns-in-Ok-clause-catalogue_short
returns-in-Ok-clause-catalogue_short c =
    let made : c.into_bytes.result.items ≡ catalogue_text c.args.seed c.args.tables = ap (λ v. v.items) c.into_bytes.ensures.value ∙ c.in-Ok.ensures.catalogue in
    rw made (omega (arith, catalogue_short c.args.seed c.args.tables c.requires.tables_few))

pub returns-in-Ok-clause-workload_short : goal.returns-in-Ok-clause-workload_short
returns-in-Ok-clause-workload_short c =
    let made : c.into_bytes-in-Ok.result.items ≡ workload_text c.args.seed c.args.tables c.args.statements = ap (λ v. v.items) c.into_bytes-in-Ok.ensures.value ∙ c.in-Ok.ensures.workload in
    rw made (omega (arith, workload_short c.args.seed c.args.tables c.args.statements (omega (arith, c.requires.tables_some)) c.requires.tables_few c.requires.statements_few))
