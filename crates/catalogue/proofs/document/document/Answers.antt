use Rattle.std.proofs.Common.{refl}
use Rattle.catalogue.proofs.Documents.{document-of_text, document-of_no_text}
use Rattle.catalogue.proofs.document.document.Goals as goal

pub returns-in-Ok : goal.returns-in-Ok
returns-in-Ok c =
    let cases = c.in-Ok.ensures.cases in
    rw (document-of_text c.args.bytes.now c.in-Ok.text.now cases.0 cases.1) c.parsed.ensures

pub returns-in-Err : goal.returns-in-Err
returns-in-Err c = rw (document-of_no_text c.args.bytes.now c.in-Err.ensures.cases.0) (λ no_memory. refl)
