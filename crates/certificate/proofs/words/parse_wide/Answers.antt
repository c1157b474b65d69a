use Rattle.std.proofs.Common.{◌^◌, arith}
use Rattle.certificate.proofs.WideDigits.{wide-parsed, wide-unparsed}
use Rattle.certificate.proofs.words.parse_wide.Goals as goal

pub returns-in-Err : goal.returns-in-Err
returns-in-Err c = λ n small e.
    wide-unparsed c.args.digits.now c.args.digits.now n c.in-Err.field-0 (λ i. c.args.digits.now) (omega arith) e c.in-Err.ensures.value.0

pub returns-in-Ok : goal.returns-in-Ok
returns-in-Ok c =
    wide-parsed (2 ^ 128) c.args.digits.now c.args.digits.now c.in-Ok.value (omega arith) (λ i. c.args.digits.now) c.requires c.in-Ok.ensures.value.0.0 c.in-Ok.ensures.value.0.1
