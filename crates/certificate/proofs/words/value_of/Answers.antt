use Rattle.std.proofs.Common.{◌≡◌, ◌^◌, ◌∙◌, true, sym, ap, arith}
use Rattle.std.proofs.lemmas.Bool.{false≢true}
use Rattle.adv_base.specs.Numbers.{is_plain}
use Rattle.certificate.proofs.WideDigits.{plain-wide, utf8-wide, wide-parsed}
use Rattle.certificate.proofs.words.value_of.Goals as goal

pub returns-then-not-is_plain : goal.returns-then-not-is_plain
returns-then-not-is_plain c = λ n small e.
    false≢true (sym c.if-not-is_plain.true ∙ c.is_plain.ensures ∙ ap is_plain e ∙ plain-wide n (omega arith))

pub returns-in-Err : goal.returns-in-Err
returns-in-Err c = λ n small e. c.in-Err.ensures.cases.0 (utf8-wide c.args.text.now n (omega arith) e)

pub parse_wide-requires : goal.parse_wide-requires
parse_wide-requires c = ap is_plain c.in-Ok.ensures.cases.0 ∙ sym c.is_plain.ensures ∙ c.if-not-is_plain.false

pub returns-in-Err-parse : goal.returns-in-Err-parse
returns-in-Err-parse c = rw c.in-Ok.ensures.cases.0 at c.parse_wide.ensures

pub returns-in-Ok-parse : goal.returns-in-Ok-parse
returns-in-Ok-parse c =
    let plain : is_plain c.args.text.now ≡ true = sym c.is_plain.ensures ∙ c.if-not-is_plain.false in
    wide-parsed (2 ^ 64) c.args.text.now c.in-Ok.digits.now c.in-Ok-parse.value (omega arith) c.in-Ok.ensures.cases.0 plain c.in-Ok-parse.ensures.value.0.0 c.in-Ok-parse.ensures.value.0.1
