use Rattle.std.proofs.Common.{◌≡◌, ◌∙◌, true, sym, ap}
use Rattle.std.proofs.lemmas.Bool.{false≢true}
use Rattle.adv_base.specs.Numbers.{is_plain}
use Rattle.adv_base.proofs.Digits.{plain-decimal, utf8-decimal, decimal-parsed, decimal-unparsed}
use Rattle.adv_base.proofs.decimal.value_of.Goals as goal

pub returns-then-not-is_plain : goal.returns-then-not-is_plain
returns-then-not-is_plain c = λ n small e.
    false≢true (sym c.if-not-is_plain.true ∙ c.is_plain.ensures ∙ ap is_plain e ∙ plain-decimal n small)

pub returns-in-Err : goal.returns-in-Err
returns-in-Err c = λ n small e. c.in-Err.ensures.cases.0 (utf8-decimal c.args.text.now n small e)

pub returns-in-Err-parse : goal.returns-in-Err-parse
returns-in-Err-parse c = λ n small e.
    decimal-unparsed c.args.text.now c.in-Ok.digits.now n c.in-Err-parse.field-0 c.in-Ok.ensures.cases.0 small e c.in-Err-parse.ensures.value.0

pub returns-in-Ok-parse : goal.returns-in-Ok-parse
returns-in-Ok-parse c =
    let plain : is_plain c.args.text.now ≡ true = sym c.is_plain.ensures ∙ c.if-not-is_plain.false in
    decimal-parsed c.args.text.now c.in-Ok.digits.now c.in-Ok-parse.value c.in-Ok.ensures.cases.0 plain c.in-Ok-parse.ensures.value.0.0 c.in-Ok-parse.ensures.value.0.1
