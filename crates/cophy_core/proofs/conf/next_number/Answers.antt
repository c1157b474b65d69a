use Rattle.std.proofs.Common.{◌≡◌, ◌+◌, None, Some, decimal, rules, arith}
use Rattle.adv_base.specs.Numbers.{IsNumber}
use Rattle.adv_base.proofs.LineLaws.{one_line}
use Rattle.cophy_core.specs.Confs.{NoLine}
use Rattle.cophy_core.proofs.Lines.{number_line}
use Rattle.cophy_core.proofs.conf.next_number.Goals as goal

-- there is no line feed, and so no line of a number
pub returns-in_err-line-clause-line : goal.returns-in_err-line-clause-line
returns-in_err-line-clause-line c =
    let none : NoLine c.args.count c.args.last c.args.bytes.now =
    λ n more above within e. c.in_err-line.ensures (decimal n) more (number_line c.args.bytes.now n more (omega (arith, within, c.ranges.count.fits)) e) in
    search (rules, none)

-- the first line is no number in the range
pub returns-in_err-number-clause-line : goal.returns-in_err-number-clause-line
returns-in_err-number-clause-line c =
    let none : NoLine c.args.count c.args.last c.args.bytes.now =
    λ n more above within e.
    let line = number_line c.args.bytes.now n more (omega (arith, within, c.ranges.count.fits)) e in
    let same = (one_line c.args.bytes.now c.in_ok-line.line.now c.in_ok-line.rest.now (decimal n) more c.in_ok-line.ensures line).0 in
    let number : IsNumber (c.args.last + 1) c.args.count c.in_ok-line.line.now n = record { digits = same; low = omega (arith, above); high = within } in
    absurd (let found : None ≡ Some n = (c.in_err-number.ensures.exact n).1 number in cc) in
    search (rules, none)
