use Rattle.std.proofs.Common.{◌≡◌, length, ap, arith}
use Rattle.std.proofs.lemmas.Bool.Decides.{nat_tests}
use Rattle.certificate.proofs.FormLaws.{HasNumbers, numbers-more, config-start, leaves-first, leaves-next, leaves-none, no-config, config-whole}
use Rattle.certificate.proofs.forms.config_line.Goals as goal

pub returns-in-None : goal.returns-in-None
returns-in-None c = λ ns rise. no-config c.args.line.now c.in-None.ensures ns

pub numbers-init : goal.numbers-init
numbers-init c =
    let start = config-start c.args.line.now c.in-Some.numbers.now c.new-numbers.result.items c.new-numbers.ensures.items c.in-Some.ensures in
    record {
      parts = start.0;
      rise = start.1;
      least = start.2;
      few = omega arith;
      leaves = leaves-first c.args.line.now c.in-Some.numbers.now c.in-Some.ensures;
    }

pub returns-in-None-next_number : goal.returns-in-None-next_number
returns-in-None-next_number c =
    leaves-none c.args.line.now c.numbers.least c.numbers.rest.now c.numbers.invariant.leaves
    (λ e. let empty : length c.numbers.rest.now ≡ 0 = ap length e in grind (arith, nat_tests)) c.in-None-next_number.ensures

pub numbers-preserved : goal.numbers-preserved
numbers-preserved c =
    let inv = c.numbers.invariant in
    let read = c.in-Some-next_number.ensures in
    let n = c.in-Some-next_number.next.0 in
    let more = c.in-Some-next_number.next.1.now in
    let had : HasNumbers c.args.line.now c.numbers.numbers.items c.numbers.rest.now c.numbers.least = record { parts = inv.parts; rise = inv.rise; least_is = inv.least } in
    let has = numbers-more c.args.line.now c.numbers.numbers.items c.push.new.self.items c.numbers.rest.now more c.numbers.least n had c.in_ok-push.ensures.items read in
    record {
      parts = has.parts;
      rise = has.rise;
      least = has.least_is;
      few = omega (arith, read.high);
      leaves = leaves-next c.args.line.now c.numbers.least n c.numbers.rest.now more inv.leaves read;
    }

pub returns : goal.returns
returns c =
    let empty : length c.numbers.rest.now ≡ 0 = grind (arith, nat_tests) in
    (c.numbers.invariant.rise, config-whole c.args.line.now c.numbers.numbers.items c.numbers.rest.now empty c.numbers.invariant.parts)
