use Rattle.std.proofs.Common.{◌≡◌, suc, ◌+◌, ◌-◌, ◌*◌, ◌<◌, ◌≤◌, length, sym, ap, ◌∙◌, arith}
use Rattle.std.proofs.lemmas.List.{length-map}
use Rattle.adv_base.specs.Readings.{◌>>=◌}
use Rattle.command_line.specs.CommandLine.{texts, plain_options, options_from}
use Rattle.command_line.proofs.OptionLaws.{options_from-end, options_from-next}
use Rattle.command_line.proofs.options.read_options.Goals as goal

pub returns-then-words-number : goal.returns-then-words-number
returns-then-words-number c =
    let left : 3 - c.options.turn ≡ suc (2 - c.options.turn) = omega arith in
    let few : length (texts c.args.words.now) < c.args.first + 2 * c.options.turn = rw length-map c.if-words-number.true in
    let inv = rw left at c.options.invariant in
    sym inv ∙ options_from-end c.args.certifies (texts c.args.words.now) (2 - c.options.turn) (c.args.first + 2 * c.options.turn) (plain_options c.options.given) few

pub options-preserved : goal.options-preserved
options-preserved c =
    let left : 3 - c.options.turn ≡ suc (3 - (c.options.turn + 1)) = omega arith in
    let many : c.args.first + 2 * c.options.turn ≤ length (texts c.args.words.now) = rw length-map c.if-words-number.false in
    let next = options_from-next c.args.certifies (texts c.args.words.now) (3 - (c.options.turn + 1)) (c.args.first + 2 * c.options.turn) (plain_options c.options.given) many in
    let inv = rw left at c.options.invariant in
    let read = ap (λ r. r >>= options_from c.args.certifies (texts c.args.words.now) (3 - (c.options.turn + 1)) (c.args.first + 2 * c.options.turn + 2)) c.in-Ok.ensures in
    let place : c.args.first + 2 * (c.options.turn + 1) ≡ c.args.first + 2 * c.options.turn + 2 = omega arith in
    rw place (sym (next ∙ read) ∙ inv)

pub returns-in-Err : goal.returns-in-Err
returns-in-Err c =
    let left : 3 - c.options.turn ≡ suc (2 - c.options.turn) = omega arith in
    let many : c.args.first + 2 * c.options.turn ≤ length (texts c.args.words.now) = rw length-map c.if-words-number.false in
    let next = options_from-next c.args.certifies (texts c.args.words.now) (2 - c.options.turn) (c.args.first + 2 * c.options.turn) (plain_options c.options.given) many in
    let inv = rw left at c.options.invariant in
    let read = ap (λ r. r >>= options_from c.args.certifies (texts c.args.words.now) (2 - c.options.turn) (c.args.first + 2 * c.options.turn + 2)) c.in-Err.ensures in
    sym inv ∙ next ∙ read

pub returns : goal.returns
unfolding options_from
returns c =
    let left : 3 - c.options.turn ≡ 0 = omega arith in
    let three : c.options.turn ≡ 3 = omega arith in
    let inv = rw three at c.options.invariant in
    sym inv
