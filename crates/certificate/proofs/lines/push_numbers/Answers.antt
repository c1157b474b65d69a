use Rattle.std.proofs.Common.{◌≡◌, ◌∙◌, ◌+◌, ◌<◌, ◌++◌, ℕ, List, length, get_or, drop, sym, ap, append_assoc, append-nil, false, refl, arith, rules}
use Rattle.certificate.specs.Answers.{numbers_from}
use Rattle.certificate.specs.Texts.{words}
use Rattle.certificate.specs.inner.Writing.{word_if}
use Rattle.certificate.proofs.WriteLaws.{numbers-turn, numbers-end}
use Rattle.certificate.proofs.lines.push_numbers.Goals as goal

pub flags-preserved : goal.flags-preserved
flags-preserved c =
    let i = c.flags.at in
    let on = c.args.config.now.on in
    let within : i < length on = search rules in
    let turn = numbers-turn (i + 1) i on (get_or on i false) false within refl in
    let e = ap (λ (xs : List ℕ). c.flags.out.items ++ xs) (sym turn) in
    rw c.in_ok-push_chosen.ensures (append_assoc c.flags.out.items (word_if (get_or on i false) (i + 1)) (words (numbers_from (i + 1 + 1) (drop (i + 1) on))) ∙ e ∙ c.flags.invariant)

pub returns : goal.returns
returns c =
    let on = c.args.config.now.on in
    let few : length on ≡ 256 = search rules in
    let end = numbers-end (c.flags.at + 1) c.flags.at on (omega (arith, few)) in
    sym (append-nil c.flags.out.items) ∙ ap (λ (xs : List ℕ). c.flags.out.items ++ xs) (sym end) ∙ c.flags.invariant
