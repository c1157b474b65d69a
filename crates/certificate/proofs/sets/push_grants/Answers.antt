use Rattle.std.proofs.Common.{◌∙◌, ◌+◌, ◌<◌, ◌++◌, ℕ, List, length, map, get_or, drop, sym, ap, append_assoc, append-nil, refl, arith}
use Rattle.certificate.specs.Answers.{entry_of, entries_of}
use Rattle.certificate.specs.inner.Writing.{grant_place, entries_text}
use Rattle.certificate.proofs.WriteLaws.{grants-turn, grants-end}
use Rattle.certificate.proofs.sets.push_grants.Goals as goal

pub grants-preserved : goal.grants-preserved
grants-preserved c =
    let i = c.grants.at in
    let q = c.args.statement in
    let s = c.args.slot in
    let grants = c.args.grants.now in
    let rents = c.args.rents.now in
    let grant = get_or grants i c.index-grants-at.result in
    let rent : ℕ = get_or rents i 0 in
    let within : i < length rents = omega (arith, c.requires.one_each, c.grants-test.true) in
    let turn = grants-turn q s i grants rents grant c.index-grants-at.result rent c.grants-test.true within refl refl in
    let rest : List ℕ = entries_text (entries_of (map (grant_place q s) (drop (i + 1) grants)) (drop (i + 1) rents)) in
    let e = ap (λ (xs : List ℕ). c.grants.out.items ++ xs) (sym turn) in
    rw c.in_ok-push_rent.ensures (append_assoc c.grants.out.items (entries_text (entry_of (grant_place q s grant) rent)) rest ∙ e ∙ c.grants.invariant)

pub returns : goal.returns
returns c =
    let end = grants-end c.args.statement c.args.slot c.grants.at c.args.grants.now (drop c.grants.at c.args.rents.now) c.grants-test.false in
    sym (append-nil c.grants.out.items) ∙ ap (λ (xs : List ℕ). c.grants.out.items ++ xs) (sym end) ∙ c.grants.invariant
