use Rattle.std.proofs.Common.{◌≡◌, List, [], ◌∷◌, ℕ, sym, ◌∙◌, ap, subst}
use Rattle.sql_tokens.specs.Ahead.{ahead}
use Rattle.sql_reader.specs.Terminals.{IsTerminal, mark_behind}
use Rattle.sql_reader.specs.inner.Ahead.{terminals_behind}
use Rattle.sql_reader.proofs.Ahead.{behind_weight, behind_terminal, none_behind, no_next}
use Rattle.sql_reader.proofs.scan.next_terminal.Goals as goal

pub returns-then-not-is_weight-clause-next : goal.returns-then-not-is_weight-clause-next
returns-then-not-is_weight-clause-next c =
    let text = c.args.tokens.now.text.now in
    let at = c.turns.tokens.at in
    let new = c.next_token.new.tokens.at in
    let same = c.turns.invariant.text in
    let next = subst (λ (bytes : List ℕ). (ahead bytes at).tokens ≡ c.in-Some.token ∷ (ahead bytes new).tokens) same c.in-Some.ensures.next in
    let is = subst (λ (bytes : List ℕ). IsTerminal bytes c.turns.mark c.in-Some.token c.terminal.result) (c.next_token.ensures.text ∙ same) c.terminal.ensures in
    sym (behind_terminal text at new c.turns.mark c.in-Some.token next c.terminal.result (sym c.is_weight.ensures ∙ c.if-not-is_weight.true) is) ∙ c.turns.invariant.same

pub turns-preserved : goal.turns-preserved
turns-preserved c =
    let text = c.args.tokens.now.text.now in
    let at = c.turns.tokens.at in
    let new = c.next_token.new.tokens.at in
    let same = c.turns.invariant.text in
    let next = subst (λ (bytes : List ℕ). (ahead bytes at).tokens ≡ c.in-Some.token ∷ (ahead bytes new).tokens) same c.in-Some.ensures.next in
    let mark = c.mark_behind.ensures ∙ ap (λ (bytes : List ℕ). mark_behind bytes c.in-Some.token c.turns.mark) (c.next_token.ensures.text ∙ same) in
    let weight = sym c.is_weight.ensures ∙ c.if-not-is_weight.false in
    record {
      text = c.next_token.ensures.text ∙ same;
      same = ap (terminals_behind text new) mark ∙ (sym (behind_weight text at new c.turns.mark c.in-Some.token next weight) ∙ c.turns.invariant.same);
    }

pub returns-clause-next : goal.returns-clause-next
returns-clause-next c =
    let text = c.args.tokens.now.text.now in
    let none = c.next_token.ensures.next ∙ no_next c.next_token.result (ahead c.turns.tokens.text.now c.next_token.new.tokens.at).tokens c.in_default.not-Some in
    let here = subst (λ (bytes : List ℕ). (ahead bytes c.turns.tokens.at).tokens ≡ []) c.turns.invariant.text none in
    sym (none_behind text c.turns.tokens.at c.turns.mark here) ∙ c.turns.invariant.same
