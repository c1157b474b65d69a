use Rattle.std.proofs.Common.{ℕ, ◌≤◌, List, length, sym, ◌∙◌, subst}
use Rattle.sql_tokens.proofs.Ahead.{ahead_end}
use Rattle.sql_tokens.proofs.token_reader.TokenReader.next_token.Goals as goal

pub returns-clause-reads : goal.returns-clause-reads
returns-clause-reads c =
    let text = c.args.self.now.text.now in
    let end = subst (λ (bytes : List ℕ). length bytes ≤ c.turns.self.at) c.turns.invariant.text c.turns-test.false in
    (sym c.turns.invariant.same ∙ ahead_end text c.turns.self.at end, c.turns.invariant.same)
