use Rattle.std.proofs.Common.{◌≡◌, ◌+◌, length, take, drop, Ok, Err, refl, ap, sym, ◌∙◌, arith}
use Rattle.std.proofs.lemmas.List.{length-drop}
use Rattle.sql_tokens.specs.Ahead.{ahead, behind_tokens, only_fault}
use Rattle.sql_tokens.specs.Cut.{tokens_of_lexeme}
use Rattle.sql_tokens.specs.Front.{front}
use Rattle.sql_tokens.proofs.Ahead.{ahead_lexeme, ahead_fault, lexeme_lies}
use Rattle.sql_tokens.proofs.Reached.{comment_long, lexeme_some}
use Rattle.sql_tokens.proofs.token_reader.TokenReader.next_lexeme.Goals as goal

pub token_of-requires-clause-comment : goal.token_of-requires-clause-comment
token_of-requires-clause-comment c =
    λ f. omega (arith, comment_long c.after-rest.result.now c.in-Ok.lexeme (sym c.in-Ok.ensures.value) f, c.split_at.ensures.front_len)

pub returns-in-Ok-clause-reads : goal.returns-in-Ok-clause-reads
returns-in-Ok-clause-reads c =
    let text = c.args.self.now.text.now in
    let at = c.args.self.now.at in
    let lexeme = c.in-Ok.lexeme in
    let found : front (drop at text) ≡ Ok lexeme = ap front (sym c.after-rest.ensures) ∙ sym c.in-Ok.ensures.value in
    let bytes = c.split_at.ensures.front ∙ ap (take lexeme.length) c.after-rest.ensures in
    let own = c.token_of.ensures ∙ ap (tokens_of_lexeme at lexeme.form) bytes in
    ahead_lexeme text at lexeme found ∙ ap (λ ts. behind_tokens ts (ahead text (at + lexeme.length))) (sym own)

pub returns-in-Ok-clause-lies : goal.returns-in-Ok-clause-lies
returns-in-Ok-clause-lies c =
    let text = c.args.self.now.text.now in
    let at = c.args.self.now.at in
    let rest = c.after-rest.result.now in
    let lexeme = c.in-Ok.lexeme in
    let bytes = c.split_at.result.0.now in
    let long = c.split_at.ensures.front_len in
    let left = ap length c.after-rest.ensures ∙ length-drop at text in
    lexeme_lies text at lexeme.form bytes c.token_of.result
    (omega (arith, long, lexeme_some rest lexeme (sym c.in-Ok.ensures.value)))
    (omega (arith, long, left, c.in-Ok.ensures.within, c.requires)) c.token_of.ensures

pub returns-in-Ok-clause-forward : goal.returns-in-Ok-clause-forward
returns-in-Ok-clause-forward c = omega (arith, lexeme_some c.after-rest.result.now c.in-Ok.lexeme (sym c.in-Ok.ensures.value))

pub returns-in-Err-clause-reads : goal.returns-in-Err-clause-reads
returns-in-Err-clause-reads c =
    let text = c.args.self.now.text.now in
    let at = c.args.self.now.at in
    let found : front (drop at text) ≡ Err c.in-Err.stop = ap front (sym c.after-rest.ensures) ∙ sym c.in-Err.ensures.value in
    (ahead_fault text at c.in-Err.stop c.requires found ∙ ap only_fault (sym c.fault_at.ensures), refl)
