use Rattle.std.proofs.Common.{◌≡◌, ℕ, List, [], ◌∷◌, Option, Ok, sym, ◌∙◌, ap, subst}
use Rattle.std.proofs.lemmas.Result.{err_from_is_err_and}
use Rattle.sql_tokens.specs.Ahead.{ahead, nothing, only_fault, behind_tokens, IsNext}
use Rattle.sql_tokens.specs.declared.token.Token.{Token}
use Rattle.sql_tokens.proofs.Ahead.{none_next}
use Rattle.sql_reader.specs.declared.survey.Survey.{Survey}
use Rattle.sql_reader.specs.inner.Surveyed.{after_token}
use Rattle.sql_reader.proofs.Surveys.{IsSoFar, so_far_more, so_far_all, so_far_fault}
use Rattle.sql_reader.proofs.survey.Survey.of.Goals as goal

pub returns-in_err-token-clause-err : goal.returns-in_err-token-clause-err
returns-in_err-token-clause-err c =
    let text = c.args.text.now in
    let at = c.turns.tokens.at in
    let p = err_from_is_err_and c.from_residual.result c.from_residual.ensures.1 in
    let reads = subst (λ (bytes : List ℕ). ahead bytes at ≡ only_fault c.in_err-token.field-0.0) c.turns.invariant.text c.in_err-token.ensures.reads.0 in
    rw (p.1, p.2) (so_far_fault text c.turns.survey (ahead text at) c.in_err-token.field-0.0 c.turns.invariant.seen reads)

pub returns-clause-ok : goal.returns-clause-ok
returns-clause-ok c =
    let text = c.args.text.now in
    let at = c.turns.tokens.at in
    let old = ahead c.turns.tokens.text.now at in
    let none = none_next old (ahead c.turns.tokens.text.now c.next_token.new.self.at) c.in_ok-token.field-0 c.in_default.not-Some c.in_ok-token.ensures.reads in
    let end = subst (λ (bytes : List ℕ). ahead bytes at ≡ nothing) c.turns.invariant.text none in
    so_far_all text c.turns.survey (ahead text at) c.requires c.turns.invariant.seen end

pub turns-preserved : goal.turns-preserved
turns-preserved c =
    let text = c.args.text.now in
    let at = c.turns.tokens.at in
    let new = c.next_token.new.self.at in
    let same = c.turns.invariant.text in
    let reads =
    subst (λ (token : Option Token). IsNext (ahead c.turns.tokens.text.now at) (Ok token) (ahead c.turns.tokens.text.now new)) c.in-Some.is c.in_ok-token.ensures.reads in
    let next = subst (λ (bytes : List ℕ). ahead bytes at ≡ behind_tokens (c.in-Some.token ∷ []) (ahead bytes new)) same reads in
    let seen = so_far_more text c.turns.survey (ahead text new) c.in-Some.token (subst (IsSoFar text c.turns.survey) next c.turns.invariant.seen) in
    let texts = c.next_token.ensures.text ∙ same in
    let with = c.add.ensures ∙ ap (λ (bytes : List ℕ). after_token bytes c.in-Some.token c.turns.survey) texts in
    record { text = texts; seen = subst (λ (s : Survey). IsSoFar text s (ahead text new)) (sym with) seen }
