use Rattle.std.proofs.Common.{◌≡◌, ℕ, List, [], ◌∷◌, Option, Ok, sym, ◌∙◌, subst, inl, inr}
use Rattle.std.proofs.lemmas.Result.{err_from_is_err_and}
use Rattle.sql_tokens.specs.Ahead.{ahead, behind_tokens, IsNext}
use Rattle.sql_tokens.specs.declared.token.Token.{Token}
use Rattle.sql_tokens.proofs.Ahead.{IsReadTo, read_more, read_all, read_fault}
use Rattle.sql_tokens.proofs.OneCut.{one_list}
use Rattle.sql_tokens.proofs.Places.{tokens-lie, tokens-pairs}
use Rattle.sql_tokens.proofs.Reached.{no_fault, one_fault}
use Rattle.sql_tokens.proofs.cut.tokens.Goals as goal

pub turns-preserved : goal.turns-preserved
turns-preserved c =
    let text = c.args.text.now in
    let at = c.turns.reader.at in
    let new = c.next_token.new.self.at in
    let list = c.turns.list.items in
    let token = c.in-Some.token in
    let same = c.turns.invariant.text in
    let reads =
    subst (λ (token : Option Token). IsNext (ahead c.turns.reader.text.now at) (Ok token) (ahead c.turns.reader.text.now new)) c.in-Some.is c.in_ok-token.ensures.reads in
    let next = subst (λ (bytes : List ℕ). ahead bytes at ≡ behind_tokens (token ∷ []) (ahead bytes new)) same reads in
    let read = read_more text list token (ahead text at) (ahead text new) c.turns.invariant.read next in
    record {
      text = c.next_token.ensures.text ∙ same;
      read = subst (λ (ts : List Token). IsReadTo text ts (ahead text new)) (sym c.in_ok-add.ensures) read;
    }

pub returns-in_err-token-clause-only : goal.returns-in_err-token-clause-only
returns-in_err-token-clause-only c =
    let has = read_fault c.args.text.now c.turns.reader.text.now c.turns.list.items c.turns.reader.at c.next_token.new.self.at c.in_err-token.field-0.0 c.turns.invariant.text c.turns.invariant.read c.in_err-token.ensures.reads in
    λ other are. absurd (no_fault c.args.text.now other c.in_err-token.field-0.0 are has)

pub returns-in_err-token-clause-fault : goal.returns-in_err-token-clause-fault
returns-in_err-token-clause-fault c =
    let has = read_fault c.args.text.now c.turns.reader.text.now c.turns.list.items c.turns.reader.at c.next_token.new.self.at c.in_err-token.field-0.0 c.turns.invariant.text c.turns.invariant.read c.in_err-token.ensures.reads in
    let p = err_from_is_err_and c.from_residual.result c.from_residual.ensures.1 in
    rw (p.1, p.2) (inr has)

pub returns-in_err-token-clause-fault_only : goal.returns-in_err-token-clause-fault_only
returns-in_err-token-clause-fault_only c =
    let has = read_fault c.args.text.now c.turns.reader.text.now c.turns.list.items c.turns.reader.at c.next_token.new.self.at c.in_err-token.field-0.0 c.turns.invariant.text c.turns.invariant.read c.in_err-token.ensures.reads in
    let p = err_from_is_err_and c.from_residual.result c.from_residual.ensures.1 in
    λ e h. rw (p.1, p.2) (inl (one_fault c.args.text.now c.in_err-token.field-0.0 e has h))

pub invariant_of-result : goal.invariant_of-result
invariant_of-result c =
    let are = read_all c.args.text.now c.turns.reader.text.now c.turns.list.items c.turns.reader.at c.next_token.new.self.at c.in_ok-token.field-0 c.turns.invariant.text c.turns.invariant.read c.in_default.not-Some c.in_ok-token.ensures.reads in
    record { within = tokens-lie c.args.text.now c.turns.list.items are; in_order = tokens-pairs c.args.text.now c.turns.list.items are }

pub returns-clause-found : goal.returns-clause-found
returns-clause-found c =
    read_all c.args.text.now c.turns.reader.text.now c.turns.list.items c.turns.reader.at c.next_token.new.self.at c.in_ok-token.field-0 c.turns.invariant.text c.turns.invariant.read c.in_default.not-Some c.in_ok-token.ensures.reads

pub returns-clause-only : goal.returns-clause-only
returns-clause-only c =
    let are = read_all c.args.text.now c.turns.reader.text.now c.turns.list.items c.turns.reader.at c.next_token.new.self.at c.in_ok-token.field-0 c.turns.invariant.text c.turns.invariant.read c.in_default.not-Some c.in_ok-token.ensures.reads in
    λ other is. one_list c.args.text.now c.turns.list.items other are is

pub returns-clause-fault_only : goal.returns-clause-fault_only
returns-clause-fault_only c =
    let are = read_all c.args.text.now c.turns.reader.text.now c.turns.list.items c.turns.reader.at c.next_token.new.self.at c.in_ok-token.field-0 c.turns.invariant.text c.turns.invariant.read c.in_default.not-Some c.in_ok-token.ensures.reads in
    λ e h. no_fault c.args.text.now c.turns.list.items e are h
