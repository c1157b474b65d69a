use Rattle.std.proofs.Common.{◌≡◌, ◌≤◌, ℕ, List, Ok, length, sym, subst, ap, ◌∙◌}
use Rattle.adv_base.specs.declared.catalogue.Catalogue.{Catalogue}
use Rattle.sql_reader.specs.declared.parsed.ParsedStatement.{ParsedStatement}
use Rattle.binder.specs.Statements.{bound_of}
use Rattle.binder.specs.View.{plain_bound}
use Rattle.std.specs.Prelude.{All}
use Rattle.binder.specs.Limits.{StatementLimits}
use Rattle.binder.proofs.ReadLimits.{read-limits, few-read}
use Rattle.binder.proofs.Lawful.{statements_of-bound, statements-lawful}
use Rattle.binder.proofs.statements.bind.Goals as goal

pub returns-clause-named : goal.returns-clause-named
returns-clause-named c =
    let parsed = c.args.parsed.now in
    let over = subst (λ (x : Catalogue). bound_of x parsed.text.now c.as_slice.result.now ≡ Ok (plain_bound c.in_ok-bound.bound)) c.in_ok-directory.ensures c.in_ok-bound.ensures.exact in
    let gathered = subst (λ (ps : List ParsedStatement). bound_of c.args.cat.now parsed.text.now ps ≡ Ok (plain_bound c.in_ok-bound.bound)) c.as_slice.ensures over in
    (statements-lawful c.args.cat.now parsed.text.now parsed.statements c.in_ok-bound.bound.statements (statements_of-bound c.args.cat.now parsed.text.now parsed.statements (plain_bound c.in_ok-bound.bound) gathered)).0

pub returns-clause-few : goal.returns-clause-few
returns-clause-few c =
    let parsed = c.args.parsed.now in
    let over = subst (λ (x : Catalogue). bound_of x parsed.text.now c.as_slice.result.now ≡ Ok (plain_bound c.in_ok-bound.bound)) c.in_ok-directory.ensures c.in_ok-bound.ensures.exact in
    let gathered = subst (λ (ps : List ParsedStatement). bound_of c.args.cat.now parsed.text.now ps ≡ Ok (plain_bound c.in_ok-bound.bound)) c.as_slice.ensures over in
    (statements-lawful c.args.cat.now parsed.text.now parsed.statements c.in_ok-bound.bound.statements (statements_of-bound c.args.cat.now parsed.text.now parsed.statements (plain_bound c.in_ok-bound.bound) gathered)).1

pub returns-clause-count : goal.returns-clause-count
returns-clause-count c = c.in_ok-bound.ensures.count ∙ ap (λ (xs : List ParsedStatement). length xs) c.as_slice.ensures

pub returns-clause-most : goal.returns-clause-most
returns-clause-most c =
    let parsed = c.args.parsed.now in
    subst (λ (n : ℕ). n ≤ 1000) (sym (returns-clause-count c)) (few-read (length parsed.text.now) parsed.statements parsed.within)

pub statements-requires : goal.statements-requires
statements-requires c =
    let parsed = c.args.parsed.now in
    subst (All StatementLimits) (sym c.as_slice.ensures) (read-limits (length parsed.text.now) parsed.short parsed.statements parsed.within)
