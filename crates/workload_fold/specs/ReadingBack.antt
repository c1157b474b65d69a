-- The text of a folded workload reads back and binds as its groups.
use Rattle.std.specs.Prelude.{◌≡◌, ◌<◌, ◌^◌, ℕ, List, length, map, Ok}
use Rattle.adv_base.specs.declared.catalogue.Catalogue.{Catalogue}
use Rattle.adv_base.specs.declared.workload.Statement.{Statement}
use Rattle.sql_reader.specs.declared.parsed.ParsedStatement.{ParsedStatement}
use Rattle.sql_reader.specs.Workload.{IsWorkload}
use Rattle.binder.specs.Plain.{PlainStatement, plain_work, plain_statements}
use Rattle.binder.specs.Statements.{statements_of}
use Rattle.workload_fold.specs.Groups.{Group, groups_of, IsFolded}
use Rattle.workload_fold.specs.Texts.{folded_text}

-- the text of the groups of a workload
abbrev pub text_of_groups : List ℕ → List ParsedStatement → List Group → List ℕ
text_of_groups text parsed groups = folded_text text parsed (map (λ g. g.number) groups) (map (λ g. g.weight) groups)

-- a statement for each group: it has the group's weight, and does what the first statement does
abbrev pub statements_of_groups : List Group → List PlainStatement
statements_of_groups groups = map (λ g. record { weight = g.weight; work = plain_work g.first.work }) groups

-- The text is a workload, so none of its faults is left, and it binds over the catalogue without a fault. The statements that
-- it means are the groups of the statements that are given, so that they stand for them, as do all that are bound from it.
pub record ReadsBack (cat : Catalogue) (statements : List Statement) (text : List ℕ) : Type 0 where
  pub read : List ParsedStatement
  pub is_read : IsWorkload text read
  pub folded : List Statement
  pub binds : statements_of cat text read ≡ Ok (plain_statements folded)
  pub are : plain_statements folded ≡ statements_of_groups (groups_of cat statements)
  pub stand : IsFolded cat statements folded
  pub only : (bound : List Statement) → statements_of cat text read ≡ Ok (plain_statements bound) → IsFolded cat statements bound

-- where statements were read and bound of a text, the text of their groups reads back, if it is short enough to be read: such
-- a text has fewer than 2^32 bytes
abbrev pub FoldedTextsReadBack : Type 0
FoldedTextsReadBack =
    (cat : Catalogue) (text : List ℕ) (parsed : List ParsedStatement) (statements : List Statement) → IsWorkload text parsed →
    statements_of cat text parsed ≡ Ok (plain_statements statements) → length (text_of_groups text parsed (groups_of cat statements)) < 2 ^ 32 →
    ReadsBack cat statements (text_of_groups text parsed (groups_of cat statements))
