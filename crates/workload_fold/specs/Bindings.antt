-- Binding is natural in places: it looks at the bytes of names and texts, and not at where they stand.
use Rattle.std.specs.Prelude.{◌≡◌, ℕ, Ok}
use Rattle.adv_base.specs.declared.catalogue.Catalogue.{Catalogue}
use Rattle.sql_reader.specs.declared.parsed.Body.{Body}
use Rattle.binder.specs.Plain.{PlainWork}
use Rattle.binder.specs.Statements.{work_of}
use Rattle.workload_fold.specs.Places.{Texts, SameBody}

-- what a statement of one text means, the same statement means at other places of another text
abbrev pub BindsAlike : Type 0
BindsAlike =
    (cat : Catalogue) (t : Texts) (at there : ℕ) (a b : Body) (work : PlainWork) → SameBody t a b →
    work_of cat t.one at a ≡ Ok work → work_of cat t.other there b ≡ Ok work
