-- A script of edits over a workload has one end: a fault of one edit, or advice wherever it asks for it.
use Rattle.std.proofs.Common.{◌≡◌, ◌⊎◌, inl, inr, ℕ, suc, ◌-◌, List, [], ◌∷◌, length, slice_get, Option, Some, Ok, Err, refl, sym, ap, subst, ◌∙◌, arith}
use Rattle.std.specs.Prelude.{slice_set}
use denote.Struct.Props.{props}
use mathlib.Core.HLevel.{is_prop→PathP}
use Rattle.adv_base.specs.declared.catalogue.Catalogue.{Catalogue}
use Rattle.adv_base.specs.declared.workload.Statement.{Statement}
use Rattle.adv_base.specs.declared.workload.Work.{Work}
use Rattle.adv_base.specs.declared.workload.block.Block.{Block}
use Rattle.adv_base.specs.Limits.Works.{StatementLimits}
use Rattle.adv_base.specs.Settings.{TheSetting}
use Rattle.binder.specs.Plain.{plain_statement, plain_statements}
use Rattle.binder.specs.Statements.{statements_of}
use Rattle.binder.specs.declared.fault.BindFault.{BindFault}
use Rattle.edit_script.specs.Scripts.{TheEdit, Add, Remove, Weigh, Advise, IsBadLine}
use Rattle.edit_script.proofs.Unique.{one_script, one_bad_line, no_bad_line}
use Rattle.programme_parts.specs.Combinations.{HasCombinations, HasFew, IsBeyond}
use Rattle.programme_parts.proofs.Counting.{one-count}
use Rattle.report.specs.declared.done.EditFault.{EditFault}
use Rattle.report.specs.declared.done.EditFault.TheVariants.{BadLine, Sql, Bind, NoStatement, TooManyStatements, TooManySlots, TooManyCombinations}
use Rattle.report.specs.declared.done.Refusal.{Refusal}
use Rattle.report.specs.declared.done.Refusal.TheVariants.{Edit, TooManyCombinations as TooManyOfWorkload}
use Rattle.report.specs.declared.done.Tuned.{Tuned}
use Rattle.retune.specs.Steps.{added, AreReweighed, IsNumber, HasSlots}
use Rattle.sql_reader.proofs.Unique.{one_workload, workload_or_fault, one_sql_fault}
use Rattle.sql_reader.specs.declared.parsed.ParsedStatement.{ParsedStatement}
use Rattle.cophy_core.specs.commands.Retune.{IsAddition, IsAdded, IsTaken, AreTunedOver, IsRetuned, IsMisnamed, IsAdditionFault, IsMissing, IsEditFault, IsFirstFault, IsUntaken, HasTooManyInWorkload, Refuses}
use Rattle.cophy_core.proofs.Combinations.{none_beyond, one_beyond}
use Rattle.cophy_core.proofs.OneSetting.{same_statement}

-- ## What is added

statement_prop : (weight : ℕ) (work : Work) → IsProp (StatementLimits weight work)
statement_prop weight work = hlevel props

-- a statement is its weight and its work
same_by : (x y : Statement) → x.weight ≡ y.weight → x.work ≡ y.work → x ≡ y
same_by x y weights works =
    let limits = is_prop→PathP (λ i. StatementLimits (weights i) (works i)) (λ i. statement_prop (weights i) (works i)) x.limits y.limits in
    λ i. record { weight = weights i; work = works i; limits = limits i }

-- bytes mean one statement
one_addition : (cat : Catalogue) (weight : ℕ) (sql : List ℕ) (x y : Statement) → IsAddition cat weight sql x → IsAddition cat weight sql y → x ≡ y
one_addition cat weight sql x y a b =
    let parsed = one_workload sql (a.parsed ∷ []) (b.parsed ∷ []) a.is_workload b.is_workload in
    let bound : statements_of cat sql (b.parsed ∷ []) ≡ Ok (plain_statements (a.read ∷ [])) = subst (λ (ps : List ParsedStatement). statements_of cat sql ps ≡ Ok (plain_statements (a.read ∷ []))) parsed a.bound in
    let both : Ok (plain_statements (a.read ∷ [])) ≡ Ok (plain_statements (b.read ∷ [])) = sym bound ∙ b.bound in
    let plain : plain_statement a.read ≡ plain_statement b.read = cc in
    let read : a.read ≡ b.read = same_statement a.read b.read plain in
    same_by x y (a.weight_is ∙ sym b.weight_is) (a.work_is ∙ ap (λ (s : Statement). s.work) read ∙ sym b.work_is)

single : (sql : List ℕ) (parsed : List ParsedStatement) (p : ParsedStatement) → parsed ≡ p ∷ [] → length parsed ≡ 1
single sql parsed p e = ap length e

misnamed_or_added : (cat : Catalogue) (weight : ℕ) (sql : List ℕ) (fault : BindFault) (x : Statement) → IsMisnamed cat sql fault → IsAddition cat weight sql x → ⊥
misnamed_or_added cat weight sql fault x a b =
    let parsed = one_workload sql (a.parsed ∷ []) (b.parsed ∷ []) a.is_workload b.is_workload in
    let mine : statements_of cat sql (b.parsed ∷ []) ≡ Err fault = subst (λ (ps : List ParsedStatement). statements_of cat sql ps ≡ Err fault) parsed a.first in
    let both : Ok (plain_statements (b.read ∷ [])) ≡ Err fault = sym b.bound ∙ mine in
    cc

one_misnaming : (cat : Catalogue) (sql : List ℕ) (f g : BindFault) → IsMisnamed cat sql f → IsMisnamed cat sql g → g ≡ f
one_misnaming cat sql f g a b =
    let parsed = one_workload sql (a.parsed ∷ []) (b.parsed ∷ []) a.is_workload b.is_workload in
    let mine : statements_of cat sql (b.parsed ∷ []) ≡ Err f = subst (λ (ps : List ParsedStatement). statements_of cat sql ps ≡ Err f) parsed a.first in
    let both : Err g ≡ Err f = sym b.first ∙ mine in
    cc

-- a statement that has few combinations has not too many, and it has one count of them
few_or_rich : (cat : Catalogue) (x : Statement) (count : ℕ) → HasFew cat x → IsBeyond cat x count → ⊥
few_or_rich cat x count few rich =
    let within = few rich.block rich.block_is count rich.has in
    let beyond = rich.beyond in
    absurd (omega (arith, within, beyond))

one_rich : (cat : Catalogue) (x : Statement) (n m : ℕ) → IsBeyond cat x n → IsBeyond cat x m → m ≡ n
one_rich cat x n m a b =
    let reads : Some b.block ≡ Some a.block = sym b.block_is ∙ a.block_is in
    let block : b.block ≡ a.block = cc in
    one-count cat a.block m n (subst (λ (k : Block). HasCombinations cat k m) block b.has) a.has

same_rich : (n m count other : ℕ) → n ≡ m → count ≡ other → TooManyCombinations n count ≡ TooManyCombinations m other
same_rich n m count other numbers counts = cc

-- ## One edit

one_added : (cat : Catalogue) (before : List Statement) (weight : ℕ) (sql : List ℕ) (xs ys : List Statement) → IsAdded cat before weight sql xs → IsAdded cat before weight sql ys → xs ≡ ys
one_added cat before weight sql xs ys a b =
    let same : a.statement ≡ b.statement = one_addition cat weight sql a.statement b.statement a.addition b.addition in
    let lists : added before a.statement ≡ added before b.statement = ap (added before) same in
    a.after_is ∙ (lists ∙ sym b.after_is)

one_old : (x y : Statement) (found other : Option Statement) → found ≡ Some x → other ≡ Some y → found ≡ other → x ≡ y
one_old x y found other a b e = let both : Some x ≡ Some y = sym a ∙ (e ∙ b) in cc

one_reweighed : (before : List Statement) (number weight : ℕ) (xs ys : List Statement) → AreReweighed before number weight xs → AreReweighed before number weight ys → xs ≡ ys
one_reweighed before number weight xs ys a b =
    let old = one_old a.old b.old (slice_get before (number - 1)) (slice_get before (number - 1)) a.found b.found refl in
    let work = a.work_is ∙ (ap (λ (s : Statement). s.work) old ∙ sym b.work_is) in
    let new = same_by a.new b.new (a.weight_is ∙ sym b.weight_is) work in
    let lists : slice_set before (number - 1) a.new ≡ slice_set before (number - 1) b.new = ap (slice_set before (number - 1)) new in
    a.after_is ∙ (lists ∙ sym b.after_is)

-- the statements behind an edit are one list
one_after : (cat : Catalogue) (before : List Statement) (edit : TheEdit) (xs ys : List Statement) → IsTaken cat before edit xs → IsTaken cat before edit ys → xs ≡ ys
one_after cat before (Add weight sql) xs ys a b = one_added cat before weight sql xs ys a b
one_after cat before (Remove number) xs ys a b = a.1 ∙ sym b.1
one_after cat before (Weigh number weight) xs ys a b = one_reweighed before number weight xs ys a.1 b.1
one_after cat before Advise xs ys a b = a ∙ sym b

-- an edit that is taken has no fault
added_or_fault : (cat : Catalogue) (before after : List Statement) (weight : ℕ) (sql : List ℕ) (fault : EditFault) → IsAdded cat before weight sql after → IsAdditionFault cat before weight sql fault → ⊥
added_or_fault cat before after weight sql (Sql fault) a b = workload_or_fault sql (a.addition.parsed ∷ []) fault a.addition.is_workload b
added_or_fault cat before after weight sql BadLine a b =
    b.count (single sql b.parsed a.addition.parsed (one_workload sql b.parsed (a.addition.parsed ∷ []) b.is_workload a.addition.is_workload))
added_or_fault cat before after weight sql (Bind fault) a b = misnamed_or_added cat weight sql fault a.statement b a.addition
added_or_fault cat before after weight sql TooManyStatements a b = b.room a.room
added_or_fault cat before after weight sql TooManySlots a b =
    b.slots (subst (HasSlots before) (one_addition cat weight sql a.statement b.statement a.addition b.addition) a.slots)
added_or_fault cat before after weight sql (TooManyCombinations n count) a b =
    few_or_rich cat b.statement count (subst (HasFew cat) (one_addition cat weight sql a.statement b.statement a.addition b.addition) a.few) b.beyond
added_or_fault cat before after weight sql (NoStatement n) a b = b

numbered_or_fault : (before : List Statement) (number : ℕ) (fault : EditFault) → IsNumber before number → IsMissing before number fault → ⊥
numbered_or_fault before number (NoStatement n) a b = b.1 a
numbered_or_fault before number fault a b = b

taken_or_fault : (cat : Catalogue) (before after : List Statement) (edit : TheEdit) (fault : EditFault) → IsTaken cat before edit after → IsEditFault cat before edit fault → ⊥
taken_or_fault cat before after (Add weight sql) fault a b = added_or_fault cat before after weight sql fault a b
taken_or_fault cat before after (Remove number) fault a b = numbered_or_fault before number fault a.0 b
taken_or_fault cat before after (Weigh number weight) fault a b = numbered_or_fault before number fault a.0 b
taken_or_fault cat before after Advise fault a b = b

-- ## The faults of an edit

-- bytes mean a statement
record Means (cat : Catalogue) (weight : ℕ) (sql : List ℕ) : Type 0 where
  statement : Statement
  addition : IsAddition cat weight sql statement

-- a fault of bytes that mean none
abbrev IsOfText : EditFault → Type 0
IsOfText (Sql fault) = Unit {0}
IsOfText BadLine = Unit {0}
IsOfText (Bind fault) = Unit {0}
IsOfText fault = ⊥

-- one of bytes that do
abbrev IsOfStep : EditFault → Type 0
IsOfStep TooManyStatements = Unit {0}
IsOfStep TooManySlots = Unit {0}
IsOfStep (TooManyCombinations n count) = Unit {0}
IsOfStep fault = ⊥

meant : (cat : Catalogue) (before : List Statement) (weight : ℕ) (sql : List ℕ) (fault : EditFault) → IsOfStep fault → IsAdditionFault cat before weight sql fault → Means cat weight sql
meant cat before weight sql TooManyStatements is h = record { statement = h.statement; addition = h.addition }
meant cat before weight sql TooManySlots is h = record { statement = h.statement; addition = h.addition }
meant cat before weight sql (TooManyCombinations n count) is h = record { statement = h.statement; addition = h.addition }
meant cat before weight sql fault is h = absurd is

-- not both
not_both : (cat : Catalogue) (before : List Statement) (weight : ℕ) (sql : List ℕ) (fault : EditFault) → Means cat weight sql → IsOfText fault → IsAdditionFault cat before weight sql fault → ⊥
not_both cat before weight sql (Sql fault) a is b = workload_or_fault sql (a.addition.parsed ∷ []) fault a.addition.is_workload b
not_both cat before weight sql BadLine a is b =
    b.count (single sql b.parsed a.addition.parsed (one_workload sql b.parsed (a.addition.parsed ∷ []) b.is_workload a.addition.is_workload))
not_both cat before weight sql (Bind fault) a is b = misnamed_or_added cat weight sql fault a.statement b a.addition
not_both cat before weight sql fault a is b = absurd is

apart : (cat : Catalogue) (before : List Statement) (weight : ℕ) (sql : List ℕ) (step text : EditFault) → IsOfStep step → IsOfText text → IsAdditionFault cat before weight sql step → IsAdditionFault cat before weight sql text → ⊥
apart cat before weight sql step text s t a b = not_both cat before weight sql text (meant cat before weight sql step s a) t b

-- two texts that mean nothing have one fault
one_text_fault : (cat : Catalogue) (before : List Statement) (weight : ℕ) (sql : List ℕ) (f g : EditFault) → IsOfText f → IsOfText g → IsAdditionFault cat before weight sql f → IsAdditionFault cat before weight sql g → g ≡ f
one_text_fault cat before weight sql (Sql f) (Sql g) s t a b = ap Sql (one_sql_fault sql g f b a)
one_text_fault cat before weight sql (Sql f) BadLine s t a b = absurd (workload_or_fault sql b.parsed f b.is_workload a)
one_text_fault cat before weight sql (Sql f) (Bind g) s t a b = absurd (workload_or_fault sql (b.parsed ∷ []) f b.is_workload a)
one_text_fault cat before weight sql BadLine (Sql g) s t a b = absurd (workload_or_fault sql a.parsed g a.is_workload b)
one_text_fault cat before weight sql BadLine BadLine s t a b = refl
one_text_fault cat before weight sql BadLine (Bind g) s t a b =
    absurd (a.count (single sql a.parsed b.parsed (one_workload sql a.parsed (b.parsed ∷ []) a.is_workload b.is_workload)))
one_text_fault cat before weight sql (Bind f) (Sql g) s t a b = absurd (workload_or_fault sql (a.parsed ∷ []) g a.is_workload b)
one_text_fault cat before weight sql (Bind f) BadLine s t a b =
    absurd (b.count (single sql b.parsed a.parsed (one_workload sql b.parsed (a.parsed ∷ []) b.is_workload a.is_workload)))
one_text_fault cat before weight sql (Bind f) (Bind g) s t a b = ap Bind (one_misnaming cat sql f g a b)
one_text_fault cat before weight sql (Sql f) g s t a b = absurd t
one_text_fault cat before weight sql BadLine g s t a b = absurd t
one_text_fault cat before weight sql (Bind f) g s t a b = absurd t
one_text_fault cat before weight sql f g s t a b = absurd s

-- so have two steps
one_step_fault : (cat : Catalogue) (before : List Statement) (weight : ℕ) (sql : List ℕ) (f g : EditFault) → IsOfStep f → IsOfStep g → IsAdditionFault cat before weight sql f → IsAdditionFault cat before weight sql g → g ≡ f
one_step_fault cat before weight sql TooManyStatements TooManyStatements s t a b = refl
one_step_fault cat before weight sql TooManyStatements TooManySlots s t a b = absurd (a.room b.room)
one_step_fault cat before weight sql TooManyStatements (TooManyCombinations n count) s t a b = absurd (a.room b.room)
one_step_fault cat before weight sql TooManySlots TooManyStatements s t a b = absurd (b.room a.room)
one_step_fault cat before weight sql TooManySlots TooManySlots s t a b = refl
one_step_fault cat before weight sql TooManySlots (TooManyCombinations n count) s t a b =
    absurd (a.slots (subst (HasSlots before) (one_addition cat weight sql b.statement a.statement b.addition a.addition) b.slots))
one_step_fault cat before weight sql (TooManyCombinations n count) TooManyStatements s t a b = absurd (b.room a.room)
one_step_fault cat before weight sql (TooManyCombinations n count) TooManySlots s t a b =
    absurd (b.slots (subst (HasSlots before) (one_addition cat weight sql a.statement b.statement a.addition b.addition) a.slots))
one_step_fault cat before weight sql (TooManyCombinations n count) (TooManyCombinations m other) s t a b =
    same_rich m n other count (b.number_is ∙ sym a.number_is)
    (one_rich cat a.statement count other a.beyond (subst (λ (x : Statement). IsBeyond cat x other) (one_addition cat weight sql b.statement a.statement b.addition a.addition) b.beyond))
one_step_fault cat before weight sql TooManyStatements g s t a b = absurd t
one_step_fault cat before weight sql TooManySlots g s t a b = absurd t
one_step_fault cat before weight sql (TooManyCombinations n count) g s t a b = absurd t
one_step_fault cat before weight sql f g s t a b = absurd s

-- of which kind a fault of an addition is
kind : (cat : Catalogue) (before : List Statement) (weight : ℕ) (sql : List ℕ) (fault : EditFault) → IsAdditionFault cat before weight sql fault → IsOfText fault ⊎ IsOfStep fault
kind cat before weight sql (Sql fault) h = inl tt
kind cat before weight sql BadLine h = inl tt
kind cat before weight sql (Bind fault) h = inl tt
kind cat before weight sql TooManyStatements h = inr tt
kind cat before weight sql TooManySlots h = inr tt
kind cat before weight sql (TooManyCombinations n count) h = inr tt
kind cat before weight sql (NoStatement n) h = absurd h

one_add_fault : (cat : Catalogue) (before : List Statement) (weight : ℕ) (sql : List ℕ) (f g : EditFault) → IsAdditionFault cat before weight sql f → IsAdditionFault cat before weight sql g → g ≡ f
one_add_fault cat before weight sql f g a b =
    elim (kind cat before weight sql f a) [
      | inl s ↦ elim (kind cat before weight sql g b) [
        | inl t ↦ one_text_fault cat before weight sql f g s t a b
        | inr t ↦ absurd (apart cat before weight sql g f t s b a)
      ]
      | inr s ↦ elim (kind cat before weight sql g b) [
        | inl t ↦ absurd (apart cat before weight sql f g s t a b)
        | inr t ↦ one_step_fault cat before weight sql f g s t a b
      ]
    ]

one_number_fault : (before : List Statement) (number : ℕ) (f g : EditFault) → IsMissing before number f → IsMissing before number g → g ≡ f
one_number_fault before number (NoStatement n) (NoStatement m) a b = ap NoStatement (b.0 ∙ sym a.0)
one_number_fault before number (NoStatement n) g a b = absurd b
one_number_fault before number f g a b = absurd a

one_edit_fault : (cat : Catalogue) (before : List Statement) (edit : TheEdit) (f g : EditFault) → IsEditFault cat before edit f → IsEditFault cat before edit g → g ≡ f
one_edit_fault cat before (Add weight sql) f g a b = one_add_fault cat before weight sql f g a b
one_edit_fault cat before (Remove number) f g a b = one_number_fault before number f g a b
one_edit_fault cat before (Weigh number weight) f g a b = one_number_fault before number f g a b
one_edit_fault cat before Advise f g a b = absurd a

-- ## All of them

-- one line is the first that isn't taken, for one fault
one_first : (cat : Catalogue) (statements : List Statement) (number : ℕ) (edits : List TheEdit) (line other : ℕ) (f g : EditFault) →
    IsFirstFault cat statements number edits line f → IsFirstFault cat statements number edits other g → (other ≡ line) × (g ≡ f)
one_first cat statements number [] line other f g a b = absurd a
one_first cat statements number (edit ∷ edits) line other f g (inl a) (inl b) = (b.0 ∙ sym a.0, one_edit_fault cat statements edit f g a.1 b.1)
one_first cat statements number (edit ∷ edits) line other f g (inl a) (inr b) = absurd (taken_or_fault cat statements b.0 edit f b.1 a.1)
one_first cat statements number (edit ∷ edits) line other f g (inr a) (inl b) = absurd (taken_or_fault cat statements a.0 edit g a.1 b.1)
one_first cat statements number (edit ∷ edits) line other f g (inr a) (inr b) =
    let same = one_after cat statements edit a.0 b.0 a.1 b.1 in
    one_first cat b.0 (suc number) edits line other f g (subst (λ (xs : List Statement). IsFirstFault cat xs (suc number) edits line f) same a.2) b.2

-- where one isn't taken they are not all taken
taken_first : (cat : Catalogue) (budget nodes : ℕ) (statements : List Statement) (edit : TheEdit) (edits : List TheEdit) (tuned : List Tuned) → AreTunedOver cat budget nodes statements (edit ∷ edits) tuned →
    (after : List Statement) × IsTaken cat statements edit after × ((rest : List Tuned) × AreTunedOver cat budget nodes after edits rest)
taken_first cat budget nodes statements Advise edits [] h = absurd h
taken_first cat budget nodes statements Advise edits (first ∷ tuned) h = (statements, refl, (tuned, h.1))
taken_first cat budget nodes statements (Add weight sql) edits tuned h = (h.0, h.1, (tuned, h.2))
taken_first cat budget nodes statements (Remove number) edits tuned h = (h.0, h.1, (tuned, h.2))
taken_first cat budget nodes statements (Weigh number weight) edits tuned h = (h.0, h.1, (tuned, h.2))

tuned_or_fault : (cat : Catalogue) (budget nodes : ℕ) (statements : List Statement) (number : ℕ) (edits : List TheEdit) (tuned : List Tuned) (line : ℕ) (fault : EditFault) →
    AreTunedOver cat budget nodes statements edits tuned → IsFirstFault cat statements number edits line fault → ⊥
tuned_or_fault cat budget nodes statements number [] tuned line fault a b = b
tuned_or_fault cat budget nodes statements number (edit ∷ edits) tuned line fault a (inl b) =
    let first = taken_first cat budget nodes statements edit edits tuned a in
    taken_or_fault cat statements first.0 edit fault first.1 b.1
tuned_or_fault cat budget nodes statements number (edit ∷ edits) tuned line fault a (inr b) =
    let first = taken_first cat budget nodes statements edit edits tuned a in
    let same = one_after cat statements edit b.0 first.0 b.1 first.1 in
    tuned_or_fault cat budget nodes first.0 (suc number) edits first.2.0 line fault first.2.1 (subst (λ (xs : List Statement). IsFirstFault cat xs (suc number) edits line fault) same b.2)

-- ## Of a script

untaken_or_tuned : (budget nodes : ℕ) (script : List ℕ) (setting : TheSetting) (line : ℕ) (fault : EditFault) (tuned : List Tuned) → IsUntaken script setting line fault → IsRetuned budget nodes script setting tuned → ⊥
untaken_or_tuned budget nodes script setting line fault tuned a b =
    let edits = one_script script a.edits b.edits a.script_is b.script_is in
    tuned_or_fault setting.cat budget nodes setting.statements 1 b.edits tuned line fault b.tuned_are
    (subst (λ (es : List TheEdit). IsFirstFault setting.cat setting.statements 1 es line fault) edits a.first)

-- where it is refused it gives nothing
pub refused_or_tuned : (budget nodes : ℕ) (script : List ℕ) (setting : TheSetting) (why : Refusal) (tuned : List Tuned) → Refuses script setting why → IsRetuned budget nodes script setting tuned → ⊥
refused_or_tuned budget nodes script setting (Edit line BadLine) tuned (inl a) b = no_bad_line script b.edits line b.script_is a
refused_or_tuned budget nodes script setting (Edit line BadLine) tuned (inr a) b = untaken_or_tuned budget nodes script setting line BadLine tuned a b
refused_or_tuned budget nodes script setting (Edit line fault) tuned a b = untaken_or_tuned budget nodes script setting line fault tuned a b
refused_or_tuned budget nodes script setting (TooManyOfWorkload n count) tuned a b = none_beyond setting n count b.few a.first
refused_or_tuned budget nodes script setting why tuned a b = absurd a

one_untaken : (script : List ℕ) (setting : TheSetting) (line other : ℕ) (f g : EditFault) → IsUntaken script setting line f → IsUntaken script setting other g → Edit other g ≡ Edit line f
one_untaken script setting line other f g a b =
    let edits = one_script script a.edits b.edits a.script_is b.script_is in
    let same = one_first setting.cat setting.statements 1 b.edits line other f g (subst (λ (es : List TheEdit). IsFirstFault setting.cat setting.statements 1 es line f) edits a.first) b.first in
    let lines = same.0 in
    let faults = same.1 in
    cc

-- an edit that is refused by either of the two ways
abbrev IsRefusedEdit : List ℕ → TheSetting → ℕ → EditFault → Type 0
IsRefusedEdit script setting line fault = ((fault ≡ BadLine) × IsBadLine script line) ⊎ IsUntaken script setting line fault

as_one : (script : List ℕ) (setting : TheSetting) (line : ℕ) (fault : EditFault) → Refuses script setting (Edit line fault) → IsRefusedEdit script setting line fault
as_one script setting line BadLine (inl a) = inl (refl, a)
as_one script setting line BadLine (inr a) = inr a
as_one script setting line fault a = inr a

one_of_edits : (script : List ℕ) (setting : TheSetting) (line other : ℕ) (f g : EditFault) → IsRefusedEdit script setting line f → IsRefusedEdit script setting other g → Edit other g ≡ Edit line f
one_of_edits script setting line other f g (inl a) (inl b) =
    let lines = one_bad_line script other line b.1 a.1 in
    let mine = a.0 in
    let yours = b.0 in
    cc
one_of_edits script setting line other f g (inl a) (inr b) = absurd (no_bad_line script b.edits line b.script_is a.1)
one_of_edits script setting line other f g (inr a) (inl b) = absurd (no_bad_line script a.edits other a.script_is b.1)
one_of_edits script setting line other f g (inr a) (inr b) = one_untaken script setting line other f g a b

rich_or_edit : (script : List ℕ) (setting : TheSetting) (n count line : ℕ) (fault : EditFault) → HasTooManyInWorkload script setting n count → IsRefusedEdit script setting line fault → ⊥
rich_or_edit script setting n count line fault a (inl b) = no_bad_line script a.edits line a.script_is b.1
rich_or_edit script setting n count line fault a (inr b) = none_beyond setting n count b.few a.first

-- it has one refusal
pub one_retune_refusal : (script : List ℕ) (setting : TheSetting) (why other : Refusal) → Refuses script setting why → Refuses script setting other → other ≡ why
one_retune_refusal script setting (Edit line f) (Edit other g) a b = one_of_edits script setting line other f g (as_one script setting line f a) (as_one script setting other g b)
one_retune_refusal script setting (Edit line f) (TooManyOfWorkload n count) a b = absurd (rich_or_edit script setting n count line f b (as_one script setting line f a))
one_retune_refusal script setting (TooManyOfWorkload n count) (Edit line f) a b = absurd (rich_or_edit script setting n count line f a (as_one script setting line f b))
one_retune_refusal script setting (TooManyOfWorkload n count) (TooManyOfWorkload m other) a b =
    let same = one_beyond setting n m count other a.first b.first in
    let numbers = same.0 in
    let counts = same.1 in
    cc
one_retune_refusal script setting (Edit line f) other a b = absurd b
one_retune_refusal script setting (TooManyOfWorkload n count) other a b = absurd b
one_retune_refusal script setting why other a b = absurd a
