-- Parts that are made anew, one statement after the other.
use Rattle.std.proofs.Common.{◌≡◌, ◌∙◌, ℕ, suc, ◌+◌, ◌<◌, Bool, true, false, inl, inr, List, [], ◌∷◌, ◌++◌, length, take, set, get_or, filter, All, refl, sym, ap, subst, arith}
use Rattle.std.specs.Prelude.{Option, Some, None, slice_get}
use Rattle.std.specs.List.{enumerate_from}
use Rattle.std.proofs.lemmas.Bool.{cases_Bool}
use Rattle.std.proofs.lemmas.Bool.Decides.{Decides-eqb}
use Rattle.std.proofs.lemmas.List.{append-nil}
use Rattle.std.proofs.lemmas.List.Elements.{All-head, All-tail}
use Rattle.adv_base.specs.declared.catalogue.index.IndexShape.{IndexShape}
use Rattle.adv_base.specs.declared.workload.Statement.{Statement}
use Rattle.adv_base.specs.declared.workload.block.Block.{Block}
use Rattle.adv_base.specs.declared.workload.parts.Slot.{Slot}
use Rattle.adv_base.specs.Settings.{TheSetting}
use Rattle.plan_model.specs.Totals.{block_of}
use Rattle.bip_model.specs.declared.part.Part.{Part}
use Rattle.bip_model.specs.StandsFor.{AreEach, Blocked, blocked_in, blocked_from, candidates_on}
use Rattle.bip_model.proofs.Lists.{each-more, each-map}
use Rattle.programme_parts.specs.Parts.{blocked}
use Rattle.programme_parts.proofs.Statements.{next-blocked}
use Rattle.retune.specs.declared.tables.Changed.{Changed}
use Rattle.retune.specs.inner.Renewing.{has_changed, IsWhole, IsOwnPart, IsPartAt, IsRenewed, AreRenewed, IsRenewedAt, IsRenewedBy, IsUntouched}
use Rattle.retune.proofs.Untouched.{is_on}

-- ## One more

pub renewed-same : (setting : TheSetting) (changed : Changed) (at : ℕ) (statement : Statement) (list : List (Option Part)) → slice_get setting.statements at ≡ Some statement → block_of statement.work ≡ None →
    AreRenewed setting changed at list → AreRenewed setting changed (at + 1) list
renewed-same setting changed at statement list found none before =
    let same : blocked_from 1 (take (at + 1) setting.statements) ≡ blocked_from 1 (take at setting.statements) =
    next-blocked setting.statements at statement found
    ∙ ap (λ (there : Option Block). blocked_from 1 (take at setting.statements) ++ blocked_in (at + 1) statement.weight there []) none
    ∙ append-nil (blocked_from 1 (take at setting.statements)) in
    subst (λ (bs : List Blocked). AreEach (IsRenewed setting changed) bs list) (sym same) before

pub renewed-more : (setting : TheSetting) (changed : Changed) (at : ℕ) (statement : Statement) (block : Block) (list : List (Option Part)) (own : Option Part) → slice_get setting.statements at ≡ Some statement → block_of statement.work ≡ Some block →
    IsRenewed setting changed (blocked (at + 1) statement.weight block) own → AreRenewed setting changed at list → AreRenewed setting changed (at + 1) (list ++ own ∷ [])
renewed-more setting changed at statement block list own found there is before =
    let same : blocked_from 1 (take (at + 1) setting.statements) ≡ blocked_from 1 (take at setting.statements) ++ blocked (at + 1) statement.weight block ∷ [] =
    next-blocked setting.statements at statement found
    ∙ ap (λ (o : Option Block). blocked_from 1 (take at setting.statements) ++ blocked_in (at + 1) statement.weight o []) there in
    subst (λ (bs : List Blocked). AreEach (IsRenewed setting changed) bs (list ++ own ∷ [])) (sym same)
    (each-more (IsRenewed setting changed) (blocked_from 1 (take at setting.statements)) list (blocked (at + 1) statement.weight block) own before is)

-- ## By shapes

-- no shape is on a table that isn't among the tables of the shapes
none-numbered : (changed : Changed) (t a : ℕ) (fresh : List IndexShape) → All (λ shape. has_changed changed shape.table ≡ true) fresh → has_changed changed t ≡ false →
    filter (is_on t) (enumerate_from a fresh) ≡ []
none-numbered changed t a [] all none = refl
none-numbered changed t a (shape ∷ fresh) all none =
    let rest = none-numbered changed t (a + 1) fresh (All-tail (λ (s : IndexShape). has_changed changed s.table ≡ true) shape fresh all) none in
    elim (cases_Bool (is_on t (a, shape))) [
      | inl on ↦
          let same : shape.table ≡ t = (Decides-eqb shape.table t).0 on in
          let own = All-head (λ (s : IndexShape). has_changed changed s.table ≡ true) shape fresh all in
          let both : true ≡ false = sym own ∙ ap (has_changed changed) same ∙ none in
          absurd cc
      | inr off ↦ rw off rest
    ]

slots-none : (changed : Changed) (fresh : List IndexShape) (block : Block) → All (λ shape. has_changed changed shape.table ≡ true) fresh → IsUntouched changed block →
    All (λ slot. candidates_on fresh slot.table ≡ []) block.slots
slots-none changed fresh block all untouched k d within = none-numbered changed (get_or block.slots k d).table 1 fresh all (untouched k d within)

at-shapes : (setting : TheSetting) (changed : Changed) (fresh : List IndexShape) → All (λ shape. has_changed changed shape.table ≡ true) fresh → (b : Blocked) (own : Option Part) → IsRenewed setting changed b own → IsRenewedAt setting fresh b own
at-shapes setting changed fresh all b (Some part) is = is
at-shapes setting changed fresh all b None is = slots-none changed fresh b.block all is

-- those of the tables of some shapes are those of the shapes
pub renewed-by : (setting : TheSetting) (changed : Changed) (fresh : List IndexShape) (k : ℕ) (list : List (Option Part)) → (fresh ≡ [] → ⊥) → All (λ shape. has_changed changed shape.table ≡ true) fresh →
    AreRenewed setting changed k list → IsRenewedBy setting fresh k list
renewed-by setting changed [] k list some all are = absurd (some refl)
renewed-by setting changed (shape ∷ fresh) k list some all are =
    each-map (IsRenewed setting changed) (IsRenewedAt setting (shape ∷ fresh)) (at-shapes setting changed (shape ∷ fresh) all) (blocked_from 1 (take k setting.statements)) list are
