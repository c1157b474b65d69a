-- What edits leave of a workload, and how long an added text may be.
use Rattle.std.proofs.Common.{◌≡◌, inl, inr, ℕ, zero, suc, ◌+◌, ◌-◌, ◌<◌, ◌≤◌, List, [], ◌∷◌, ◌++◌, length, map, take, drop, decimal, codes, slice_index_or, append_assoc, append-nil, Result, Ok, Err, refl, sym, ap, subst, ◌∙◌, arith}
use Rattle.std.specs.Prelude.{All}
use Rattle.std.proofs.lemmas.List.{length-append}
use Rattle.std.proofs.lemmas.List.Elements.{All-nil, All-cons, All-head, All-tail, All-push, All-append, All-take, All-drop, All-set}
use Rattle.adv_base.specs.declared.catalogue.Catalogue.{Catalogue}
use Rattle.adv_base.specs.declared.limits.TheConstants.{MOST_FILE_BYTES}
use Rattle.adv_base.specs.declared.workload.Statement.{Statement}
use Rattle.bip_model.proofs.Lists.{All-some}
use Rattle.edit_script.specs.Scripts.{TheEdit, Add, Remove, Weigh, Advise, is_advise, edit_text, script_text, IsInRange, IsEdit}
use Rattle.plan_model.specs.declared.plan.TheConstants.{MOST_TOTAL}
use Rattle.plan_model.specs.Totals.{block_of}
use Rattle.report.specs.Advices.{EachAdvice}
use Rattle.report.specs.Texts.{FitsCatalogue}
use Rattle.report.specs.declared.done.EditFault.{EditFault}
use Rattle.report.specs.declared.done.Refusal.TheVariants.{Edit}
use Rattle.report.specs.declared.done.Tuned.{Tuned}
use Rattle.programme_parts.specs.Combinations.{AreFew, HasFew, IsBeyond}
use Rattle.retune.specs.Sessions.{TheSession}
use Rattle.retune.specs.Steps as steps
use Rattle.retune.specs.Steps.{added, removed, AreReweighed}
use Rattle.retune.specs.declared.fault.RetuneFault.{RetuneFault}
use Rattle.retune.specs.declared.fault.RetuneFault.TheVariants as faults
use Rattle.cophy_core.specs.commands.Retune.{IsAddition, IsAdditionFault, IsTaken, IsTunedOver, AreTunedOver, IsEditFault, IsFirstFault}
use Rattle.cophy_core.specs.declared.stop.Stop.{Stop}
use Rattle.cophy_core.specs.declared.stop.Stop.TheVariants.{Memory, Failed, Refused}
use Rattle.cophy_core.specs.inner.EditSteps.{IsShort, IsTold, OfEdit, OnLine, IsStepStop}
use Rattle.cophy_core.specs.Stops.{StopsAt}

-- ## Combinations

pub few_added : (cat : Catalogue) (before : List Statement) (statement : Statement) → AreFew cat before → HasFew cat statement → AreFew cat (added before statement)
few_added cat before statement h own = All-push (HasFew cat) before statement h own

pub few_removed : (cat : Catalogue) (before : List Statement) (number : ℕ) → AreFew cat before → AreFew cat (removed before number)
few_removed cat before number h =
    All-append (HasFew cat) (take (number - 1) before) (drop (suc (number - 1)) before) (All-take (HasFew cat) (number - 1) before h) (All-drop (HasFew cat) (suc (number - 1)) before h)

pub few_reweighed : (cat : Catalogue) (before after : List Statement) (number weight : ℕ) → AreReweighed before number weight after → AreFew cat before → AreFew cat after
few_reweighed cat before after number weight is h =
    let own : HasFew cat is.new = λ block b. All-some (HasFew cat) before (number - 1) is.old h is.found block (ap block_of (sym is.work_is) ∙ b) in
    subst (AreFew cat) (sym is.after_is) (All-set (HasFew cat) before (number - 1) is.new own h)

-- ## Edits one by one

-- the part of a list from a place on begins with what is there
drop_suc : {A B : Type 0} (f : A → B) (xs : List A) (i : ℕ) (d : A) → i < length xs → drop i (map f xs) ≡ f (slice_index_or xs i d) ∷ drop (suc i) (map f xs)
drop_suc f [] i d low = absurd (omega (arith, low))
drop_suc f (x ∷ xs) zero d low = refl
drop_suc f (x ∷ xs) (suc i) d low = drop_suc f xs i d (omega (arith, low))

pub drop_at : {A B : Type 0} (f : A → B) (xs : List A) (i : ℕ) (d : A) → i < length xs → drop i (map f xs) ≡ f (slice_index_or xs i d) ∷ drop (i + 1) (map f xs)
drop_at f xs i d low =
    let next : suc i ≡ i + 1 = omega arith in
    subst (λ (k : ℕ). drop i (map f xs) ≡ f (slice_index_or xs i d) ∷ drop k (map f xs)) next (drop_suc f xs i d low)

pub holds_at : {A B : Type 0} (P : B → Type 0) (f : A → B) (xs : List A) (i : ℕ) (d : A) → i < length xs → All P (map f xs) → P (f (slice_index_or xs i d))
holds_at P f [] i d low h = absurd (omega (arith, low))
holds_at P f (x ∷ xs) zero d low h = All-head P (f x) (map f xs) h
holds_at P f (x ∷ xs) (suc i) d low h = holds_at P f xs i d (omega (arith, low)) (All-tail P (f x) (map f xs) h)

-- nothing is left behind the last
pub drop_all : {A : Type 0} (xs : List A) (i : ℕ) → length xs ≤ i → drop i xs ≡ []
drop_all [] zero low = refl
drop_all [] (suc i) low = refl
drop_all (x ∷ xs) zero low = absurd (omega (arith, low))
drop_all (x ∷ xs) (suc i) low = drop_all xs i (omega (arith, low))

-- what a session that has taken the edits before a place still leads to, and which advice there was
pub record IsHalfway (cat : Catalogue) (budget nodes : ℕ) (first now : List Statement) (edits : List TheEdit) (at : ℕ) (all : List Tuned) : Type 0 where
  pub few : AreFew cat now
  pub fits : All (FitsCatalogue cat) all
  pub tuned : (rest : List Tuned) → AreTunedOver cat budget nodes now (drop at edits) rest → AreTunedOver cat budget nodes first edits (all ++ rest)
  pub fault : (line : ℕ) (fault : EditFault) → IsFirstFault cat now (at + 1) (drop at edits) line fault → IsFirstFault cat first 1 edits line fault

pub begins : (cat : Catalogue) (budget nodes : ℕ) (first : List Statement) (edits : List TheEdit) → AreFew cat first → IsHalfway cat budget nodes first first edits 0 []
begins cat budget nodes first edits few = record { few = few; fits = All-nil (FitsCatalogue cat); tuned = λ rest h. h; fault = λ line fault h. h }

-- an edit that asks for no advice
one_more : (cat : Catalogue) (budget nodes : ℕ) (now after : List Statement) (edit : TheEdit) (edits : List TheEdit) (rest : List Tuned) → (edit ≡ Advise → ⊥) → IsTaken cat now edit after →
    AreTunedOver cat budget nodes after edits rest → AreTunedOver cat budget nodes now (edit ∷ edits) rest
one_more cat budget nodes now after (Add weight sql) edits rest other taken h = (after, taken, h)
one_more cat budget nodes now after (Remove number) edits rest other taken h = (after, taken, h)
one_more cat budget nodes now after (Weigh number weight) edits rest other taken h = (after, taken, h)
one_more cat budget nodes now after Advise edits rest other taken h = absurd (other refl)

pub takes : (cat : Catalogue) (budget nodes : ℕ) (first now after : List Statement) (edits : List TheEdit) (at : ℕ) (all : List Tuned) (edit : TheEdit) → drop at edits ≡ edit ∷ drop (at + 1) edits → (edit ≡ Advise → ⊥) →
    IsTaken cat now edit after → AreFew cat after → IsHalfway cat budget nodes first now edits at all → IsHalfway cat budget nodes first after edits (at + 1) all
takes cat budget nodes first now after edits at all edit front other taken few h = record {
  few = few;
  fits = h.fits;
  tuned = λ rest then. h.tuned rest (subst (λ (es : List TheEdit). AreTunedOver cat budget nodes now es rest) (sym front) (one_more cat budget nodes now after edit (drop (at + 1) edits) rest other taken then));
  fault = λ line fault then. h.fault line fault (subst (λ (es : List TheEdit). IsFirstFault cat now (at + 1) es line fault) (sym front) (inr (after, taken, next line fault then)));
}
  where
    next : (line : ℕ) (fault : EditFault) → IsFirstFault cat after (at + 1 + 1) (drop (at + 1) edits) line fault → IsFirstFault cat after (suc (at + 1)) (drop (at + 1) edits) line fault
    next line fault then = let same : at + 1 + 1 ≡ suc (at + 1) = omega arith in subst (λ (n : ℕ). IsFirstFault cat after n (drop (at + 1) edits) line fault) same then

pub advises : (cat : Catalogue) (budget nodes : ℕ) (first now after : List Statement) (edits : List TheEdit) (at : ℕ) (all : List Tuned) (one : Tuned) → drop at edits ≡ Advise ∷ drop (at + 1) edits → after ≡ now →
    IsTunedOver cat budget nodes after one → FitsCatalogue cat one → AreFew cat after → IsHalfway cat budget nodes first now edits at all → IsHalfway cat budget nodes first after edits (at + 1) (all ++ one ∷ [])
advises cat budget nodes first now after edits at all one front same tuned fits few h = record {
  few = few;
  fits = All-push (FitsCatalogue cat) all one h.fits fits;
  tuned = λ rest then. subst (AreTunedOver cat budget nodes first edits) (sym (append_assoc all (one ∷ []) rest))
      (h.tuned (one ∷ rest) (subst (λ (es : List TheEdit). AreTunedOver cat budget nodes now es (one ∷ rest)) (sym front)
      (subst (λ (xs : List Statement). IsTunedOver cat budget nodes xs one) same tuned, subst (λ (xs : List Statement). AreTunedOver cat budget nodes xs (drop (at + 1) edits) rest) same then)));
  fault = λ line fault then. h.fault line fault (subst (λ (es : List TheEdit). IsFirstFault cat now (at + 1) es line fault) (sym front)
      (inr (after, same, next line fault then)));
}
  where
    next : (line : ℕ) (fault : EditFault) → IsFirstFault cat after (at + 1 + 1) (drop (at + 1) edits) line fault → IsFirstFault cat after (suc (at + 1)) (drop (at + 1) edits) line fault
    next line fault then = let same : at + 1 + 1 ≡ suc (at + 1) = omega arith in subst (λ (n : ℕ). IsFirstFault cat after n (drop (at + 1) edits) line fault) same then

-- whichever of both it is
pub tells : (cat : Catalogue) (budget nodes : ℕ) (first now after : List Statement) (edits : List TheEdit) (at : ℕ) (all more : List Tuned) (edit : TheEdit) → drop at edits ≡ edit ∷ drop (at + 1) edits →
    IsTaken cat now edit after → AreFew cat after → IsTold cat budget nodes after (is_advise edit) all more → IsHalfway cat budget nodes first now edits at all → IsHalfway cat budget nodes first after edits (at + 1) more
tells cat budget nodes first now after edits at all more Advise front taken few told h =
    subst (IsHalfway cat budget nodes first after edits (at + 1)) (sym told.after_is) (advises cat budget nodes first now after edits at all told.tuned front taken told.is told.fits few h)
tells cat budget nodes first now after edits at all more (Add weight sql) front taken few told h =
    subst (IsHalfway cat budget nodes first after edits (at + 1)) (sym told) (takes cat budget nodes first now after edits at all (Add weight sql) front (λ e. absurd cc) taken few h)
tells cat budget nodes first now after edits at all more (Remove number) front taken few told h =
    subst (IsHalfway cat budget nodes first after edits (at + 1)) (sym told) (takes cat budget nodes first now after edits at all (Remove number) front (λ e. absurd cc) taken few h)
tells cat budget nodes first now after edits at all more (Weigh number weight) front taken few told h =
    subst (IsHalfway cat budget nodes first after edits (at + 1)) (sym told) (takes cat budget nodes first now after edits at all (Weigh number weight) front (λ e. absurd cc) taken few h)

-- all edits were taken
pub ends : (cat : Catalogue) (budget nodes : ℕ) (first now : List Statement) (edits : List TheEdit) (at : ℕ) (all : List Tuned) → length edits ≤ at → IsHalfway cat budget nodes first now edits at all → AreTunedOver cat budget nodes first edits all
ends cat budget nodes first now edits at all end h =
    subst (AreTunedOver cat budget nodes first edits) (append-nil all) (h.tuned [] (subst (λ (es : List TheEdit). AreTunedOver cat budget nodes now es []) (sym (drop_all edits at end)) refl))

-- one of them isn't
pub stops : (cat : Catalogue) (budget nodes : ℕ) (first now : List Statement) (edits : List TheEdit) (at line : ℕ) (all : List Tuned) (edit : TheEdit) (stop : Stop) → drop at edits ≡ edit ∷ drop (at + 1) edits → line ≡ at + 1 →
    IsHalfway cat budget nodes first now edits at all → StopsAt (OnLine line (IsEditFault cat now edit)) stop → StopsAt (OfEdit (IsFirstFault cat first 1 edits)) stop
stops cat budget nodes first now edits at line all edit Memory front place h why = tt
stops cat budget nodes first now edits at line all edit (Failed role) front place h why = absurd why
stops cat budget nodes first now edits at line all edit (Refused (Edit told fault)) front place h why =
    h.fault told fault (subst (λ (es : List TheEdit). IsFirstFault cat now (at + 1) es told fault) (sym front) (inl (why.0 ∙ place, why.1)))
stops cat budget nodes first now edits at line all edit (Refused r) front place h why = absurd why

-- each has a cost within its limit
pub each_bounded : (cat : Catalogue) (all : List Tuned) → All (FitsCatalogue cat) all → EachAdvice (λ advice. advice.answer.cost < MOST_TOTAL) (map (λ (each : Tuned). each.advice) all)
each_bounded cat [] h = tt
each_bounded cat (one ∷ []) h = (All-head (FitsCatalogue cat) one [] h).bounded.small
each_bounded cat (one ∷ other ∷ more) h =
    ((All-head (FitsCatalogue cat) one (other ∷ more) h).bounded.small, each_bounded cat (other ∷ more) (All-tail (FitsCatalogue cat) one (other ∷ more) h))

-- the last of a list that has one is that one
pub alone : {X : Type 0} (xs ys : List X) (x : X) → length ys ≡ 1 → ys ≡ xs ++ x ∷ [] → ys ≡ x ∷ []
alone [] ys x count e = e
alone (y ∷ front) ys x count e = absurd (omega (arith, count, ap length e, length-append (y ∷ front) (x ∷ [])))

-- ## Refusals of a session

pub added_stop : (cat : Catalogue) (session : TheSession) (weight : ℕ) (sql : List ℕ) (line : ℕ) (statement : Statement) (fault : RetuneFault) (stop : Stop) → session.cat ≡ cat → IsAddition cat weight sql statement →
    steps.IsAddFault session statement fault → IsStepStop line fault stop → StopsAt (OnLine line (IsAdditionFault cat session.statements weight sql)) stop
added_stop cat session weight sql line statement faults.Memory stop same addition why is = subst (StopsAt (OnLine line (IsAdditionFault cat session.statements weight sql))) (sym is) tt
added_stop cat session weight sql line statement faults.TooManyStatements stop same addition why is =
    subst (StopsAt (OnLine line (IsAdditionFault cat session.statements weight sql))) (sym is) (refl, record { statement = statement; addition = addition; room = why })
added_stop cat session weight sql line statement faults.TooManySlots stop same addition why is =
    subst (StopsAt (OnLine line (IsAdditionFault cat session.statements weight sql))) (sym is) (refl, record { statement = statement; addition = addition; room = why.0; slots = why.1 })
added_stop cat session weight sql line statement (faults.TooManyCombinations n count) stop same addition why is =
    subst (StopsAt (OnLine line (IsAdditionFault cat session.statements weight sql))) (sym is)
    (refl, record { statement = statement; addition = addition; room = why.0; slots = why.1; number_is = why.2; beyond = subst (λ (k : Catalogue). IsBeyond k statement count) same why.3 })
added_stop cat session weight sql line statement (faults.NoStatement n) stop same addition why is = absurd why

-- ## Results

pub no_fault : {A E : Type 0} {r : Result A E} {x : A} {e : E} → r ≡ Ok x → r ≡ Err e → ⊥
no_fault {x = x} {e = e} a b = let both : Ok x ≡ Err e = sym a ∙ b in cc

-- ## Lengths

pub single_of : {X : Type 0} (xs : List X) → length xs ≡ 1 → (x : X) × (xs ≡ x ∷ [])
single_of [] e = absurd (omega (arith, e))
single_of (x ∷ []) e = (x, refl)
single_of (x ∷ y ∷ more) e = absurd (omega (arith, e))

-- an edit of a text that a file holds is short
short_edit : (edit : TheEdit) (rest : List ℕ) → length (edit_text edit ++ 10 ∷ rest) ≤ MOST_FILE_BYTES → IsShort edit
short_edit (Add weight sql) rest most =
    let whole = length-append (edit_text (Add weight sql)) (10 ∷ rest) in
    let words = length-append (codes "add ") (decimal weight ++ 32 ∷ sql) in
    let number = length-append (decimal weight) (32 ∷ sql) in
    omega (arith, most, whole, words, number)
short_edit (Remove number) rest most = tt
short_edit (Weigh number weight) rest most = tt
short_edit Advise rest most = tt

pub short_edits : (edits : List TheEdit) → length (script_text edits) ≤ MOST_FILE_BYTES → All IsShort edits
short_edits [] most = All-nil IsShort
short_edits (edit ∷ edits) most =
    let whole = length-append (edit_text edit) (10 ∷ script_text edits) in
    All-cons IsShort edit edits (short_edit edit (script_text edits) most) (short_edits edits (omega (arith, most, whole)))

pub ranges : (edits : List TheEdit) → All IsEdit edits → All IsInRange edits
ranges [] h = All-nil IsInRange
ranges (edit ∷ edits) h = All-cons IsInRange edit edits (All-head IsEdit edit edits h).range (ranges edits (All-tail IsEdit edit edits h))
