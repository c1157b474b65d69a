-- Parts of a programme to which candidates come.
use Rattle.std.proofs.Common.{◌≡◌, ℕ, suc, ◌-◌, ◌≤◌, List, [], ◌∷◌, ◌++◌, length, take, get_or, ◌∙◌, ◌+◌, All, refl, sym, ap, subst, arith}
use Rattle.std.specs.Prelude.{Option, Some, None, slice_get, option_to_list}
use Rattle.std.proofs.lemmas.List.{length-set}
use Rattle.adv_base.specs.declared.catalogue.index.IndexShape.{IndexShape}
use Rattle.adv_base.specs.declared.workload.Statement.{Statement}
use Rattle.adv_base.specs.Settings.{TheSetting}
use Rattle.bip_model.specs.declared.part.Part.{Part}
use Rattle.adv_base.specs.declared.workload.block.Block.{Block}
use Rattle.plan_model.specs.Totals.{block_of}
use Rattle.bip_model.specs.StandsFor.{AreEach, Blocked, IsPart, blocked_in, blocked_from, candidates_on}
use Rattle.bip_model.proofs.Lists.{each-length, each-map}
use Rattle.programme_parts.specs.Kept.{HasKept}
use Rattle.programme_parts.specs.Parts.{ArePartsBelow}
use Rattle.programme_parts.proofs.Statements.{next-blocked}
use Rattle.retune.specs.inner.Renewing.{IsWhole, IsOwnPart, IsPartAt, IsRenewedAt, IsRenewedBy, put_one, put_over}
use Rattle.retune.proofs.Untouched.{grown, part-apart}

-- ## Two things of each part, and both

pub each-both : {A B : Type 0} (P Q R : A → B → Type 0) → ((x : A) (y : B) → P x y → Q x y → R x y) → (xs : List A) (ys : List B) → AreEach P xs ys → AreEach Q xs ys → AreEach R xs ys
each-both P Q R both [] [] p q = tt
each-both P Q R both [] (y ∷ ys) p q = absurd p
each-both P Q R both (x ∷ xs) [] p q = absurd p
each-both P Q R both (x ∷ xs) (y ∷ ys) p q = (both x y p.0 q.0, each-both P Q R both xs ys p.1 q.1)

-- ## Parts that are put over others

-- what stands behind them stays
pub put-over-front : (renewed : List (Option Part)) (parts more : List Part) → length renewed ≤ length parts → put_over renewed (parts ++ more) ≡ put_over renewed parts ++ more
put-over-front [] parts more few = refl
put-over-front (own ∷ renewed) [] more few = absurd (omega (arith, few))
put-over-front (Some part ∷ renewed) (old ∷ parts) more few = ap (λ (rest : List Part). part ∷ rest) (put-over-front renewed parts more (omega (arith, few)))
put-over-front (None ∷ renewed) (old ∷ parts) more few = ap (λ (rest : List Part). old ∷ rest) (put-over-front renewed parts more (omega (arith, few)))

-- where the others have nothing new on their tables, all are the parts of the setting that grew
pub put-over-whole : (setting : TheSetting) (statements : List Statement) (fresh : List IndexShape) (list : List Blocked) (renewed : List (Option Part)) (parts : List Part) →
    AreEach (IsRenewedAt (grown setting statements fresh) fresh) list renewed → AreEach (IsWhole setting) list parts → AreEach (IsWhole (grown setting statements fresh)) list (put_over renewed parts)
put-over-whole setting statements fresh [] [] [] anew old = tt
put-over-whole setting statements fresh [] [] (part ∷ parts) anew old = absurd old
put-over-whole setting statements fresh [] (own ∷ renewed) parts anew old = absurd anew
put-over-whole setting statements fresh (b ∷ list) [] parts anew old = absurd anew
put-over-whole setting statements fresh (b ∷ list) (own ∷ renewed) [] anew old = absurd old
put-over-whole setting statements fresh (b ∷ list) (Some part ∷ renewed) (before ∷ parts) anew old =
    (anew.0, put-over-whole setting statements fresh list renewed parts anew.1 old.1)
put-over-whole setting statements fresh (b ∷ list) (None ∷ renewed) (before ∷ parts) anew old =
    (record { is = part-apart setting statements fresh b before anew.0 old.0.is; kept = old.0.kept }, put-over-whole setting statements fresh list renewed parts anew.1 old.1)

-- ## One part after the other, from the last

one-behind : (own : Option Part) (at : ℕ) (first : Part) (parts : List Part) → put_one own (suc at) (first ∷ parts) ≡ first ∷ put_one own at parts
one-behind None at first parts = refl
one-behind (Some part) at first parts = refl

one-nowhere : (own : Option Part) (at : ℕ) → put_one own at [] ≡ []
one-nowhere None at = refl
one-nowhere (Some part) at = refl

pub put-over-last : (renewed : List (Option Part)) (own : Option Part) (parts : List Part) → put_over (renewed ++ own ∷ []) parts ≡ put_over renewed (put_one own (length renewed) parts)
put-over-last [] None [] = refl
put-over-last [] (Some part) [] = refl
put-over-last [] None (old ∷ parts) = refl
put-over-last [] (Some part) (old ∷ parts) = refl
put-over-last (Some first ∷ renewed) own [] = sym (ap (put_over (Some first ∷ renewed)) (one-nowhere own (suc (length renewed))))
put-over-last (None ∷ renewed) own [] = sym (ap (put_over (None ∷ renewed)) (one-nowhere own (suc (length renewed))))
put-over-last (Some first ∷ renewed) own (old ∷ parts) =
    ap (λ (rest : List Part). first ∷ rest) (put-over-last renewed own parts)
    ∙ sym (ap (put_over (Some first ∷ renewed)) (one-behind own (length renewed) old parts))
put-over-last (None ∷ renewed) own (old ∷ parts) =
    ap (λ (rest : List Part). old ∷ rest) (put-over-last renewed own parts)
    ∙ sym (ap (put_over (None ∷ renewed)) (one-behind own (length renewed) old parts))

pub one-length : (own : Option Part) (at : ℕ) (parts : List Part) → length (put_one own at parts) ≡ length parts
one-length None at parts = refl
one-length (Some part) at parts = length-set parts at part

-- ## The whole

-- nothing comes to any table
all-apart : (setting : TheSetting) (statements : List Statement) (list : List Blocked) (parts : List Part) → AreEach (IsWhole setting) list parts → AreEach (IsWhole (grown setting statements [])) list parts
all-apart setting statements list parts whole =
    each-map (IsWhole setting) (IsWhole (grown setting statements []))
    (λ b part own. record { is = part-apart setting statements [] b part (λ k d within. refl) own.is; kept = own.kept }) list parts whole

pub put-over-by : (setting : TheSetting) (statements : List Statement) (fresh : List IndexShape) (k : ℕ) (renewed : List (Option Part)) (parts : List Part) →
    IsRenewedBy (grown setting statements fresh) fresh k renewed → AreEach (IsWhole setting) (blocked_from 1 (take k statements)) parts →
    AreEach (IsWhole (grown setting statements fresh)) (blocked_from 1 (take k statements)) (put_over renewed parts)
put-over-by setting statements [] k renewed parts anew old =
    subst (λ (r : List (Option Part)). AreEach (IsWhole (grown setting statements [])) (blocked_from 1 (take k statements)) (put_over r parts)) (sym anew)
    (all-apart setting statements (blocked_from 1 (take k statements)) parts old)
put-over-by setting statements (shape ∷ fresh) k renewed parts anew old =
    put-over-whole setting statements (shape ∷ fresh) (blocked_from 1 (take k statements)) renewed parts anew old

-- no more are made anew than there are
pub renewed-few : (setting : TheSetting) (statements : List Statement) (fresh : List IndexShape) (k : ℕ) (renewed : List (Option Part)) (parts : List Part) →
    IsRenewedBy (grown setting statements fresh) fresh k renewed → AreEach (IsWhole setting) (blocked_from 1 (take k statements)) parts → length renewed ≤ length parts
renewed-few setting statements [] k renewed parts anew old = omega (arith, ap length anew)
renewed-few setting statements (shape ∷ fresh) k renewed parts anew old =
    let list : List Blocked = blocked_from 1 (take k statements) in
    omega (arith, each-length (IsRenewedAt (grown setting statements (shape ∷ fresh)) (shape ∷ fresh)) list renewed anew, each-length (IsWhole setting) list parts old)

each-append : {A B : Type 0} (P : A → B → Type 0) (xs more : List A) (ys others : List B) → AreEach P xs ys → AreEach P more others → AreEach P (xs ++ more) (ys ++ others)
each-append P [] more [] others are rest = rest
each-append P [] more (y ∷ ys) others are rest = absurd are
each-append P (x ∷ xs) more [] others are rest = absurd are
each-append P (x ∷ xs) more (y ∷ ys) others are rest = (are.0, each-append P xs more ys others are.1 rest)

own-list : (setting : TheSetting) (at weight : ℕ) (there : Option Block) (own : Option Part) → IsOwnPart setting at weight there own → AreEach (IsWhole setting) (blocked_in (at + 1) weight there []) (option_to_list own)
own-list setting at weight None None is = tt
own-list setting at weight None (Some part) is = absurd is
own-list setting at weight (Some block) None is = absurd is
own-list setting at weight (Some block) (Some part) is = (is, tt)

-- the part of the next statement behind those before it
pub with-next : (setting : TheSetting) (at : ℕ) (own : Option Part) (parts : List Part) → IsPartAt setting at own → AreEach (IsWhole setting) (blocked_from 1 (take at setting.statements)) parts →
    AreEach (IsWhole setting) (blocked_from 1 (take (at + 1) setting.statements)) (parts ++ option_to_list own)
with-next setting at own parts is before =
    subst (λ (bs : List Blocked). AreEach (IsWhole setting) bs (parts ++ option_to_list own)) (sym (next-blocked setting.statements at is.statement is.found))
    (each-append (IsWhole setting) (blocked_from 1 (take at setting.statements)) (blocked_in (at + 1) is.statement.weight (block_of is.statement.work) []) parts (option_to_list own) before
    (own-list setting at is.statement.weight (block_of is.statement.work) own is.is))
