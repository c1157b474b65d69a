-- Desks of statements.
use Rattle.std.proofs.Common.{◌≡◌, ℕ, zero, suc, List, [], ◌∷◌, length, set, sym, subst}
use Rattle.std.specs.Prelude.{Option, Some, None, slice_get}
use Rattle.std.proofs.lemmas.Option.{same_Some, none-some}
use Rattle.adv_base.specs.declared.workload.Statement.{Statement}
use Rattle.adv_base.specs.Settings.{TheSetting}
use Rattle.bip_model.specs.StandsFor.{AreEach}
use Rattle.bip_model.proofs.Lists.{each-length}
use Rattle.gap_checker.specs.declared.part.Part.{Part}
use Rattle.gap_checker.specs.declared.desk.Desk.{Desk}
use Rattle.gap_checker.specs.inner.Parts.{IsPlanned, HasPart, IsDeskOf, HasDesk, AreDesks}
use Rattle.gap_checker.proofs.Lists.{each-at}

one-made : (setting : TheSetting) (statement : Statement) (part : Option Part) (desk : Option Desk) → HasPart setting statement part → IsDeskOf part desk → HasDesk setting statement desk
one-made setting statement None None has is = has
one-made setting statement None (Some desk) has is = absurd is
one-made setting statement (Some part) None has is = absurd is
one-made setting statement (Some part) (Some desk) has is = subst (IsPlanned setting statement) (sym is) has

all-made : (setting : TheSetting) (statements : List Statement) (parts : List (Option Part)) (desks : List (Option Desk)) → AreEach (HasPart setting) statements parts → AreEach IsDeskOf parts desks → AreEach (HasDesk setting) statements desks
all-made setting [] [] [] have are = tt
all-made setting [] [] (d ∷ desks) have are = absurd are
all-made setting [] (p ∷ parts) desks have are = absurd have
all-made setting (s ∷ statements) [] desks have are = absurd have
all-made setting (s ∷ statements) (p ∷ parts) [] have are = absurd are
all-made setting (s ∷ statements) (p ∷ parts) (d ∷ desks) have are = (one-made setting s p d have.0 are.0, all-made setting statements parts desks have.1 are.1)

-- the desks of parts are those of their statements
pub desks-made : (setting : TheSetting) (parts : List (Option Part)) (desks : List (Option Desk)) → AreEach (HasPart setting) setting.statements parts → AreEach IsDeskOf parts desks → AreDesks setting desks
desks-made setting parts desks have are = all-made setting setting.statements parts desks have are

pub desks-count : (setting : TheSetting) (desks : List (Option Desk)) → AreDesks setting desks → length desks ≡ length setting.statements
desks-count setting desks are = each-length (HasDesk setting) setting.statements desks are

-- the desk of a number
pub desk-at : (setting : TheSetting) (desks : List (Option Desk)) (i : ℕ) (statement : Statement) (desk : Option Desk) → AreDesks setting desks → slice_get setting.statements i ≡ Some statement → slice_get desks i ≡ Some desk → HasDesk setting statement desk
desk-at setting desks i statement desk are there here = each-at (HasDesk setting) setting.statements desks i statement desk are there here

pub each-set : {A B : Type 0} (P : A → B → Type 0) (xs : List A) (ys : List B) (i : ℕ) (x : A) (y : B) → AreEach P xs ys → slice_get xs i ≡ Some x → P x y → AreEach P xs (set ys i y)
each-set P [] ys i x y are there one = absurd (none-some x there)
each-set P (a ∷ xs) [] i x y are there one = absurd are
each-set P (a ∷ xs) (b ∷ ys) zero x y are there one = (subst (λ z. P z y) (sym (same_Some a x there)) one, are.1)
each-set P (a ∷ xs) (b ∷ ys) (suc i) x y are there one = (are.0, each-set P xs ys i x y are.1 there one)

-- and another in its place
pub desks-set : (setting : TheSetting) (desks : List (Option Desk)) (i : ℕ) (statement : Statement) (desk : Option Desk) → AreDesks setting desks → slice_get setting.statements i ≡ Some statement → HasDesk setting statement desk → AreDesks setting (set desks i desk)
desks-set setting desks i statement desk are there one = each-set (HasDesk setting) setting.statements desks i statement desk are there one
