-- Lists whose elements belong together, pair by pair.
use Rattle.std.proofs.Common.{◌≡◌, ◌∙◌, ℕ, zero, suc, ◌+◌, ◌<◌, ◌≤◌, List, [], ◌∷◌, ◌++◌, length, length-take, get_or, map, take, refl, sym, ap, subst, arith}
use Rattle.std.specs.Prelude.{Some, slice_get}
use Rattle.std.proofs.lemmas.List.{take_more}
use Rattle.std.proofs.lemmas.Option.{same_Some, none-some}
use Rattle.adv_base.specs.declared.setting.Config.{Config}
use Rattle.adv_base.specs.declared.workload.Work.{Work}
use Rattle.adv_base.specs.declared.workload.Work.TheVariants.{Select, Update, Delete, Insert}
use Rattle.adv_base.specs.Settings.{TheSetting}
use Rattle.bip_model.specs.StandsFor.{AreEach}
use Rattle.plan_model.specs.Lagrangian.{IsRentedPlan}
use Rattle.plan_model.specs.Totals.{IsPlanCost}
use Rattle.plan_model.proofs.Unique.{unrented-plain}

-- the pair of a number
pub each-at : {A B : Type 0} (P : A → B → Type 0) (xs : List A) (ys : List B) (i : ℕ) (x : A) (y : B) → AreEach P xs ys → slice_get xs i ≡ Some x → slice_get ys i ≡ Some y → P x y
each-at P [] [] i x y are there here = absurd (none-some x there)
each-at P [] (b ∷ ys) i x y are there here = absurd are
each-at P (a ∷ xs) [] i x y are there here = absurd are
each-at P (a ∷ xs) (b ∷ ys) zero x y are there here = subst (P x) (same_Some b y here) (subst (λ z. P z b) (same_Some a x there) are.0)
each-at P (a ∷ xs) (b ∷ ys) (suc i) x y are there here = each-at P xs ys i x y are.1 there here

-- a front with the element behind it
pub take-next : {X : Type 0} (xs : List X) (i : ℕ) (x : X) → i < length xs → x ≡ get_or xs i x → take (i + 1) xs ≡ take i xs ++ x ∷ []
take-next xs i x within is = take_more xs i x within ∙ ap (λ (y : _). take i xs ++ y ∷ []) (sym is)

-- an element of a number, where there is one
pub record IsAt {X : Type 0} (xs : List X) (i : ℕ) : Type 0 where
  pub item : X
  pub found : slice_get xs i ≡ Some item

pub some-at : {X : Type 0} (xs : List X) (i : ℕ) → i < length xs → IsAt xs i
some-at [] i within = absurd (omega (arith, within))
some-at (x ∷ xs) zero within = record { item = x; found = refl }
some-at (x ∷ xs) (suc i) within = let rest = some-at xs i (omega (arith, within)) in record { item = rest.item; found = rest.found }

take-suc-at : {X : Type 0} (xs : List X) (i : ℕ) (x : X) → slice_get xs i ≡ Some x → take (suc i) xs ≡ take i xs ++ x ∷ []
take-suc-at [] i x there = absurd (none-some x there)
take-suc-at (y ∷ xs) zero x there = ap (λ (z : _). z ∷ []) (same_Some y x there)
take-suc-at (y ∷ xs) (suc i) x there = ap (λ (zs : List _). y ∷ zs) (take-suc-at xs i x there)

-- a front with that element behind it
pub take-at : {X : Type 0} (xs : List X) (i : ℕ) (x : X) → slice_get xs i ≡ Some x → take (i + 1) xs ≡ take i xs ++ x ∷ []
take-at xs i x there = let next : i + 1 ≡ suc i = omega arith in rw next (take-suc-at xs i x there)

pub length-front : {X : Type 0} (xs : List X) (i : ℕ) → i ≤ length xs → length (take i xs) ≡ i
length-front xs i within = simp length-take (omega (arith, within))

-- what a map gives at a number
pub map-at : {X : Type 0} (f : X → ℕ) (xs : List X) (i : ℕ) (x : X) → slice_get xs i ≡ Some x → get_or (map f xs) i 0 ≡ f x
map-at f [] i x there = absurd (none-some x there)
map-at f (y ∷ xs) zero x there = ap f (same_Some y x there)
map-at f (y ∷ xs) (suc i) x there = map-at f xs i x there

-- a front as long as the list
pub take-whole : {X : Type 0} (xs : List X) (i : ℕ) → length xs ≤ i → take i xs ≡ xs
take-whole [] zero end = refl
take-whole [] (suc i) end = refl
take-whole (x ∷ xs) zero end = absurd (omega (arith, end))
take-whole (x ∷ xs) (suc i) end = ap (λ (ys : List _). x ∷ ys) (take-whole xs i (omega (arith, end)))

-- a least plan without rents is one of the block
pub unrented-plan : (setting : TheSetting) (config : Config) (work : Work) (cost : ℕ) → IsRentedPlan setting config (λ s a. 0) work cost → IsPlanCost setting.cat setting.shapes config work cost
unrented-plan setting config (Select block) cost is = (unrented-plain setting config block cost).0 is
unrented-plan setting config (Update block columns) cost is = (unrented-plain setting config block cost).0 is
unrented-plan setting config (Delete block) cost is = (unrented-plain setting config block cost).0 is
unrented-plan setting config (Insert table rows) cost is = is
