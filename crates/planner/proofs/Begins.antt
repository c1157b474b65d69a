-- Laws of what orders begin with, and of fronts.
use Rattle.std.proofs.Common.{◌≡◌, ℕ, ◌<◌, Bool, true, false, cond, [], ◌∷◌, Option, Some, None, refl, sym, ap, subst, arith}
use Rattle.adv_base.specs.declared.workload.parts.Item.{Item}
use Rattle.adv_base.specs.Items.{Order, BeginsWith, is_same_item}
use Rattle.adv_base.proofs.Begins.{begins_nil, begins_self, begins_trans}
use Rattle.adv_base.proofs.ItemLaws.{same_item, same_from}
use Rattle.planner.specs.Fronts.{first_item, longer_front}

-- what begins with one item has it in front
pub begins_one : (o : Order) (y : Item) → BeginsWith o (y ∷ []) → first_item o ≡ Some y
begins_one [] y h = cc
begins_one (x ∷ xs) y h = let e : x ∷ [] ≡ y ∷ [] = h in cc

pub one_begins : (o : Order) (y : Item) → first_item o ≡ Some y → BeginsWith o (y ∷ [])
one_begins [] y h = cc
one_begins (x ∷ xs) y h = let e : x ≡ y = cc in ap (λ z. z ∷ []) e

-- what begins with an order has its first item
pub begins_first : (o f : Order) (y : Item) → first_item f ≡ Some y → BeginsWith o f → first_item o ≡ Some y
begins_first o f y e h = begins_one o y (begins_trans o f (y ∷ []) h (one_begins f y e))

-- an order asks for one item at most
abbrev pub IsShort : Order → Type 0
IsShort [] = Unit {0}
IsShort (y ∷ []) = Unit {0}
IsShort (y ∷ z ∷ rest) = ⊥

pub short_from_first : (n : Order) (y : Item) → IsShort n → first_item n ≡ Some y → n ≡ y ∷ []
short_from_first [] y s e = cc
short_from_first (x ∷ []) y s e = let h : x ≡ y = cc in ap (λ z. z ∷ []) h
short_from_first (x ∷ z ∷ rest) y s e = absurd s

pub nil_from_first : (n : Order) → first_item n ≡ None → n ≡ []
nil_from_first [] e = refl
nil_from_first (x ∷ xs) e = cc

longer_cases : (order : ℕ → Order) (o : Order) (x f : ℕ) (n m : Option Item) → first_item (order x) ≡ n → first_item (order f) ≡ m → BeginsWith o (order x) → BeginsWith o (order f) → (g : ℕ) × (longer_front n m x f ≡ Some g) × BeginsWith o (order g)
longer_cases order o x f None m ex ef ox of' = (f, refl, of')
longer_cases order o x f (Some y) None ex ef ox of' = (x, refl, ox)
longer_cases order o x f (Some y) (Some z) ex ef ox of' =
    let a = begins_first o (order x) y ex ox in
    let b = begins_first o (order f) z ef of' in
    let e : y ≡ z = cc in
    (f, ap (λ t. cond t (Some f) None) (same_from y z e), of')

-- an order that begins as x and f ask begins as the longer of them asks
pub longer_serves : (order : ℕ → Order) (o : Order) (x f : ℕ) → BeginsWith o (order x) → BeginsWith o (order f) → (g : ℕ) × (longer_front (first_item (order x)) (first_item (order f)) x f ≡ Some g) × BeginsWith o (order g)
longer_serves order o x f ox of' =
    longer_cases order o x f (first_item (order x)) (first_item (order f)) refl refl ox of'

longer_asks_both : (order : ℕ → Order) (x f g : ℕ) (y z : Item) (b : Bool) → is_same_item y z ≡ b → first_item (order x) ≡ Some y → first_item (order f) ≡ Some z → IsShort (order x) → cond b (Some f) None ≡ Some g → BeginsWith (order g) (order x) × BeginsWith (order g) (order f)
longer_asks_both order x f g y z true same ex ef short e =
    let here : f ≡ g = cc in
    let items : y ≡ z = same_item y z same in
    let one = short_from_first (order x) y short ex in
    let first : first_item (order f) ≡ Some y = cc in
    let begins = one_begins (order f) y first in
    (subst (λ t. BeginsWith (order t) (order x)) here (subst (λ t. BeginsWith (order f) t) (sym one) begins), subst (λ t. BeginsWith (order t) (order f)) here (begins_self (order f)))
longer_asks_both order x f g y z false same ex ef short e = cc

longer_asks_cases : (order : ℕ → Order) (x f g : ℕ) (n m : Option Item) → first_item (order x) ≡ n → first_item (order f) ≡ m → IsShort (order x) → longer_front n m x f ≡ Some g → BeginsWith (order g) (order x) × BeginsWith (order g) (order f)
longer_asks_cases order x f g None m ex ef short e =
    let same : f ≡ g = cc in
    let nil = nil_from_first (order x) ex in
    (subst (λ t. BeginsWith (order g) t) (sym nil) (begins_nil (order g)), subst (λ t. BeginsWith (order t) (order f)) same (begins_self (order f)))
longer_asks_cases order x f g (Some y) None ex ef short e =
    let same : x ≡ g = cc in
    let nil = nil_from_first (order f) ef in
    (subst (λ t. BeginsWith (order t) (order x)) same (begins_self (order x)), subst (λ t. BeginsWith (order g) t) (sym nil) (begins_nil (order g)))
longer_asks_cases order x f g (Some y) (Some z) ex ef short e =
    longer_asks_both order x f g y z (is_same_item y z) refl ex ef short e

-- and the longer one asks for both
pub longer_asks : (order : ℕ → Order) (x f g : ℕ) → IsShort (order x) → longer_front (first_item (order x)) (first_item (order f)) x f ≡ Some g → BeginsWith (order g) (order x) × BeginsWith (order g) (order f)
longer_asks order x f g short e = longer_asks_cases order x f g (first_item (order x)) (first_item (order f)) refl refl short e

longer_in_both : (n f g : ℕ) (b : Bool) → f < n → cond b (Some f) None ≡ Some g → g < n
longer_in_both n f g true hf e = let s : f ≡ g = cc in omega arith
longer_in_both n f g false hf e = cc

longer_in_cases : (n x f g : ℕ) (a b : Option Item) → x < n → f < n → longer_front a b x f ≡ Some g → g < n
longer_in_cases n x f g None b hx hf e = let s : f ≡ g = cc in omega arith
longer_in_cases n x f g (Some y) None hx hf e = let s : x ≡ g = cc in omega arith
longer_in_cases n x f g (Some y) (Some z) hx hf e = longer_in_both n f g (is_same_item y z) hf e

-- and is one of them
pub longer_in : (n x f g : ℕ) (a b : Option Item) → x < n → f < n → longer_front a b x f ≡ Some g → g < n
longer_in n x f g a b hx hf e = longer_in_cases n x f g a b hx hf e
