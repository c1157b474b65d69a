-- Laws of items: the tests of sameness decide it.
use Rattle.std.proofs.Common.{◌≡◌, ℕ, ◌==◌, true, not, ◌&&◌, List, [], ◌∷◌, length, Decides, refl, arith}
use Rattle.std.specs.List.{list_all}
use Rattle.std.proofs.lemmas.Bool.{false≢true}
use Rattle.std.proofs.lemmas.Bool.Decides.{Decides-and, Decides-eqb, Decides-like, nat_tests}
use Rattle.adv_base.specs.declared.workload.parts.Item.{Item}
use Rattle.adv_base.specs.declared.workload.parts.Item.TheVariants.{Up, Down, Made}
use Rattle.adv_base.specs.Items.{Order, is_same_item, is_same_order, is_up_of, is_own_list}

-- the test of items decides whether they are the same
pub is_same_item-decides : (x y : Item) → Decides (is_same_item x y) (x ≡ y)
is_same_item-decides (Up s c) (Up t d) =
    Decides-like ((s == t) && (c == d)) (λ (p : (s ≡ t) × (c ≡ d)). cc) (λ (e : Up s c ≡ Up t d). (cc, cc)) (Decides-and (s == t) (c == d) (Decides-eqb s t) (Decides-eqb c d))
is_same_item-decides (Up s c) (Down t d) = (λ h. absurd (false≢true h), λ e. cc)
is_same_item-decides (Up s c) (Made n) = (λ h. absurd (false≢true h), λ e. cc)
is_same_item-decides (Down s c) (Up t d) = (λ h. absurd (false≢true h), λ e. cc)
is_same_item-decides (Down s c) (Down t d) =
    Decides-like ((s == t) && (c == d)) (λ (p : (s ≡ t) × (c ≡ d)). cc) (λ (e : Down s c ≡ Down t d). (cc, cc)) (Decides-and (s == t) (c == d) (Decides-eqb s t) (Decides-eqb c d))
is_same_item-decides (Down s c) (Made n) = (λ h. absurd (false≢true h), λ e. cc)
is_same_item-decides (Made m) (Up t d) = (λ h. absurd (false≢true h), λ e. cc)
is_same_item-decides (Made m) (Down t d) = (λ h. absurd (false≢true h), λ e. cc)
is_same_item-decides (Made m) (Made n) =
    Decides-like (m == n) (λ (p : m ≡ n). cc) (λ (e : Made m ≡ Made n). cc) (Decides-eqb m n)

-- the test of orders decides whether they are the same
pub is_same_order-decides : (o r : Order) → Decides (is_same_order o r) (o ≡ r)
is_same_order-decides [] [] = (λ h. refl, λ e. refl)
is_same_order-decides [] (y ∷ ys) = (λ h. absurd (false≢true h), λ e. cc)
is_same_order-decides (x ∷ xs) [] = (λ h. absurd (false≢true h), λ e. cc)
is_same_order-decides (x ∷ xs) (y ∷ ys) =
    Decides-like (is_same_item x y && is_same_order xs ys) (λ (p : (x ≡ y) × (xs ≡ ys)). cc) (λ (e : (x ∷ xs) ≡ (y ∷ ys)). (cc, cc))
    (Decides-and (is_same_item x y) (is_same_order xs ys) (is_same_item-decides x y) (is_same_order-decides xs ys))

-- the same, one way at a time
pub same_item : (x y : Item) → is_same_item x y ≡ true → x ≡ y
same_item x y h = (is_same_item-decides x y).0 h

pub same_from : (x y : Item) → x ≡ y → is_same_item x y ≡ true
same_from x y e = (is_same_item-decides x y).1 e

pub item_same : (x : Item) → is_same_item x x ≡ true
item_same x = same_from x x refl

pub order_same : (o : Order) → is_same_order o o ≡ true
order_same o = (is_same_order-decides o o).1 refl

-- a list is a slot's own where it isn't empty and each item is an upward column of the slot
pub own_list_test : (slot : ℕ) (items : List Item) → is_own_list slot items ≡ (not (length items == 0) && list_all (is_up_of slot) items)
own_list_test slot [] = refl
own_list_test slot (x ∷ xs) = grind (arith, nat_tests)
