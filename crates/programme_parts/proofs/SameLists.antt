-- When lists are the same: element by element, or by what stands in them where both are in one strict order.
use Rattle.std.proofs.Common.{◌≡◌, ℕ, zero, suc, ◌<◌, List, [], ◌∷◌, length, Some, refl, sym, subst, arith}
use Rattle.std.specs.Prelude.{slice_get}
use Rattle.bip_model.specs.StandsFor.{AreEach}

-- as many elements, and the same at each place
pub same-elements : {A : Type 0} (xs ys : List A) → length xs ≡ length ys → ((i : ℕ) (x y : A) → slice_get xs i ≡ Some x → slice_get ys i ≡ Some y → x ≡ y) → xs ≡ ys
same-elements [] [] count same = refl
same-elements [] (y ∷ ys) count same = absurd (omega (arith, count))
same-elements (x ∷ xs) [] count same = absurd (omega (arith, count))
same-elements (x ∷ xs) (y ∷ ys) count same =
    let head : x ≡ y = same 0 x y refl refl in
    let tail : xs ≡ ys = same-elements xs ys (omega (arith, count)) (λ i a b. same (suc i) a b) in
    cc

-- both belong to the elements of one list, each of which has one that belongs to it
pub same-each : {A B : Type 0} (P : A → B → Type 0) → ((x : A) (y z : B) → P x y → P x z → y ≡ z) → (xs : List A) (ys zs : List B) → AreEach P xs ys → AreEach P xs zs → ys ≡ zs
same-each P one [] [] [] a b = refl
same-each P one [] [] (z ∷ zs) a b = absurd b
same-each P one [] (y ∷ ys) zs a b = absurd a
same-each P one (x ∷ xs) [] zs a b = absurd a
same-each P one (x ∷ xs) (y ∷ ys) [] a b = absurd b
same-each P one (x ∷ xs) (y ∷ ys) (z ∷ zs) a b =
    let head : y ≡ z = one x y z a.0 b.0 in
    let tail : ys ≡ zs = same-each P one xs ys zs a.1 b.1 in
    cc

-- ## Lists in order

-- each element stands before all that follow
abbrev pub InOrder : {A : Type 0} → (A → A → Type 0) → List A → Type 0
InOrder {A} before xs = (i j : ℕ) (x y : A) → i < j → slice_get xs i ≡ Some x → slice_get xs j ≡ Some y → before x y

-- neither of two stands before the other, if the other stands before it
abbrev pub OneWay : {A : Type 0} → (A → A → Type 0) → Type 0
OneWay {A} before = (x y : A) → before x y → before y x → ⊥

abbrev pub StandsIn : {A : Type 0} → List A → A → Type 0
StandsIn xs x = (i : ℕ) × (slice_get xs i ≡ Some x)

first-same : {A : Type 0} (before : A → A → Type 0) → OneWay before → (x y : A) (xs ys : List A) → InOrder before (x ∷ xs) → InOrder before (y ∷ ys) →
    (i j : ℕ) → slice_get (y ∷ ys) i ≡ Some x → slice_get (x ∷ xs) j ≡ Some y → x ≡ y
first-same before way x y xs ys a b zero j e f = cc
first-same before way x y xs ys a b (suc i) zero e f = cc
first-same before way x y xs ys a b (suc i) (suc j) e f =
    absurd (way y x (b 0 (suc i) y x (omega arith) refl e) (a 0 (suc j) x y (omega arith) refl f))

-- what stands behind the first of one list stands behind the first of the other
behind : {A : Type 0} (before : A → A → Type 0) → OneWay before → (x y z : A) (xs ys : List A) → x ≡ y → InOrder before (x ∷ xs) →
    (k n : ℕ) → slice_get xs k ≡ Some z → slice_get (y ∷ ys) n ≡ Some z → StandsIn ys z
behind before way x y z xs ys same a k zero e f =
    let own : before x z = a 0 (suc k) x z (omega arith) refl e in
    let last : z ≡ x = cc in
    let itself : before x x = subst (before x) last own in
    absurd (way x x itself itself)
behind before way x y z xs ys same a k (suc n) e f = (n, f)

pub same-in-order : {A : Type 0} (before : A → A → Type 0) → OneWay before → (xs ys : List A) → InOrder before xs → InOrder before ys →
    ((x : A) → StandsIn xs x → StandsIn ys x) → ((y : A) → StandsIn ys y → StandsIn xs y) → xs ≡ ys
same-in-order before way [] [] a b there back = refl
same-in-order before way [] (y ∷ ys) a b there back = let found = (back y (0, refl)).1 in absurd (cc)
same-in-order before way (x ∷ xs) [] a b there back = let found = (there x (0, refl)).1 in absurd (cc)
same-in-order before way (x ∷ xs) (y ∷ ys) a b there back =
    let at = there x (0, refl) in
    let place = back y (0, refl) in
    let head : x ≡ y = first-same before way x y xs ys a b at.0 place.0 at.1 place.1 in
    let tail : xs ≡ ys = same-in-order before way xs ys
    (λ i j p q less. a (suc i) (suc j) p q (omega (arith, less)))
    (λ i j p q less. b (suc i) (suc j) p q (omega (arith, less)))
    (λ z stands. let other = there z (suc stands.0, stands.1) in behind before way x y z xs ys head a stands.0 other.0 stands.1 other.1)
    (λ z stands. let other = back z (suc stands.0, stands.1) in behind before way y x z ys xs (sym head) b stands.0 other.0 stands.1 other.1) in
    cc
