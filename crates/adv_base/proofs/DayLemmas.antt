-- Days of the calendar as `jiff` has them.
use Rattle.std.proofs.Common.{◌≡◌, ℕ, ◌<◌, ◌≤◌, sym, subst, ℤ, pos, to_z, w8, w16, arith}
use Rattle.std.specs.Prelude.{Some, None}
use Rattle.std.proofs.lemmas.Grind.{common_steps}
use Rattle.std.proofs.lemmas.Int.{ints}
use Rattle.jiff_core.specs.Calendar.{IsDate, days_from_civil}
use Rattle.adv_base.specs.Days.{calendar_day}

-- a day of the calendar has its number
calendar_day-is : (y m d : ℕ) → IsDate (pos y) (pos m) (pos d) → calendar_day y m d ≡ Some (days_from_civil (pos y) m d)
unfolding calendar_day
calendar_day-is y m d h = grind (arith, common_steps)

-- no other day has one
calendar_day-none : (y m d : ℕ) → y ≤ 9999 → (IsDate (pos y) (pos m) (pos d) → ⊥) → calendar_day y m d ≡ None
unfolding calendar_day
calendar_day-none y m d small h = grind (arith, common_steps)

-- a date by other names of its numbers
moved : (a b c x y z : ℤ) → a ≡ x → b ≡ y → c ≡ z → IsDate a b c → IsDate x y z
moved a b c x y z p q r h = subst (λ (k : ℤ). IsDate x y k) r (subst (λ (k : ℤ). IsDate x k c) q (subst (λ (k : ℤ). IsDate k b c) p h))

-- the same with the numbers cast to the signed types of `jiff`, for the date that it makes
pub cast_day-is : (y m d : ℕ) (z : ℤ) (month day : ℕ) → y ≤ 9999 → m < 100 → d < 100 → IsDate (to_z w16 y) (to_z w8 m) (to_z w8 d)
    → z ≡ to_z w16 y → pos month ≡ to_z w8 m → pos day ≡ to_z w8 d → Some (days_from_civil z month day) ≡ calendar_day y m d
cast_day-is y m d z month day ys ms ds h zi mi di =
    let ye : to_z w16 y ≡ pos y = omega (arith, ints) in
    let me : to_z w8 m ≡ pos m = omega (arith, ints) in
    let de : to_z w8 d ≡ pos d = omega (arith, ints) in
    let date : IsDate (pos y) (pos m) (pos d) = moved _ _ _ _ _ _ ye me de h in
    let zn : z ≡ pos y = cc in
    let mn : month ≡ m = omega (arith, ints) in
    let dn : day ≡ d = omega (arith, ints) in
    rw (calendar_day-is y m d date, zn, mn, dn)

pub cast_day-none : (y m d : ℕ) → y ≤ 9999 → m < 100 → d < 100 → (IsDate (to_z w16 y) (to_z w8 m) (to_z w8 d) → ⊥) → None ≡ calendar_day y m d
cast_day-none y m d ys ms ds h =
    let ye : to_z w16 y ≡ pos y = omega (arith, ints) in
    let me : to_z w8 m ≡ pos m = omega (arith, ints) in
    let de : to_z w8 d ≡ pos d = omega (arith, ints) in
    let no : IsDate (pos y) (pos m) (pos d) → ⊥ = λ date. h (moved _ _ _ _ _ _ (sym ye) (sym me) (sym de) date) in
    rw (calendar_day-none y m d ys no)
