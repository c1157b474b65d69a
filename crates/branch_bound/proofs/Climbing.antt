-- Steps from a configuration to one with a candidate more or less.
use Rattle.std.proofs.Common.{◌≡◌, ◌∙◌, ◌≢◌, ◌⊎◌, inl, inr, ℕ, zero, suc, ◌+◌, ◌<◌, ◌≤◌, Bool, true, false, cond, List, [], ◌∷◌, length, get_or, take, sum, refl, sym, ap, subst, arith, get_or-set_other}
use Rattle.std.specs.Prelude.{Option, Some, None, nat_lt, count_by}
use Rattle.std.proofs.Math.ListN.{set}
use Rattle.std.proofs.Math.Seq.{take-set-lt}
use Rattle.std.proofs.lemmas.Bool.{cases_lt, false≢true, not-true, and_parts}
use Rattle.std.proofs.lemmas.Bool.Decides.{nat_tests}
use Rattle.std.proofs.lemmas.List.{length-take, get_or_past}
use Rattle.std.proofs.lemmas.List.Sums.{count_by-le-length, sum_by-cons}
use Rattle.adv_base.specs.declared.catalogue.index.IndexShape.{IndexShape}
use Rattle.adv_base.specs.declared.setting.Config.{Config}
use Rattle.adv_base.specs.Configs.{has_candidate, chosen}
use Rattle.adv_base.proofs.Clashing.{fewer-apart}
use Rattle.plan_model.proofs.Renting.{flag-of}
use Rattle.bip_model.specs.declared.fix.Fix.{Fix}
use Rattle.bip_model.specs.declared.fix.State.{State}
use Rattle.bip_model.specs.declared.fix.State.TheVariants.{Free, In, Out}
use Rattle.bip_model.specs.declared.programme.Programme.{Programme}
use Rattle.bip_model.specs.Values.{value}
use Rattle.bip_model.specs.Views.{state_at}
use Rattle.branch_bound.specs.declared.climb.Costed.{Costed}
use Rattle.branch_bound.specs.Sides.{is_free_state}
use Rattle.branch_bound.specs.inner.Climbs.{flag_at, changed, agrees, ObeysBelow, IsFitting, IsSound, IsSoundHere, GainsNothing, IsTopBelow, height, IsLower, IsTrial, IsRemoved, IsAdded}

pub free-is : (state : State) → is_free_state state ≡ true → state ≡ Free
free-is Free free = refl
free-is In free = absurd (false≢true free)
free-is Out free = absurd (false≢true free)

-- ## One flag off

sum-more : (x : ℕ) (xs : List ℕ) → sum (x ∷ xs) ≡ x + sum xs
sum-more x xs = sum_by-cons (λ (n : ℕ). n) x xs

past : (a b x : ℕ) → b ≡ x + a → a ≤ b
past a b x is = omega (arith, is)

both : (a b x fewer more : ℕ) → a ≡ x + fewer → b ≡ x + more → fewer ≤ more → a ≤ b
both a b x fewer more first second less = omega (arith, first, second, less)

pub pages-off : (flags : List Bool) (xs : List ℕ) (i : ℕ) → sum (chosen (set flags i false) xs) ≤ sum (chosen flags xs)
pages-off [] xs i = omega arith
pages-off (flag ∷ flags) [] zero = omega arith
pages-off (flag ∷ flags) [] (suc i) = omega arith
pages-off (true ∷ flags) (x ∷ xs) zero = past (sum (chosen flags xs)) (sum (x ∷ chosen flags xs)) x (sum-more x (chosen flags xs))
pages-off (false ∷ flags) (x ∷ xs) zero = omega arith
pages-off (true ∷ flags) (x ∷ xs) (suc i) =
    both (sum (x ∷ chosen (set flags i false) xs)) (sum (x ∷ chosen flags xs)) x (sum (chosen (set flags i false) xs)) (sum (chosen flags xs)) (sum-more x (chosen (set flags i false) xs))
    (sum-more x (chosen flags xs)) (pages-off flags xs i)
pages-off (false ∷ flags) (x ∷ xs) (suc i) = pages-off flags xs i

was-on : (flags : List Bool) (i j : ℕ) → get_or (set flags i false) j false ≡ true → get_or flags j false ≡ true
was-on [] i j on = on
was-on (flag ∷ flags) zero zero on = absurd (false≢true on)
was-on (flag ∷ flags) zero (suc j) on = on
was-on (flag ∷ flags) (suc i) zero on = on
was-on (flag ∷ flags) (suc i) (suc j) on = was-on flags i j on

-- what fits does without a candidate
fits-off : (programme : Programme) (shapes : List IndexShape) (budget : ℕ) (config : Config) (i : ℕ) → IsFitting programme shapes budget config → IsFitting programme shapes budget (changed config i false)
fits-off programme shapes budget config i fits =
    record {
      space = let fewer = pages-off config.on programme.sizes i in omega (arith, fewer, fits.space);
      apart = fewer-apart shapes (changed config i false) config had fits.apart;
    }
  where
    had : (a : ℕ) → has_candidate (changed config i false) a ≡ true → has_candidate config a ≡ true
    had zero on = absurd (false≢true on)
    had (suc j) on = flag-of config j ∙ was-on config.on i j (sym (flag-of (changed config i false) j) ∙ on)

-- and one flag on
pub pages-on : (flags : List Bool) (xs : List ℕ) (i : ℕ) → sum (chosen (set flags i true) xs) ≤ sum (chosen flags xs) + get_or xs i 0
pages-on [] xs i = omega arith
pages-on (flag ∷ flags) [] zero = omega arith
pages-on (flag ∷ flags) [] (suc i) = omega arith
pages-on (true ∷ flags) (x ∷ xs) zero = omega arith
pages-on (false ∷ flags) (x ∷ xs) zero = let more = sum-more x (chosen flags xs) in one (sum (x ∷ chosen flags xs)) x (sum (chosen flags xs)) more
  where
    one : (a x b : ℕ) → a ≡ x + b → a ≤ b + x
    one a x b is = omega (arith, is)
pages-on (true ∷ flags) (x ∷ xs) (suc i) =
    later (sum (x ∷ chosen (set flags i true) xs)) (sum (x ∷ chosen flags xs)) x (sum (chosen (set flags i true) xs)) (sum (chosen flags xs)) (get_or xs i 0)
    (sum-more x (chosen (set flags i true) xs)) (sum-more x (chosen flags xs)) (pages-on flags xs i)
  where
    later : (a b x c d y : ℕ) → a ≡ x + c → b ≡ x + d → c ≤ d + y → a ≤ b + y
    later a b x c d y first second less = omega (arith, first, second, less)
pages-on (false ∷ flags) (x ∷ xs) (suc i) = pages-on flags xs i

abbrev count_on : List Bool → ℕ
count_on flags = count_by (λ flag. flag) flags

count-more : (flag : Bool) (flags : List Bool) → count_on (flag ∷ flags) ≡ cond flag 1 0 + count_on flags
count-more flag flags = sum_by-cons (λ (f : Bool). cond f 1 0) flag flags

one-off : (a b c : ℕ) → a ≡ 0 + c → b ≡ 1 + c → a + 1 ≡ b
one-off a b c first second = omega (arith, first, second)

later-off : (a b x c d : ℕ) → a ≡ x + c → b ≡ x + d → c + 1 ≡ d → a + 1 ≡ b
later-off a b x c d first second rest = omega (arith, first, second, rest)

count-off : (flags : List Bool) (i : ℕ) → get_or flags i false ≡ true → count_on (set flags i false) + 1 ≡ count_on flags
count-off [] i on = absurd (false≢true on)
count-off (true ∷ flags) zero on = one-off (count_on (false ∷ flags)) (count_on (true ∷ flags)) (count_on flags) (count-more false flags) (count-more true flags)
count-off (false ∷ flags) zero on = absurd (false≢true on)
count-off (flag ∷ flags) (suc i) on =
    later-off (count_on (flag ∷ set flags i false)) (count_on (flag ∷ flags)) (cond flag 1 0) (count_on (set flags i false)) (count_on flags) (count-more flag (set flags i false)) (count-more flag flags)
    (count-off flags i on)

in-front : (flags : List Bool) (n i : ℕ) → i < n → get_or (take n flags) i false ≡ get_or flags i false
in-front [] zero i within = refl
in-front [] (suc n) i within = refl
in-front (flag ∷ flags) zero i within = absurd (omega (arith, within))
in-front (flag ∷ flags) (suc n) zero within = refl
in-front (flag ∷ flags) (suc n) (suc i) within = in-front flags n i (omega (arith, within))

-- fewer are on in front
front-off : (flags : List Bool) (n i : ℕ) → i < n → get_or flags i false ≡ true → count_on (take n (set flags i false)) + 1 ≡ count_on (take n flags)
front-off flags n i within on =
    ap (λ (front : List Bool). count_on front + 1) (take-set-lt n flags i false within) ∙ count-off (take n flags) i (in-front flags n i within ∙ on)

front-most : (flags : List Bool) (n : ℕ) → count_on (take n flags) ≤ n
front-most flags n = omega (arith, count_by-le-length (λ (flag : Bool). flag) (take n flags), length-take n flags)

-- ## What is sound

-- past the candidates nothing is on
known-of : (state : State) (on known : Bool) → agrees state on known ≡ true → known ≡ false → on ≡ false
known-of In on known is not_known = absurd (false≢true (sym not_known ∙ (and_parts on known is).1))
known-of Out on known is not_known = not-true on is
known-of Free true known is not_known = absurd (false≢true (sym not_known ∙ is))
known-of Free false known is not_known = refl

pub sound-tested : (programme : Programme) (shapes : List IndexShape) (budget : ℕ) (root : Fix) (config : Config) (cost : ℕ) → length root.state ≡ 256 → length config.on ≡ 256 →
    ObeysBelow root.state config.on (length programme.sizes) 256 → IsFitting programme shapes budget config → cost ≡ value programme config → IsSound programme shapes budget root config cost
sound-tested programme shapes budget root config cost long wide obeys fits cost_is =
    record {
      cost_is = cost_is;
      fits = fits;
      holds = λ i at. elim (cases_lt i 256) [
        | inl less ↦ (and_parts (flag_at config i) (nat_lt i (length programme.sizes)) (sym (ap (λ (state : State). agrees state (flag_at config i) (nat_lt i (length programme.sizes))) at) ∙ obeys i less)).0
        | inr more ↦ let beyond : Free ≡ In = sym (get_or_past root.state i Free (omega (arith, long, more))) ∙ at in cc
      ];
      lacks = λ i at. elim (cases_lt i 256) [
        | inl less ↦ not-true (flag_at config i) (sym (ap (λ (state : State). agrees state (flag_at config i) (nat_lt i (length programme.sizes))) at) ∙ obeys i less)
        | inr more ↦ get_or_past config.on i false (omega (arith, wide, more))
      ];
      past = λ i beyond. elim (cases_lt i 256) [
        | inl less ↦ known-of (state_at root i) (flag_at config i) (nat_lt i (length programme.sizes)) (obeys i less) (grind (arith, nat_tests))
        | inr more ↦ get_or_past config.on i false (omega (arith, wide, more))
      ];
    }

-- ## What stays sound

sound-change : (programme : Programme) (shapes : List IndexShape) (budget : ℕ) (root : Fix) (config : Config) (cost i : ℕ) (flag : Bool) (new : ℕ) → IsSound programme shapes budget root config cost →
    state_at root i ≡ Free → i < length programme.sizes → new ≡ value programme (changed config i flag) → IsFitting programme shapes budget (changed config i flag) →
    IsSound programme shapes budget root (changed config i flag) new
sound-change programme shapes budget root config cost i flag new sound free within new_is fits =
    record {
      cost_is = new_is;
      fits = fits;
      holds = λ j is. let other : j ≢ i = (λ same. let clash : In ≡ Free = sym is ∙ ap (state_at root) same ∙ free in cc) in get_or-set_other config.on i j flag false other ∙ sound.holds j is;
      lacks = λ j is. let other : j ≢ i = (λ same. let clash : Out ≡ Free = sym is ∙ ap (state_at root) same ∙ free in cc) in get_or-set_other config.on i j flag false other ∙ sound.lacks j is;
      past = λ j past. let other : j ≢ i = (λ same. omega (arith, same, past, within)) in get_or-set_other config.on i j flag false other ∙ sound.past j past;
    }

lower-of : (programme : Programme) (shapes : List IndexShape) (budget : ℕ) (root : Fix) (from to : Costed) (i : ℕ) (flag : Bool) → IsSoundHere programme shapes budget root from → state_at root i ≡ Free →
    i < length programme.sizes → to.config ≡ changed from.config i flag → to.cost ≡ value programme (changed from.config i flag) → IsFitting programme shapes budget (changed from.config i flag) →
    to.cost ≤ from.cost → height programme to < height programme from → IsLower programme shapes budget root from to
lower-of programme shapes budget root from to i flag sound free within config_is cost_is fits cheaper falls =
    record {
      sound =
          subst (λ (config : Config). IsSound programme shapes budget root config to.cost) (sym config_is)
          (sound-change programme shapes budget root from.config from.cost i flag to.cost sound free within cost_is fits);
      cheaper = cheaper;
      falls = falls;
    }

pub removed-trial : (programme : Programme) (shapes : List IndexShape) (budget : ℕ) (root : Fix) (from : Costed) (i : ℕ) (result : Option Costed) → IsSoundHere programme shapes budget root from → state_at root i ≡ Free →
    i < length programme.sizes → flag_at from.config i ≡ true → IsRemoved programme from i result → IsTrial programme shapes budget root from i result
removed-trial programme shapes budget root from i None sound free within on removed =
    record { more = λ free' off room. absurd (false≢true (sym off ∙ on)); less = λ free' on'. removed }
removed-trial programme shapes budget root from i (Some to) sound free within on removed =
    let fewer = front-off from.config.on (length programme.sizes) i within on in
    let counted : count_on (take (length programme.sizes) to.config.on) + 1 ≡ count_on (take (length programme.sizes) from.config.on) =
    ap (λ (config : Config). count_on (take (length programme.sizes) config.on) + 1) removed.0 ∙ fewer in
    lower-of programme shapes budget root from to i false sound free within removed.0 removed.1 (fits-off programme shapes budget from.config i sound.fits) removed.2 (omega (arith, counted, removed.2))

pub added-trial : (programme : Programme) (shapes : List IndexShape) (budget : ℕ) (root : Fix) (from : Costed) (i : ℕ) (result : Option Costed) → length programme.sizes ≤ 256 → IsSoundHere programme shapes budget root from →
    state_at root i ≡ Free → i < length programme.sizes → flag_at from.config i ≡ false → IsAdded programme shapes budget from i result → IsTrial programme shapes budget root from i result
added-trial programme shapes budget root from i None few sound free within off added =
    record { more = λ free' off' fits. added fits; less = λ free' on. absurd (false≢true (sym off ∙ on)) }
added-trial programme shapes budget root from i (Some to) few sound free within off added =
    let most = front-most to.config.on (length programme.sizes) in
    let less : to.cost < from.cost = added.3 in
    let cheaper : to.cost ≤ from.cost = omega (arith, less) in
    lower-of programme shapes budget root from to i true sound free within added.0 added.1 added.2 cheaper (omega (arith, most, less, few))

-- one more tried
pub top-more : (programme : Programme) (shapes : List IndexShape) (budget : ℕ) (root : Fix) (from : Costed) (n : ℕ) (result : Option Costed) → result ≡ None → IsTopBelow programme shapes budget root from n →
    IsTrial programme shapes budget root from n result → IsTopBelow programme shapes budget root from (n + 1)
top-more programme shapes budget root from n None is below here i within = step (cases_lt i n)
  where
    step : ((i < n) ⊎ (n ≤ i)) → GainsNothing programme shapes budget root from.config from.cost i
    step (inl less) = below i less
    step (inr more) = let same : n ≡ i = omega (arith, more, within) in subst (λ k. GainsNothing programme shapes budget root from.config from.cost k) same here
top-more programme shapes budget root from n (Some to) is below here i within = absurd (cc)
