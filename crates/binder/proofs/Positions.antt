-- The first place of a list that passes a test, found from a place on.
use Rattle.std.proofs.Common.{◌≡◌, ℕ, suc, ◌+◌, ◌-◌, ◌<◌, ◌≤◌, Bool, true, false, cond, List, [], ◌∷◌, length, drop, get_or, Option, Some, None, refl, sym, ◌∙◌, arith, add-one}
use Rattle.std.specs.List.{position_from}
use Rattle.std.proofs.Math.Seq.{drop-cons}
use Rattle.std.proofs.lemmas.List.{drop_all}

within_at : (b : Bool) (i n len : ℕ) (rest : Option ℕ) → cond b (Some i) rest ≡ Some n → (rest ≡ Some n → n < (i + 1) + len) → n < i + suc len
within_at true i n len rest e h = let k : i ≡ n = cc in omega arith
within_at false i n len rest e h = let k = h e in omega arith

module _ {K : Type 0} (p : K → Bool) where
  -- a place that was found lies in the list
  pub position_from-within : (i : ℕ) (xs : List K) (n : ℕ) → position_from p i xs ≡ Some n → n < i + length xs
  position_from-within i [] n e = absurd cc
  position_from-within i (x ∷ xs) n e = within_at (p x) i n (length xs) (position_from p (i + 1) xs) e (position_from-within (i + 1) xs n)

  -- the search at a place: there, or behind it
  pub position_from-at : (i : ℕ) (xs : List K) (d : K) → i < length xs → position_from p i (drop i xs) ≡ cond (p (get_or xs i d)) (Some i) (position_from p (i + 1) (drop (i + 1) xs))
  position_from-at i xs d lt = rw (drop-cons xs i d) (rw add-one refl)

  -- nothing is found past the end
  pub position_from-past : (i : ℕ) (xs : List K) → length xs ≤ i → position_from p i (drop i xs) ≡ None
  position_from-past i xs le = rw (drop_all i xs le) refl

  -- the search from one place earlier, where the index of the places from n on was given the place before them
  pub position_from-earlier : (xs : List K) (n : ℕ) (x : K) (b : Bool) (before after : Option ℕ) → 0 < n → n ≤ length xs → x ≡ get_or xs (n - 1) x → b ≡ p x
      → before ≡ position_from p n (drop n xs) → after ≡ cond b (Some (n - 1)) before → after ≡ position_from p (n - 1) (drop (n - 1) xs)
  position_from-earlier xs n x b before after some le is test was put =
      let back : (n - 1) + 1 ≡ n = omega arith in
      let lt : n - 1 < length xs = omega arith in
      let at = position_from-at (n - 1) xs x lt in
      let here : cond (p (get_or xs (n - 1) x)) (Some (n - 1)) (position_from p ((n - 1) + 1) (drop ((n - 1) + 1) xs)) ≡ cond b (Some (n - 1)) before = rw (← is, back, test, was) refl in
      put ∙ sym here ∙ sym at
