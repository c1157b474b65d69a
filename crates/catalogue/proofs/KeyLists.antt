-- Lists of key columns, none of which stands twice.
use Rattle.std.proofs.Common.{◌≡◌, ◌≢◌, ℕ, zero, suc, ◌<◌, ◌≤◌, false, List, [], ◌∷◌, ◌++◌, length, get_or, arith}
use Rattle.std.specs.Prelude.{nat_eq}
use Rattle.std.specs.List.{list_any, AllPairs}
use Rattle.std.proofs.lemmas.Bool.{or_parts}
use Rattle.std.proofs.lemmas.Bool.Decides.{nat_tests}
use Rattle.std.proofs.lemmas.List.Quantifiers.{all_pairs_push}
use Rattle.adv_base.specs.Limits.Numbers.{KeyLimits}

-- a number that no element equals differs from each
differs : (keys : List ℕ) (k : ℕ) → list_any (λ y. nat_eq y k) keys ≡ false → (i d : ℕ) → i < length keys → get_or keys i d ≢ k
differs [] k none i d lt = absurd (omega arith)
differs (y ∷ ys) k none zero d lt = let no = (or_parts (nat_eq y k) _ none).0 in grind (arith, nat_tests)
differs (y ∷ ys) k none (suc i) d lt = differs ys k (or_parts (nat_eq y k) _ none).1 i d (omega arith)

pub apart-push : (keys : List ℕ) (k : ℕ) → AllPairs (λ a b. a ≢ b) keys → list_any (λ y. nat_eq y k) keys ≡ false → AllPairs (λ a b. a ≢ b) (keys ++ k ∷ [])
apart-push keys k apart none = all_pairs_push (λ a b. a ≢ b) keys k apart (λ i d lt. differs keys k none i d lt)

pub KeyLimits-from : (keys : List ℕ) → 1 ≤ length keys → length keys ≤ 8 → AllPairs (λ a b. a ≢ b) keys → KeyLimits keys
KeyLimits-from keys some few apart = record { some = some; few = few; apart = λ i j lt within. apart i j 0 lt within }
