-- What a terminal keeps of its number. A definition that makes a terminal has to hand it over, so these stand here.
use Rattle.std.specs.Prelude.{ℤ, pos, neg_ℤ, ◌^◌, ◌<ℤ◌, ◌≤ℤ◌, Some, None, ◌⊎◌}
use Rattle.std.specs.Option.{ForSome}
use Rattle.std.proofs.Common.{subst, inl, inr}
use Rattle.std.proofs.lemmas.Option.{none-some, same_Some}
use Rattle.std.proofs.lemmas.Int.{by_lt_z}

pub cases_lt_ℤ : (a b : ℤ) → (a <ℤ b) ⊎ (b ≤ℤ a)
cases_lt_ℤ a b = by_lt_z a b inl inr

pub no_least : ForSome None (λ n. neg_ℤ (pos (10 ^ 18)) <ℤ n)
no_least n e = absurd (none-some n e)

pub no_most : ForSome None (λ n. n <ℤ pos (10 ^ 18))
no_most n e = absurd (none-some n e)

pub some_least : {n : ℤ} → neg_ℤ (pos (10 ^ 18)) <ℤ n → ForSome (Some n) (λ n. neg_ℤ (pos (10 ^ 18)) <ℤ n)
some_least least m e = subst (λ n. neg_ℤ (pos (10 ^ 18)) <ℤ n) (same_Some _ m e) least

pub some_most : {n : ℤ} → n <ℤ pos (10 ^ 18) → ForSome (Some n) (λ n. n <ℤ pos (10 ^ 18))
some_most most m e = subst (λ n. n <ℤ pos (10 ^ 18)) (same_Some _ m e) most
