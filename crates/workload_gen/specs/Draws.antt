-- Numbers drawn one after the other from a state of 64 bits: a linear congruential generator with Knuth's constants for
-- MMIX, of whose state the upper bits are taken.
use Rattle.std.specs.Prelude.{ℕ, zero, suc, ◌+◌, ◌*◌, ◌/◌, ◌%◌, ◌^◌}

-- each draw replaces the state
unfoldable pub next_state : ℕ → ℕ
next_state x = (x * 6364136223846793005 + 1442695040888963407) % 2 ^ 64

-- the number below k that is drawn from a state
unfoldable pub draw : ℕ → ℕ → ℕ
draw k x = next_state x / 2 ^ 33 % k

-- the state after so many draws
abbrev pub after : ℕ → ℕ → ℕ
after zero x = x
after (suc draws) x = after draws (next_state x)
