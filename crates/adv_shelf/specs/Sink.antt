-- What a sink has taken.
use Rattle.std.specs.Prelude.{◌≡◌, ℕ, List, ◌++◌, take, Option, option_map}

-- the bytes written, with these behind them
abbrev pub append_to : Option (List ℕ) → List ℕ → Option (List ℕ)
append_to written bytes = option_map (λ before. before ++ bytes) written

-- a prefix of the bytes has come behind those that were there
abbrev pub AppendsPrefix : Option (List ℕ) → Option (List ℕ) → List ℕ → Type 0
AppendsPrefix old new bytes = (n : ℕ) × (new ≡ append_to old (take n bytes))
