-- Lists whose elements are related, each to the one at its place.
use Rattle.std.specs.Prelude.{List, [], ◌∷◌}

abbrev pub Pairs : {X Y : Type 0} → (X → Y → Type 0) → List X → List Y → Type 0
Pairs R [] [] = Unit {0}
Pairs R (x ∷ xs) (y ∷ ys) = R x y × Pairs R xs ys
Pairs R xs ys = ⊥
