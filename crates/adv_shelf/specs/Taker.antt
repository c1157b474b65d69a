-- What a taker's text grows by, and what of a file was handed on.
use Rattle.std.specs.Prelude.{◌≡◌, ℕ, List, [], ◌++◌, take, length, Option, IfSome, MatchOption}
use Rattle.std.specs.FinMap.{get}
use Rattle.adv_shelf.specs.Shelf.{Files}

-- whatever text the one stood for, the other stands for it with these bytes behind
abbrev pub GoesOn : {T : Type 0} → (T → List ℕ → Type 0) → T → List ℕ → T → Type 0
GoesOn StandsFor before bytes after = (text : List ℕ) → StandsFor before text → StandsFor after (text ++ bytes)

-- where the shelf tells its files, these bytes are the front of the file of this name, or none where there is no such file
abbrev pub IsFront : Option Files → List ℕ → List ℕ → Type 0
IsFront files name bytes =
    IfSome files (λ m. MatchOption (get m name) (bytes ≡ []) (λ file. take (length bytes) file ≡ bytes))
