-- A list of names with their bytes, of which the first of a name counts.
use Rattle.std.proofs.Common.{◌≡◌, ℕ, List, ◌∷◌, Option, None, Some, [], true, false, cond, length, arith, sym, ap, ◌∙◌}
use Rattle.std.proofs.lemmas.Map.Text.{is_eq-slice_cmp}
use Rattle.std.specs.Str.{bytes_eq}
use Rattle.std.specs.Cmp.Lexicographic.{nat_list_cmp_total}
use Rattle.std.specs.FinMap.{get, get-empty, get-insert}
use Rattle.adv_shelf.specs.Memory.{files_of}

-- the bytes at a name
abbrev pub bytes_at : List ℕ → List (List ℕ × List ℕ) → Option (List ℕ)
bytes_at name entries = get (files_of entries) name

-- what the first entry adds, by the test of the two names
first_entry : (name : List ℕ) (entry : List ℕ × List ℕ) (rest : List (List ℕ × List ℕ))
    → bytes_at name (entry ∷ rest) ≡ cond (bytes_eq name entry.0) (Some entry.1) (bytes_at name rest)
first_entry name entry rest =
    get-insert nat_list_cmp_total (files_of rest) entry.0 entry.1 name
    ∙ ap (λ b. cond b (Some entry.1) (bytes_at name rest)) (is_eq-slice_cmp name entry.0)

-- a loop that has passed over entries of other names finds the entry
pub found : (all here rest : List (List ℕ × List ℕ)) (entry : List ℕ × List ℕ) (name text key value : List ℕ)
    → bytes_at name all ≡ bytes_at name here → here ≡ entry ∷ rest → text ≡ name → key ≡ entry.0 → value ≡ entry.1
    → true ≡ bytes_eq text key → Some value ≡ bytes_at name all
found all here rest entry name text key value so_far step is_name is_key is_value same =
    sym (so_far ∙ ap (bytes_at name) step ∙ first_entry name entry rest
    ∙ ap (λ b. cond b (Some entry.1) (bytes_at name rest)) (sym (same ∙ ap (λ t. bytes_eq t key) is_name ∙ ap (bytes_eq name) is_key))
    ∙ ap Some (sym is_value))

-- it passes over an entry of another name
pub passed : (all here rest : List (List ℕ × List ℕ)) (entry : List ℕ × List ℕ) (name text key : List ℕ)
    → bytes_at name all ≡ bytes_at name here → here ≡ entry ∷ rest → text ≡ name → key ≡ entry.0
    → false ≡ bytes_eq text key → bytes_at name all ≡ bytes_at name rest
passed all here rest entry name text key so_far step is_name is_key apart =
    so_far ∙ ap (bytes_at name) step ∙ first_entry name entry rest
    ∙ ap (λ b. cond b (Some entry.1) (bytes_at name rest)) (sym (apart ∙ ap (λ t. bytes_eq t key) is_name ∙ ap (bytes_eq name) is_key))

-- it has passed over all
pub none_left : (all here : List (List ℕ × List ℕ)) (name : List ℕ) → bytes_at name all ≡ bytes_at name here
    → length here ≡ 0 → None ≡ bytes_at name all
none_left all [] name so_far step = sym (so_far ∙ get-empty _ name)
none_left all (entry ∷ rest) name so_far step = absurd (omega arith)
