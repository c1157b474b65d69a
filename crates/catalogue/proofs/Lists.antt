-- Lists of names and of values, beside what they stand for.
use Rattle.std.proofs.Common.{◌≡◌, ℕ, suc, Bool, true, false, cond, not, ◌||◌, List, [], ◌∷◌, ◌++◌, length, map, Option, String, Global, string_bytes, refl, ap, ◌∙◌}
use Rattle.std.specs.Prelude.{position}
use Rattle.std.specs.List.{list_any, position_or_len}
use Rattle.std.specs.Str.{bytes_eq}
use Rattle.std.specs.String.{string_eq}
use Rattle.std.proofs.lemmas.List.{map_push, length-map}
use Rattle.indexmap.specs.IndexSet.{insert_key}
use Rattle.toml.specs.View.{items_view}
use Rattle.toml.specs.declared.value.Value.{Value}
use Rattle.catalogue.specs.Values.{item_count, has_name}
use Rattle.catalogue.specs.Keys.{number_of}

pub item_count-view : (vs : List Value) → item_count (items_view vs) ≡ length vs
item_count-view [] = refl
item_count-view (v ∷ vs) = ap suc (item_count-view vs)

-- a key among texts is their bytes among the bytes of those
pub list_any-texts : (word : List ℕ) (keys : List (String Global)) → list_any (λ k. bytes_eq word (string_bytes k)) keys ≡ has_name (map string_bytes keys) word
list_any-texts word [] = refl
list_any-texts word (k ∷ ks) = ap (λ (b : Bool). bytes_eq word (string_bytes k) || b) (list_any-texts word ks)

position_or_len-texts : (word : List ℕ) (keys : List (String Global)) → position_or_len (λ k. bytes_eq word (string_bytes k)) keys ≡ position_or_len (bytes_eq word) (map string_bytes keys)
position_or_len-texts word [] = refl
position_or_len-texts word (k ∷ ks) = rw (position_or_len-texts word ks) refl

-- the place of a key among texts
position-texts : (word : List ℕ) (keys : List (String Global)) → position (λ k. bytes_eq word (string_bytes k)) keys ≡ number_of (map string_bytes keys) word
position-texts word keys = rw (position_or_len-texts word keys, length-map) refl

same_keys : (k : String Global) (keys : List (String Global)) → list_any (string_eq k) keys ≡ has_name (map string_bytes keys) (string_bytes k)
same_keys k keys = list_any-texts (string_bytes k) keys

inserted : (found : Bool) (k : String Global) (keys : List (String Global))
    → map string_bytes (cond found keys (keys ++ k ∷ [])) ≡ cond (not found) (map string_bytes keys ++ string_bytes k ∷ []) (map string_bytes keys)
inserted true k keys = refl
inserted false k keys = map_push string_bytes keys k

-- whether a text is new among texts, by their bytes
pub is_new-texts : (k : String Global) (keys : List (String Global)) (old : List (List ℕ)) (word : List ℕ) (added : Bool)
    → map string_bytes keys ≡ old → string_bytes k ≡ word → added ≡ not (list_any (string_eq k) keys) → added ≡ not (has_name old word)
is_new-texts k keys old word added seen is new = rw (← seen, ← is) (new ∙ ap not (same_keys k keys))

-- the texts after one more was put, unless it was there
pub names-texts : (k : String Global) (keys after : List (String Global)) (old : List (List ℕ)) (word : List ℕ) (added : Bool)
    → map string_bytes keys ≡ old → string_bytes k ≡ word → added ≡ not (list_any (string_eq k) keys) → after ≡ insert_key string_eq keys k
    → map string_bytes after ≡ cond added (old ++ word ∷ []) old
names-texts k keys after old word added seen is new put = rw (put, new, ← seen, ← is) (inserted (list_any (string_eq k) keys) k keys)

-- the place of a text among texts, by their bytes
pub number_of-texts : (keys : List (String Global)) (old : List (List ℕ)) (word by : List ℕ) (place : Option ℕ)
    → map string_bytes keys ≡ old → by ≡ word → place ≡ position (λ k. bytes_eq by (string_bytes k)) keys → place ≡ number_of old word
number_of-texts keys old word by place seen is found = rw (← seen, ← is) (found ∙ position-texts by keys)
