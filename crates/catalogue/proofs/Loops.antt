-- Reading the elements of an array one after the other, as a loop does.
use Rattle.std.proofs.Common.{◌≡◌, ◌≢◌, ℕ, ◌+◌, ◌<◌, ◌≤◌, List, [], ◌∷◌, ◌++◌, length, drop, get_or, Result, Ok, Err, refl, sym, ◌∙◌}
use Rattle.std.proofs.lemmas.List.{drop_all}
use Rattle.toml.specs.Data.{Data}
use Rattle.toml.specs.View.{view, items_view}
use Rattle.toml.specs.declared.value.Value.{Value}
use Rattle.toml.proofs.Views.{items_view-drop}
use Rattle.adv_base.specs.Readings.{◌>>=◌}
use Rattle.catalogue.specs.declared.fault.CatFault.{CatFault}
use Rattle.catalogue.specs.declared.fault.CatFault.TheVariants.{Memory}
use Rattle.catalogue.specs.Values.{read_each}

-- what is left begins with this turn's element
turn : {A : Type 0} (next : List A → Data → Result A CatFault) (front : List A) (vs : List Value) (i : ℕ) (v : Value) → i < length vs → v ≡ get_or vs i v
    → read_each next front (items_view (drop i vs)) ≡ (next front (view v) >>= λ x. read_each next (front ++ x ∷ []) (items_view (drop (i + 1) vs)))
unfolding read_each
turn next front vs i v lt is = rw (items_view-drop vs i v lt, ← is) refl

-- a turn that reads a value
pub goes_on : {A : Type 0} (next : List A → Data → Result A CatFault) (front : List A) (vs : List Value) (i : ℕ) (v : Value) (x : A) (total : Result (List A) CatFault)
    → i < length vs → v ≡ get_or vs i v → next front (view v) ≡ Ok x → read_each next front (items_view (drop i vs)) ≡ total
    → read_each next (front ++ x ∷ []) (items_view (drop (i + 1) vs)) ≡ total
goes_on next front vs i v x total lt is read so_far = sym (turn next front vs i v lt is ∙ rw read refl) ∙ so_far

-- a turn that ends with a fault
pub ends : {A : Type 0} (next : List A → Data → Result A CatFault) (front : List A) (vs : List Value) (i : ℕ) (v : Value) (e : CatFault) (total : Result (List A) CatFault)
    → i < length vs → v ≡ get_or vs i v → (e ≢ Memory → next front (view v) ≡ Err e) → read_each next front (items_view (drop i vs)) ≡ total
    → e ≢ Memory → total ≡ Err e
ends next front vs i v e total lt is read so_far no_memory = sym so_far ∙ turn next front vs i v lt is ∙ rw (read no_memory) refl

-- behind the last turn
pub is_done : {A : Type 0} (next : List A → Data → Result A CatFault) (front : List A) (vs : List Value) (i : ℕ) (total : Result (List A) CatFault)
    → length vs ≤ i → read_each next front (items_view (drop i vs)) ≡ total → total ≡ Ok front
unfolding read_each
is_done next front vs i total le so_far = sym so_far ∙ rw (drop_all i vs le) refl
