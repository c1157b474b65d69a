-- Rows of lists of templates, as they are found one after the other.
use Rattle.std.proofs.Common.{◌≡◌, inl, inr, ℕ, ◌+◌, ◌-◌, ◌<◌, true, false, List, [], ◌∷◌, ◌++◌, length, drop, take, All, refl, sym, ap, ◌∙◌, subst, arith}
use Rattle.std.specs.Prelude.{slice_index}
use Rattle.std.proofs.lemmas.Bool.{cases_lt, false≢true}
use Rattle.std.proofs.lemmas.List.{get_or_append_left, get_or_past, get_or_push, length-take, length_push, take-append-le, take_all}
use Rattle.adv_base.specs.Items.{Order}
use Rattle.plan_model.specs.declared.template.Template.{Template}
use Rattle.planner.specs.declared.ways.Ways.{Ways}
use Rattle.planner.specs.Cuts.{is_covered}
use Rattle.planner.specs.Rows.{width, cuts_of, sets_of}
use Rattle.inum_cache.specs.inner.Cells.{Takes}
use Rattle.inum_cache.specs.inner.Passes.{cell_in, row_in, IsFor, IsGiven, IsRowOf, AreRowsOf}
use Rattle.inum_cache.proofs.Taking.{takes-none, takes-same}

-- one row more
pub rows-push : (ways : Ways) (orders : List (List Order)) (rows : List (List (List Template))) (row : List (List Template)) (set : ℕ) → length rows ≡ set → AreRowsOf ways orders rows set → IsRowOf ways orders (row_in rows) set row → AreRowsOf ways orders (rows ++ row ∷ []) (set + 1)
rows-push ways orders rows row set count done here =
    let more = rows ++ row ∷ [] in
    let front : (s : ℕ) → s < set + 1 → take s rows ≡ take s more = λ s below. sym (take-append-le s rows (row ∷ []) (omega (arith, below, count))) in
    record {
      each = λ s below.
          elim (cases_lt s set) [
            | inl less ↦
                let same : row_in rows s ≡ row_in more s = sym (get_or_append_left rows (row ∷ []) [] s (omega (arith, less, count))) in
                subst (λ (x : List (List (List Template))). IsRowOf ways orders (row_in x) s (row_in more s)) (front s below) (subst (IsRowOf ways orders (row_in (take s rows)) s) same (done.each s less))
            | inr past ↦
                let same : set ≡ s = omega arith in
                let last : row ≡ row_in more set = sym (get_or_push rows row [] set count) in
                let whole : rows ≡ take set more = sym (take_all set rows (omega (arith, count))) ∙ front set (omega arith) in
                subst (λ n. IsRowOf ways orders (row_in (take n more)) n (row_in more n)) same (subst (λ (x : List (List (List Template))). IsRowOf ways orders (row_in x) set (row_in more set)) whole (subst (IsRowOf ways orders (row_in rows) set) last here))
          ];
    }

-- ## The lists of a row

-- the lists of the first n fronts of a row
pub record AreCells (ways : Ways) (orders : List (List Order)) (rows : ℕ → List (List Template)) (set : ℕ) (row : List (List Template)) (n : ℕ) : Type 0 where
  pub count : length row ≡ n
  pub takes : (f : ℕ) → f < n → Takes orders (IsGiven ways orders rows (cell_in row 0) set f) [] (cell_in row f)
  pub plans : (f : ℕ) → f < n → All (IsFor ways orders set f) (cell_in row f)

-- the first list takes no sorts
pub first-cell : (ways : Ways) (orders : List (List Order)) (rows : ℕ → List (List Template)) (set : ℕ) (cell : List Template) → Takes orders (IsGiven ways orders rows [] set 0) [] cell → All (IsFor ways orders set 0) cell → AreCells ways orders rows set (cell ∷ []) 1
first-cell ways orders rows set cell takes plans =
    record {
      count = refl;
      takes = λ f below.
          let zeroth : 0 ≡ f = omega arith in
          subst (λ g. Takes orders (IsGiven ways orders rows cell set g) [] (cell_in (cell ∷ []) g)) zeroth
          (takes-same orders (IsGiven ways orders rows [] set 0) (IsGiven ways orders rows cell set 0) [] cell (moved [] cell) (moved cell []) takes);
      plans = λ f below.
          let zeroth : 0 ≡ f = omega arith in
          subst (λ g. All (IsFor ways orders set g) (cell_in (cell ∷ []) g)) zeroth plans;
    }
  where
    moved : (a b : List Template) (t : Template) → IsGiven ways orders rows a set 0 t → IsGiven ways orders rows b set 0 t
    moved a b t (inl (inl sort)) = absurd (omega (arith, sort.0))
    moved a b t (inl (inr read)) = inl (inr read)
    moved a b t (inr cuts) = inr cuts

pub cells-push : (ways : Ways) (orders : List (List Order)) (rows : ℕ → List (List Template)) (set : ℕ) (row : List (List Template)) (cell : List Template) (n : ℕ) → 0 < n → AreCells ways orders rows set row n → Takes orders (IsGiven ways orders rows (cell_in row 0) set n) [] cell → All (IsFor ways orders set n) cell → AreCells ways orders rows set (row ++ cell ∷ []) (n + 1)
cells-push ways orders rows set row cell n some h takes plans =
    let more = row ++ cell ∷ [] in
    let front : (f : ℕ) → f < n → cell_in row f ≡ cell_in more f = λ f below. sym (get_or_append_left row (cell ∷ []) [] f (omega (arith, below, h.count))) in
    let last : cell ≡ cell_in more n = sym (get_or_push row cell [] n h.count) in
    record {
      count = length_push row cell ∙ ap (λ k. k + 1) h.count;
      takes = λ f below.
          subst (λ (input : List Template). Takes orders (IsGiven ways orders rows input set f) [] (cell_in more f)) (front 0 some)
          (elim (cases_lt f n) [
            | inl less ↦ subst (Takes orders (IsGiven ways orders rows (cell_in row 0) set f) []) (front f less) (h.takes f less)
            | inr past ↦
                let same : n ≡ f = omega arith in
                subst (λ k. Takes orders (IsGiven ways orders rows (cell_in row 0) set k) [] (cell_in more k)) same (subst (Takes orders (IsGiven ways orders rows (cell_in row 0) set n) []) last takes)
          ]);
      plans = λ f below.
          elim (cases_lt f n) [
            | inl less ↦ subst (All (IsFor ways orders set f)) (front f less) (h.plans f less)
            | inr past ↦
                let same : n ≡ f = omega arith in
                subst (λ k. All (IsFor ways orders set k) (cell_in more k)) same (subst (All (IsFor ways orders set n)) last plans)
          ];
    }

pub row-is : (ways : Ways) (orders : List (List Order)) (rows : ℕ → List (List Template)) (set : ℕ) (row : List (List Template)) (n : ℕ) → n ≡ width ways → is_covered ways.covered.items set ≡ true → AreCells ways orders rows set row n → IsRowOf ways orders rows set row
row-is ways orders rows set row n all on h =
    record {
      blank = λ off. absurd (false≢true (sym off ∙ on));
      takes = λ f front_in. h.takes f (omega (arith, front_in, all));
      plans = λ f.
          elim (cases_lt f n) [
            | inl below ↦ h.plans f below
            | inr past ↦ λ k d within. absurd (omega (arith, within, ap length (get_or_past row f [] (omega (arith, past, h.count)))))
          ];
    }

-- a set that no plan covers has no cuts
no-cuts : (ways : Ways) (set : ℕ) → set < sets_of ways → is_covered ways.covered.items set ≡ false → length (cuts_of ways set) ≡ 0
no-cuts ways set within off =
    omega (arith, ways.known.cut.joined set within off, length-take (slice_index ways.starts.items (set + 1) - slice_index ways.starts.items set) (drop (slice_index ways.starts.items set) ways.cuts.items))

-- and is given nothing
pub row-none : (ways : Ways) (orders : List (List Order)) (rows : ℕ → List (List Template)) (set : ℕ) → set < sets_of ways → is_covered ways.covered.items set ≡ false → IsRowOf ways orders rows set []
row-none ways orders rows set within off =
    let empty : (f : ℕ) → [] ≡ cell_in [] f = λ f. sym (get_or_past {X = List Template} [] f [] (omega arith)) in
    record {
      blank = λ _. refl;
      takes = λ f front_in.
          subst (Takes orders (IsGiven ways orders rows (cell_in [] 0) set f) []) (empty f)
          (takes-none orders (IsGiven ways orders rows (cell_in [] 0) set f) [] (λ t g.
          elim g [
            | inl first ↦
                elim first [
                  | inl sort ↦ absurd (omega (arith, sort.2.1, ap length (empty 0)))
                  | inr read ↦ false≢true (sym off ∙ ways.known.cut.slots set read.0 within read.1 read.2.0)
                ]
            | inr cuts ↦ absurd (omega (arith, cuts.1, no-cuts ways set within off))
          ]));
      plans = λ f k d inside. absurd (omega (arith, inside, ap length (empty f)));
    }
