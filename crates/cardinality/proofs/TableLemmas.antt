-- Laws of tables of rows.
use Rattle.std.proofs.Common.{◌≡◌, ℕ, ◌+◌, List, [], ◌∷◌, ◌++◌, length, get_or, refl, sym, arith, inl, inr, length-append}
use Rattle.std.proofs.lemmas.Bool.{cases_lt}
use Rattle.std.proofs.lemmas.Grind.{common_steps}
use Rattle.std.proofs.lemmas.List.Elements.{All-push, All-nil}
use Rattle.adv_base.specs.declared.catalogue.Catalogue.{Catalogue}
use Rattle.adv_base.specs.declared.workload.block.Block.{Block}
use Rattle.adv_base.specs.Rows.{set_rows}
use Rattle.adv_base.specs.Rows.{AreRows}
use Rattle.cardinality.specs.Tables.{HoldsRows}
use Rattle.cardinality.proofs.RowLemmas.{set_rows-empty}

-- the rows of one set more
pub HoldsRows-push : (cat : Catalogue) (block : Block) (sets : ℕ) (of : List ℕ) (rows : ℕ) →
    HoldsRows cat block sets of → rows ≡ set_rows cat block sets → AreRows rows → HoldsRows cat block (sets + 1) (of ++ rows ∷ [])
HoldsRows-push cat block sets of rows holds same are = record {
  count = omega (arith, length-append of (rows ∷ []), holds.count);
  exact = λ set within. elim (cases_lt set sets) [
    | inl below ↦ let old : get_or of set 0 ≡ set_rows cat block set = holds.exact set below in
        let count : length of ≡ sets = holds.count in
        grind (arith, common_steps, old)
    | inr past ↦ let at : set ≡ sets = omega arith in
        let count : length of ≡ sets = holds.count in
        let new : rows ≡ set_rows cat block set = rw at same in
        grind (arith, common_steps, new)
  ];
  bounds = All-push AreRows of rows holds.bounds are;
}

-- the rows of the empty set alone
pub HoldsRows-empty : (cat : Catalogue) (block : Block) → HoldsRows cat block 1 (1 ∷ [])
HoldsRows-empty cat block = record {
  count = refl;
  exact = λ set within. let at : set ≡ 0 = omega arith in rw at (sym (set_rows-empty cat block));
  bounds = All-push AreRows [] 1 (All-nil AreRows) (record { least = omega arith; most = omega arith });
}
