-- The one text of a folded workload, and what it speaks of.
use Rattle.std.proofs.Common.{◌≡◌, ◌∙◌, ℕ, ◌≤◌, List, length, refl, sym, ap, subst, arith}
use Rattle.adv_base.specs.declared.limits.TheConstants.{MOST_FILE_BYTES}
use Rattle.adv_base.specs.Settings.{TheSetting}
use Rattle.report.specs.declared.done.FoldDone.{FoldDone}
use Rattle.sql_reader.proofs.Unique.{one_workload}
use Rattle.sql_reader.specs.declared.parsed.ParsedStatement.{ParsedStatement}
use Rattle.workload_fold.specs.Laws.{FoldingKeepsLeftOver, FoldingKeepsTotals}
use Rattle.workload_fold.specs.ReadingBack.{text_of_groups, ReadsBack, FoldedTextsReadBack}
use Rattle.cophy_core.specs.Settings.{AreStatementsOf}
use Rattle.cophy_core.specs.commands.Fold.{the_groups, IsFoldedText, IsFolding, IsFoldTooLong, SpeaksOfWhole}

-- a workload has one such text
pub one_text : (load : List ℕ) (setting : TheSetting) (text other : List ℕ) → IsFoldedText load setting text → IsFoldedText load setting other → text ≡ other
one_text load setting text other a b =
    let same = one_workload load a.parsed b.parsed a.is_workload b.is_workload in
    a.text_is ∙ ap (λ (ps : List ParsedStatement). text_of_groups load ps (the_groups setting)) same ∙ sym b.text_is

pub one_length : (load : List ℕ) (setting : TheSetting) (count other : ℕ) → IsFoldTooLong load setting count → IsFoldTooLong load setting other → count ≡ other
one_length load setting count other a b =
    a.count_is ∙ ap length (one_text load setting a.text b.text a.text_is b.text_is) ∙ sym b.count_is

-- which is too long or isn't
pub long_or_folded : (load : List ℕ) (setting : TheSetting) (count : ℕ) (told : FoldDone) → IsFoldTooLong load setting count → IsFolding load setting told → ⊥
long_or_folded load setting count told a b =
    let same = ap length (one_text load setting a.text b.text a.text_is b.text_is) in omega (arith, a.long, b.short, same)

-- ## What it speaks of

-- laws of folded workloads
pub record Laws : Type 0 where
  pub back : FoldedTextsReadBack
  pub left_over : FoldingKeepsLeftOver
  pub totals : FoldingKeepsTotals

spoken : Laws → (cat load : List ℕ) (setting : TheSetting) (text : List ℕ) → ReadsBack setting.cat setting.statements text → SpeaksOfWhole cat load setting text
spoken laws cat load setting text back = record {
  folded = record { cat = setting.cat; statements = back.folded; shapes = setting.shapes };
  reads = λ left_over is. record {
    catalogue_is = is.catalogue_is;
    statements_are = record { parsed = back.read; is_workload = back.is_read; bound = back.binds };
    candidates_are = (laws.left_over setting.cat setting.statements back.folded setting.shapes left_over back.stand).0 is.candidates_are;
  };
  cat_is = refl;
  shapes_are = refl;
  groups = back.are;
  totals = λ config total. laws.totals setting.cat setting.shapes config setting.statements back.folded total back.stand;
}

pub speaks : Laws → (cat load : List ℕ) (setting : TheSetting) (text : List ℕ) → AreStatementsOf setting.cat load setting.statements → IsFoldedText load setting text → length text ≤ MOST_FILE_BYTES → SpeaksOfWhole cat load setting text
speaks laws cat load setting text are is short =
    let same = one_workload load is.parsed are.parsed is.is_workload are.is_workload in
    let here : text ≡ text_of_groups load are.parsed (the_groups setting) = is.text_is ∙ ap (λ (ps : List ParsedStatement). text_of_groups load ps (the_groups setting)) same in
    let size = ap length here in
    let back = laws.back setting.cat load are.parsed setting.statements are.is_workload are.bound (omega (arith, size, short)) in
    spoken laws cat load setting text (subst (ReadsBack setting.cat setting.statements) (sym here) back)
