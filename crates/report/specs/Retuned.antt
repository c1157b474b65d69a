-- The text of advice again and again, while a script of edits changes the workload.
use Rattle.std.specs.Prelude.{ℕ, ◌+◌, List, [], ◌∷◌, ◌++◌, codes, Option, Some, None}
use Rattle.adv_base.specs.declared.catalogue.Catalogue.{Catalogue}
use Rattle.adv_base.specs.Settings.{TheSetting}
use Rattle.report.specs.declared.done.Tuned.{Tuned}
use Rattle.report.specs.Advised.{advice_text}
use Rattle.report.specs.Words.{numbered, line}

-- advice with its number, over its own candidates
unfoldable pub tuned_text : Catalogue → ℕ → Tuned → List ℕ
tuned_text cat number tuned = line (numbered (codes "advice ") number) ++ advice_text cat tuned.shapes tuned.advice

-- that for each, numbered from there on
unfoldable pub tuned_texts : Catalogue → ℕ → List Tuned → List ℕ
tuned_texts cat number [] = []
tuned_texts cat number (tuned ∷ more) = tuned_text cat number tuned ++ tuned_texts cat (number + 1) more

-- with the names of the catalogue of the setting that is there
abbrev pub retuned_text : Option TheSetting → List Tuned → List ℕ
retuned_text None tuned = []
retuned_text (Some setting) tuned = tuned_texts setting.cat 1 tuned
