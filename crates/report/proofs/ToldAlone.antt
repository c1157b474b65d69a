-- An answer that needs no setting has one text, with a setting and without.
use Rattle.std.proofs.Common.{◌≡◌, false, List, ℕ, Some, None, refl}
use Rattle.adv_base.specs.Settings.{TheSetting}
use Rattle.report.specs.Advices.{needs_setting}
use Rattle.report.specs.Texts.{done_text}
use Rattle.report.specs.declared.done.Done.{Done}
use Rattle.report.specs.declared.done.Done.TheVariants.{Priced, Listed, Advised, Ruled, Swept, Retuned, Folded, Benched}

pub told_alone : (words : List (List ℕ)) (setting : TheSetting) (done : Done) → needs_setting done ≡ false → done_text words (Some setting) done ≡ done_text words None done
told_alone words setting (Priced prices) other = absurd cc
told_alone words setting (Listed found) other = absurd cc
told_alone words setting (Advised advice) other = absurd cc
told_alone words setting (Ruled ruled) other = absurd cc
told_alone words setting (Swept points) other = absurd cc
told_alone words setting (Retuned tuned) other = absurd cc
told_alone words setting (Folded folded) other = absurd cc
told_alone words setting (Benched bench) other = absurd cc
told_alone words setting done other = refl
