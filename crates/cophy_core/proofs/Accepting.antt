-- `check-ruled` accepts the certificate of advice under rules.
use Rattle.std.proofs.Common.{◌≡◌, ◌≢◌, ◌∙◌, ℕ, List, [], ◌∷◌, Option, Some, sym, ap, subst}
use Rattle.std.specs.Prelude.{◌↔◌}
use Rattle.std.specs.FinMap.{insert}
use Rattle.adv_shelf.proofs.CallerLemmas.{put_is_there, others_stay}
use Rattle.adv_shelf.specs.Shelf.{Files, put_file}
use Rattle.bip_model.specs.Best.{IsBest}
use Rattle.bip_model.specs.Views.{node_of}
use Rattle.certificate.specs.Answers.{answer_cert, version_of}
use Rattle.report.specs.declared.done.Done.{Done}
use Rattle.report.specs.declared.done.Done.TheVariants.{Ruled as RuledDone, Checked}
use Rattle.report.specs.declared.done.Ruled.{Ruled as UnderRules}
use Rattle.command_line.specs.CommandLine.{Ruled, CheckRuled}
use Rattle.cophy_core.specs.Answers.{Answers}
use Rattle.cophy_core.specs.Endings.{Put, put_all}
use Rattle.cophy_core.specs.Files.{InputFile, AreInputs, three_files}
use Rattle.cophy_core.specs.Laws.{RuledChecksStandAlone}
use Rattle.cophy_core.specs.Replies.{ArePuts}
use Rattle.cophy_core.proofs.Advising.{at_most}
use Rattle.cophy_core.proofs.Certified.{Laws, proving, told}
use Rattle.cophy_core.proofs.Works.{with_fourth}

-- a file is none of these
abbrev pub Apart : List ℕ → List InputFile → Type 0
Apart file [] = Unit {0}
Apart file (own ∷ uses) = (own.name ≢ file) × Apart file uses

-- then they hold what they held
pub stay : (files : Files) (file bytes : List ℕ) (uses : List InputFile) (inputs : List (List ℕ)) → Apart file uses → AreInputs (Some files) uses inputs → AreInputs (put_file (Some files) file bytes) uses inputs
stay files file bytes [] [] apart are = tt
stay files file bytes [] (x ∷ inputs) apart are = absurd are
stay files file bytes (own ∷ uses) [] apart are = absurd are
stay files file bytes (own ∷ uses) (x ∷ inputs) apart are =
    (record { whole = others_stay files file bytes own.name apart.0 ∙ are.0.whole; short = are.0.short }, stay files file bytes uses inputs apart.1 are.1)

pub accepted : Laws → RuledChecksStandAlone → (cat load rules file : List ℕ) (budget nodes : ℕ) (files : Files) (words : List (List ℕ)) (under : UnderRules) (puts : List Put) (text : List ℕ) (done : Done) →
    ArePuts (Ruled cat load budget rules nodes (Some file)) (Some files) words (RuledDone under) puts text → file ≢ cat → file ≢ load → file ≢ rules →
    Answers (CheckRuled cat load rules file) (put_all (Some files) puts) done
    ↔ (done ≡ Checked (record { budget = budget; cost = under.advice.answer.cost; bound = under.advice.answer.bound }))
accepted laws alone cat load rules file budget nodes files words under puts text done h not_cat not_load not_rules =
    let gives = h.holds.gives in
    let is = gives.advice_is in
    let answer = under.advice.answer in
    let put = h.holds.puts_are in
    let own = put.certificate_is in
    let root = node_of gives.root in
    let proves = proving laws h.setting root own.programme under.advice.budget nodes answer own.stands is.flags (subst (λ (b : ℕ). IsBest h.setting b nodes root answer) (sym is.budget_is) is.best) in
    let after = put_file (Some files) file put.bytes in
    let there : put_all (Some files) puts ≡ after = ap (put_all (Some files)) put.puts_are in
    let apart : Apart file (three_files cat load rules) = (λ x. not_cat (sym x), (λ x. not_load (sym x), (λ x. not_rules (sym x), tt))) in
    let are = stay files file put.bytes (three_files cat load rules) h.inputs apart h.inputs_are in
    let few = laws.fit put.bytes (answer_cert own.programme (version_of h.setting.shapes) under.advice.budget answer) own.is_text in
    let all = with_fourth after cat load rules file h.inputs put.bytes are (record { whole = put_is_there files file put.bytes; short = few }) in
    let want = Checked (record { budget = budget; cost = answer.cost; bound = answer.bound }) in
    let holds_now : Answers (CheckRuled cat load rules file) after want = record {
      inputs = all.texts.texts;
      setting = h.setting;
      left_over = h.left_over;
      inputs_are = all.texts.texts_are;
      setting_is = rw (all.texts.first, all.texts.second) h.setting_is;
      holds = record {
        root = gives.root;
        root_is = rw all.third gives.root_is.root_is;
        gives = rw (all.fourth, sym is.budget_is) (told h.setting root own.programme under.advice.budget answer put.bytes own.is_text proves (rw is.budget_is is.bounds) (at_most answer.bound answer.cost is.best.bound_most));
      };
    } in (
      λ other. alone cat load rules file (insert files file put.bytes) done want (subst (λ (fs : Option Files). Answers (CheckRuled cat load rules file) fs done) there other) holds_now,
      λ e. subst (λ (d : Done). Answers (CheckRuled cat load rules file) (put_all (Some files) puts) d) (sym e) (subst (λ (fs : Option Files). Answers (CheckRuled cat load rules file) fs want) (sym there) holds_now),
    )
