-- `check` accepts the certificates of a sweep.
use Rattle.std.proofs.Common.{◌≡◌, ◌≢◌, ◌∙◌, ℕ, zero, suc, ◌+◌, ◌^◌, ◌<◌, ◌≤◌, List, [], ◌∷◌, ◌++◌, length, Option, Some, refl, sym, ap, subst, arith}
use Rattle.std.specs.Prelude.{◌↔◌, decimal, slice_get}
use Rattle.std.specs.FinMap.{insert}
use Rattle.std.proofs.lemmas.Fmt.{decimal_injective}
use Rattle.std.proofs.lemmas.List.{append_cancel_left}
use Rattle.adv_base.specs.Settings.{TheSetting}
use Rattle.adv_base.specs.declared.limits.TheConstants.{MOST_CERTIFICATE_BYTES}
use Rattle.adv_shelf.proofs.CallerLemmas.{put_is_there}
use Rattle.adv_shelf.specs.Shelf.{Files}
use Rattle.bip_model.specs.Proves.{free_node}
use Rattle.bip_model.specs.declared.point.Point.{Point}
use Rattle.certificate.specs.Answers.{answer_cert, version_of}
use Rattle.report.specs.declared.done.Done.{Done}
use Rattle.report.specs.declared.done.Done.TheVariants.{Swept, Checked}
use Rattle.report.specs.declared.done.Role.TheVariants.{Third}
use Rattle.command_line.specs.CommandLine.{Sweep, Check}
use Rattle.command_line.specs.Spellings.{IsInRange}
use Rattle.cophy_core.specs.Answers.{Answers}
use Rattle.cophy_core.specs.Endings.{Put, put_all}
use Rattle.cophy_core.specs.Files.{InputFile, IsInput, AreInputs, input_file, setting_files}
use Rattle.cophy_core.specs.Laws.{ChecksStandAlone}
use Rattle.cophy_core.specs.Replies.{ArePuts}
use Rattle.cophy_core.specs.commands.Advise.{IsCertificateOf}
use Rattle.cophy_core.specs.commands.Sweep.{AreCertificates}
use Rattle.cophy_core.proofs.Accepting.{Apart, stay}
use Rattle.cophy_core.proofs.Certified.{Laws, proving, told}
use Rattle.cophy_core.proofs.Works.{with_third}

-- ## Files that stay

-- no file of these numbers is one of those that were read
abbrev AreApart : List ℕ → ℕ → ℕ → List InputFile → Type 0
AreApart prefix from count uses = (k : ℕ) → from ≤ k → k < from + count → Apart (prefix ++ decimal k) uses

all_stay : (setting : TheSetting) (prefix : List ℕ) (number : ℕ) (points : List Point) (puts : List Put) (files : Files) (uses : List InputFile) (inputs : List (List ℕ)) →
    AreCertificates setting prefix number points puts → AreApart prefix number (length points) uses → AreInputs (Some files) uses inputs → AreInputs (put_all (Some files) puts) uses inputs
all_stay setting prefix number [] [] files uses inputs puts_are apart are = are
all_stay setting prefix number [] (put ∷ puts) files uses inputs puts_are apart are = absurd puts_are
all_stay setting prefix number (point ∷ points) [] files uses inputs puts_are apart are = absurd puts_are
all_stay setting prefix number (point ∷ points) (put ∷ puts) files uses inputs puts_are apart are =
    let here : Apart put.name uses = subst (λ (name : List ℕ). Apart name uses) (sym puts_are.0.name_is) (apart number (omega arith) (omega arith)) in
    all_stay setting prefix (suc number) points puts (insert files put.name put.bytes) uses inputs puts_are.1 (λ k low high. apart k (omega (arith, low)) (omega (arith, high)))
    (stay files put.name put.bytes uses inputs here are)

-- ## The file of a point

-- two of these names are the same only where their numbers are
apart_names : (prefix : List ℕ) (a b : ℕ) → a < 2 ^ 64 → b < 2 ^ 64 → a < b → prefix ++ decimal a ≢ prefix ++ decimal b
apart_names prefix a b few more less = λ same.
    let numbers = decimal_injective a b few more (append_cancel_left prefix (decimal a) (decimal b) same) in
    omega (arith, numbers, less)

record HasCertificate (setting : TheSetting) (prefix : List ℕ) (number : ℕ) (point : Point) (after : Option Files) : Type 0 where
  bytes : List ℕ
  certificate_is : IsCertificateOf setting point.budget point.answer bytes
  there : (most : ℕ) → length bytes ≤ most → IsInput after (input_file Third (prefix ++ decimal number) most) bytes

has_certificate : (setting : TheSetting) (prefix : List ℕ) (number : ℕ) (points : List Point) (puts : List Put) (files : Files) (i : ℕ) (point : Point) →
    number + length points < 2 ^ 64 → AreCertificates setting prefix number points puts → slice_get points i ≡ Some point → HasCertificate setting prefix (number + i) point (put_all (Some files) puts)
has_certificate setting prefix number [] puts files i point few are found = absurd cc
has_certificate setting prefix number (first ∷ points) [] files i point few are found = absurd are
has_certificate setting prefix number (first ∷ points) (put ∷ puts) files zero point few are found =
    let same : first ≡ point = cc in
    let own = are.0 in
    let here : number + 0 ≡ number = omega arith in
    let after = insert files put.name put.bytes in
    record {
      bytes = put.bytes;
      certificate_is = subst (λ (p : Point). IsCertificateOf setting p.budget p.answer put.bytes) same own.certificate_is;
      there = λ most short.
          let file = input_file Third (prefix ++ decimal (number + 0)) most in
          let name_is : file.name ≡ put.name = ap (λ (n : ℕ). prefix ++ decimal n) here ∙ sym own.name_is in
          let now : IsInput (Some after) file put.bytes = record { whole = rw name_is (put_is_there files put.name put.bytes); short = short } in
          let apart : AreApart prefix (suc number) (length points) (file ∷ []) = λ k low high.
          ((rw here (apart_names prefix number k (omega (arith, few)) (omega (arith, few, high)) (omega (arith, low)))), tt) in
          (all_stay setting prefix (suc number) points puts after (file ∷ []) (put.bytes ∷ []) are.1 apart (now, tt)).0;
    }
has_certificate setting prefix number (first ∷ points) (put ∷ puts) files (suc i) point few are found =
    let next : number + suc i ≡ suc number + i = omega arith in
    subst (λ (n : ℕ). HasCertificate setting prefix n point (put_all (Some (insert files put.name put.bytes)) puts)) (sym next)
    (has_certificate setting prefix (suc number) points puts (insert files put.name put.bytes) i point (omega (arith, few)) are.1 found)

-- ## The whole

-- files that are told stay told
told_after : (files : Files) (puts : List Put) → (left : Files) × (put_all (Some files) puts ≡ Some left)
told_after files [] = (files, refl)
told_after files (put ∷ puts) = told_after (insert files put.name put.bytes) puts

pub accepted : Laws → ChecksStandAlone → (cat load prefix : List ℕ) (first step count nodes : ℕ) (files : Files) (words : List (List ℕ)) (points : List Point) (puts : List Put) (text : List ℕ) (i : ℕ) (point : Point) (done : Done) →
    ArePuts (Sweep cat load first step count nodes (Some prefix)) (Some files) words (Swept points) puts text →
    IsInRange (Sweep cat load first step count nodes (Some prefix)) →
    ((k : ℕ) → 1 ≤ k → k ≤ count → (prefix ++ decimal k ≢ cat) × (prefix ++ decimal k ≢ load)) → slice_get points i ≡ Some point →
    Answers (Check cat load (prefix ++ decimal (i + 1))) (put_all (Some files) puts) done
    ↔ (done ≡ Checked (record { budget = point.budget; cost = point.answer.cost; bound = point.answer.bound }))
accepted laws alone cat load prefix first step count nodes files words points puts text i point done h range others found =
    let is = h.holds.gives in
    let put = h.holds.puts_are in
    let counted = is.curve_is.counted in
    let few : 1 + length points < 2 ^ 64 = omega (arith, counted, range.steps.count_is.high) in
    let after = put_all (Some files) puts in
    let own = has_certificate h.setting prefix 1 points puts files i point few put found in
    let place : 1 + i ≡ i + 1 = omega arith in
    let file = prefix ++ decimal (i + 1) in
    let cert = own.certificate_is in
    let fits = laws.fit own.bytes (answer_cert cert.programme (version_of h.setting.shapes) point.budget point.answer) cert.is_text in
    let there : IsInput after (input_file Third file MOST_CERTIFICATE_BYTES) own.bytes = rw place at (own.there MOST_CERTIFICATE_BYTES fits) in
    let apart : AreApart prefix 1 (length points) (setting_files cat load) = λ k low high.
    let other = others k low (omega (arith, counted, high)) in
    ((λ x. other.0 (sym x)), ((λ x. other.1 (sym x)), tt)) in
    let are = all_stay h.setting prefix 1 points puts files (setting_files cat load) h.inputs put apart h.inputs_are in
    let all = with_third after cat load file h.inputs own.bytes are there in
    let told_of = is.each i point found in
    let best = (is.curve_is.each i point found).answer_is in
    let bounds = told_of.bounds in
    let answer = point.answer in
    let proves = proving laws h.setting free_node cert.programme point.budget nodes answer cert.stands told_of.flags best in
    let want = Checked (record { budget = point.budget; cost = answer.cost; bound = answer.bound }) in
    let proved = told h.setting free_node cert.programme point.budget answer own.bytes cert.is_text proves (λ other total members fits below total_is. bounds.all other total members fits total_is) bounds.own in
    let holds_now : Answers (Check cat load file) after want = record {
      inputs = all.texts.texts;
      setting = h.setting;
      left_over = h.left_over;
      inputs_are = all.texts.texts_are;
      setting_is = rw (all.texts.first, all.texts.second) h.setting_is;
      holds = rw all.third (proved, bounds);
    } in
    let left = told_after files puts in (
      λ other. alone cat load file left.0 done want (subst (λ (fs : Option Files). Answers (Check cat load file) fs done) left.1 other) (subst (λ (fs : Option Files). Answers (Check cat load file) fs want) left.1 holds_now),
      λ e. subst (λ (d : Done). Answers (Check cat load file) after d) (sym e) holds_now,
    )
