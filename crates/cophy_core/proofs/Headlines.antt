-- From what is replied, and how that ends, to what is promised.
use Rattle.std.proofs.Common.{◌≡◌, ◌≢◌, inl, inr, ◌⊎◌, ℕ, ◌+◌, ◌<◌, ◌≤◌, Bool, true, false, List, [], ◌∷◌, ◌++◌, length, Option, Some, None, Result, Ok, ℤ, pos, negsuc, refl, sym, ap, subst, ◌∙◌, eqb, arith}
use Rattle.std.specs.Prelude.{◌<ℤ◌, ◌≤ℤ◌, ◌==◌, if◌then◌else◌}
use Rattle.std.specs.FinMap.{insert}
use Rattle.std.proofs.lemmas.Bool.{eqb-true, eqb-false}
use Rattle.std.proofs.lemmas.Int.{ints}
use Rattle.adv_base.specs.declared.limits.TheConstants.{MOST_CERTIFICATE_BYTES, MOST_FILE_BYTES}
use Rattle.adv_base.specs.Settings.{TheSetting}
use Rattle.adv_shelf.proofs.CallerLemmas.{put_is_there, others_stay}
use Rattle.adv_shelf.specs.Shelf.{Files, HasFile, put_file}
use Rattle.adv_shelf.specs.Sink.{append_to}
use Rattle.bip_model.specs.declared.answer.Answer.{Answer}
use Rattle.bip_model.specs.Proves.{free_node}
use Rattle.certificate.specs.Answers.{answer_cert, version_of}
use Rattle.report.specs.declared.done.Advice.{Advice}
use Rattle.report.specs.declared.done.Done.{Done}
use Rattle.report.specs.declared.done.Done.TheVariants.{ReadFault, WriteFault, Refused, Memory, Advised}
use Rattle.report.specs.declared.done.Refusal.{Refusal}
use Rattle.command_line.specs.declared.fault.WordFault.{WordFault}
use Rattle.report.specs.declared.done.Refusal.TheVariants.{TooLong, Cat, Sql, Bind, TooManyCombinations}
use Rattle.report.specs.declared.done.Role.{Role}
use Rattle.report.specs.declared.done.Role.TheVariants.{Catalogue, Workload}
use Rattle.cophy_core.specs.commands.Advise.{IsAdvice, PutsFor}
use Rattle.cophy_core.specs.Answers.{Answers}
use Rattle.cophy_core.specs.Causes.{IsSteady, WriteFaultIsTrue, gap_status, status_of}
use Rattle.cophy_core.specs.Endings.{Put, Outside, put_all, EndsWhole}
use Rattle.cophy_core.specs.Files.{InputFile, IsInput, AreInputs, input, input_file, setting_files, IsTooLong, ReadCounts}
use Rattle.cophy_core.specs.commands.{files_of}
use Rattle.cophy_core.specs.Headline.{Asked, asked_command, IsAccepted, IsEnd, proved, Certifies, Headline}
use Rattle.command_line.specs.CommandLine.{PlainCommand, Check, command_of}
use Rattle.cophy_core.specs.Replies.{MayAnswer, MayAnswerWords, ArePuts, ArePutsTo, IsRun}
use Rattle.cophy_core.specs.Settings.{IsSetting, HasCatFault, IsSqlRefusal, IsBindRefusal}
use Rattle.cophy_core.specs.Laws.{ChecksStandAlone}
use Rattle.cophy_core.proofs.Certified as certified
use Rattle.cophy_core.proofs.Checking.{free_given}
use Rattle.cophy_core.proofs.CauseLemmas.{Ended, ended as ran, write_fault}
use Rattle.cophy_core.proofs.Combinations.{none_beyond}
use Rattle.cophy_core.proofs.FilesRead.{not_long_and_whole, one_content}
use Rattle.cophy_core.proofs.Lines.{not_nothing}

-- ## Accepted input is not refused

one_of_two : (front rest : List InputFile) (file first second : InputFile) → first ∷ second ∷ [] ≡ front ++ file ∷ rest → (file ≡ first) ⊎ (file ≡ second)
one_of_two [] rest file first second e = inl cc
one_of_two (f ∷ []) rest file first second e = inr cc
one_of_two (f ∷ g ∷ more) rest file first second e = absurd (not_nothing more rest file cc)

short : (files : Files) (role : Role) (name bytes : List ℕ) (file : InputFile) → IsInput (Some files) (input_file role name MOST_FILE_BYTES) bytes → file ≡ input_file role name MOST_FILE_BYTES → HasFile (Some files) file.name (λ b. file.most < length b) → ⊥
short files role name bytes file is e long =
    not_long_and_whole files (input_file role name MOST_FILE_BYTES) bytes is (subst (λ (f : InputFile). HasFile (Some files) f.name (λ b. f.most < length b)) e long)

not_long : (files : Files) (asked : Asked) (role : Role) → IsAccepted files asked → IsTooLong (Some files) (setting_files asked.cat asked.load) role → ⊥
not_long files asked role ok h =
    elim (one_of_two h.front h.rest h.file (input_file Catalogue asked.cat MOST_FILE_BYTES) (input_file Workload asked.load MOST_FILE_BYTES) h.uses_are) [
      | inl first ↦ short files Catalogue asked.cat ok.cat_bytes h.file ok.cat_is first h.bad.long
      | inr second ↦ short files Workload asked.load ok.load_bytes h.file ok.load_is second h.bad.long
    ]

pub same_inputs : (files : Files) (asked : Asked) (inputs : List (List ℕ)) (ok : IsAccepted files asked) → AreInputs (Some files) (setting_files asked.cat asked.load) inputs → inputs ≡ ok.cat_bytes ∷ ok.load_bytes ∷ []
same_inputs files asked [] ok are = absurd are
same_inputs files asked (a ∷ []) ok are = absurd are.1
same_inputs files asked (a ∷ b ∷ []) ok are =
    let first = one_content files (input_file Catalogue asked.cat MOST_FILE_BYTES) a ok.cat_bytes are.0 ok.cat_is in
    let second = one_content files (input_file Workload asked.load MOST_FILE_BYTES) b ok.load_bytes are.1.0 ok.load_is in
    cc
same_inputs files asked (a ∷ b ∷ c ∷ more) ok are = absurd are.1.1

pub not_refused : (files : Files) (asked : Asked) (why : Refusal) → IsAccepted files asked → Answers (asked_command asked) (Some files) (Refused why) → ⊥
not_refused files asked (TooLong role) ok h = not_long files asked role ok h
not_refused files asked (Cat fault) ok h =
    ok.is_setting (Cat fault) (subst (λ (inputs : List (List ℕ)). HasCatFault (input inputs 0) fault) (same_inputs files asked h.inputs ok h.inputs_are) h.holds)
not_refused files asked (Sql fault) ok h =
    ok.is_setting (Sql fault) (subst (λ (inputs : List (List ℕ)). IsSqlRefusal (input inputs 0) (input inputs 1) fault) (same_inputs files asked h.inputs ok h.inputs_are) h.holds)
not_refused files asked (Bind fault) ok h =
    ok.is_setting (Bind fault) (subst (λ (inputs : List (List ℕ)). IsBindRefusal (input inputs 0) (input inputs 1) fault) (same_inputs files asked h.inputs ok h.inputs_are) h.holds)
not_refused files asked (TooManyCombinations n count) ok h =
    none_beyond h.setting n count
    (ok.few h.setting h.left_over (subst (λ (inputs : List (List ℕ)). IsSetting (input inputs 0) (input inputs 1) h.setting h.left_over) (same_inputs files asked h.inputs ok h.inputs_are) h.setting_is))
    h.holds
not_refused files asked why ok h = absurd h.holds

-- ## The answer is advice, and is told

told_advice : (files : Files) (asked : Asked) (before after : ReadCounts) (reply : Done) → IsAccepted files asked → IsSteady before.all after.all → reply ≢ Memory → MayAnswer (asked_command asked) (Some files) before after reply → (advice : Advice) × (reply ≡ Advised advice)
told_advice files asked before after (ReadFault role) ok steady some may = absurd (steady may.bad.failed.rose)
told_advice files asked before after Memory ok steady some may = absurd (some refl)
told_advice files asked before after (Refused why) ok steady some may = absurd (not_refused files asked why ok may)
told_advice files asked before after (Advised advice) ok steady some may = (advice, refl)
told_advice files asked before after reply ok steady some may = absurd may.holds

-- where nothing failed, the reply stands
whole_end : (words : List (List ℕ)) (before after : Outside) (told : Done) (puts : List Put) (text : List ℕ) (done : Done) → Ended words before after told puts text done → (done ≡ WriteFault → ⊥) → done ≢ Memory → EndsWhole before after told puts text done
whole_end words before after told puts text done (inl whole) written some = whole
whole_end words before after told puts text done (inr (inl cut)) written some = absurd (written cut.0)
whole_end words before after told puts text done (inr (inr want)) written some = absurd (some want.0)

-- where no count rose, the answer is no write fault
no_fault : (words : Result PlainCommand WordFault) (before after : Outside) (done : Done) → IsSteady before.put_faults after.put_faults → IsSteady before.faults after.faults → WriteFaultIsTrue words before after done → done ≡ WriteFault → ⊥
no_fault words before after done puts writes caused is =
    elim (subst (WriteFaultIsTrue words before after) is caused) [ inl rose ↦ writes rose | inr failed ↦ puts failed.1 ]

-- ## How the search ended

spent_by : (made nodes : ℕ) → nodes ≤ made + 1 → made ≤ nodes → (test : Bool) → eqb made nodes ≡ test → (made ≡ nodes) ⊎ (made + 1 ≡ nodes)
spent_by made nodes low high true e = inl (eqb-true made nodes e)
spent_by made nodes low high false e = let apart = eqb-false made nodes e in inr (omega (arith, apart, low, high))

pub spent_nodes : (made nodes : ℕ) → nodes ≤ made + 1 → made ≤ nodes → (made ≡ nodes) ⊎ (made + 1 ≡ nodes)
spent_nodes made nodes low high = spent_by made nodes low high (eqb made nodes) refl

gap_test : (cost b : ℕ) → pos b ≤ℤ pos cost → (test : Bool) → (b == cost) ≡ test → ((pos b ≡ pos cost) × (gap_status cost (pos b) ≡ 0)) ⊎ ((pos b <ℤ pos cost) × (gap_status cost (pos b) ≡ 1))
gap_test cost b most true e = inl (ap pos (eqb-true b cost e), ap (λ (t : Bool). if t then 0 else 1) e)
gap_test cost b most false e = let apart = eqb-false b cost e in inr (omega (arith, ints, apart, most), ap (λ (t : Bool). if t then 0 else 1) e)

pub gap_by : (cost : ℕ) (bound : ℤ) → bound ≤ℤ pos cost → ((bound ≡ pos cost) × (gap_status cost bound ≡ 0)) ⊎ ((bound <ℤ pos cost) × (gap_status cost bound ≡ 1))
gap_by cost (pos b) most = gap_test cost b most (b == cost) refl
gap_by cost (negsuc n) most = inr (omega (arith, ints), refl)

ended : (setting : TheSetting) (asked : Asked) (advice : Advice) (status : ℕ) → IsAdvice asked.budget asked.nodes setting advice → status ≡ gap_status advice.answer.cost advice.answer.bound → IsEnd setting asked.budget asked.nodes advice.answer status
ended setting asked advice status is e =
    let answer = advice.answer in
    let best = is.best in
    elim (gap_by answer.cost answer.bound best.bound_most) [
      | inl closed ↦ inl (closed.0, e ∙ closed.1)
      | inr left ↦
          let given = best.gave_up left.0 in
          inr (record { gap = left.0; made = spent_nodes (length answer.tree) asked.nodes given.spent best.nodes_most; useful = best.useful; fewer = given.fewer }, e ∙ left.1)
    ]

-- ## The certificate

-- laws of certificates and of their checker
pub record Laws : Type 0 where
  pub certificates : certified.Laws
  pub alone : ChecksStandAlone

checked_inputs : (files : Files) (cat load file : List ℕ) (a b bytes : List ℕ) (after : Option Files) → AreInputs (Some files) (setting_files cat load) (a ∷ b ∷ []) → after ≡ put_file (Some files) file bytes → file ≢ cat → file ≢ load → length bytes ≤ MOST_CERTIFICATE_BYTES → AreInputs after (files_of (Check cat load file)) (a ∷ b ∷ bytes ∷ [])
checked_inputs files cat load file a b bytes after are e not_cat not_load few =
    let m = insert files file bytes in
    let cat_apart : cat ≢ file = λ x. not_cat (sym x) in
    let load_apart : load ≢ file = λ x. not_load (sym x) in
    subst (λ (fs : Option Files). AreInputs fs (files_of (Check cat load file)) (a ∷ b ∷ bytes ∷ [])) (sym e) (
      record { whole = others_stay files file bytes cat cat_apart ∙ are.0.whole; short = are.0.short },
      (
        record { whole = others_stay files file bytes load load_apart ∙ are.1.0.whole; short = are.1.0.short },
        (record { whole = put_is_there files file bytes; short = few }, tt),
      ),
    )

-- over files that are told a check of the certificate has no other answer
check_alone_after : (laws : Laws) (asked : Asked) (file : List ℕ) (after : Option Files) (left : Files) (answer : Answer) → after ≡ Some left → Answers (Check asked.cat asked.load file) after (proved asked answer) → (done : Done) → Answers (Check asked.cat asked.load file) after done → done ≡ proved asked answer
check_alone_after laws asked file after left answer is accepted done h =
    laws.alone asked.cat asked.load file left done (proved asked answer)
    (subst (λ (fs : Option Files). Answers (Check asked.cat asked.load file) fs done) is h)
    (subst (λ (fs : Option Files). Answers (Check asked.cat asked.load file) fs (proved asked answer)) is accepted)

certificate : (laws : Laws) (setting : TheSetting) (files : Files) (asked : Asked) (advice : Advice) (left_over : ℕ) (a b : List ℕ) (cert : Option (List ℕ)) (puts : List Put) (after : Option Files) → AreInputs (Some files) (setting_files asked.cat asked.load) (a ∷ b ∷ []) → IsSetting a b setting left_over → IsAdvice asked.budget asked.nodes setting advice → PutsFor cert setting asked.budget advice.answer puts → after ≡ put_all (Some files) puts → Certifies cert setting files asked advice.answer after
certificate laws setting files asked advice left_over a b (Some file) puts after are is_setting is put e =
    let answer = advice.answer in
    let own = put.certificate_is in
    let proves = certified.proving laws.certificates setting free_node own.programme asked.budget asked.nodes answer own.stands is.flags is.best in
    let told = certified.told setting free_node own.programme asked.budget answer put.bytes own.is_text proves (λ other total members fits below total_is. is.bounds.all other total members fits total_is) is.bounds.own in
    let there : after ≡ put_file (Some files) file put.bytes = e ∙ ap (put_all (Some files)) put.puts_are in
    let accepted : file ≢ asked.cat → file ≢ asked.load → Answers (Check asked.cat asked.load file) after (proved asked answer) = λ not_cat not_load. record {
      inputs = a ∷ b ∷ put.bytes ∷ [];
      setting = setting;
      left_over = left_over;
      inputs_are = checked_inputs files asked.cat asked.load file a b put.bytes after are there not_cat not_load (laws.certificates.fit put.bytes (answer_cert own.programme (version_of setting.shapes) asked.budget answer) own.is_text);
      setting_is = is_setting;
      holds = (told, is.bounds);
    } in
    record {
      bytes = put.bytes;
      certificate_is = own;
      files_are = there;
      alone = λ not_cat not_load.
          check_alone_after laws asked file after (insert files file put.bytes) answer there (accepted not_cat not_load);
      nothing_else = λ done h.
          certified.only_proved laws.certificates setting free_node put.bytes (answer_cert own.programme (version_of setting.shapes) asked.budget answer) done own.is_text proves.proof proves.obeys (free_given setting put.bytes done h);
      accepted = accepted;
    }
certificate laws setting files asked advice left_over a b None puts after are is_setting is put e = e ∙ ap (put_all (Some files)) put

-- ## The whole

from_advice : (laws : Laws) (words : List (List ℕ)) (files : Files) (asked : Asked) (before after : Outside) (status : ℕ) (advice : Advice) (puts : List Put) (text : List ℕ) (done : Done) → IsAccepted files asked → ArePuts (asked_command asked) (Some files) words (Advised advice) puts text → done ≡ Advised advice → status ≡ status_of done → after.files ≡ put_all (Some files) puts → after.written ≡ append_to before.written text → Headline words files asked before after status done
from_advice laws words files asked before after status advice puts text done ok h answer_is is put wrote =
    let same = same_inputs files asked h.inputs ok h.inputs_are in
    let setting = h.setting in
    let gives : IsAdvice asked.budget asked.nodes setting advice = h.holds.gives in
    let are = subst (AreInputs (Some files) (setting_files asked.cat asked.load)) same h.inputs_are in
    let is_setting = subst (λ (inputs : List (List ℕ)). IsSetting (input inputs 0) (input inputs 1) setting h.left_over) same h.setting_is in
    let puts_are : PutsFor asked.cert setting asked.budget advice.answer puts =
    subst (λ (budget : ℕ). PutsFor asked.cert setting budget advice.answer puts) gives.budget_is h.holds.puts_are in
    record {
      cat_bytes = ok.cat_bytes;
      load_bytes = ok.load_bytes;
      setting = setting;
      left_over = h.left_over;
      inputs_are = are;
      setting_is = is_setting;
      advice = advice;
      done_is = answer_is;
      advice_is = gives;
      printed = wrote ∙ ap (append_to before.written) h.holds.text_is;
      bounded = record { candidates = gives.best.proves.members; fits = gives.best.proves.fits; cost_is = gives.best.proves.cost_is; bound = gives.bounds.all };
      ended = ended setting asked advice status gives (is ∙ ap status_of answer_is);
      certified = certificate laws setting files asked advice h.left_over ok.cat_bytes ok.load_bytes asked.cert puts after.files are is_setting gives puts_are put;
    }

pub headline : {words : List (List ℕ)} {before after : Outside} {done : Done} (laws : Laws) (run : IsRun words before after done) (status : ℕ) → status ≡ status_of done → (files : Files) (asked : Asked) → before.files ≡ Some files → command_of words ≡ Ok (asked_command asked) → IsAccepted files asked → IsSteady before.reads.all after.reads.all → IsSteady before.put_faults after.put_faults → IsSteady before.faults after.faults → done ≢ Memory → Headline words files asked before after status done
headline {words = words} {before = before} {after = after} {done = done} laws run status is files asked tells asks ok reads put writes some =
    let whole = whole_end words before after run.told run.puts run.text done (ran run) (no_fault (command_of words) before after done put writes (write_fault run)) some in
    let some_told : run.told ≢ Memory = λ m. some (whole.stands ∙ m) in
    let to_words = subst (λ (w : Result PlainCommand WordFault). MayAnswerWords w before.files before.reads after.reads run.told) asks run.reply_is.answers in
    let may = subst (λ (fs : Option Files). MayAnswer (asked_command asked) fs before.reads after.reads run.told) tells to_words in
    let advice = told_advice files asked before.reads after.reads run.told ok reads some_told may in
    let put_to = subst (λ (w : Result PlainCommand WordFault). ArePutsTo w before.files words run.told run.puts run.text) asks run.reply_is.puts_are in
    let here = subst (λ (fs : Option Files). ArePuts (asked_command asked) fs words run.told run.puts run.text) tells put_to in
    let puts_are = subst (λ (d : Done). ArePuts (asked_command asked) (Some files) words d run.puts run.text) advice.1 here in
    from_advice laws words files asked before after status advice.0 run.puts run.text done ok puts_are
    (whole.stands ∙ advice.1) is
    (whole.files_are ∙ ap (λ (fs : Option Files). put_all fs run.puts) tells)
    whole.written
