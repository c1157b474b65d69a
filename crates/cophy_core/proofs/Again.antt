-- A certificate that is read once more: where its file is told it is the same one; else what is told is so of some bytes that
-- the file may have held.
use Rattle.std.proofs.Common.{◌≡◌, ◌≢◌, ◌∙◌, ℕ, ◌+◌, ◌≤◌, List, [], ◌∷◌, ◌++◌, length, map, drop, Option, None, Some, refl, sym, ap, subst, arith, length-append, append_assoc}
use Rattle.std.specs.Prelude.{MatchOption, decimal, ◌/◌, ◌%◌}
use Rattle.std.specs.List.{AllByRecursion}
use Rattle.std.proofs.lemmas.Fmt.{decimal_nonempty, decimal_step, length-decimal-le_wide}
use Rattle.adv_base.specs.Numbers.{BeginsWithLine}
use Rattle.adv_base.specs.Nodes as nodes
use Rattle.adv_base.specs.Settings.{TheSetting, KeepsLimits}
use Rattle.adv_base.specs.declared.limits.TheConstants.{MOST_CERTIFICATE_BYTES}
use Rattle.adv_shelf.specs.Shelf.{Files, IsFile}
use Rattle.bip_model.specs.declared.answer.Node.{Node}
use Rattle.bip_model.specs.Laws.{ProofsBound}
use Rattle.certificate.specs.Certificates.{IsCertificate, IsLine, BreaksAt, TextsFit}
use Rattle.certificate.specs.Heads.{IsHeadOf, HeadLimits, HeadsKeepLimits, lines_before}
use Rattle.certificate.specs.Limits.{CertLimits}
use Rattle.certificate.specs.Texts.{text_of, title_line, budget_line, config_line, cost_line, bound_line, sets_line, sets_lines, head_lines, tree_line, tree_lines, node_line, end_line, cert_lines, cert_text}
use Rattle.certificate.specs.declared.cert.Cert.{Cert}
use Rattle.certificate.specs.declared.head.Head.{Head}
use Rattle.certificate.specs.inner.Outlines.{Draft}
use Rattle.certificate.specs.inner.Runs.{Run}
use Rattle.certificate.specs.inner.Steps.{start}
use Rattle.certificate.proofs.Breaks.{breaks-behind}
use Rattle.certificate.proofs.Complete.{complete}
use Rattle.certificate.proofs.OneLine.{all-before}
use Rattle.certificate.proofs.ReadLaws.{text-append}
use Rattle.certificate.proofs.Reached.{has-read}
use Rattle.certificate.proofs.Sizes.{line-front}
use Rattle.certificate.proofs.Splits.{all-append, cert-plain, lines-front}
use Rattle.dba_rules.specs.Settled.{IsFirstBroken}
use Rattle.gap_checker.specs.At.{BoundsBelow, cert_at, IsBehind, IsTreeOf, IsProofAt, IsFaultAt, IsMalformed}
use Rattle.gap_checker.specs.Faults.{IsChecked}
use Rattle.gap_checker.specs.Laws.{ToldOfCertificates}
use Rattle.gap_checker.specs.Views.{config_of, config_with, rule_of, sets_of}
use Rattle.gap_checker.specs.declared.fault.Checked.{Checked}
use Rattle.gap_checker.specs.declared.fault.CheckFault.{CheckFault}
use Rattle.gap_checker.specs.declared.fault.CheckFault.TheVariants as check
use Rattle.cophy_core.specs.Files.{InputFile, IsInput, SomeInput}
use Rattle.cophy_core.specs.commands.Check.{IsProved, IsDisobeying, IsFaulty}

-- the laws that the checker's crates state
pub record Laws : Type 0 where
  pub fit : TextsFit
  pub keep : HeadsKeepLimits
  pub told : ToldOfCertificates
  pub bound : ProofsBound

-- what stands behind a place of a file that is told
behind : (files : Files) (name bytes text : List ℕ) (at : ℕ) → IsFile (Some files) name bytes → IsBehind (Some files) name at text → text ≡ drop at bytes
behind files name bytes text at is told =
    sym (subst (λ (file : Option (List ℕ)). MatchOption file (text ≡ []) (λ b. drop at b ≡ text)) is told)

-- a head with a tree that it may have is a certificate
with_tree : (head : Head) (tree : List Node) → HeadLimits head → IsTreeOf head tree → CertLimits (cert_at head tree)
with_tree head tree limits is = record {
  version_least = limits.version_least;
  version_most = limits.version_most;
  budget = limits.budget;
  config = limits.config;
  cost = limits.cost;
  bound = limits.bound;
  few_sets = limits.few_sets;
  sets = limits.sets;
  few_entries = limits.few_entries;
  few_nodes = omega (arith, is.count_is, limits.few_nodes);
  nodes = is.limits;
  tree = is.whole;
}

-- its text may be the file's, where that isn't told
text_input : TextsFit → (file : InputFile) (cert : Cert) → MOST_CERTIFICATE_BYTES ≤ file.most → IsCertificate (cert_text cert) cert → IsInput None file (cert_text cert)
text_input fit file cert most is = record { whole = tt; short = omega (arith, most, fit (cert_text cert) cert is) }

-- the configuration of a head is that of its certificate
obeying : (root : nodes.Node) (bytes : List ℕ) (head : Head) (is : IsHeadOf bytes head) → nodes.IsBelow root (config_with head.config) → nodes.IsBelow root (config_of is.cert)
obeying root bytes head is obeys = subst (λ (numbers : List ℕ). nodes.IsBelow root (config_with numbers)) (ap (λ (h : Head). h.config) is.same) obeys

-- ## What goes against a root

pub disobeying : (files : Option Files) (file : InputFile) (root : nodes.Node) (head : Head) (number : ℕ) →
    SomeInput files file (λ bytes. IsHeadOf bytes head) → IsFirstBroken root (config_with head.config) number → SomeInput files file (λ bytes. IsDisobeying root bytes number)
disobeying files file root head number read first =
    let is = read.2 in
    let own = subst (λ (numbers : List ℕ). IsFirstBroken root (config_with numbers) number) (ap (λ (h : Head). h.config) is.same) first in
    (read.0, read.1, record { cert = is.cert; cert_is = is.certificate; first = own })

-- ## What is proved

pub proved : ProofsBound → (setting : TheSetting) (root : nodes.Node) (bytes : List ℕ) (cert : Cert) (checked : Checked) → KeepsLimits setting →
    IsCertificate bytes cert → nodes.IsBelow root (config_of cert) → IsChecked setting root cert checked → IsProved setting root bytes checked
proved bound setting root bytes cert checked limits cert_is obeys is =
    let proof = is.proof in
    let all : BoundsBelow setting root cert.budget cert.bound = λ other total members fits below total_is.
    bound (rule_of cert.version) setting cert.budget root (config_of cert) cert.cost cert.bound (sets_of cert) cert.tree other total limits proof members fits below total_is in
    record {
      cert = cert;
      cert_is = cert_is;
      obeys = obeys;
      checked_is = is;
      bounds = rw (is.budget_is, is.bound_is) all;
      own = rw (is.bound_is, is.cost_is) (all (config_of cert) cert.cost proof.members proof.fits obeys proof.cost_is);
    }

pub proved_again : Laws → (files : Option Files) (file : InputFile) (setting : TheSetting) (root : nodes.Node) (head : Head) (text : List ℕ) (checked : Checked) → KeepsLimits setting → MOST_CERTIFICATE_BYTES ≤ file.most →
    SomeInput files file (λ bytes. IsHeadOf bytes head) → nodes.IsBelow root (config_with head.config) → IsBehind files file.name head.tree_at text → IsProofAt setting root head text checked →
    SomeInput files file (λ bytes. IsProved setting root bytes checked)
proved_again laws (Some files) file setting root head text checked limits most read obeys told proof =
    let bytes = read.0 in
    let is = read.2 in
    let same = behind files file.name bytes text head.tree_at read.1.whole told in
    let one = (laws.told setting root bytes head is).checked checked (subst (λ (t : List ℕ). IsProofAt setting root head t checked) same proof) in
    (bytes, read.1, proved laws.bound setting root bytes is.cert checked limits is.certificate (obeying root bytes head is obeys) one)
proved_again laws None file setting root head text checked limits most read obeys told proof =
    let cert = cert_at head proof.tree in
    let cert_is : IsCertificate (cert_text cert) cert = record { limits = with_tree head proof.tree (laws.keep read.0 head read.2) proof.tree_is; text = refl } in
    (cert_text cert, text_input laws.fit file cert most cert_is, proved laws.bound setting root (cert_text cert) cert checked limits cert_is obeys proof.checked_is)

-- ## The first fault

pub faulty_again : Laws → (files : Option Files) (file : InputFile) (setting : TheSetting) (root : nodes.Node) (head : Head) (text : List ℕ) (fault : CheckFault) → MOST_CERTIFICATE_BYTES ≤ file.most →
    SomeInput files file (λ bytes. IsHeadOf bytes head) → nodes.IsBelow root (config_with head.config) → IsBehind files file.name head.tree_at text → fault ≢ check.Memory → IsFaultAt setting root head text fault →
    SomeInput files file (λ bytes. IsFaulty setting root bytes fault)
faulty_again laws (Some files) file setting root head text fault most read obeys told some wrong =
    let bytes = read.0 in
    let is = read.2 in
    let same = behind files file.name bytes text head.tree_at read.1.whole told in
    let one = (laws.told setting root bytes head is).fault fault (subst (λ (t : List ℕ). IsFaultAt setting root head t fault) same wrong) in
    (bytes, read.1, record { cert = is.cert; cert_is = is.certificate; obeys = obeying root bytes head is obeys; no_memory = some; fault_is = one })
faulty_again laws None file setting root head text fault most read obeys told some wrong =
    let cert = cert_at head (wrong.read ++ wrong.more) in
    let cert_is : IsCertificate (cert_text cert) cert = record { limits = with_tree head (wrong.read ++ wrong.more) (laws.keep read.0 head read.2) wrong.tree_is; text = refl } in
    (cert_text cert, text_input laws.fit file cert most cert_is, record { cert = cert; cert_is = cert_is; obeys = obeys; no_memory = some; fault_is = wrong.fault_is wrong.more })

-- ## The line of a break

-- a head with a tree and another budget
abbrev priced : Head → List Node → ℕ → Cert
priced head tree budget =
    record { version = head.version; budget = budget; config = head.config; cost = head.cost; bound = head.bound; sets = head.sets; tree = tree }

-- the lines behind that of the budget
abbrev behind_budget : Head → List Node → List (List ℕ)
behind_budget head tree =
    config_line head.config ∷ cost_line head.cost ∷ bound_line head.bound ∷ sets_line (length head.sets)
    ∷ (sets_lines head.sets ++ (tree_lines tree ++ end_line ∷ []))

priced_is : (head : Head) (tree : List Node) (budget : ℕ) → budget ≤ 10 → HeadLimits head → IsTreeOf head tree → CertLimits (priced head tree budget)
priced_is head tree budget most limits is =
    let own = with_tree head tree limits is in record {
      version_least = own.version_least;
      version_most = own.version_most;
      budget = omega (arith, most);
      config = own.config;
      cost = own.cost;
      bound = own.bound;
      few_sets = own.few_sets;
      sets = own.sets;
      few_entries = own.few_entries;
      few_nodes = own.few_nodes;
      nodes = own.nodes;
      tree = own.tree;
    }

size : (head : Head) (tree : List Node) (budget : ℕ) → length (cert_text (priced head tree budget)) ≡ length (title_line head.version) + 2 + length (budget_line budget) + length (text_of (behind_budget head tree))
size head tree budget =
    let lines = behind_budget head tree in
    let whole : length (cert_text (priced head tree budget)) ≡ length (title_line head.version) + 1 + length (text_of (budget_line budget ∷ lines)) = line-front (title_line head.version) (budget_line budget ∷ lines) in
    omega (arith, whole, line-front (budget_line budget) lines)

narrow : length (budget_line 0) ≤ 8
unfolding budget_line
narrow = let digits = length-decimal-le_wide 1 0 (omega arith) (omega arith) (omega arith) in omega (arith, digits)

wide : 9 ≤ length (budget_line 10)
unfolding budget_line
wide =
    let step = ap length (decimal_step 10 (omega arith) (omega arith)) in
    let both = length-append (decimal (10 / 10)) ((48 + 10 % 10) ∷ []) in
    omega (arith, step, both, decimal_nonempty (10 / 10) (omega arith))

-- so the text with the shortest budget is shorter than the longest that there may be
short_text : TextsFit → (head : Head) (tree : List Node) → HeadLimits head → IsTreeOf head tree → length (cert_text (priced head tree 0)) + 1 ≤ MOST_CERTIFICATE_BYTES
short_text fit head tree limits is =
    let dear = priced head tree 10 in
    let most = fit (cert_text dear) dear (record { limits = priced_is head tree 10 (omega arith) limits is; text = refl }) in
    omega (arith, most, size head tree 0, size head tree 10, narrow, wide)

-- the lines of a certificate begin with those before the nodes
front : (cert : Cert) → cert_lines cert ≡ lines_before cert ++ (map node_line cert.tree ++ end_line ∷ [])
front cert =
    let head : List (List ℕ) = head_lines cert.version cert.budget cert.config cert.cost cert.bound (length cert.sets) in
    let tree : List (List ℕ) = tree_line (length cert.tree) ∷ [] in
    let nodes : List (List ℕ) = map node_line cert.tree ++ end_line ∷ [] in
    sym (append_assoc head (sets_lines cert.sets ++ tree) nodes ∙ ap (λ (ls : List (List ℕ)). head ++ ls) (append_assoc (sets_lines cert.sets) tree nodes))

front_count : (cert : Cert) → length (lines_before cert) ≡ 6 + (length (sets_lines cert.sets) + 1)
front_count cert =
    let sets = length-append (sets_lines cert.sets) (tree_line (length cert.tree) ∷ []) in
    let all = length-append (head_lines cert.version cert.budget cert.config cert.cost cert.bound (length cert.sets)) (sets_lines cert.sets ++ tree_line (length cert.tree) ∷ []) in
    omega (arith, sets, all)

-- lines that a certificate begins with, and an open one behind them
record Begins (cert : Cert) (lines : List (List ℕ)) : Type 0 where
  is : IsCertificate (cert_text cert) cert
  plain : AllByRecursion IsLine lines
  rest : List ℕ
  begins : cert_text cert ≡ text_of lines ++ rest

no_line : (line more : List ℕ) → BeginsWithLine (0 ∷ []) line more → ⊥
no_line [] more begins = absurd (let parts = begins.parts in cc)
no_line (b ∷ line) more begins = absurd (omega (arith, ap length begins.parts, length-append line (10 ∷ more)))

-- lines lead to a draft, and those behind them on from there
halves : (xs ys : List (List ℕ)) (d f : Draft) → Run d (xs ++ ys) f → (e : Draft) × Run d xs e
halves [] ys d f run = (d, refl)
halves (x ∷ xs) ys d f run = let rest = halves xs ys run.0 f run.2 in (rest.0, (run.0, run.1, rest.1))

breaks : (cert : Cert) (lines : List (List ℕ)) → Begins cert lines → BreaksAt (text_of lines ++ 0 ∷ []) (length lines + 1)
breaks cert lines begun =
    let limits = begun.is.limits in
    let parts = lines-front (cert_lines cert) lines begun.rest (cert-plain cert limits) begun.plain begun.begins in
    let all = complete cert limits in
    let run = halves lines parts.0 start all.0 (subst (λ (ls : List (List ℕ)). Run start ls all.0) parts.1 all.1) in
    breaks-behind (text_of lines ++ 0 ∷ []) (0 ∷ []) run.0 (length lines + 1) lines (has-read lines (0 ∷ []) run.0 run.1)
    no_line (λ none done. absurd (omega (arith, ap length none)))

-- where the file isn't told: with the lines before the break, and an open one behind them, a text breaks so
broken : TextsFit → (file : InputFile) (setting : TheSetting) (root : nodes.Node) (head : Head) (text bytes : List ℕ) (number : ℕ) → HeadLimits head → MOST_CERTIFICATE_BYTES ≤ file.most →
    IsHeadOf bytes head → IsMalformed setting root head text number → SomeInput None file (λ b. BreaksAt b number)
broken fit file setting root head text bytes number limits most is wrong =
    let goes = wrong.breaks.goes_on in
    let cert = priced head goes.tree 0 in
    let before = lines_before cert in
    let lines = before ++ goes.lines in
    let cert_is : IsCertificate (cert_text cert) cert = record { limits = priced_is head goes.tree 0 (omega arith) limits goes.tree_is; text = refl } in
    let nodes : List (List ℕ) = map node_line goes.tree ++ end_line ∷ [] in
    let plain = all-before IsLine before nodes (subst (AllByRecursion IsLine) (front cert) (cert-plain cert cert_is.limits)) in
    let begins : cert_text cert ≡ text_of lines ++ goes.tree_begins.0 =
    ap text_of (front cert) ∙ text-append before nodes ∙ ap (λ (t : List ℕ). text_of before ++ t) goes.tree_begins.1
    ∙ sym (append_assoc (text_of before) (text_of goes.lines) goes.tree_begins.0) ∙ ap (λ (t : List ℕ). t ++ goes.tree_begins.0) (sym (text-append before goes.lines)) in
    let sets = ap (λ (h : Head). length (sets_lines h.sets)) is.same in
    let count : length lines + 1 ≡ number =
    omega (arith, length-append before goes.lines, front_count cert, front_count is.cert, sets, ap (λ (h : Head). h.lines) is.same, goes.count_is, wrong.breaks.number_is, wrong.number_is) in
    let own = breaks cert lines (record { is = cert_is; plain = all-append IsLine before goes.lines plain goes.whole; rest = goes.tree_begins.0; begins = begins }) in
    let long = ap length begins ∙ length-append (text_of lines) goes.tree_begins.0 in
    let few : length (text_of lines ++ 0 ∷ []) ≤ file.most = omega (arith, short_text fit head goes.tree limits goes.tree_is, long, length-append (text_of lines) (0 ∷ []), most) in
    (text_of lines ++ 0 ∷ [], record { whole = tt; short = few }, subst (BreaksAt (text_of lines ++ 0 ∷ [])) count own)

pub broken_again : Laws → (files : Option Files) (file : InputFile) (setting : TheSetting) (root : nodes.Node) (head : Head) (text : List ℕ) (number : ℕ) → MOST_CERTIFICATE_BYTES ≤ file.most →
    SomeInput files file (λ bytes. IsHeadOf bytes head) → IsBehind files file.name head.tree_at text → IsMalformed setting root head text number → SomeInput files file (λ bytes. BreaksAt bytes number)
broken_again laws (Some files) file setting root head text number most read told wrong =
    let same = behind files file.name read.0 text head.tree_at read.1.whole told in
    absurd ((laws.told setting root read.0 head read.2).whole number (subst (λ (t : List ℕ). IsMalformed setting root head t number) same wrong))
broken_again laws None file setting root head text number most read told wrong =
    broken laws.fit file setting root head text read.0 number (laws.keep read.0 head read.2) most read.2 wrong
