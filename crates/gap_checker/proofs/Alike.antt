-- A certificate whose tree is read has the answers of the certificate.
use Rattle.std.proofs.Common.{◌≡◌, ◌∙◌, ℕ, ◌≤◌, List, [], ◌∷◌, ◌++◌, length, length-append, drop, refl, sym, ap, subst, arith}
use Rattle.std.specs.Prelude.{Result, Ok, Err}
use Rattle.std.specs.List.{AllByRecursion}
use Rattle.std.proofs.lemmas.List.{append-nil}
use Rattle.adv_base.specs.Nodes as nodes
use Rattle.adv_base.specs.Settings.{TheSetting}
use Rattle.bip_model.specs.declared.answer.Node.{Node}
use Rattle.certificate.specs.declared.cert.Cert.{Cert}
use Rattle.certificate.specs.declared.head.Head.{Head}
use Rattle.certificate.specs.Heads.{IsHeadOf, tree_text}
use Rattle.certificate.specs.Limits.{NodeLimits, CertLimits}
use Rattle.certificate.specs.Texts.{text_of, end_line}
use Rattle.certificate.proofs.Heads.{tree-behind}
use Rattle.certificate.proofs.OneLine.{all-before}
use Rattle.certificate.proofs.ReadLaws.{text-append}
use Rattle.certificate.proofs.Splits.{lines-front}
use Rattle.gap_checker.specs.At.{cert_at, IsTreeOf}
use Rattle.gap_checker.specs.declared.fault.AtFault.{AtFault}
use Rattle.gap_checker.specs.declared.fault.AtFault.TheVariants as at_faults
use Rattle.gap_checker.specs.declared.fault.CheckFault.{CheckFault}
use Rattle.gap_checker.specs.declared.fault.Checked.{Checked}
use Rattle.gap_checker.specs.Faults.{IsChecked, IsFault}
use Rattle.gap_checker.specs.Laws.{IsAnswer, IsToldOf, ToldOfCertificates, IsAnswerAt, answer_at, AnswersAlike}
use Rattle.gap_checker.proofs.OneFault.{one-answer}
use Rattle.gap_checker.proofs.TreeBreaks.{node_lines, all_lines, ends-not}
use Rattle.gap_checker.proofs.TreeTexts.{nodes-plain, tree-plain, fronts}

own-cert : (bytes : List ℕ) (head : Head) (is : IsHeadOf bytes head) → cert_at head is.cert.tree ≡ is.cert
own-cert bytes head is = ap (λ (h : Head). cert_at h is.cert.tree) is.same

pub own-tree : (bytes : List ℕ) (head : Head) (is : IsHeadOf bytes head) → IsTreeOf head is.cert.tree
own-tree bytes head is =
    let limits = is.certificate.limits in
    subst (λ (h : Head). IsTreeOf h is.cert.tree) (sym is.same) (record { count_is = refl; limits = limits.nodes; whole = limits.tree })

few-sets : (bytes : List ℕ) (head : Head) (is : IsHeadOf bytes head) → length head.sets ≤ 16
few-sets bytes head is = omega (arith, ap (λ (h : Head). length h.sets) is.same, is.certificate.limits.few_sets)

-- a tree whose text begins with the lines of nodes begins with these
pub record Begins (tree read : List Node) : Type 0 where
  pub rest : List Node
  pub parts : tree ≡ read ++ rest

begins-with : (sets : ℕ) (tree read : List Node) (text rest : List ℕ) → sets ≤ 16 → AllByRecursion (NodeLimits sets) tree → AllByRecursion (NodeLimits sets) read → text ≡ tree_text tree → text ≡ text_of (node_lines read) ++ rest → Begins tree read
begins-with sets tree read text rest few h g is parts =
    let front = lines-front (all_lines tree) (node_lines read) rest (tree-plain sets tree few h) (nodes-plain sets read few g) (sym is ∙ parts) in
    case front.0 front.1
  where
    case : (zs : List (List ℕ)) → all_lines tree ≡ node_lines read ++ zs → Begins tree read
    case [] e = absurd (ends-not sets read tree few (sym (e ∙ append-nil (node_lines read))))
    case (z ∷ zs) e = let f = fronts sets read tree z zs few g h (sym e) in record { rest = f.others; parts = f.parts }

-- so one text is that of one tree
one-tree : (head : Head) (tree other : List Node) → length head.sets ≤ 16 → IsTreeOf head tree → IsTreeOf head other → tree_text tree ≡ tree_text other → tree ≡ other
one-tree head tree other few is are same =
    let sets : ℕ = length head.sets in
    let text_is : tree_text tree ≡ text_of (node_lines other) ++ text_of (end_line ∷ []) = same ∙ text-append (node_lines other) (end_line ∷ []) in
    let b = begins-with sets tree other (tree_text tree) (text_of (end_line ∷ [])) few is.limits are.limits refl text_is in
    let none : length b.rest ≡ 0 = omega (arith, ap length b.parts, length-append other b.rest, is.count_is, are.count_is) in
    b.parts ∙ ap (λ (ns : List Node). other ++ ns) (no-nodes b.rest none) ∙ append-nil other
  where
    no-nodes : (ns : List Node) → length ns ≡ 0 → ns ≡ []
    no-nodes [] none = refl
    no-nodes (n ∷ ns) none = absurd (omega (arith, none))

pub told-of-certificates : ToldOfCertificates
told-of-certificates = λ setting root bytes head is.
    let behind = tree-behind bytes head is in
    let few = few-sets bytes head is in
    let own = own-tree bytes head is in
    record {
      checked = λ checked proof.
          let same = one-tree head proof.tree is.cert.tree few proof.tree_is own (sym proof.text_is ∙ behind.0) in
          subst (λ (c : Cert). IsChecked setting root c checked) (ap (cert_at head) same ∙ own-cert bytes head is) proof.checked_is;
      fault = λ fault told.
          let read = all-before (NodeLimits (length head.sets)) told.read told.more told.tree_is.limits in
          let b = begins-with (length head.sets) is.cert.tree told.read (drop head.tree_at bytes) told.begins.0 few own.limits read behind.0 told.begins.1 in
          subst (λ (c : Cert). IsFault setting root c fault) (ap (cert_at head) (sym b.parts) ∙ own-cert bytes head is) (told.fault_is b.rest);
      whole = λ number broken. broken.breaks.none is.cert.tree own behind.0;
    }

pub answers-alike : AnswersAlike
answers-alike = λ setting root bytes head is answer told one other. alike setting root head (drop head.tree_at bytes) is.cert is.certificate.limits (told-of-certificates setting root bytes head is) answer told one other
  where
    alike : (setting : TheSetting) (root : nodes.Node) (head : Head) (text : List ℕ) (cert : Cert) → CertLimits cert → IsToldOf setting root head text cert → (answer : Result Checked CheckFault) (told : Result Checked AtFault) →
        IsAnswer setting root cert answer → IsAnswerAt setting root head text told → told ≡ answer_at answer
    alike setting root head text cert limits is answer (Ok checked) one other =
        ap answer_at (one-answer setting root cert (Ok checked) answer limits (is.checked checked other) one)
    alike setting root head text cert limits is answer (Err at_faults.Memory) one other = absurd (other.0 refl)
    alike setting root head text cert limits is answer (Err at_faults.Failed) one other = absurd (other.1 refl)
    alike setting root head text cert limits is answer (Err (at_faults.Malformed number)) one other = absurd (is.whole number other.2)
    alike setting root head text cert limits is answer (Err (at_faults.Fault fault)) one other =
        ap answer_at (one-answer setting root cert (Err fault) answer limits (other.2.0, is.fault fault other.2.1) one)
