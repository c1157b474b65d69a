-- What a file proves below a root.
use Rattle.std.proofs.Common.{◌≡◌, inr, ℕ, List, Option, Result, Ok, Err, ap, subst}
use Rattle.std.specs.Prelude.{IfOk, IfErr}
use Rattle.adv_base.specs.Nodes as nodes
use Rattle.adv_base.specs.Settings.{TheSetting}
use Rattle.adv_shelf.specs.Shelf.{Files}
use Rattle.bip_model.specs.declared.fix.Fix.{Fix}
use Rattle.bip_model.specs.Proves.{free_node}
use Rattle.bip_model.specs.Views.{node_of}
use Rattle.bip_model.proofs.Showing.{below-free}
use Rattle.certificate.specs.declared.cert.Cert.{Cert}
use Rattle.certificate.specs.Certificates.{OneBreak, OneCertificate, IsCertificate}
use Rattle.dba_rules.specs.Laws.{OneBroken}
use Rattle.dba_rules.specs.Rules.{root_of}
use Rattle.dba_rules.specs.Settled.{IsFirstBroken}
use Rattle.gap_checker.specs.declared.fault.Checked.{Checked}
use Rattle.gap_checker.specs.declared.fault.CheckFault.{CheckFault}
use Rattle.gap_checker.specs.Laws.{AnswersAreOne, IsAnswer}
use Rattle.gap_checker.specs.Views.{config_of}
use Rattle.report.specs.declared.done.Done.{Done}
use Rattle.report.specs.declared.done.Done.TheVariants.{Checked as CheckedDone, NotProved as NotProvedDone}
use Rattle.report.specs.declared.done.NotProved.{NotProved}
use Rattle.report.specs.declared.done.NotProved.TheVariants.{Malformed, Disobeys, Fault}
use Rattle.cophy_core.specs.Files.{InputFile, SomeInput, ReadCounts}
use Rattle.cophy_core.specs.Reading.{IsUnreadFile}
use Rattle.cophy_core.specs.inner.Work.{StopsUnderRules}
use Rattle.cophy_core.specs.declared.stop.Stop.{Stop}
use Rattle.cophy_core.specs.commands.Check.{IsProved, IsFaulty, ProvesNothing, GivesBelow, Gives}
use Rattle.cophy_core.specs.commands.CheckRuled as ruled
use Rattle.cophy_core.proofs.Obeying.{one_root}

-- ## Below the root that leaves each candidate free

-- every configuration is, so the bound is one of all
pub proved_free : (setting : TheSetting) (bytes : List ℕ) (checked : Checked) → IsProved setting free_node bytes checked → Gives bytes setting (CheckedDone checked)
proved_free setting bytes checked is =
    (is, record { all = λ other total members fits total_is. is.bounds other total members fits (below-free other) total_is; own = is.own })

pub given_free : (setting : TheSetting) (bytes : List ℕ) (done : Done) → GivesBelow free_node bytes setting done → Gives bytes setting done
given_free setting bytes (CheckedDone checked) is = proved_free setting bytes checked is
given_free setting bytes done is = is

pub free_given : (setting : TheSetting) (bytes : List ℕ) (done : Done) → Gives bytes setting done → GivesBelow free_node bytes setting done
free_given setting bytes (CheckedDone checked) is = is.0
free_given setting bytes done is = is

-- so a result says of some bytes of a file
pub given_free_each : (result : Result Done Stop) (files : Option Files) (file : InputFile) (setting : TheSetting) (root : nodes.Node) → root ≡ free_node →
    IfOk result (λ done. SomeInput files file (λ bytes. GivesBelow root bytes setting done)) → IfOk result (λ done. SomeInput files file (λ bytes. Gives bytes setting done))
given_free_each (Ok done) files file setting root is h = (h.0, h.1, given_free setting h.0 done (subst (λ (r : nodes.Node). GivesBelow r h.0 setting done) is h.2))
given_free_each (Err stop) files file setting root is h = tt

-- and below the root of rules
pub given_under_rules : (result : Result Done Stop) (files : Option Files) (file : InputFile) (setting : TheSetting) (rules : List ℕ) (root : Fix) → root_of setting rules ≡ Ok root →
    IfOk result (λ done. SomeInput files file (λ bytes. GivesBelow (node_of root) bytes setting done)) → IfOk result (λ done. SomeInput files file (λ bytes. ruled.Gives rules bytes setting done))
given_under_rules (Ok done) files file setting rules root is h = (h.0, h.1, record { root = root; root_is = is; gives = h.2 })
given_under_rules (Err stop) files file setting rules root is h = tt

pub stops_under_rules : (result : Result Done Stop) (files : Option Files) (file : InputFile) (before after : ReadCounts) (rules : List ℕ) (setting : TheSetting) →
    IfErr result (IsUnreadFile files before after file) → IfErr result (StopsUnderRules files file before after rules setting)
stops_under_rules (Ok done) files file before after rules setting h = tt
stops_under_rules (Err stop) files file before after rules setting h = inr h

-- ## One answer

-- laws of certificates, and of what is answered to them
pub record Laws : Type 0 where
  pub one : OneCertificate
  pub lines : OneBreak
  pub answers : AnswersAreOne
  pub broken : OneBroken

-- bytes are the text of a certificate to which this may be answered
abbrev AnswersText : TheSetting → nodes.Node → List ℕ → Result Checked CheckFault → Type 0
AnswersText setting root bytes answer = (cert : Cert) × IsCertificate bytes cert × IsAnswer setting root cert answer

one-told : Laws → (setting : TheSetting) (root : nodes.Node) (bytes : List ℕ) (answer other : Result Checked CheckFault) → AnswersText setting root bytes answer → AnswersText setting root bytes other → answer ≡ other
one-told laws setting root bytes answer other p q =
    let same : p.0 ≡ q.0 = laws.one bytes p.0 q.0 p.1 q.1 in
    laws.answers setting root q.0 answer other q.1.limits (subst (λ (cert : Cert). IsAnswer setting root cert answer) same p.2) q.2

proved-told : (setting : TheSetting) (root : nodes.Node) (bytes : List ℕ) (checked : Checked) → IsProved setting root bytes checked → AnswersText setting root bytes (Ok checked)
proved-told setting root bytes checked p = (p.cert, p.cert_is, p.checked_is)

faulty-told : (setting : TheSetting) (root : nodes.Node) (bytes : List ℕ) (fault : CheckFault) → IsFaulty setting root bytes fault → AnswersText setting root bytes (Err fault)
faulty-told setting root bytes fault p = (p.cert, p.cert_is, (p.no_memory, p.fault_is))

-- a certificate whose configuration is below the root isn't said to disobey it
obeys-or-not : Laws → (root : nodes.Node) (bytes : List ℕ) (cert other : Cert) (number : ℕ) → IsCertificate bytes cert → nodes.IsBelow root (config_of cert) → IsCertificate bytes other → IsFirstBroken root (config_of other) number → ⊥
obeys-or-not laws root bytes cert other number is obeys other_is broken =
    let same = laws.one bytes cert other is other_is in
    laws.broken.none root (config_of other) number broken (subst (λ (c : Cert). nodes.IsBelow root (config_of c)) same obeys)

-- what proves something isn't said to prove nothing
not-both : Laws → (setting : TheSetting) (root : nodes.Node) (bytes : List ℕ) (checked : Checked) (why : NotProved) → IsProved setting root bytes checked → ProvesNothing setting root bytes why → ⊥
not-both laws setting root bytes checked (Malformed line) p q = q.none p.cert p.cert_is
not-both laws setting root bytes checked (Disobeys number) p q = obeys-or-not laws root bytes p.cert q.cert number p.cert_is p.obeys q.cert_is q.first
not-both laws setting root bytes checked (Fault fault) p q =
    let same = one-told laws setting root bytes (Ok checked) (Err fault) (proved-told setting root bytes checked p) (faulty-told setting root bytes fault q) in cc

one-proved : Laws → (setting : TheSetting) (root : nodes.Node) (bytes : List ℕ) (checked other : Checked) → IsProved setting root bytes checked → IsProved setting root bytes other → checked ≡ other
one-proved laws setting root bytes checked other p q =
    let same = one-told laws setting root bytes (Ok checked) (Ok other) (proved-told setting root bytes checked p) (proved-told setting root bytes other q) in cc

one-why : Laws → (setting : TheSetting) (root : nodes.Node) (bytes : List ℕ) (why other : NotProved) → ProvesNothing setting root bytes why → ProvesNothing setting root bytes other → why ≡ other
one-why laws setting root bytes (Malformed line) (Malformed number) p q = ap Malformed (laws.lines bytes line number p q)
one-why laws setting root bytes (Malformed line) (Disobeys number) p q = absurd (p.none q.cert q.cert_is)
one-why laws setting root bytes (Malformed line) (Fault fault) p q = absurd (p.none q.cert q.cert_is)
one-why laws setting root bytes (Disobeys number) (Malformed line) p q = absurd (q.none p.cert p.cert_is)
one-why laws setting root bytes (Disobeys number) (Disobeys other) p q =
    let same = laws.one bytes p.cert q.cert p.cert_is q.cert_is in
    ap Disobeys (laws.broken.one root (config_of q.cert) number other (subst (λ (c : Cert). IsFirstBroken root (config_of c) number) same p.first) q.first)
one-why laws setting root bytes (Disobeys number) (Fault fault) p q = absurd (obeys-or-not laws root bytes q.cert p.cert number q.cert_is q.obeys p.cert_is p.first)
one-why laws setting root bytes (Fault fault) (Malformed line) p q = absurd (q.none p.cert p.cert_is)
one-why laws setting root bytes (Fault fault) (Disobeys number) p q = absurd (obeys-or-not laws root bytes p.cert q.cert number p.cert_is p.obeys q.cert_is q.first)
one-why laws setting root bytes (Fault fault) (Fault other) p q =
    let same = one-told laws setting root bytes (Err fault) (Err other) (faulty-told setting root bytes fault p) (faulty-told setting root bytes other q) in cc

-- a text has one certificate, which has one answer below a root, or it breaks at one line
one-below : Laws → (setting : TheSetting) (root : nodes.Node) (bytes : List ℕ) (done other : Done) → GivesBelow root bytes setting done → GivesBelow root bytes setting other → done ≡ other
one-below laws setting root bytes (CheckedDone checked) (CheckedDone other) p q = ap CheckedDone (one-proved laws setting root bytes checked other p q)
one-below laws setting root bytes (CheckedDone checked) (NotProvedDone why) p q = absurd (not-both laws setting root bytes checked why p q)
one-below laws setting root bytes (CheckedDone checked) other p q = absurd q
one-below laws setting root bytes (NotProvedDone why) (CheckedDone checked) p q = absurd (not-both laws setting root bytes checked why q p)
one-below laws setting root bytes (NotProvedDone why) (NotProvedDone other) p q = ap NotProvedDone (one-why laws setting root bytes why other p q)
one-below laws setting root bytes (NotProvedDone why) other p q = absurd q
one-below laws setting root bytes done other p q = absurd p

pub one-answer : Laws → (setting : TheSetting) (bytes : List ℕ) (done other : Done) → Gives bytes setting done → Gives bytes setting other → done ≡ other
one-answer laws setting bytes done other p q =
    one-below laws setting free_node bytes done other (free_given setting bytes done p) (free_given setting bytes other q)

-- and so it is below the root that rules make
pub one-ruled-answer : Laws → (setting : TheSetting) (rules bytes : List ℕ) (done other : Done) → ruled.Gives rules bytes setting done → ruled.Gives rules bytes setting other → done ≡ other
one-ruled-answer laws setting rules bytes done other p q =
    let same = one_root setting rules p.root q.root p.root_is q.root_is in
    one-below laws setting (node_of q.root) bytes done other (subst (λ (root : Fix). GivesBelow (node_of root) bytes setting done) same p.gives) q.gives
