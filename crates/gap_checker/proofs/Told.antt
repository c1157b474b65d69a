-- What a judge of a head says, told of the setting, the root and the head.
use Rattle.std.proofs.Common.{◌≡◌, ℕ, List, [], Option, refl, sym, subst}
use Rattle.std.specs.Prelude.{Result, Err, IfErr}
use Rattle.adv_base.specs.Nodes as nodes
use Rattle.adv_base.specs.Settings.{TheSetting, KeepsLimits}
use Rattle.adv_shelf.specs.Shelf.{Files}
use Rattle.bip_model.specs.declared.answer.Node.{Node}
use Rattle.bip_model.proofs.Showing.{proved-bound}
use Rattle.certificate.specs.declared.cert.Cert.{Cert}
use Rattle.certificate.specs.declared.head.Head.{Head}
use Rattle.gap_checker.specs.At.{IsSomeHead, cert_at, IsBehind, IsAtFault, BoundsBelow}
use Rattle.gap_checker.specs.declared.fault.AtFault.{AtFault}
use Rattle.gap_checker.specs.declared.fault.AtFault.TheVariants as at_faults
use Rattle.gap_checker.specs.declared.fault.CheckFault.{CheckFault}
use Rattle.gap_checker.specs.declared.judge.Judge.{Judge}
use Rattle.gap_checker.specs.Faults.{IsFault}
use Rattle.gap_checker.specs.Views.{config_of, sets_of, rule_of, IsProof}
use Rattle.gap_checker.specs.inner.AtFaults.{at_fault}
use Rattle.gap_checker.specs.inner.Judges.{setting_of, root_of, cert_of, IsJudge, AreSound, IsFaultFor}
use Rattle.gap_checker.specs.inner.Readings.{IsJudgeFor, IsTreeFault, IsWhole}
use Rattle.gap_checker.proofs.Alike.{own-tree}
use Rattle.gap_checker.proofs.Behind.{front-none, front-on}
use Rattle.gap_checker.proofs.Reading.{fault-told}

-- a judge of a head's claims, for a setting and a root
pub record IsJudgeAt (judge : Judge) (setting : TheSetting) (root : nodes.Node) (head : Head) : Type 0 where
  pub setting_is : setting_of judge ≡ setting
  pub root_is : root_of judge ≡ root
  pub cert_is : (tree : List Node) → cert_of judge tree ≡ cert_at head tree

moved : (P : TheSetting → nodes.Node → Type 0) (judge : Judge) (setting : TheSetting) (root : nodes.Node) (head : Head) → IsJudgeAt judge setting root head → P (setting_of judge) (root_of judge) → P setting root
moved P judge setting root head is h = subst (P setting) is.root_is (subst (λ (s : TheSetting). P s (root_of judge)) is.setting_is h)

-- a fault of a text that is at hand
pub tree-fault : (setting : TheSetting) (root : nodes.Node) (head : Head) (text : List ℕ) (fault : AtFault) → IsTreeFault setting root head text fault → IsAtFault setting root head text fault
tree-fault setting root head text at_faults.Memory h = tt
tree-fault setting root head text at_faults.Failed h = absurd h
tree-fault setting root head text (at_faults.Malformed number) h = h
tree-fault setting root head text (at_faults.Fault fault) h = h

-- no read of it failed
pub unfailed : {T : Type 0} (setting : TheSetting) (root : nodes.Node) (head : Head) (text : List ℕ) (r : Result T AtFault) → IfErr r (IsTreeFault setting root head text) → r ≡ Err at_faults.Failed → ⊥
unfailed setting root head text r h is = subst (λ (x : Result _ AtFault). IfErr x (IsTreeFault setting root head text)) is h

pub same_Err : {T : Type 0} (a b : AtFault) → ◌≡◌ {A = Result T AtFault} (Err a) (Err b) → a ≡ b
same_Err a b e = cc

-- some text stands behind each place
pub some-behind : (files : Option Files) (name : List ℕ) (at : ℕ) → (text : List ℕ) × IsBehind files name at text
some-behind files name at = front-on files name at [] (front-none files name at)

-- a fault of what is claimed, whatever stands behind the head
pub claims-fault : (judge : Judge) (setting : TheSetting) (root : nodes.Node) (head : Head) (text : List ℕ) (fault : CheckFault) (told : AtFault) → IsJudgeAt judge setting root head → IsSomeHead head → IsFaultFor judge fault → told ≡ at_fault fault →
    IsAtFault setting root head text told
claims-fault judge setting root head text fault told is some wrong same =
    subst (IsAtFault setting root head text) (sym same)
    (moved (λ (s : TheSetting) (r : nodes.Node). IsAtFault s r head text (at_fault fault)) judge setting root head is
    (tree-fault (setting_of judge) (root_of judge) head text (at_fault fault)
    (fault-told judge head text fault
    (record {
      read = [];
      begins = (text, refl);
      more = some.is.cert.tree;
      tree_is = own-tree some.bytes head some.is;
      fault_is = λ rest. subst (λ (c : Cert). IsFault (setting_of judge) (root_of judge) c fault) (is.cert_is rest) (wrong rest);
    }))))

pub judge-for : (judge : Judge) (setting : TheSetting) (root : nodes.Node) (head : Head) → IsJudgeAt judge setting root head → IsJudge judge → AreSound judge → IsJudgeFor judge head
judge-for judge setting root head is judges sound = record { is_judge = judges; sound = sound; cert_is = is.cert_is }

pub fault-at : (judge : Judge) (setting : TheSetting) (root : nodes.Node) (head : Head) (text : List ℕ) (fault : AtFault) → IsJudgeAt judge setting root head → IsAtFault (setting_of judge) (root_of judge) head text fault → IsAtFault setting root head text fault
fault-at judge setting root head text fault is h = moved (λ (s : TheSetting) (r : nodes.Node). IsAtFault s r head text fault) judge setting root head is h

-- the tree that was read, with which the certificate is a proof
pub whole-proof : (judge : Judge) (setting : TheSetting) (root : nodes.Node) (head : Head) (text : List ℕ) → IsJudgeAt judge setting root head → (w : IsWhole judge head text) → IsProof setting root (cert_at head w.tree)
whole-proof judge setting root head text is w = moved (λ (s : TheSetting) (r : nodes.Node). IsProof s r (cert_at head w.tree)) judge setting root head is w.proof

pub bounds-below : (setting : TheSetting) (root : nodes.Node) (cert : Cert) → KeepsLimits setting → IsProof setting root cert → BoundsBelow setting root cert.budget cert.bound
bounds-below setting root cert limits proof = λ other total is fits below sum.
    proved-bound (rule_of cert.version) setting cert.budget root (config_of cert) cert.cost cert.bound (sets_of cert) cert.tree other total limits proof is fits below sum
