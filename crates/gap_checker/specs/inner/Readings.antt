-- Trees, while their text is read.
use Rattle.std.specs.Prelude.{◌≡◌, ℕ, ◌+◌, ◌-◌, ◌*◌, ◌%◌, ◌<◌, ◌≤◌, Bool, true, false, List, [], ◌∷◌, ◌++◌, length, map}
use Rattle.std.specs.List.{AllByRecursion}
use Rattle.adv_base.specs.Nodes as nodes
use Rattle.adv_base.specs.Settings.{TheSetting}
use Rattle.bip_model.specs.declared.answer.Node.{Node}
use Rattle.certificate.specs.declared.head.Head.{Head}
use Rattle.certificate.specs.Certificates.{IsLine}
use Rattle.certificate.specs.Heads.{tree_text}
use Rattle.certificate.specs.Limits.{NodeLimits}
use Rattle.certificate.specs.Texts.{text_of, node_line, end_line}
use Rattle.gap_checker.specs.declared.fault.AtFault.{AtFault}
use Rattle.gap_checker.specs.declared.fault.AtFault.TheVariants as at_faults
use Rattle.gap_checker.specs.declared.judge.Judge.{Judge}
use Rattle.gap_checker.specs.declared.tree_reader.TreeReader.{TreeReader}
use Rattle.gap_checker.specs.At.{cert_at, IsTreeOf, IsAtFault}
use Rattle.gap_checker.specs.Views.{IsProof}
use Rattle.gap_checker.specs.inner.Judges.{setting_of, root_of, cert_of, IsJudge, AreSound, IsWalk}
use Rattle.gap_checker.specs.inner.Nodes.{starts_of}
use Rattle.gap_checker.specs.inner.Walks.{TreesFit}

-- a judge of what a head claims
pub record IsJudgeFor (judge : Judge) (head : Head) : Type 0 where
  pub is_judge : IsJudge judge
  pub sound : AreSound judge
  pub cert_is : (tree : List Node) → cert_of judge tree ≡ cert_at head tree

-- ## Lines

abbrev pub end_count : Bool → ℕ
end_count true = 1
end_count false = 0

-- the line behind the nodes, where it came
abbrev pub end_lines : Bool → List (List ℕ)
end_lines true = end_line ∷ []
end_lines false = []

abbrev pub lines_of : List Node → Bool → List (List ℕ)
lines_of read is_done = map node_line read ++ end_lines is_done

-- the number of the open line, from the file's first
abbrev pub line_number : Head → TreeReader → ℕ
line_number head reader = head.lines + reader.read + 1 + end_count reader.is_done

-- how many bytes may come at most
abbrev pub bytes_left : Head → TreeReader → ℕ
bytes_left head reader = 6 * (head.nodes - reader.read + (1 - end_count reader.is_done)) + (5 - length reader.partial)

-- ## What was read

pub record ReaderFits (head : Head) (reader : TreeReader) : Type 0 where
  pub few_sets : length head.sets ≤ 16
  pub few_nodes : head.nodes ≤ 1000000
  pub within : reader.read ≤ head.nodes
  pub trees : TreesFit (length reader.starts.items) (head.nodes - reader.read)
  pub even : (head.nodes + reader.read + length reader.starts.items) % 2 ≡ 0
  pub done : reader.is_done ≡ true → reader.read ≡ head.nodes
  pub short : length reader.partial ≤ 5

-- a text is the lines of nodes, each of which is right where it stands, and the open one
pub record HasTaken (judge : Judge) (head : Head) (reader : TreeReader) (text : List ℕ) : Type 0 where
  pub read : List Node
  pub count : length read ≡ reader.read
  pub limits : AllByRecursion (NodeLimits (length head.sets)) read
  pub walk : IsWalk judge read (starts_of reader.starts.items)
  pub plain : IsLine reader.partial
  pub parts : text ≡ text_of (lines_of read reader.is_done) ++ reader.partial

-- bytes stand behind those of the open line, or they are too many
abbrev pub Extends : Bool → TreeReader → List ℕ → TreeReader → Type 0
Extends true old bytes new = (new ≡ record old { partial = old.partial ++ bytes }) × (length new.partial ≤ 5)
Extends false old bytes new = (new ≡ old) × (5 < length (old.partial ++ bytes))

-- bytes more were read
pub record TakesOn (judge : Judge) (head : Head) (old : TreeReader) (bytes : List ℕ) (new : TreeReader) : Type 0 where
  pub fits : ReaderFits head new
  pub left : bytes_left head new + length bytes ≤ bytes_left head old
  pub taken : (text : List ℕ) → HasTaken judge head old text → HasTaken judge head new (text ++ bytes)

-- what is told of a text that is at hand; no read of it fails
abbrev pub IsTreeFault : TheSetting → nodes.Node → Head → List ℕ → AtFault → Type 0
IsTreeFault setting root head text at_faults.Failed = ⊥
IsTreeFault setting root head text fault = IsAtFault setting root head text fault

-- or there is a fault in them, whatever comes behind them
abbrev pub IsFaultIn : Judge → Head → TreeReader → List ℕ → AtFault → Type 0
IsFaultIn judge head old bytes fault =
    (text more : List ℕ) → HasTaken judge head old text → IsTreeFault (setting_of judge) (root_of judge) head ((text ++ bytes) ++ more) fault

-- a text is that of a tree, with which the certificate is a proof
pub record IsWhole (judge : Judge) (head : Head) (text : List ℕ) : Type 0 where
  pub tree : List Node
  pub tree_is : IsTreeOf head tree
  pub text_is : text ≡ tree_text tree
  pub proof : IsProof (setting_of judge) (root_of judge) (cert_at head tree)
