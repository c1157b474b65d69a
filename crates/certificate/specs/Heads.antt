-- The head of a certificate, and of the bytes that are its text.
use Rattle.std.specs.Prelude.{◌≡◌, ℕ, ◌<◌, ◌≤◌, ◌^◌, List, [], ◌∷◌, ◌++◌, length, map}
use Rattle.std.specs.List.{AllByRecursion}
use Rattle.adv_base.specs.declared.limits.TheConstants.{MOST_PAGES, MOST_SETS, MOST_ENTRIES, MOST_NODES, MOST_CERTIFICATE_BYTES}
use Rattle.bip_model.specs.declared.answer.Node.{Node}
use Rattle.certificate.specs.Certificates.{IsCertificate}
use Rattle.certificate.specs.Limits.{Rise, IsSmall, SetLimits, entry_count}
use Rattle.certificate.specs.Texts.{text_of, tree_line, node_line, end_line, head_lines, sets_lines}
use Rattle.certificate.specs.declared.cert.Cert.{Cert}
use Rattle.certificate.specs.declared.head.Head.{Head}

-- the lines before those of the nodes
abbrev pub lines_before : Cert → List (List ℕ)
lines_before cert =
    head_lines cert.version cert.budget cert.config cert.cost cert.bound (length cert.sets)
    ++ (sets_lines cert.sets ++ tree_line (length cert.tree) ∷ [])

-- the text behind them
abbrev pub tree_text : List Node → List ℕ
tree_text tree = text_of (map node_line tree ++ end_line ∷ [])

abbrev pub head_of : Cert → Head
head_of cert = record {
  version = cert.version;
  budget = cert.budget;
  config = cert.config;
  cost = cert.cost;
  bound = cert.bound;
  sets = cert.sets;
  nodes = length cert.tree;
  tree_at = length (text_of (lines_before cert));
  lines = length (lines_before cert);
}

-- bytes are the text of a certificate with this head
pub record IsHeadOf (bytes : List ℕ) (head : Head) : Type 0 where
  pub cert : Cert
  pub certificate : IsCertificate bytes cert
  pub same : head ≡ head_of cert

-- what the head of a certificate keeps
pub record HeadLimits (head : Head) : Type 0 where
  pub version_least : 1 ≤ head.version
  pub version_most : head.version ≤ 2
  pub budget : head.budget ≤ MOST_PAGES
  pub config : Rise 1 head.config
  pub cost : head.cost < 2 ^ 127
  pub bound : IsSmall head.bound
  pub few_sets : length head.sets ≤ MOST_SETS
  pub sets : AllByRecursion SetLimits head.sets
  pub few_entries : entry_count head.sets ≤ MOST_ENTRIES
  pub some_nodes : 0 < head.nodes
  pub few_nodes : head.nodes ≤ MOST_NODES
  pub tree_at : head.tree_at ≤ MOST_CERTIFICATE_BYTES
  pub lines : head.lines ≤ MOST_CERTIFICATE_BYTES

-- the head of the certificate whose text is given keeps the limits
abbrev pub HeadsKeepLimits : Type 0
HeadsKeepLimits = (bytes : List ℕ) (head : Head) → IsHeadOf bytes head → HeadLimits head
