-- No line of a certificate is longer than that of a configuration of all candidates.
use Rattle.std.proofs.Common.{ℕ, ◌+◌, ◌≤◌, List, [], ◌∷◌, ◌++◌, length, map, arith}
use Rattle.std.specs.List.{AllByRecursion}
use Rattle.bip_model.specs.declared.answer.Node.{Node}
use Rattle.certificate.specs.Limits.{EntriesFrom, entry_place, SetLimits, NodeLimits, entry_count, CertLimits}
use Rattle.certificate.specs.Texts.{entry_line, node_line, end_line, set_lines, sets_lines, tree_lines, cert_lines}
use Rattle.certificate.specs.declared.cert.Cert.{Cert}
use Rattle.certificate.specs.declared.cert.Entry.{Entry}
use Rattle.certificate.specs.declared.cert.SparseSet.{SparseSet}
use Rattle.certificate.proofs.Sizes.{title-size, budget-size, config-size, cost-size, bound-size, sets-size, entry-size, set-size, count-front, node-size, tree-size, end-size}
use Rattle.certificate.proofs.Splits.{all-append}

abbrev pub IsShort : List ℕ → Type 0
IsShort line = length line ≤ 1030

entries-short : (least : ℕ) (entries : List Entry) → EntriesFrom least entries → AllByRecursion IsShort (map entry_line entries)
entries-short least [] rise = tt
entries-short least (entry ∷ entries) rise = (omega (arith, entry-size entry rise.0), entries-short (entry_place entry + 1) entries rise.2)

sets-short : (sets : List SparseSet) → AllByRecursion SetLimits sets → entry_count sets ≤ 1500000 → AllByRecursion IsShort (sets_lines sets)
sets-short [] limits few = tt
sets-short (set ∷ sets) limits few =
    let count = count-front set sets in
    let first = set-size set.mu (length set.entries) limits.0.price (omega (arith, count, few)) in
    all-append IsShort (set_lines set) (sets_lines sets) (omega (arith, first), entries-short 0 set.entries limits.0.entries) (sets-short sets limits.1 (omega (arith, count, few)))

nodes-short : (sets : ℕ) (nodes : List Node) → sets ≤ 16 → AllByRecursion (NodeLimits sets) nodes → AllByRecursion IsShort (map node_line nodes)
nodes-short sets [] few limits = tt
nodes-short sets (node ∷ nodes) few limits = (omega (arith, node-size sets node few limits.0), nodes-short sets nodes few limits.1)

pub cert-short : (cert : Cert) → CertLimits cert → AllByRecursion IsShort (cert_lines cert)
cert-short cert limits =
    let tree : AllByRecursion IsShort (tree_lines cert.tree) =
    (omega (arith, tree-size (length cert.tree) limits.few_nodes), nodes-short (length cert.sets) cert.tree limits.few_sets limits.nodes) in (
      omega (arith, title-size cert.version limits.version_most),
      (
        omega (arith, budget-size cert.budget limits.budget),
        (
          config-size cert.config limits.config,
          (
            omega (arith, cost-size cert.cost limits.cost),
            (
              omega (arith, bound-size cert.bound limits.bound),
              (
                omega (arith, sets-size (length cert.sets) limits.few_sets),
                all-append IsShort (sets_lines cert.sets) (tree_lines cert.tree ++ end_line ∷ []) (sets-short cert.sets limits.sets limits.few_entries)
                    (all-append IsShort (tree_lines cert.tree) (end_line ∷ []) tree (omega (arith, end-size), tt)),
              ),
            ),
          ),
        ),
      ),
    )
