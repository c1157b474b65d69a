-- How many bytes the text of a certificate has at most.
use Rattle.std.proofs.Common.{◌≡◌, ◌∙◌, ℕ, suc, ◌+◌, ◌*◌, ◌<◌, ◌≤◌, ◌^◌, List, [], ◌∷◌, ◌++◌, length, map, ℤ, pos, negsuc, refl, ap, arith, length-append}
use Rattle.std.specs.Prelude.{decimal}
use Rattle.std.specs.List.{AllByRecursion}
use Rattle.std.proofs.lemmas.Fmt.{length-decimal-le_wide}
use Rattle.std.proofs.lemmas.List.Sums.{sum_by-cons}
use Rattle.bip_model.specs.declared.answer.Node.{Node}
use Rattle.bip_model.specs.declared.answer.Node.TheVariants.{Branch, Bounded, Overfull}
use Rattle.certificate.specs.Certificates.{TextsFit}
use Rattle.certificate.specs.Limits.{Rise, IsSmall, EntryLimits, EntriesFrom, entry_place, SetLimits, NodeLimits, entry_count, CertLimits}
use Rattle.certificate.specs.Texts.{text_of, word, words, title_line, budget_line, config_line, cost_line, bound_line, sets_line, set_line, entry_line, tree_line, node_line, end_line, set_lines, sets_lines, head_lines, tree_lines, cert_text}
use Rattle.certificate.specs.declared.cert.Cert.{Cert}
use Rattle.certificate.specs.declared.cert.Entry.{Entry}
use Rattle.certificate.specs.declared.cert.SparseSet.{SparseSet}
use Rattle.certificate.proofs.ReadLaws.{text-append}

-- ## Words and lines

-- a line in front of lines
pub line-front : (line : List ℕ) (lines : List (List ℕ)) → length (text_of (line ∷ lines)) ≡ length line + 1 + length (text_of lines)
line-front line lines = let both = length-append line (10 ∷ text_of lines) in omega (arith, both)

pub lines-both : (xs ys : List (List ℕ)) → length (text_of (xs ++ ys)) ≡ length (text_of xs) + length (text_of ys)
lines-both xs ys = ap (λ (t : List ℕ). length t) (text-append xs ys) ∙ length-append (text_of xs) (text_of ys)

-- ## The lines before those of the sets

pub title-size : (version : ℕ) → version ≤ 2 → length (title_line version) ≤ 19
unfolding title_line
title-size version most = let digits = length-decimal-le_wide 1 version (omega arith) (omega (arith, most)) (omega (arith, most)) in omega (arith, digits)

pub budget-size : (pages : ℕ) → pages ≤ 1000000000000 → length (budget_line pages) ≤ 20
unfolding budget_line
budget-size pages most = let digits = length-decimal-le_wide 13 pages (omega arith) (omega (arith, most)) (omega (arith, most)) in omega (arith, digits)

-- numbers that rise are few
rise-count : (least : ℕ) (numbers : List ℕ) → least ≤ 257 → Rise least numbers → least + length numbers ≤ 257
rise-count least [] low rise = omega (arith, low)
rise-count least (n ∷ ns) low rise =
    let rest = rise-count (n + 1) ns (omega (arith, rise.1)) rise.2 in
    omega (arith, rest, rise.0)

words-size : (least : ℕ) (numbers : List ℕ) → Rise least numbers → length (words numbers) ≤ 4 * length numbers
words-size least [] rise = omega arith
words-size least (n ∷ ns) rise =
    let digits = length-decimal-le_wide 3 n (omega arith) (omega (arith, rise.1)) (omega (arith, rise.1)) in
    let both = length-append (word n) (words ns) in
    omega (arith, digits, both, words-size (n + 1) ns rise.2)

pub config-size : (numbers : List ℕ) → Rise 1 numbers → length (config_line numbers) ≤ 1030
unfolding config_line
config-size numbers rise = omega (arith, words-size 1 numbers rise, rise-count 1 numbers (omega arith) rise)

pub cost-size : (cost : ℕ) → cost < 2 ^ 127 → length (cost_line cost) ≤ 44
unfolding cost_line
cost-size cost small = let digits = length-decimal-le_wide 39 cost (omega arith) (omega (arith, small)) (omega (arith, small)) in omega (arith, digits)

pub bound-size : (bound : ℤ) → IsSmall bound → length (bound_line bound) ≤ 46
unfolding bound_line
bound-size (pos n) small = let digits = length-decimal-le_wide 39 n (omega arith) (omega (arith, small)) (omega (arith, small)) in omega (arith, digits)
bound-size (negsuc n) small = let digits = length-decimal-le_wide 39 (suc n) (omega arith) (omega (arith, small)) (omega (arith, small)) in omega (arith, digits)

pub sets-size : (count : ℕ) → count ≤ 16 → length (sets_line count) ≤ 7
unfolding sets_line
sets-size count few = let digits = length-decimal-le_wide 2 count (omega arith) (omega (arith, few)) (omega (arith, few)) in omega (arith, digits)

head-size : (version budget : ℕ) (config : List ℕ) (cost : ℕ) (bound : ℤ) (count : ℕ) → version ≤ 2 → budget ≤ 1000000000000 → Rise 1 config → cost < 2 ^ 127 → IsSmall bound → count ≤ 16 →
    length (text_of (head_lines version budget config cost bound count)) ≤ 1172
head-size version budget config cost bound count most pages rise small within few =
    let sets = line-front (sets_line count) [] in
    let bounds = line-front (bound_line bound) (sets_line count ∷ []) in
    let costs = line-front (cost_line cost) (bound_line bound ∷ sets_line count ∷ []) in
    let configs = line-front (config_line config) (cost_line cost ∷ bound_line bound ∷ sets_line count ∷ []) in
    let budgets = line-front (budget_line budget) (config_line config ∷ cost_line cost ∷ bound_line bound ∷ sets_line count ∷ []) in
    let titles = line-front (title_line version) (budget_line budget ∷ config_line config ∷ cost_line cost ∷ bound_line bound ∷ sets_line count ∷ []) in
    omega (arith, sets, bounds, costs, configs, budgets, titles, title-size version most, budget-size budget pages, config-size config rise, cost-size cost small, bound-size bound within, sets-size count few)

-- ## Those of the sets

pub entry-size : (entry : Entry) → EntryLimits entry → length (entry_line entry) ≤ 30
unfolding entry_line
entry-size entry h =
    let statement = length-decimal-le_wide 4 entry.statement (omega arith) (omega (arith, h.statement_most)) (omega (arith, h.statement_most)) in
    let slot = length-decimal-le_wide 1 entry.slot (omega arith) (omega (arith, h.slot_most)) (omega (arith, h.slot_most)) in
    let candidate = length-decimal-le_wide 3 entry.candidate (omega arith) (omega (arith, h.candidate_most)) (omega (arith, h.candidate_most)) in
    let lambda = length-decimal-le_wide 19 entry.lambda (omega arith) (omega (arith, h.lambda_most)) (omega (arith, h.lambda_most)) in
    let last = length-append (word entry.candidate) (word entry.lambda) in
    let middle = length-append (word entry.slot) (word entry.candidate ++ word entry.lambda) in
    let first = length-append (decimal entry.statement) (word entry.slot ++ (word entry.candidate ++ word entry.lambda)) in
    omega (arith, statement, slot, candidate, lambda, last, middle, first)

entries-size : (least : ℕ) (entries : List Entry) → EntriesFrom least entries → length (text_of (map entry_line entries)) ≤ length entries * 31
entries-size least [] rise = omega arith
entries-size least (entry ∷ entries) rise =
    let front = line-front (entry_line entry) (map entry_line entries) in
    omega (arith, front, entry-size entry rise.0, entries-size (entry_place entry + 1) entries rise.2)

pub set-size : (mu count : ℕ) → mu ≤ 10 ^ 20 → count ≤ 1500000 → length (set_line mu count) ≤ 33
unfolding set_line
set-size mu count price few =
    let first = length-decimal-le_wide 21 mu (omega arith) (omega (arith, price)) (omega (arith, price)) in
    let second = length-decimal-le_wide 7 count (omega arith) (omega (arith, few)) (omega (arith, few)) in
    let both = length-append (word mu) (word count) in
    omega (arith, first, second, both)

pub count-front : (set : SparseSet) (sets : List SparseSet) → entry_count (set ∷ sets) ≡ length set.entries + entry_count sets
count-front set sets = sum_by-cons (λ (s : SparseSet). length s.entries) set sets

all-sets-size : (sets : List SparseSet) → AllByRecursion SetLimits sets → entry_count sets ≤ 1500000 → length (text_of (sets_lines sets)) ≤ length sets * 34 + entry_count sets * 31
all-sets-size [] limits few = omega arith
all-sets-size (set ∷ sets) limits few =
    let count = count-front set sets in
    let both = lines-both (set_lines set) (sets_lines sets) in
    let front = line-front (set_line set.mu (length set.entries)) (map entry_line set.entries) in
    let own = set-size set.mu (length set.entries) limits.0.price (omega (arith, count, few)) in
    let entries = entries-size 0 set.entries limits.0.entries in
    let rest = all-sets-size sets limits.1 (omega (arith, count, few)) in
    omega (arith, count, both, front, own, entries, rest)

-- ## Those of the tree

pub node-size : (sets : ℕ) (node : Node) → sets ≤ 16 → NodeLimits sets node → length (node_line node) ≤ 5
unfolding node_line
node-size sets (Branch candidate) few limits = let digits = length-decimal-le_wide 3 candidate (omega arith) (omega (arith, limits.1)) (omega (arith, limits.1)) in omega (arith, digits)
node-size sets (Bounded set) few limits = let digits = length-decimal-le_wide 2 set (omega arith) (omega (arith, limits, few)) (omega (arith, limits, few)) in omega (arith, digits)
node-size sets Overfull few limits = omega arith

nodes-size : (sets : ℕ) (nodes : List Node) → sets ≤ 16 → AllByRecursion (NodeLimits sets) nodes → length (text_of (map node_line nodes)) ≤ length nodes * 6
nodes-size sets [] few limits = omega arith
nodes-size sets (node ∷ nodes) few limits =
    let front = line-front (node_line node) (map node_line nodes) in
    omega (arith, front, node-size sets node few limits.0, nodes-size sets nodes few limits.1)

pub tree-size : (count : ℕ) → count ≤ 1000000 → length (tree_line count) ≤ 12
unfolding tree_line
tree-size count few = let digits = length-decimal-le_wide 7 count (omega arith) (omega (arith, few)) (omega (arith, few)) in omega (arith, digits)

pub end-size : length end_line ≡ 3
unfolding end_line
end-size = refl

-- ## The text

cert-size : (cert : Cert) → CertLimits cert → length (cert_text cert) ≤ 67108864
cert-size cert limits =
    let head = head-size cert.version cert.budget cert.config cert.cost cert.bound (length cert.sets) limits.version_most limits.budget limits.config limits.cost limits.bound limits.few_sets in
    let sets = all-sets-size cert.sets limits.sets limits.few_entries in
    let tree = tree-size (length cert.tree) limits.few_nodes in
    let nodes = nodes-size (length cert.sets) cert.tree limits.few_sets limits.nodes in
    let ends = line-front end_line [] in
    let trees = line-front (tree_line (length cert.tree)) (map node_line cert.tree) in
    let first = lines-both (head_lines cert.version cert.budget cert.config cert.cost cert.bound (length cert.sets)) (sets_lines cert.sets ++ (tree_lines cert.tree ++ end_line ∷ [])) in
    let second = lines-both (sets_lines cert.sets) (tree_lines cert.tree ++ end_line ∷ []) in
    let third = lines-both (tree_lines cert.tree) (end_line ∷ []) in
    omega (arith, head, sets, tree, nodes, ends, trees, first, second, third, end-size, limits.few_sets, limits.few_entries, limits.few_nodes)

pub texts-fit : TextsFit
texts-fit = λ bytes cert is. omega (arith, ap (λ (t : List ℕ). length t) is.text, cert-size cert is.limits)
