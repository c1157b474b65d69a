-- A text is that of one certificate.
use Rattle.std.proofs.Common.{◌≡◌, ◌∙◌, ℕ, ◌+◌, ◌<◌, ◌≤◌, ◌^◌, List, [], ◌∷◌, ◌++◌, length, map, get_or, drop, sym, ap, subst, refl, arith, length-append}
use Rattle.std.specs.List.{AllByRecursion}
use Rattle.std.proofs.lemmas.List.{append_assoc}
use Rattle.std.proofs.lemmas.List.Sums.{sum_by-append}
use Rattle.adv_base.specs.declared.limits.TheConstants.{MOST_ENTRIES}
use Rattle.adv_base.proofs.LineLaws.{one_line}
use Rattle.bip_model.specs.declared.answer.Node.{Node}
use Rattle.certificate.specs.Certificates.{IsLine, OneCertificate, OneText}
use Rattle.certificate.specs.Limits.{EntriesFrom, SetLimits, NodeLimits, CertLimits, entry_place, entry_count}
use Rattle.certificate.specs.Texts.{text_of, set_line, entry_line, node_line, end_line, sets_lines, tree_lines, cert_lines, cert_text}
use Rattle.certificate.specs.declared.cert.Cert.{Cert}
use Rattle.certificate.specs.declared.cert.Entry.{Entry}
use Rattle.certificate.specs.declared.cert.SparseSet.{SparseSet}
use Rattle.certificate.proofs.Taken.{one-title, one-budget, one-config, one-cost, one-bound, one-sets, one-tree, one-set, one-entry, one-node}
use Rattle.certificate.proofs.Splits.{cert-plain}

-- a text has its lines alone
lines-once : (xs ys : List (List ℕ)) → AllByRecursion IsLine xs → AllByRecursion IsLine ys → text_of xs ≡ text_of ys → xs ≡ ys
lines-once [] [] h g e = refl
lines-once [] (y ∷ ys) h g e = absurd (omega (arith, ap length e, length-append y (10 ∷ text_of ys)))
lines-once (x ∷ xs) [] h g e = absurd (omega (arith, ap length e, length-append x (10 ∷ text_of xs)))
lines-once (x ∷ xs) (y ∷ ys) h g e =
    let same = one_line (text_of (x ∷ xs)) x (text_of xs) y (text_of ys) (record { parts = refl; whole = h.0 }) (record { parts = e; whole = g.0 }) in
    ap (λ (l : List ℕ). l ∷ xs) same.0 ∙ ap (λ (ls : List (List ℕ)). y ∷ ls) (lines-once xs ys h.1 g.1 same.1)

entries-once : (k l : ℕ) (es fs : List Entry) (xs ys : List (List ℕ)) → length es ≡ length fs → EntriesFrom k es → EntriesFrom l fs → map entry_line es ++ xs ≡ map entry_line fs ++ ys →
    (es ≡ fs) × (xs ≡ ys)
entries-once k l [] [] xs ys size h g is = (refl, is)
entries-once k l [] (f ∷ fs) xs ys size h g is = absurd (omega arith)
entries-once k l (e ∷ es) [] xs ys size h g is = absurd (omega arith)
entries-once k l (e ∷ es) (f ∷ fs) xs ys size h g is =
    let one : e ≡ f = one-entry e f h.0 g.0 (ap (λ (ls : List (List ℕ)). get_or ls 0 []) is) in
    let rest = entries-once (entry_place e + 1) (entry_place f + 1) es fs xs ys (omega arith) h.2 g.2 (ap (drop 1) is) in
    (ap (λ (x : Entry). x ∷ es) one ∙ ap (λ (zs : List Entry). f ∷ zs) rest.0, rest.1)

sets-once : (ss ts : List SparseSet) (xs ys : List (List ℕ)) → length ss ≡ length ts → AllByRecursion SetLimits ss → AllByRecursion SetLimits ts → entry_count ss ≤ MOST_ENTRIES → entry_count ts ≤ MOST_ENTRIES →
    sets_lines ss ++ xs ≡ sets_lines ts ++ ys → (ss ≡ ts) × (xs ≡ ys)
sets-once [] [] xs ys size h g few less is = (refl, is)
sets-once [] (t ∷ ts) xs ys size h g few less is = absurd (omega arith)
sets-once (s ∷ ss) [] xs ys size h g few less is = absurd (omega arith)
sets-once (s ∷ ss) (t ∷ ts) xs ys size h g few less is =
    let own : entry_count (s ∷ ss) ≡ 0 + length s.entries + entry_count ss = sum_by-append (λ (x : SparseSet). length x.entries) (s ∷ []) ss in
    let other : entry_count (t ∷ ts) ≡ 0 + length t.entries + entry_count ts = sum_by-append (λ (x : SparseSet). length x.entries) (t ∷ []) ts in
    let line : set_line s.mu (length s.entries) ≡ set_line t.mu (length t.entries) = ap (λ (ls : List (List ℕ)). get_or ls 0 []) is in
    let numbers = one-set MOST_ENTRIES (set_line s.mu (length s.entries)) s.mu t.mu (length s.entries) (length t.entries) (omega arith) (record { text = refl; price = h.0.price; few = omega (arith, own, few) }) (record { text = line; price = g.0.price; few = omega (arith, other, less) }) in
    let behind : (map entry_line s.entries ++ sets_lines ss) ++ xs ≡ (map entry_line t.entries ++ sets_lines ts) ++ ys = ap (drop 1) is in
    let split : map entry_line s.entries ++ (sets_lines ss ++ xs) ≡ map entry_line t.entries ++ (sets_lines ts ++ ys) =
    sym (append_assoc (map entry_line s.entries) (sets_lines ss) xs) ∙ behind ∙ append_assoc (map entry_line t.entries) (sets_lines ts) ys in
    let entries = entries-once 0 0 s.entries t.entries (sets_lines ss ++ xs) (sets_lines ts ++ ys) numbers.1 h.0.entries g.0.entries split in
    let rest = sets-once ss ts xs ys (omega arith) h.1 g.1 (omega (arith, own, few)) (omega (arith, other, less)) entries.1 in
    let one : s ≡ t = (λ i. record { mu = numbers.0 i; entries = entries.0 i }) in
    (ap (λ (x : SparseSet). x ∷ ss) one ∙ ap (λ (zs : List SparseSet). t ∷ zs) rest.0, rest.1)

nodes-once : (sets : ℕ) (ns ms : List Node) (xs ys : List (List ℕ)) → sets < 2 ^ 128 → length ns ≡ length ms → AllByRecursion (NodeLimits sets) ns → AllByRecursion (NodeLimits sets) ms →
    map node_line ns ++ xs ≡ map node_line ms ++ ys → ns ≡ ms
nodes-once sets [] [] xs ys small size h g is = refl
nodes-once sets [] (m ∷ ms) xs ys small size h g is = absurd (omega arith)
nodes-once sets (n ∷ ns) [] xs ys small size h g is = absurd (omega arith)
nodes-once sets (n ∷ ns) (m ∷ ms) xs ys small size h g is =
    let one : n ≡ m = one-node sets n m small h.0 g.0 (ap (λ (ls : List (List ℕ)). get_or ls 0 []) is) in
    ap (λ (x : Node). x ∷ ns) one ∙ ap (λ (zs : List Node). m ∷ zs) (nodes-once sets ns ms xs ys small (omega arith) h.1 g.1 (ap (drop 1) is))

pub one-cert : (c d : Cert) → CertLimits c → CertLimits d → cert_text c ≡ cert_text d → c ≡ d
one-cert c d h g e =
    let lines : cert_lines c ≡ cert_lines d = lines-once (cert_lines c) (cert_lines d) (cert-plain c h) (cert-plain d g) e in
    let version = one-title c.version d.version h.version_most g.version_most (ap (λ (ls : List (List ℕ)). get_or ls 0 []) lines) in
    let budget = one-budget c.budget d.budget h.budget g.budget (ap (λ (ls : List (List ℕ)). get_or ls 1 []) lines) in
    let config = one-config c.config d.config h.config g.config (ap (λ (ls : List (List ℕ)). get_or ls 2 []) lines) in
    let cost = one-cost c.cost d.cost h.cost g.cost (ap (λ (ls : List (List ℕ)). get_or ls 3 []) lines) in
    let bound = one-bound c.bound d.bound h.bound g.bound (ap (λ (ls : List (List ℕ)). get_or ls 4 []) lines) in
    let count = one-sets (length c.sets) (length d.sets) h.few_sets g.few_sets (ap (λ (ls : List (List ℕ)). get_or ls 5 []) lines) in
    let sets = sets-once c.sets d.sets (tree_lines c.tree ++ end_line ∷ []) (tree_lines d.tree ++ end_line ∷ []) count h.sets g.sets h.few_entries g.few_entries (ap (drop 6) lines) in
    let size = one-tree (length c.tree) (length d.tree) h.few_nodes g.few_nodes (ap (λ (ls : List (List ℕ)). get_or ls 0 []) sets.1) in
    let tree = nodes-once (length c.sets) c.tree d.tree (end_line ∷ []) (end_line ∷ []) (omega (arith, h.few_sets)) size h.nodes (subst (λ (k : ℕ). AllByRecursion (NodeLimits k) d.tree) (sym count) g.nodes) (ap (drop 1) sets.1) in
    λ i. record { version = version i; budget = budget i; config = config i; cost = cost i; bound = bound i; sets = sets.0 i; tree = tree i }

pub one-certificate : OneCertificate
one-certificate = λ bytes c d h g. one-cert c d h.limits g.limits (sym h.text ∙ g.text)

pub one-text : OneText
one-text = λ c bytes other h g. h.text ∙ sym g.text
