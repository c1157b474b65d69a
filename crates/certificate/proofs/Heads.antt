-- The head of a certificate.
use Rattle.std.proofs.Common.{◌≡◌, ◌∙◌, ℕ, ◌+◌, ◌≤◌, List, [], ◌∷◌, ◌++◌, length, map, drop, sym, ap, subst, refl, arith}
use Rattle.std.proofs.lemmas.List.{append_assoc}
use Rattle.adv_base.specs.declared.limits.TheConstants.{MOST_CERTIFICATE_BYTES}
use Rattle.certificate.specs.Certificates.{IsCertificate}
use Rattle.certificate.specs.Heads.{lines_before, tree_text, IsHeadOf, HeadLimits, HeadsKeepLimits}
use Rattle.certificate.specs.Texts.{text_of, tree_line, node_line, end_line, head_lines, sets_lines, cert_lines, cert_text}
use Rattle.certificate.specs.declared.cert.Cert.{Cert}
use Rattle.certificate.specs.declared.head.Head.{Head}
use Rattle.certificate.proofs.Complete.{trees-few}
use Rattle.certificate.proofs.ReadLaws.{text-append}
use Rattle.certificate.proofs.Reached.{lines-count}
use Rattle.certificate.proofs.Sizes.{lines-both, texts-fit}

-- the lines of a certificate begin with those before the nodes
front-lines : (c : Cert) → cert_lines c ≡ lines_before c ++ (map node_line c.tree ++ end_line ∷ [])
front-lines c =
    let head : List (List ℕ) = head_lines c.version c.budget c.config c.cost c.bound (length c.sets) in
    let tree : List (List ℕ) = tree_line (length c.tree) ∷ [] in
    let nodes : List (List ℕ) = map node_line c.tree ++ end_line ∷ [] in
    sym (append_assoc head (sets_lines c.sets ++ tree) nodes ∙ ap (λ (ls : List (List ℕ)). head ++ ls) (append_assoc (sets_lines c.sets) tree nodes))

front-size : (bytes : List ℕ) (c : Cert) → IsCertificate bytes c → length (text_of (lines_before c)) ≤ MOST_CERTIFICATE_BYTES
front-size bytes c is =
    let nodes : List (List ℕ) = map node_line c.tree ++ end_line ∷ [] in
    let both : length (cert_text c) ≡ length (text_of (lines_before c)) + length (text_of nodes) =
    ap (λ (ls : List (List ℕ)). length (text_of ls)) (front-lines c) ∙ lines-both (lines_before c) nodes in
    omega (arith, texts-fit bytes c is, ap (λ (t : List ℕ). length t) is.text, both)

pub heads-keep-limits : HeadsKeepLimits
heads-keep-limits = λ bytes head is.
    let limits = is.certificate.limits in
    let size = front-size bytes is.cert is.certificate in
    subst HeadLimits (sym is.same)
    (record {
      version_least = limits.version_least;
      version_most = limits.version_most;
      budget = limits.budget;
      config = limits.config;
      cost = limits.cost;
      bound = limits.bound;
      few_sets = limits.few_sets;
      sets = limits.sets;
      few_entries = limits.few_entries;
      some_nodes = omega (arith, trees-few 1 is.cert.tree limits.tree);
      few_nodes = limits.few_nodes;
      tree_at = size;
      lines = omega (arith, size, lines-count (lines_before is.cert));
    })

drop-front : (xs ys : List ℕ) → drop (length xs) (xs ++ ys) ≡ ys
drop-front [] ys = refl
drop-front (x ∷ xs) ys = drop-front xs ys

-- what stands behind a head is the text of the tree, which has so many nodes
pub tree-behind : (bytes : List ℕ) (head : Head) (is : IsHeadOf bytes head) → (drop head.tree_at bytes ≡ tree_text is.cert.tree) × (length is.cert.tree ≡ head.nodes)
tree-behind bytes head is =
    let c : Cert = is.cert in
    let front : List ℕ = text_of (lines_before c) in
    let whole : bytes ≡ front ++ tree_text c.tree = is.certificate.text ∙ ap text_of (front-lines c) ∙ text-append (lines_before c) (map node_line c.tree ++ end_line ∷ []) in
    let at : head.tree_at ≡ length front = ap (λ (h : Head). h.tree_at) is.same in
    (ap (λ (n : ℕ). drop n bytes) at ∙ ap (drop (length front)) whole ∙ drop-front front (tree_text c.tree), sym (ap (λ (h : Head). h.nodes) is.same))
