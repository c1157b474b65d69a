-- Where a text that is read as a tree's goes on, and where it breaks.
use Rattle.std.proofs.Common.{◌≡◌, ◌≢◌, ◌∙◌, ◌↔◌, ℕ, suc, ◌+◌, ◌-◌, ◌%◌, ◌<◌, ◌≤◌, List, [], ◌∷◌, ◌++◌, length, length-append, map, get_or, refl, sym, ap, subst, arith}
use Rattle.std.specs.List.{AllByRecursion}
use Rattle.std.proofs.lemmas.List.{append-nil, append_assoc, length-map, map-append}
use Rattle.adv_base.specs.Numbers.{BeginsWithLine}
use Rattle.adv_base.proofs.LineLaws.{one_line}
use Rattle.bip_model.specs.declared.answer.Node.{Node}
use Rattle.certificate.specs.declared.head.Head.{Head}
use Rattle.certificate.specs.Certificates.{IsLine}
use Rattle.certificate.specs.Heads.{tree_text}
use Rattle.certificate.specs.Limits.{NodeLimits, AreTrees}
use Rattle.certificate.specs.Texts.{text_of, node_line, end_line}
use Rattle.certificate.proofs.ReadLaws.{text-append}
use Rattle.certificate.proofs.Splits.{all-append, all-behind, lines-front, one-longer}
use Rattle.gap_checker.specs.At.{IsTreeOf, GoesOn, BreaksAt}
use Rattle.gap_checker.specs.inner.Walks.{trees_after, TreesFit}
use Rattle.gap_checker.proofs.TreeTexts.{one-node, no-end, nodes-plain, tree-plain, Fronts, fronts, line-short, line-within, next-trees, trees-fit, fills}

-- nodes that were read, behind which so many trees start
pub record Stands (head : Head) (read : List Node) (trees : ℕ) : Type 0 where
  pub few_sets : length head.sets ≤ 16
  pub within : length read ≤ head.nodes
  pub limits : AllByRecursion (NodeLimits (length head.sets)) read
  pub trees_are : (rest : List Node) → AreTrees 1 (read ++ rest) ↔ AreTrees trees rest
  pub fit : TreesFit trees (head.nodes - length read)
  pub even : (head.nodes + length read + trees) % 2 ≡ 0

abbrev pub node_lines : List Node → List (List ℕ)
node_lines read = map node_line read

abbrev pub all_lines : List Node → List (List ℕ)
all_lines tree = map node_line tree ++ end_line ∷ []

-- ## Going on

-- nodes that were read are the front of a tree
pub record Whole (head : Head) (read : List Node) : Type 0 where
  pub more : List Node
  pub tree_is : IsTreeOf head (read ++ more)

pub front-whole : (head : Head) (read : List Node) (trees : ℕ) → Stands head read trees → Whole head read
front-whole head read trees s =
    let rest = fills (length head.sets) trees (head.nodes - length read) s.fit (omega (arith, s.even, s.within)) in
    record {
      more = rest.nodes;
      tree_is = record {
        count_is = omega (arith, length-append read rest.nodes, rest.count, s.within);
        limits = all-append (NodeLimits (length head.sets)) read rest.nodes s.limits rest.limits;
        whole = (s.trees_are rest.nodes).1 rest.trees_are;
      };
    }

lines-split : (read more : List Node) → all_lines (read ++ more) ≡ node_lines read ++ all_lines more
lines-split read more = ap (λ (ls : List (List ℕ)). ls ++ end_line ∷ []) (map-append node_line read more) ∙ append_assoc (node_lines read) (node_lines more) (end_line ∷ [])

pub goes-on : (head : Head) (read : List Node) (trees : ℕ) (text rest : List ℕ) → Stands head read trees → text ≡ text_of (node_lines read) ++ rest → GoesOn head text (length read)
goes-on head read trees text rest s parts =
    let whole = front-whole head read trees s in
    record {
      lines = node_lines read;
      whole = nodes-plain (length head.sets) read s.few_sets s.limits;
      count_is = length-map read node_line;
      begins = (rest, parts);
      tree = read ++ whole.more;
      tree_is = whole.tree_is;
      tree_begins = (text_of (all_lines whole.more), ap text_of (lines-split read whole.more) ∙ text-append (node_lines read) (all_lines whole.more));
    }

-- the text of a tree whose nodes were all read
pub tree-read : (head : Head) (read : List Node) (trees : ℕ) → Stands head read trees → length read ≡ head.nodes → IsTreeOf head read
tree-read head read trees s all =
    let whole = front-whole head read trees s in
    let none : length whole.more ≡ 0 = omega (arith, whole.tree_is.count_is, length-append read whole.more, all) in
    subst (IsTreeOf head) (ap (λ (ns : List Node). read ++ ns) (no-nodes whole.more none) ∙ append-nil read) whole.tree_is
  where
    no-nodes : (ns : List Node) → length ns ≡ 0 → ns ≡ []
    no-nodes [] none = refl
    no-nodes (n ∷ ns) none = absurd (omega (arith, none))

all-count : (read : List Node) → length (all_lines read) ≡ suc (length read)
all-count read = omega (arith, length-append (node_lines read) (end_line ∷ []), length-map read node_line)

pub goes-on-behind : (head : Head) (read : List Node) (trees : ℕ) (text rest : List ℕ) → Stands head read trees → length read ≡ head.nodes → text ≡ text_of (all_lines read) ++ rest →
    GoesOn head text (suc (length read))
goes-on-behind head read trees text rest s all parts =
    record {
      lines = all_lines read;
      whole = tree-plain (length head.sets) read s.few_sets s.limits;
      count_is = all-count read;
      begins = (rest, parts);
      tree = read;
      tree_is = tree-read head read trees s all;
      tree_begins = ([], sym (append-nil (text_of (all_lines read))));
    }

-- ## The line behind nodes

-- a text that goes on behind nodes with a line, as a tree does
pub record Next (head : Head) (read : List Node) (rest : List ℕ) : Type 0 where
  pub tree : List Node
  pub tree_is : IsTreeOf head tree
  pub line : List ℕ
  pub more : List ℕ
  pub begins : BeginsWithLine rest line more
  pub behind : List (List ℕ)
  pub fronts : Fronts tree read line behind

pub next-line : (head : Head) (read : List Node) (trees : ℕ) (text rest : List ℕ) → Stands head read trees → text ≡ text_of (node_lines read) ++ rest → GoesOn head text (suc (length read)) → Next head read rest
next-line head read trees text rest s parts g =
    let plain = nodes-plain (length head.sets) read s.few_sets s.limits in
    let long = one-longer (node_lines read) g.lines rest g.begins.0 plain g.whole (omega (arith, g.count_is, length-map read node_line)) (sym parts ∙ g.begins.1) in
    let front = lines-front (all_lines g.tree) g.lines g.tree_begins.0 (tree-plain (length head.sets) g.tree s.few_sets g.tree_is.limits) g.whole g.tree_begins.1 in
    let same : all_lines g.tree ≡ node_lines read ++ long.0 ∷ front.0 = front.1 ∙ ap (λ (ls : List (List ℕ)). ls ++ front.0) long.1 ∙ append_assoc (node_lines read) (long.0 ∷ []) front.0 in
    record {
      tree = g.tree;
      tree_is = g.tree_is;
      line = long.0;
      more = g.begins.0;
      begins = long.2;
      behind = front.0;
      fronts = fronts (length head.sets) read g.tree long.0 front.0 s.few_sets s.limits g.tree_is.limits (sym same);
    }

-- nodes alone are no tree's text
pub ends-not : (sets : ℕ) (read tree : List Node) → sets ≤ 16 → node_lines read ≡ all_lines tree → ⊥
ends-not sets [] [] few e = omega (arith, ap length e)
ends-not sets [] (n ∷ ns) few e = omega (arith, ap length e)
ends-not sets (r ∷ rs) [] few e = no-end r (ap (λ (ls : List (List ℕ)). get_or ls 0 []) e)
ends-not sets (r ∷ rs) (n ∷ ns) few e = ends-not sets rs ns few (ap (λ (ls : List (List ℕ)). tail ls) e)
  where
    tail : List (List ℕ) → List (List ℕ)
    tail [] = []
    tail (l ∷ ls) = ls

-- the text of a tree goes on behind nodes
pub whole-goes_on : (head : Head) (read tree : List Node) (trees : ℕ) (text rest : List ℕ) → Stands head read trees → IsTreeOf head tree → text ≡ tree_text tree → text ≡ text_of (node_lines read) ++ rest →
    GoesOn head text (suc (length read))
whole-goes_on head read tree trees text rest s is same parts =
    let plain = nodes-plain (length head.sets) read s.few_sets s.limits in
    let all = tree-plain (length head.sets) tree s.few_sets is.limits in
    let front = lines-front (all_lines tree) (node_lines read) rest all plain (sym same ∙ parts) in
    next front.0 front.1 front.2 plain all
  where
    next : (zs : List (List ℕ)) → all_lines tree ≡ node_lines read ++ zs → text_of zs ≡ rest → AllByRecursion IsLine (node_lines read) → AllByRecursion IsLine (all_lines tree) → GoesOn head text (suc (length read))
    next [] e t plain all = absurd (ends-not (length head.sets) read tree s.few_sets (sym (e ∙ append-nil (node_lines read))))
    next (z ∷ zs) e t plain all =
        let one : List (List ℕ) = node_lines read ++ z ∷ [] in
        let whole = all-behind IsLine (node_lines read) (z ∷ zs) (subst (AllByRecursion IsLine) e all) in
        let lines : all_lines tree ≡ one ++ zs = e ∙ sym (append_assoc (node_lines read) (z ∷ []) zs) in
        let text_is : tree_text tree ≡ text_of one ++ text_of zs = ap text_of lines ∙ text-append one zs in
        record {
          lines = one;
          whole = all-append IsLine (node_lines read) (z ∷ []) plain (whole.0, tt);
          count_is = omega (arith, length-append (node_lines read) (z ∷ []), length-map read node_line);
          begins = (text_of zs, same ∙ text_is);
          tree = tree;
          tree_is = is;
          tree_begins = (text_of zs, text_is);
        }

-- ## Breaks

-- a text breaks behind nodes where no line is the next one of a tree
pub breaks : (head : Head) (read : List Node) (trees : ℕ) (text rest : List ℕ) → Stands head read trees → text ≡ text_of (node_lines read) ++ rest → (Next head read rest → ⊥) → BreaksAt head text (suc (length read))
breaks head read trees text rest s parts stuck =
    record {
      none = λ tree is same. stuck (next-line head read trees text rest s parts (whole-goes_on head read tree trees text rest s is same parts));
      before = length read;
      number_is = refl;
      goes_on = goes-on head read trees text rest s parts;
      first = λ g. stuck (next-line head read trees text rest s parts g);
    }

-- and behind the line that is behind them where anything comes
pub breaks-behind : (head : Head) (read : List Node) (trees : ℕ) (text rest : List ℕ) → Stands head read trees → length read ≡ head.nodes → text ≡ text_of (all_lines read) ++ rest → 0 < length rest →
    BreaksAt head text (suc (suc (length read)))
breaks-behind head read trees text rest s all parts some =
    let plain = tree-plain (length head.sets) read s.few_sets s.limits in
    record {
      none = λ tree is same.
          let front = lines-front (all_lines tree) (all_lines read) rest (tree-plain (length head.sets) tree s.few_sets is.limits) plain (sym same ∙ parts) in
          let count : length front.0 ≡ 0 = omega (arith, ap length front.1, length-append (all_lines read) front.0, all-count read, all-count tree, is.count_is, all) in
          omega (arith, some, ap length front.2, no-text front.0 count);
      before = suc (length read);
      number_is = refl;
      goes_on = goes-on-behind head read trees text rest s all parts;
      first = λ g.
          let front = lines-front (all_lines g.tree) g.lines g.tree_begins.0 (tree-plain (length head.sets) g.tree s.few_sets g.tree_is.limits) g.whole g.tree_begins.1 in
          omega (arith, ap length front.1, length-append g.lines front.0, g.count_is, all-count g.tree, g.tree_is.count_is, all);
    }
  where
    no-text : (zs : List (List ℕ)) → length zs ≡ 0 → length (text_of zs) ≡ 0
    no-text [] none = refl
    no-text (z ∷ zs) none = absurd (omega (arith, none))

-- ## Reasons

-- the next line of a tree, where a line comes next
the-line : (head : Head) (read : List Node) (rest line more : List ℕ) (n : Next head read rest) → BeginsWithLine rest line more → n.line ≡ line
the-line head read rest line more n begins = (one_line rest n.line n.more line more n.begins begins).0

others-count : (head : Head) (read : List Node) (rest : List ℕ) (n : Next head read rest) → length read + length n.fronts.others ≡ head.nodes
others-count head read rest n = sym (ap length n.fronts.parts ∙ length-append read n.fronts.others) ∙ n.tree_is.count_is

others-limits : (head : Head) (read : List Node) (rest : List ℕ) (n : Next head read rest) → AllByRecursion (NodeLimits (length head.sets)) n.fronts.others
others-limits head read rest n = all-behind (NodeLimits (length head.sets)) read n.fronts.others (subst (AllByRecursion (NodeLimits (length head.sets))) n.fronts.parts n.tree_is.limits)

abbrev first-of : List (List ℕ) → List ℕ
first-of lines = get_or lines 0 []

-- a line that is no node's, where nodes are to come
pub no-node : (head : Head) (read : List Node) (rest line more : List ℕ) → length read < head.nodes → BeginsWithLine rest line more →
    ((node : Node) → NodeLimits (length head.sets) node → line ≢ node_line node) → Next head read rest → ⊥
no-node head read rest line more less begins none n =
    case n.fronts.others (others-count head read rest n) (others-limits head read rest n) n.fronts.lines
  where
    case : (others : List Node) → length read + length others ≡ head.nodes → AllByRecursion (NodeLimits (length head.sets)) others → n.line ∷ n.behind ≡ node_lines others ++ end_line ∷ [] → ⊥
    case [] count limits e = omega (arith, count, less)
    case (o ∷ os) count limits e = none o limits.0 (sym (the-line head read rest line more n begins) ∙ ap first-of e)

-- a node behind which too many or too few trees would start
pub no-trees : (head : Head) (read : List Node) (trees : ℕ) (rest line more : List ℕ) (node : Node) → Stands head read trees → length read < head.nodes → BeginsWithLine rest line more → NodeLimits (length head.sets) node → line ≡ node_line node →
    (TreesFit (trees_after trees node) (head.nodes - length read - 1) → ⊥) → Next head read rest → ⊥
no-trees head read trees rest line more node s less begins limit is stuck n =
    case n.fronts.others (others-count head read rest n) (others-limits head read rest n) n.fronts.lines ((s.trees_are n.fronts.others).0 (subst (AreTrees 1) n.fronts.parts n.tree_is.whole))
  where
    case : (others : List Node) → length read + length others ≡ head.nodes → AllByRecursion (NodeLimits (length head.sets)) others → n.line ∷ n.behind ≡ node_lines others ++ end_line ∷ [] → AreTrees trees others → ⊥
    case [] count limits e are = omega (arith, count, less)
    case (o ∷ os) count limits e are =
        let same : o ≡ node = one-node (length head.sets) o node s.few_sets limits.0 limit (sym (ap first-of e) ∙ the-line head read rest line more n begins ∙ is) in
        let left : length os ≡ head.nodes - length read - 1 = omega (arith, count) in
        let fit = trees-fit (trees_after trees o) os (next-trees trees o os are) in
        stuck (subst (λ (k : ℕ). TreesFit (trees_after trees node) k) left (subst (λ (m : Node). TreesFit (trees_after trees m) (length os)) same fit))

-- a line that isn't the one behind the nodes, where that is to come
pub no-end-line : (head : Head) (read : List Node) (rest line more : List ℕ) → length read ≡ head.nodes → BeginsWithLine rest line more → line ≢ end_line → Next head read rest → ⊥
no-end-line head read rest line more all begins none n =
    case n.fronts.others (others-count head read rest n) n.fronts.lines
  where
    case : (others : List Node) → length read + length others ≡ head.nodes → n.line ∷ n.behind ≡ node_lines others ++ end_line ∷ [] → ⊥
    case [] count e = none (sym (the-line head read rest line more n begins) ∙ ap first-of e)
    case (o ∷ os) count e = omega (arith, count, all)

-- a line that is too long, be it whole or not
pub too-long : (head : Head) (read : List Node) (trees : ℕ) (partial more : List ℕ) → Stands head read trees → IsLine partial → 5 < length partial → Next head read (partial ++ more) → ⊥
too-long head read trees partial more s plain long n =
    let short = line-short (length head.sets) n.fronts.others n.line n.behind s.few_sets (others-limits head read (partial ++ more) n) n.fronts.lines in
    omega (arith, long, short, line-within n.line n.more partial more (sym n.begins.parts) plain)

-- a line that isn't whole at the end of the text
pub not-whole : (head : Head) (read : List Node) (partial : List ℕ) → IsLine partial → Next head read partial → ⊥
not-whole head read partial plain n =
    let within = line-within n.line n.more partial [] (sym n.begins.parts ∙ sym (append-nil partial)) plain in
    omega (arith, within, ap length n.begins.parts, length-append n.line (10 ∷ n.more))
