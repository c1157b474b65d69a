-- A tree that is judged while its text is read.
use Rattle.std.proofs.Common.{◌≡◌, ◌≢◌, ◌∙◌, ◌⊎◌, inl, inr, ◌↔◌, ℕ, zero, suc, ◌+◌, ◌-◌, ◌%◌, ◌<◌, ◌≤◌, Bool, true, false, List, [], ◌∷◌, ◌++◌, length, length-append, map, refl, sym, ap, subst, arith}
use Rattle.std.specs.Prelude.{All}
use Rattle.std.proofs.lemmas.Bool.{false≢true, false_from_ne_true}
use Rattle.std.proofs.lemmas.List.{append-nil, append_assoc, length-map, length-reverse, map-append}
use Rattle.std.proofs.lemmas.List.Elements.{All-append}
use Rattle.adv_base.specs.Numbers.{BeginsWithLine}
use Rattle.bip_model.specs.declared.answer.Node.{Node}
use Rattle.bip_model.specs.declared.answer.Node.TheVariants.{Branch, Bounded, Overfull}
use Rattle.bip_model.specs.Views.{node_of}
use Rattle.certificate.specs.declared.cert.Cert.{Cert}
use Rattle.certificate.specs.declared.head.Head.{Head}
use Rattle.certificate.specs.Certificates.{IsLine}
use Rattle.certificate.specs.Limits.{NodeLimits, AreTrees}
use Rattle.certificate.specs.Texts.{text_of, node_line, end_line}
use Rattle.certificate.proofs.ReadLaws.{text-append}
use Rattle.certificate.proofs.Splits.{all-append}
use Rattle.gap_checker.specs.declared.fault.AtFault.{AtFault}
use Rattle.gap_checker.specs.declared.fault.AtFault.TheVariants as at_faults
use Rattle.gap_checker.specs.declared.fault.CheckFault.{CheckFault}
use Rattle.gap_checker.specs.declared.fault.CheckFault.TheVariants as faults
use Rattle.gap_checker.specs.declared.judge.Judge.{Judge}
use Rattle.gap_checker.specs.declared.tree_reader.TreeReader.{TreeReader}
use Rattle.gap_checker.specs.At.{cert_at, BeginsWith, BreaksAt, IsMalformed, IsFaultAt}
use Rattle.gap_checker.specs.Faults.{IsFault, IsSound}
use Rattle.gap_checker.specs.Views.{sets_of, rule_of, IsProof}
use Rattle.gap_checker.specs.Visits.{visits, IsRight}
use Rattle.gap_checker.specs.inner.AtFaults.{at_fault}
use Rattle.gap_checker.specs.inner.Judges.{setting_of, root_of, rule_in, cert_of, IsWalk, WalksOn, IsNextFault}
use Rattle.gap_checker.specs.inner.Nodes.{starts_of}
use Rattle.gap_checker.specs.inner.Readings.{IsJudgeFor, end_count, lines_of, line_number, ReaderFits, HasTaken, Extends, TakesOn, IsTreeFault, IsFaultIn, IsWhole}
use Rattle.gap_checker.specs.inner.Walks.{trees_after, TreesFit}
use Rattle.gap_checker.proofs.TreeBreaks.{Stands, node_lines, all_lines, front-whole, tree-read, Next, breaks, breaks-behind, too-long, not-whole}
use Rattle.gap_checker.proofs.TreeTexts.{next-trees}
use Rattle.gap_checker.proofs.Walking.{walk-end}

-- ## What stands

starts-count : (r : TreeReader) → length (starts_of r.starts.items) ≡ length r.starts.items
starts-count r = length-reverse (map node_of r.starts.items) ∙ length-map r.starts.items node_of

pub stands : (judge : Judge) (head : Head) (r : TreeReader) (text : List ℕ) → ReaderFits head r → (h : HasTaken judge head r text) → Stands head h.read (length r.starts.items)
stands judge head r text fits h =
    record {
      few_sets = fits.few_sets;
      within = omega (arith, fits.within, h.count);
      limits = h.limits;
      trees_are = subst (λ (n : ℕ). (rest : List Node) → AreTrees 1 (h.read ++ rest) ↔ AreTrees n rest) (starts-count r) h.walk.trees;
      fit = subst (λ (n : ℕ). TreesFit (length r.starts.items) (head.nodes - n)) (sym h.count) fits.trees;
      even = omega (arith, fits.even, h.count);
    }

pub fit-moved : (trees other left more : ℕ) → trees ≡ other → left ≡ more → TreesFit trees left → TreesFit other more
fit-moved trees other left more same equal fit = subst (TreesFit other) equal (subst (λ (n : ℕ). TreesFit n left) same fit)

-- where nodes are to come the last line didn't
pub not-done : (head : Head) (r : TreeReader) → ReaderFits head r → r.read < head.nodes → r.is_done ≡ false
not-done head r fits less = false_from_ne_true r.is_done (λ done. omega (arith, fits.done done, less))

pub same-sets : (judge : Judge) (head : Head) → IsJudgeFor judge head → length judge.claims.sets.now ≡ length head.sets
same-sets judge head is = ap (λ (c : Cert). length c.sets) (is.cert_is [])

trees-next : (trees : ℕ) (node : Node) (ns : List Node) → 0 < trees → AreTrees (trees_after trees node) ns → AreTrees trees (node ∷ ns)
trees-next zero node ns some h = absurd (omega (arith, some))
trees-next (suc t) (Branch a) ns some h = let more : suc t + 1 ≡ suc (suc t) = omega arith in subst (λ (k : ℕ). AreTrees k ns) more h
trees-next (suc t) (Bounded k) ns some h = let fewer : suc t - 1 ≡ t = omega arith in subst (λ (j : ℕ). AreTrees j ns) fewer h
trees-next (suc t) Overfull ns some h = let fewer : suc t - 1 ≡ t = omega arith in subst (λ (j : ℕ). AreTrees j ns) fewer h

after-even : (trees : ℕ) (node : Node) (k : ℕ) → 0 < trees → (k + trees) % 2 ≡ 0 → (k + 1 + trees_after trees node) % 2 ≡ 0
after-even trees (Branch a) k some even = omega (arith, even)
after-even trees (Bounded b) k some even = omega (arith, even, some)
after-even trees Overfull k some even = omega (arith, even, some)

pub stands-next : (head : Head) (read : List Node) (trees : ℕ) (node : Node) → Stands head read trees → NodeLimits (length head.sets) node → length read < head.nodes → TreesFit (trees_after trees node) (head.nodes - length read - 1) →
    Stands head (read ++ node ∷ []) (trees_after trees node)
stands-next head read trees node s limit less fit =
    let one : length (read ++ node ∷ []) ≡ length read + 1 = length-append read (node ∷ []) in
    let some : 0 < trees = some-trees trees s.fit in
    let left : head.nodes - length read - 1 ≡ head.nodes - length (read ++ node ∷ []) = omega (arith, one) in
    record {
      few_sets = s.few_sets;
      within = omega (arith, one, less);
      limits = all-append (NodeLimits (length head.sets)) read (node ∷ []) s.limits (limit, tt);
      trees_are = λ rest. (
        λ are. next-trees trees node rest ((s.trees_are (node ∷ rest)).0 (subst (AreTrees 1) (append_assoc read (node ∷ []) rest) are)),
        λ are. subst (AreTrees 1) (sym (append_assoc read (node ∷ []) rest)) ((s.trees_are (node ∷ rest)).1 (trees-next trees node rest some are)),
      );
      fit = subst (TreesFit (trees_after trees node)) left fit;
      even = (let even = after-even trees node (head.nodes + length read) some s.even in omega (arith, even, one));
    }
  where
    some-trees : (n : ℕ) → TreesFit n (head.nodes - length read) → 0 < n
    some-trees zero fit = absurd (omega (arith, less, fit.none refl))
    some-trees (suc n) fit = omega arith

-- ## What was read is right

cert-same : (judge : Judge) (head : Head) → IsJudgeFor judge head → (P : Cert → Type 0) (tree : List Node) → P (cert_of judge tree) → P (cert_at head tree)
cert-same judge head is P tree h = subst P (is.cert_is tree) h

read-right : (judge : Judge) (head : Head) (read : List Node) (starts : List _) → IsJudgeFor judge head → (walk : IsWalk judge read starts) →
    All (IsRight (rule_of head.version) (setting_of judge) head.budget head.bound (sets_of (cert_at head []))) (visits (root_of judge ∷ []) read)
read-right judge head read starts is walk =
    let Q : Cert → Type 0 = λ (c : Cert). All (IsRight (rule_of c.version) (setting_of judge) c.budget c.bound (sets_of c)) (visits (root_of judge ∷ []) read) in
    let whole : visits (root_of judge ∷ []) read ≡ walk.before = ap (visits (root_of judge ∷ [])) (sym (append-nil read)) ∙ walk.parts [] ∙ append-nil walk.before in
    let own : Q (cert_of judge []) = subst (All (IsRight (rule_in judge) (setting_of judge) judge.claims.budget judge.claims.bound (sets_of (cert_of judge [])))) (sym whole) walk.right in
    cert-same judge head is Q [] own

-- ## Where the text breaks

pub malformed : (judge : Judge) (head : Head) (r : TreeReader) (text whole : List ℕ) (line : ℕ) → IsJudgeFor judge head → (h : HasTaken judge head r text) → BreaksAt head whole line → BeginsWith whole (node_lines h.read) →
    (suc (length h.read) ≡ line) ⊎ (length h.read ≡ head.nodes) → head.lines + line ≡ line_number head r → IsMalformed (setting_of judge) (root_of judge) head whole (line_number head r)
malformed judge head r text whole line is h breaks begins are number =
    record {
      sound = λ tree. cert-same judge head is (IsSound (setting_of judge)) tree (is.sound tree);
      line = line;
      number_is = sym number;
      breaks = breaks;
      read = h.read;
      begins = begins;
      read_are = are;
      right = read-right judge head h.read (starts_of r.starts.items) is h.walk;
    }

-- a text, whatever comes behind it
behind : (front partial bytes more : List ℕ) → ((front ++ partial) ++ bytes) ++ more ≡ front ++ ((partial ++ bytes) ++ more)
behind front partial bytes more = ap (λ (t : List ℕ). t ++ more) (append_assoc front partial bytes) ∙ append_assoc front (partial ++ bytes) more

pub open-parts : (judge : Judge) (head : Head) (r : TreeReader) (text bytes more : List ℕ) → r.is_done ≡ false → (h : HasTaken judge head r text) → (text ++ bytes) ++ more ≡ text_of (node_lines h.read) ++ ((r.partial ++ bytes) ++ more)
open-parts judge head r text bytes more undone h =
    let lines : lines_of h.read r.is_done ≡ node_lines h.read = ap (lines_of h.read) undone ∙ append-nil (node_lines h.read) in
    ap (λ (t : List ℕ). (t ++ bytes) ++ more) (h.parts ∙ ap (λ (ls : List (List ℕ)). text_of ls ++ r.partial) lines) ∙ behind (text_of (node_lines h.read)) r.partial bytes more

pub done-parts : (judge : Judge) (head : Head) (r : TreeReader) (text bytes more : List ℕ) → r.is_done ≡ true → (h : HasTaken judge head r text) → (text ++ bytes) ++ more ≡ text_of (all_lines h.read) ++ ((r.partial ++ bytes) ++ more)
done-parts judge head r text bytes more done h =
    ap (λ (t : List ℕ). (t ++ bytes) ++ more) (h.parts ∙ ap (λ (d : Bool). text_of (lines_of h.read d) ++ r.partial) done) ∙ behind (text_of (all_lines h.read)) r.partial bytes more

pub stuck-open : (judge : Judge) (head : Head) (r : TreeReader) (text bytes more : List ℕ) → ReaderFits head r → IsJudgeFor judge head → r.is_done ≡ false → (h : HasTaken judge head r text) →
    (Next head h.read ((r.partial ++ bytes) ++ more) → ⊥) → IsMalformed (setting_of judge) (root_of judge) head ((text ++ bytes) ++ more) (line_number head r)
stuck-open judge head r text bytes more fits is undone h stuck =
    let whole : List ℕ = (text ++ bytes) ++ more in
    let rest : List ℕ = (r.partial ++ bytes) ++ more in
    let parts = open-parts judge head r text bytes more undone h in
    let none : end_count r.is_done ≡ 0 = ap end_count undone in
    malformed judge head r text whole (suc (length h.read)) is h (breaks head h.read (length r.starts.items) whole rest (stands judge head r text fits h) parts stuck) (rest, parts) (inl refl) (omega (arith, none, h.count))

pub stuck-done : (judge : Judge) (head : Head) (r : TreeReader) (text bytes more : List ℕ) → ReaderFits head r → IsJudgeFor judge head → r.is_done ≡ true → HasTaken judge head r text →
    0 < length ((r.partial ++ bytes) ++ more) → IsMalformed (setting_of judge) (root_of judge) head ((text ++ bytes) ++ more) (line_number head r)
stuck-done judge head r text bytes more fits is done h some =
    let whole : List ℕ = (text ++ bytes) ++ more in
    let rest : List ℕ = (r.partial ++ bytes) ++ more in
    let parts = done-parts judge head r text bytes more done h in
    let all : length h.read ≡ head.nodes = omega (arith, h.count, fits.done done) in
    let one : end_count r.is_done ≡ 1 = ap end_count done in
    let front : whole ≡ text_of (node_lines h.read) ++ (text_of (end_line ∷ []) ++ rest) =
    parts ∙ ap (λ (t : List ℕ). t ++ rest) (text-append (node_lines h.read) (end_line ∷ [])) ∙ append_assoc (text_of (node_lines h.read)) (text_of (end_line ∷ [])) rest in
    malformed judge head r text whole (suc (suc (length h.read))) is h (breaks-behind head h.read (length r.starts.items) whole rest (stands judge head r text fits h) all parts some)
    (text_of (end_line ∷ []) ++ rest, front) (inr all) (omega (arith, one, h.count))

-- at a line that is whole
pub whole-line : (partial more : List ℕ) → IsLine partial → BeginsWithLine ((partial ++ 10 ∷ []) ++ more) partial more
whole-line partial more plain = record { parts = append_assoc partial (10 ∷ []) more; whole = plain }

some-more : (partial bytes more : List ℕ) → 0 < length (partial ++ bytes) → 0 < length ((partial ++ bytes) ++ more)
some-more partial bytes more some = omega (arith, some, length-append (partial ++ bytes) more)

pub line-breaks : (judge : Judge) (head : Head) (r : TreeReader) (fault : AtFault) → ReaderFits head r → IsJudgeFor judge head → r.is_done ≡ false → fault ≡ at_faults.Malformed (line_number head r) →
    ((text more : List ℕ) (h : HasTaken judge head r text) → Next head h.read ((r.partial ++ 10 ∷ []) ++ more) → ⊥) → IsFaultIn judge head r (10 ∷ []) fault
line-breaks judge head r fault fits is undone same stuck = λ text more h.
    subst (IsTreeFault (setting_of judge) (root_of judge) head ((text ++ 10 ∷ []) ++ more)) (sym same) (stuck-open judge head r text (10 ∷ []) more fits is undone h (stuck text more h))

pub done-breaks : (judge : Judge) (head : Head) (r : TreeReader) (bytes : List ℕ) (fault : AtFault) → ReaderFits head r → IsJudgeFor judge head → r.is_done ≡ true → fault ≡ at_faults.Malformed (line_number head r) → 0 < length (r.partial ++ bytes) → IsFaultIn judge head r bytes fault
done-breaks judge head r bytes fault fits is done same some = λ text more h.
    subst (IsTreeFault (setting_of judge) (root_of judge) head ((text ++ bytes) ++ more)) (sym same) (stuck-done judge head r text bytes more fits is done h (some-more r.partial bytes more some))

-- ## A line that is too long

pub long-breaks : (judge : Judge) (head : Head) (r : TreeReader) (bytes more : List ℕ) (fault : AtFault) → ReaderFits head r → IsJudgeFor judge head → IsLine bytes → 5 < length (r.partial ++ bytes) → fault ≡ at_faults.Malformed (line_number head r) →
    IsFaultIn judge head r (bytes ++ more) fault
long-breaks judge head r bytes more fault fits is plain long same =
    case r.is_done refl
  where
    over : (text rest : List ℕ) (h : HasTaken judge head r text) → (r.partial ++ (bytes ++ more)) ++ rest ≡ (r.partial ++ bytes) ++ (more ++ rest)
    over text rest h = ap (λ (t : List ℕ). t ++ rest) (sym (append_assoc r.partial bytes more)) ∙ append_assoc (r.partial ++ bytes) more rest

    case : (d : Bool) → r.is_done ≡ d → IsFaultIn judge head r (bytes ++ more) fault
    case false undone = λ text rest h.
        subst (IsTreeFault (setting_of judge) (root_of judge) head ((text ++ (bytes ++ more)) ++ rest)) (sym same)
        (stuck-open judge head r text (bytes ++ more) rest fits is undone h
        (λ n. too-long head h.read (length r.starts.items) (r.partial ++ bytes) (more ++ rest) (stands judge head r text fits h) (All-append (λ (b : ℕ). b ≢ 10) r.partial bytes h.plain plain) long
        (subst (Next head h.read) (over text rest h) n)))
    case true done = done-breaks judge head r (bytes ++ more) fault fits is done same (omega (arith, long, length-append r.partial (bytes ++ more), length-append r.partial bytes, length-append bytes more))

-- ## A node more

-- a fault of a check, but want of memory, as one of a tree that is read
pub fault-told : (judge : Judge) (head : Head) (text : List ℕ) (fault : CheckFault) → IsFaultAt (setting_of judge) (root_of judge) head text fault → IsTreeFault (setting_of judge) (root_of judge) head text (at_fault fault)
fault-told judge head text faults.Memory is = tt
fault-told judge head text (faults.BadConfig n) is = (λ e. cc, is)
fault-told judge head text (faults.OverBudget n b) is = (λ e. cc, is)
fault-told judge head text (faults.Clash n b) is = (λ e. cc, is)
fault-told judge head text (faults.CostDiffers n b) is = (λ e. cc, is)
fault-told judge head text (faults.BadPair n b) is = (λ e. cc, is)
fault-told judge head text (faults.BadBranch n) is = (λ e. cc, is)
fault-told judge head text (faults.LeafBelow n computed claimed) is = (λ e. cc, is)
fault-told judge head text (faults.NotInfeasible n size) is = (λ e. cc, is)

-- the text with the line of a node behind those of others
node-parts : (read : List Node) (node : Node) (partial text : List ℕ) → text ≡ text_of (node_lines read) ++ partial → partial ≡ node_line node → text ++ 10 ∷ [] ≡ text_of (node_lines (read ++ node ∷ []))
node-parts read node partial text parts line =
    ap (λ (t : List ℕ). t ++ 10 ∷ []) (parts ∙ ap (λ (t : List ℕ). text_of (node_lines read) ++ t) line) ∙ append_assoc (text_of (node_lines read)) (node_line node) (10 ∷ [])
    ∙ sym (ap text_of (map-append node_line read (node ∷ [])) ∙ text-append (node_lines read) (node_line node ∷ []))

open-text : (judge : Judge) (head : Head) (r : TreeReader) (text : List ℕ) → r.is_done ≡ false → (h : HasTaken judge head r text) → text ≡ text_of (node_lines h.read) ++ r.partial
open-text judge head r text undone h = h.parts ∙ ap (λ (ls : List (List ℕ)). text_of ls ++ r.partial) (ap (lines_of h.read) undone ∙ append-nil (node_lines h.read))

pub node-fault : (judge : Judge) (head : Head) (r : TreeReader) (node : Node) (fault : CheckFault) (told : AtFault) → ReaderFits head r → IsJudgeFor judge head → r.is_done ≡ false → r.partial ≡ node_line node → NodeLimits (length head.sets) node →
    r.read < head.nodes → TreesFit (trees_after (length r.starts.items) node) (head.nodes - r.read - 1) → IsNextFault judge (starts_of r.starts.items) (r.read + 1) node fault → told ≡ at_fault fault → IsFaultIn judge head r (10 ∷ []) told
node-fault judge head r node fault told fits is undone line limit less fit next same = λ text more h.
    let whole : List ℕ = (text ++ 10 ∷ []) ++ more in
    let left : head.nodes - r.read - 1 ≡ head.nodes - length h.read - 1 = omega (arith, h.count) in
    let after = stands-next head h.read (length r.starts.items) node (stands judge head r text fits h) limit (omega (arith, less, h.count)) (subst (TreesFit (trees_after (length r.starts.items) node)) left fit) in
    let front = front-whole head (h.read ++ node ∷ []) (trees_after (length r.starts.items) node) after in
    let begins : whole ≡ text_of (node_lines (h.read ++ node ∷ [])) ++ more = ap (λ (t : List ℕ). t ++ more) (node-parts h.read node r.partial text (open-text judge head r text undone h) line) in
    subst (IsTreeFault (setting_of judge) (root_of judge) head whole) (sym same)
    (fault-told judge head whole fault
    (record {
      read = h.read ++ node ∷ [];
      begins = (more, begins);
      more = front.more;
      tree_is = front.tree_is;
      fault_is = λ rest. cert-same judge head is (λ (c : Cert). IsFault (setting_of judge) (root_of judge) c fault) ((h.read ++ node ∷ []) ++ rest)
          (subst (λ (ns : List Node). IsFault (setting_of judge) (root_of judge) (cert_of judge ns) fault) (sym (append_assoc h.read (node ∷ []) rest))
          (next h.read rest is.sound h.walk (omega (arith, h.count))));
    }))

pub no-byte : IsLine []
no-byte = λ k d within. absurd (omega (arith, within))

pub takes-node : (judge : Judge) (head : Head) (r n : TreeReader) (node : Node) → ReaderFits head r → r.is_done ≡ false → r.partial ≡ node_line node → NodeLimits (length head.sets) node → r.read < head.nodes →
    TreesFit (trees_after (length r.starts.items) node) (head.nodes - r.read - 1) → n.partial ≡ [] → n.read ≡ r.read + 1 → n.is_done ≡ r.is_done →
    length n.starts.items ≡ trees_after (length r.starts.items) node → WalksOn judge (starts_of r.starts.items) node (starts_of n.starts.items) → TakesOn judge head r (10 ∷ []) n
takes-node judge head r n node fits undone line limit less fit b read done count goes =
    let closed : n.is_done ≡ false = done ∙ undone in
    let some : 0 < length r.starts.items = some-starts (length r.starts.items) fits.trees in
    let left : head.nodes - r.read - 1 ≡ head.nodes - n.read = omega (arith, read) in
    record {
      fits = record {
        few_sets = fits.few_sets;
        few_nodes = fits.few_nodes;
        within = omega (arith, read, less);
        trees = subst (λ (k : ℕ). TreesFit k (head.nodes - n.read)) (sym count) (subst (TreesFit (trees_after (length r.starts.items) node)) left fit);
        even = (let even = after-even (length r.starts.items) node (head.nodes + r.read) some fits.even in omega (arith, even, read, count));
        done = λ is. absurd (false≢true (sym closed ∙ is));
        short = omega (arith, ap length b);
      };
      left = omega (arith, read, less, ap end_count closed, ap end_count undone, ap length b, fits.short);
      taken = λ text h.
          let parts = node-parts h.read node r.partial text (open-text judge head r text undone h) line in
          let lines : lines_of (h.read ++ node ∷ []) n.is_done ≡ node_lines (h.read ++ node ∷ []) = ap (lines_of (h.read ++ node ∷ [])) closed ∙ append-nil (node_lines (h.read ++ node ∷ [])) in
          record {
            read = h.read ++ node ∷ [];
            count = omega (arith, length-append h.read (node ∷ []), h.count, read);
            limits = all-append (NodeLimits (length head.sets)) h.read (node ∷ []) h.limits (limit, tt);
            walk = goes h.read h.walk;
            plain = subst IsLine (sym b) no-byte;
            parts = parts ∙ sym (ap (λ (ls : List (List ℕ)). text_of ls ++ n.partial) lines ∙ ap (λ (t : List ℕ). text_of (node_lines (h.read ++ node ∷ [])) ++ t) b ∙ append-nil (text_of (node_lines (h.read ++ node ∷ []))));
          };
    }
  where
    some-starts : (k : ℕ) → TreesFit k (head.nodes - r.read) → 0 < k
    some-starts zero fit = absurd (omega (arith, less, fit.none refl))
    some-starts (suc k) fit = omega arith

-- ## The line behind the nodes

pub takes-end : (judge : Judge) (head : Head) (r n : TreeReader) → ReaderFits head r → r.is_done ≡ false → r.read ≡ head.nodes → r.partial ≡ end_line → n.partial ≡ [] → n.read ≡ r.read → n.is_done ≡ true → n.starts.items ≡ r.starts.items → TakesOn judge head r (10 ∷ []) n
takes-end judge head r n fits undone all line b read done starts =
    let left : head.nodes - r.read ≡ head.nodes - n.read = omega (arith, read) in
    record {
      fits = record {
        few_sets = fits.few_sets;
        few_nodes = fits.few_nodes;
        within = omega (arith, read, fits.within);
        trees = subst (λ (k : ℕ). TreesFit k (head.nodes - n.read)) (sym (ap length starts)) (subst (TreesFit (length r.starts.items)) left fits.trees);
        even = omega (arith, fits.even, read, ap length starts);
        done = λ is. omega (arith, read, all);
        short = omega (arith, ap length b);
      };
      left = omega (arith, read, all, ap end_count done, ap end_count undone, ap length b, fits.short);
      taken = λ text h.
          let ends : text ++ 10 ∷ [] ≡ text_of (all_lines h.read) =
          ap (λ (t : List ℕ). t ++ 10 ∷ []) (open-text judge head r text undone h ∙ ap (λ (t : List ℕ). text_of (node_lines h.read) ++ t) line) ∙ append_assoc (text_of (node_lines h.read)) end_line (10 ∷ [])
          ∙ sym (text-append (node_lines h.read) (end_line ∷ [])) in
          record {
            read = h.read;
            count = omega (arith, h.count, read);
            limits = h.limits;
            walk = subst (λ (items : List _). IsWalk judge h.read (starts_of items)) (sym starts) h.walk;
            plain = subst IsLine (sym b) no-byte;
            parts = ends ∙ sym (ap (λ (d : Bool). text_of (lines_of h.read d) ++ n.partial) done ∙ ap (λ (t : List ℕ). text_of (all_lines h.read) ++ t) b ∙ append-nil (text_of (all_lines h.read)));
          };
    }

-- ## Bytes more

pub takes-bytes : (judge : Judge) (head : Head) (r n : TreeReader) (bytes : List ℕ) → ReaderFits head r → IsLine bytes → Extends true r bytes n → TakesOn judge head r bytes n
takes-bytes judge head r n bytes fits plain is =
    let m : TreeReader = record r { partial = r.partial ++ bytes } in
    let short : length (r.partial ++ bytes) ≤ 5 = subst (λ (x : TreeReader). length x.partial ≤ 5) is.0 is.1 in
    subst (TakesOn judge head r bytes) (sym is.0)
    (record {
      fits = record { few_sets = fits.few_sets; few_nodes = fits.few_nodes; within = fits.within; trees = fits.trees; even = fits.even; done = fits.done; short = short };
      left = omega (arith, length-append r.partial bytes, short);
      taken = λ text h. record {
        read = h.read;
        count = h.count;
        limits = h.limits;
        walk = h.walk;
        plain = All-append (λ (b : ℕ). b ≢ 10) r.partial bytes h.plain plain;
        parts = ap (λ (t : List ℕ). t ++ bytes) h.parts ∙ append_assoc (text_of (lines_of h.read r.is_done)) r.partial bytes;
      };
    })

pub takes-nothing : (judge : Judge) (head : Head) (r : TreeReader) → ReaderFits head r → TakesOn judge head r [] r
takes-nothing judge head r fits = record { fits = fits; left = omega arith; taken = λ text h. subst (HasTaken judge head r) (sym (append-nil text)) h }

pub takes-both : (judge : Judge) (head : Head) (r m n : TreeReader) (xs ys : List ℕ) → TakesOn judge head r xs m → TakesOn judge head m ys n → TakesOn judge head r (xs ++ ys) n
takes-both judge head r m n xs ys first second =
    record {
      fits = second.fits;
      left = omega (arith, first.left, second.left, length-append xs ys);
      taken = λ text h. subst (HasTaken judge head n) (append_assoc text xs ys) (second.taken (text ++ xs) (first.taken text h));
    }

-- a fault behind bytes that were read
pub fault-later : (judge : Judge) (head : Head) (r m : TreeReader) (xs ys : List ℕ) (fault : AtFault) → TakesOn judge head r xs m → IsFaultIn judge head m ys fault → IsFaultIn judge head r (xs ++ ys) fault
fault-later judge head r m xs ys fault first later = λ text more h.
    let told = later (text ++ xs) more (first.taken text h) in
    subst (λ (t : List ℕ). IsTreeFault (setting_of judge) (root_of judge) head (t ++ more) fault) (append_assoc text xs ys)
    told

-- and one before others
pub fault-before : (judge : Judge) (head : Head) (r : TreeReader) (xs ys : List ℕ) (fault : AtFault) → IsFaultIn judge head r xs fault → IsFaultIn judge head r (xs ++ ys) fault
fault-before judge head r xs ys fault is = λ text more h.
    subst (λ (t : List ℕ). IsTreeFault (setting_of judge) (root_of judge) head t fault) (sym (ap (λ (t : List ℕ). t ++ more) (sym (append_assoc text xs ys)) ∙ append_assoc (text ++ xs) ys more))
    (is text (ys ++ more) h)

-- ## The end

pub ends-whole : (judge : Judge) (head : Head) (r : TreeReader) (text : List ℕ) → ReaderFits head r → IsJudgeFor judge head → r.is_done ≡ true → length r.partial ≡ 0 → HasTaken judge head r text → IsWhole judge head text
ends-whole judge head r text fits is done none h =
    let all : length h.read ≡ head.nodes = omega (arith, h.count, fits.done done) in
    let tree = tree-read head h.read (length r.starts.items) (stands judge head r text fits h) all in
    record {
      tree = h.read;
      tree_is = tree;
      text_is = h.parts ∙ ap (λ (d : Bool). text_of (lines_of h.read d) ++ r.partial) done ∙ ap (λ (t : List ℕ). text_of (all_lines h.read) ++ t) (no-bytes r.partial none) ∙ append-nil (text_of (all_lines h.read));
      proof = cert-same judge head is (λ (c : Cert). IsProof (setting_of judge) (root_of judge) c) h.read (walk-end judge h.read (starts_of r.starts.items) is.sound tree.whole h.walk);
    }
  where
    no-bytes : (bytes : List ℕ) → length bytes ≡ 0 → bytes ≡ []
    no-bytes [] none = refl
    no-bytes (b ∷ bytes) none = absurd (omega (arith, none))

-- the text ends before that
pub ends-open : (judge : Judge) (head : Head) (r : TreeReader) (text : List ℕ) (fault : AtFault) → ReaderFits head r → IsJudgeFor judge head → r.is_done ≡ false → fault ≡ at_faults.Malformed (line_number head r) → HasTaken judge head r text →
    IsTreeFault (setting_of judge) (root_of judge) head text fault
ends-open judge head r text fault fits is undone same h =
    let none : (bytes : List ℕ) → (bytes ++ []) ++ [] ≡ bytes = λ bytes. append-nil (bytes ++ []) ∙ append-nil bytes in
    subst (IsTreeFault (setting_of judge) (root_of judge) head text) (sym same)
    (subst (λ (t : List ℕ). IsMalformed (setting_of judge) (root_of judge) head t (line_number head r)) (none text)
    (stuck-open judge head r text [] [] fits is undone h (λ n. not-whole head h.read r.partial h.plain (subst (Next head h.read) (none r.partial) n))))

pub ends-behind : (judge : Judge) (head : Head) (r : TreeReader) (text : List ℕ) (fault : AtFault) → ReaderFits head r → IsJudgeFor judge head → r.is_done ≡ true → 0 < length r.partial → fault ≡ at_faults.Malformed (line_number head r) → HasTaken judge head r text →
    IsTreeFault (setting_of judge) (root_of judge) head text fault
ends-behind judge head r text fault fits is done some same h =
    let none : (bytes : List ℕ) → (bytes ++ []) ++ [] ≡ bytes = λ bytes. append-nil (bytes ++ []) ∙ append-nil bytes in
    subst (IsTreeFault (setting_of judge) (root_of judge) head text) (sym same)
    (subst (λ (t : List ℕ). IsMalformed (setting_of judge) (root_of judge) head t (line_number head r)) (none text)
    (stuck-done judge head r text [] [] fits is done h (omega (arith, some, ap length (none r.partial)))))
