-- What is read of a text with one more piece.
use Rattle.std.proofs.Common.{◌≡◌, ◌∙◌, ℕ, ◌+◌, ◌<◌, ◌≤◌, Bool, true, false, List, [], ◌∷◌, ◌++◌, length, sym, ap, subst, refl, arith}
use Rattle.std.specs.Coded.{le_prop}
use Rattle.std.proofs.Math.Logic.{∥∥₁_elim, ∥∥₁_map}
use Rattle.std.proofs.lemmas.Bool.{false≢true}
use Rattle.std.proofs.lemmas.List.{append-nil, append_assoc}
use Rattle.std.proofs.lemmas.List.Elements.{All-append}
use Rattle.adv_base.specs.declared.limits.TheConstants.{MOST_CERTIFICATE_BYTES}
use Rattle.adv_base.specs.Numbers.{BeginsWithLine}
use Rattle.bip_model.specs.declared.answer.Node.{Node}
use Rattle.certificate.specs.Certificates.{IsLine, BreaksAt}
use Rattle.certificate.specs.Heads.{IsHeadOf, lines_before}
use Rattle.certificate.specs.Texts.{text_of, tree_line, head_lines, sets_lines}
use Rattle.certificate.specs.declared.counts.Counts.{Counts}
use Rattle.certificate.specs.declared.outline.Outline.{Outline}
use Rattle.certificate.specs.declared.stage.Stage.{Stage}
use Rattle.certificate.specs.declared.stage.Stage.TheVariants as stages
use Rattle.certificate.specs.declared.stage.Taken.{Taken}
use Rattle.certificate.specs.declared.stage.Taken.TheVariants as takes
use Rattle.certificate.specs.declared.pieces.Reading.{Reading}
use Rattle.certificate.specs.inner.Drafts.{StageFits, OutlineFits, cert_of}
use Rattle.certificate.specs.inner.Outlines.{Draft, with_tree}
use Rattle.certificate.specs.inner.Pieces.{counts_of, front_at, Reaches, IsReached, IsRead, Breaks, ReadsOn, Extends, counted, TakesLine, head_read}
use Rattle.certificate.specs.inner.Steps.{start, is_front, StepAt, Takes, TakesAt}
use Rattle.certificate.proofs.Breaks.{breaks-behind}
use Rattle.certificate.proofs.Counting.{reaches-ahead, reaches-behind}
use Rattle.certificate.proofs.ReadLaws.{cert-is, text-append}
use Rattle.certificate.proofs.Reached.{run-fits, run-size, lines-count, has-read, no-line-in, breaks-on, line-breaks, long-breaks}
use Rattle.certificate.proofs.StepLaws.{outline-fits}

-- ## Before the first line

start-front : counts_of (front_at start.stage start) ≡ record { bytes = 0; lines = 0 }
unfolding start
start-front = refl

start-nodes : start.nodes_left ≡ 1
unfolding start
start-nodes = refl

pub reaches-start : (o : Outline) → with_tree o [] ≡ start → Reaches [] [] o (record { bytes = 0; lines = 0 }) (record { bytes = 0; lines = 0 }) 1
reaches-start o begun = record {
  run = sym begun;
  read_is = refl;
  front_is = sym (ap (λ (d : Draft). counts_of (front_at d.stage d)) begun ∙ start-front);
  nodes_is = (let nodes : o.nodes_left ≡ 1 = ap (λ (d : Draft). d.nodes_left) begun ∙ start-nodes in omega (arith, nodes));
}

pub no-bytes : IsLine []
no-bytes = λ k d within. absurd (omega arith)

-- ## What is known of a reading that was reached

pub fits-reached : (r : Reading) → ∥ IsReached r ∥₁ → OutlineFits r.outline
fits-reached r reached =
    let fits : (w : IsReached r) → OutlineFits r.outline = λ w. outline-fits r.outline w.tree (run-fits w.lines (with_tree r.outline w.tree) w.reaches.run) in
    record {
      few_sets = ∥∥₁_elim reached le_prop (λ w. (fits w).few_sets);
      few_entries = ∥∥₁_elim reached le_prop (λ w. (fits w).few_entries);
      begun = λ some. ∥∥₁_elim reached le_prop (λ w. (fits w).begun some);
      few_nodes = ∥∥₁_elim reached le_prop (λ w. (fits w).few_nodes);
      enough = ∥∥₁_elim reached le_prop (λ w. (fits w).enough);
      some_trees = λ some. ∥∥₁_elim reached le_prop (λ w. (fits w).some_trees some);
    }

-- ## One more line

-- what a taken line leads to
pub taken-tree : (taken : Taken) (P : Draft → Type 0) (p : Outline) (tree : List Node) → (taken ≡ takes.Refused → ⊥) → Takes taken P p tree → (more : List Node) × P (with_tree p more)
taken-tree takes.Refused P p tree some h = absurd (some refl)
taken-tree takes.Line P p tree some h = (tree, h)
taken-tree (takes.Node node) P p tree some h = (tree ++ node ∷ [], h)

-- a line that was taken is counted within the limit
pub step-counts : (lines : List (List ℕ)) (tree more : List Node) (o p : Outline) (read front : Counts) (nodes : ℕ) (line : List ℕ) (b : Bool) → b ≡ is_front o.stage →
    Reaches lines tree o read front nodes → StepAt o.stage (with_tree o tree) line (with_tree p more) →
    (read.bytes + length line < MOST_CERTIFICATE_BYTES) × (read.lines < MOST_CERTIFICATE_BYTES)
step-counts lines tree more o p read front nodes line true at r step =
    let next = reaches-ahead lines tree more o p read front nodes line r step (sym at) in
    let size = run-size (lines ++ line ∷ []) (with_tree p more) next.run in
    let bytes = ap (λ (c : Counts). c.bytes) next.read_is in
    let count = ap (λ (c : Counts). c.lines) next.read_is in
    (omega (arith, size, bytes), omega (arith, size, count, lines-count (lines ++ line ∷ [])))
step-counts lines tree more o p read front nodes line false at r step =
    let next = reaches-behind lines tree more o p read front nodes line r step (sym at) in
    let size = run-size (lines ++ line ∷ []) (with_tree p more) next.run in
    let bytes = ap (λ (c : Counts). c.bytes) next.read_is in
    let count = ap (λ (c : Counts). c.lines) next.read_is in
    (omega (arith, size, bytes), omega (arith, size, count, lines-count (lines ++ line ∷ [])))

next-step : (r : Reading) (p : Outline) (taken : Taken) (line : List ℕ) (tree : List Node) → line ≡ r.partial → TakesAt r.outline.stage taken r.outline line p → (taken ≡ takes.Refused → ⊥) →
    (more : List Node) × StepAt r.outline.stage (with_tree r.outline tree) r.partial (with_tree p more)
next-step r p taken line tree same taking some =
    let next = taken-tree taken (StepAt r.outline.stage (with_tree r.outline tree) line) p tree some (taking tree) in
    (next.0, subst (λ (l : List ℕ). StepAt r.outline.stage (with_tree r.outline tree) l (with_tree p next.0)) same next.1)

pub taken-bytes : (r : Reading) (p : Outline) (taken : Taken) (line : List ℕ) (b : Bool) → line ≡ r.partial → b ≡ is_front r.outline.stage → TakesAt r.outline.stage taken r.outline line p → (taken ≡ takes.Refused → ⊥) → ∥ IsReached r ∥₁ →
    r.read.bytes + length r.partial < MOST_CERTIFICATE_BYTES
taken-bytes r p taken line b same at taking some reached =
    let fits : r.read.bytes + length r.partial + 1 ≤ MOST_CERTIFICATE_BYTES = ∥∥₁_elim reached le_prop (λ w.
    let next = next-step r p taken line w.tree same taking some in
    omega (arith, (step-counts w.lines w.tree next.0 r.outline p r.read r.front r.nodes r.partial b at w.reaches next.1).0)) in
    omega (arith, fits)

pub taken-lines : (r : Reading) (p : Outline) (taken : Taken) (line : List ℕ) (b : Bool) → line ≡ r.partial → b ≡ is_front r.outline.stage → TakesAt r.outline.stage taken r.outline line p → (taken ≡ takes.Refused → ⊥) → ∥ IsReached r ∥₁ →
    r.read.lines < MOST_CERTIFICATE_BYTES
taken-lines r p taken line b same at taking some reached =
    let fits : r.read.lines + 1 ≤ MOST_CERTIFICATE_BYTES = ∥∥₁_elim reached le_prop (λ w.
    let next = next-step r p taken line w.tree same taking some in
    omega (arith, (step-counts w.lines w.tree next.0 r.outline p r.read r.front r.nodes r.partial b at w.reaches next.1).1)) in
    omega (arith, fits)

-- a line that was taken
counted-line : (r n : Reading) (p : Outline) (b : Bool) (lines : List (List ℕ)) (tree more : List Node) → b ≡ is_front r.outline.stage → n ≡ counted b (record r { outline = p }) →
    Reaches lines tree r.outline r.read r.front r.nodes → StepAt r.outline.stage (with_tree r.outline tree) r.partial (with_tree p more) → TakesLine true lines tree r n
counted-line r n p true lines tree more at is reaches step =
    subst (λ (x : Reading). TakesLine true lines tree r x) (sym is) (more, reaches-ahead lines tree more r.outline p r.read r.front r.nodes r.partial reaches step (sym at), refl)
counted-line r n p false lines tree more at is reaches step =
    subst (λ (x : Reading). TakesLine true lines tree r x) (sym is) (more, reaches-behind lines tree more r.outline p r.read r.front r.nodes r.partial reaches step (sym at), refl)

pub taken-line : (r n : Reading) (p : Outline) (taken : Taken) (line : List ℕ) (b : Bool) → line ≡ r.partial → b ≡ is_front r.outline.stage → TakesAt r.outline.stage taken r.outline line p → (taken ≡ takes.Refused → ⊥) →
    n ≡ counted b (record r { outline = p }) → (lines : List (List ℕ)) (tree : List Node) → Reaches lines tree r.outline r.read r.front r.nodes → TakesLine true lines tree r n
taken-line r n p taken line b same at taking some is lines tree reaches =
    let next = next-step r p taken line tree same taking some in
    counted-line r n p b lines tree next.0 at is reaches next.1

pub taken-reached : (r n : Reading) (p : Outline) (taken : Taken) (line : List ℕ) (b : Bool) → line ≡ r.partial → b ≡ is_front r.outline.stage → TakesAt r.outline.stage taken r.outline line p → (taken ≡ takes.Refused → ⊥) →
    n ≡ counted b (record r { outline = p }) → ∥ IsReached r ∥₁ → ∥ IsReached n ∥₁
taken-reached r n p taken line b same at taking some is reached =
    ∥∥₁_map reached (λ w.
    let next = taken-line r n p taken line b same at taking some is w.lines w.tree w.reaches in
    record { lines = w.lines ++ r.partial ∷ []; tree = next.0; reaches = next.1; short = omega (arith, ap length next.2) })

-- a line that was not
pub refused-line : (r : Reading) (p : Outline) (taken : Taken) (line : List ℕ) → line ≡ r.partial → TakesAt r.outline.stage taken r.outline line p → taken ≡ takes.Refused →
    (lines : List (List ℕ)) (tree : List Node) → TakesLine false lines tree r (record r { outline = p })
refused-line r p taken line same taking none lines tree =
    let stuck : Takes takes.Refused (StepAt r.outline.stage (with_tree r.outline tree) line) p tree = subst (λ (t : Taken). Takes t (StepAt r.outline.stage (with_tree r.outline tree) line) p tree) none (taking tree) in
    (λ f step. stuck f (subst (λ (l : List ℕ). StepAt r.outline.stage (with_tree r.outline tree) l f) (sym same) step), refl)

-- an open line that grew
pub extends-reached : (fits : Bool) (r m : Reading) (bytes : List ℕ) → Extends fits r bytes m → ∥ IsReached r ∥₁ → fits ≡ true → ∥ IsReached m ∥₁
extends-reached true r m bytes more reached fits =
    ∥∥₁_map reached (λ w. record {
      lines = w.lines;
      tree = w.tree;
      reaches = subst (λ (x : Reading). Reaches w.lines w.tree x.outline x.read x.front x.nodes) (sym more.0) w.reaches;
      short = more.1;
    })
extends-reached false r m bytes more reached fits = absurd (false≢true fits)

-- ## Where bytes stand

same-text : (lines : List (List ℕ)) (partial bytes tail text : List ℕ) → text ≡ text_of lines ++ partial → (text_of lines ++ (partial ++ bytes)) ++ tail ≡ text ++ (bytes ++ tail)
same-text lines partial bytes tail text parts =
    ap (λ (t : List ℕ). t ++ tail) (sym (append_assoc (text_of lines) partial bytes) ∙ ap (λ (t : List ℕ). t ++ bytes) (sym parts)) ∙ append_assoc text bytes tail

read-number : (lines : List (List ℕ)) (read : Counts) → read ≡ counts_of lines → length lines + 1 ≡ read.lines + 1
read-number lines read is = ap (λ (c : Counts). c.lines + 1) (sym is)

-- a line that is too long
pub long-ends : (r n : Reading) (bytes tail text : List ℕ) → n.read ≡ r.read → IsRead r text → IsLine bytes → 1030 < length (r.partial ++ bytes) → Breaks (text ++ (bytes ++ tail)) (n.read.lines + 1)
long-ends r n bytes tail text same is plain long =
    let d : Draft = with_tree r.outline is.tree in
    let all = All-append (λ (b : ℕ). b ≡ 10 → ⊥) r.partial bytes is.plain plain in
    let breaks = breaks-on (text_of is.lines ++ (r.partial ++ bytes)) tail (length is.lines + 1) (long-breaks is.lines (r.partial ++ bytes) d is.reaches.run all long) in
    let number : length is.lines + 1 ≡ n.read.lines + 1 = read-number is.lines r.read is.reaches.read_is ∙ ap (λ (c : Counts). c.lines + 1) (sym same) in
    subst (λ (k : ℕ). Breaks (text ++ (bytes ++ tail)) k) number (subst (λ (t : List ℕ). Breaks t (length is.lines + 1)) (same-text is.lines r.partial bytes tail text is.parts) breaks)

pub long-ends-read : (r n : Reading) (bytes tail text : List ℕ) → Extends false r bytes n → IsRead r text → IsLine bytes → Breaks (text ++ (bytes ++ tail)) (n.read.lines + 1)
long-ends-read r n bytes tail text long is plain = long-ends r n bytes tail text (ap (λ (x : Reading). x.read) long.0) is plain long.1

-- the line feed of the open line
pub ends-line : (fits : Bool) (r m n : Reading) (bytes text : List ℕ) → m ≡ record r { partial = r.partial ++ bytes } → IsRead r text → IsLine bytes →
    ((lines : List (List ℕ)) (tree : List Node) → Reaches lines tree m.outline m.read m.front m.nodes → TakesLine fits lines tree m n) →
    ReadsOn fits (text ++ (bytes ++ 10 ∷ [])) n
ends-line true r m n bytes text same is plain takes =
    let reaches : Reaches is.lines is.tree m.outline m.read m.front m.nodes = subst (λ (x : Reading). Reaches is.lines is.tree x.outline x.read x.front x.nodes) (sym same) is.reaches in
    let next = takes is.lines is.tree reaches in
    let partial : m.partial ≡ r.partial ++ bytes = ap (λ (x : Reading). x.partial) same in
    let line : text_of (is.lines ++ m.partial ∷ []) ≡ text_of is.lines ++ (m.partial ++ 10 ∷ []) = text-append is.lines (m.partial ∷ []) in
    let cut : text_of is.lines ++ (m.partial ++ 10 ∷ []) ≡ text ++ (bytes ++ 10 ∷ []) =
    ap (λ (t : List ℕ). text_of is.lines ++ (t ++ 10 ∷ [])) partial ∙ sym (append_assoc (text_of is.lines) (r.partial ++ bytes) (10 ∷ [])) ∙ same-text is.lines r.partial bytes (10 ∷ []) text is.parts in
    record {
      lines = is.lines ++ m.partial ∷ [];
      tree = next.0;
      reaches = next.1;
      plain = subst IsLine (sym next.2) no-bytes;
      parts = sym (line ∙ cut) ∙ sym (append-nil (text_of (is.lines ++ m.partial ∷ []))) ∙ ap (λ (t : List ℕ). text_of (is.lines ++ m.partial ∷ []) ++ t) (sym next.2);
    }
ends-line false r m n bytes text same is plain takes =
    let reaches : Reaches is.lines is.tree m.outline m.read m.front m.nodes = subst (λ (x : Reading). Reaches is.lines is.tree x.outline x.read x.front x.nodes) (sym same) is.reaches in
    let stuck = takes is.lines is.tree reaches in
    let partial : m.partial ≡ r.partial ++ bytes = ap (λ (x : Reading). x.partial) same in
    let all : IsLine m.partial = subst IsLine (sym partial) (All-append (λ (b : ℕ). b ≡ 10 → ⊥) r.partial bytes is.plain plain) in
    let breaks = line-breaks is.lines m.partial (with_tree m.outline is.tree) reaches.run all stuck.0 in
    let cut : text_of is.lines ++ (m.partial ++ 10 ∷ []) ≡ text ++ (bytes ++ 10 ∷ []) =
    ap (λ (t : List ℕ). text_of is.lines ++ (t ++ 10 ∷ [])) partial ∙ sym (append_assoc (text_of is.lines) (r.partial ++ bytes) (10 ∷ [])) ∙ same-text is.lines r.partial bytes (10 ∷ []) text is.parts in
    let number : length is.lines + 1 ≡ n.read.lines + 1 = read-number is.lines m.read reaches.read_is ∙ ap (λ (c : Counts). c.lines + 1) (sym stuck.1) in
    subst (λ (k : ℕ). Breaks (text ++ (bytes ++ 10 ∷ [])) k) number (subst (λ (t : List ℕ). Breaks t (length is.lines + 1)) cut breaks)

-- bytes without a line feed
pub opens-line : (fits : Bool) (r n : Reading) (bytes text : List ℕ) → IsRead r text → IsLine bytes → Extends fits r bytes n → ReadsOn fits (text ++ bytes) n
opens-line true r n bytes text is plain more =
    let parts : text ++ bytes ≡ text_of is.lines ++ (r.partial ++ bytes) = ap (λ (t : List ℕ). t ++ bytes) is.parts ∙ append_assoc (text_of is.lines) r.partial bytes in
    subst (λ (x : Reading). IsRead x (text ++ bytes)) (sym more.0)
    (record { lines = is.lines; tree = is.tree; reaches = is.reaches; plain = All-append (λ (b : ℕ). b ≡ 10 → ⊥) r.partial bytes is.plain plain; parts = parts })
opens-line false r n bytes text is plain more =
    subst (λ (t : List ℕ). Breaks (text ++ t) (n.read.lines + 1)) (append-nil bytes)
    (long-ends r n bytes [] text (ap (λ (x : Reading). x.read) more.0) is plain more.1)

-- ## The end

pub read-breaks : (r : Reading) (text : List ℕ) (number : ℕ) → number ≡ r.read.lines + 1 → IsRead r text → (r.partial ≡ [] → r.outline.stage ≡ stages.Done → ⊥) → BreaksAt text number
read-breaks r text number at is none =
    let d : Draft = with_tree r.outline is.tree in
    let breaks = breaks-behind (text_of is.lines ++ r.partial) r.partial d (length is.lines + 1) is.lines (has-read is.lines r.partial d is.reaches.run) (λ line more. no-line-in r.partial line more is.plain) none in
    subst (λ (k : ℕ). BreaksAt text k) (read-number is.lines r.read is.reaches.read_is ∙ sym at) (subst (λ (t : List ℕ). BreaksAt t (length is.lines + 1)) (sym is.parts) breaks)

pub read-head : (r : Reading) (text : List ℕ) → IsRead r text → length r.partial ≡ 0 → r.outline.stage ≡ stages.Done → IsHeadOf text (head_read r)
read-head r text is none at =
    let o : Outline = r.outline in
    let d : Draft = with_tree o is.tree in
    let fits = run-fits is.lines d is.reaches.run in
    let done : StageFits stages.Done d = subst (λ (s : Stage). StageFits s d) at fits.stage in
    let sets : length o.sets + o.sets_left ≡ length o.sets = omega (arith, done.0.sets_left) in
    let nodes : length is.tree + o.nodes_left ≡ length is.tree = omega (arith, done.1) in
    let front : front_at o.stage d ≡ lines_before (cert_of d) =
    ap (λ (s : Stage). front_at s d) at ∙ (λ i. head_lines o.version o.budget o.config o.cost o.bound (sets i) ++ (sets_lines o.sets ++ tree_line (nodes i) ∷ [])) in
    let counts : r.front ≡ counts_of (lines_before (cert_of d)) = is.reaches.front_is ∙ ap counts_of front in
    let count : r.nodes ≡ length is.tree = is.reaches.nodes_is ∙ nodes in
    record {
      cert = cert_of d;
      certificate = cert-is text r.partial is.lines d is.parts none is.reaches.run at;
      same = λ i. record { version = o.version; budget = o.budget; config = o.config; cost = o.cost; bound = o.bound; sets = o.sets; nodes = count i; tree_at = (counts i).bytes; lines = (counts i).lines };
    }

-- ## A piece

-- what was taken of a piece, with one more line
pub piece-cut : (done piece rest line more : List ℕ) → piece ≡ done ++ rest → BeginsWithLine rest line more → piece ≡ (done ++ (line ++ 10 ∷ [])) ++ more
piece-cut done piece rest line more parts begins =
    parts ∙ ap (λ (t : List ℕ). done ++ t) (begins.parts ∙ sym (append_assoc line (10 ∷ []) more)) ∙ sym (append_assoc done (line ++ 10 ∷ []) more)

pub piece-breaks : (text done piece rest line more : List ℕ) (number : ℕ) → piece ≡ done ++ rest → BeginsWithLine rest line more → Breaks ((text ++ done) ++ (line ++ 10 ∷ [])) number → Breaks (text ++ piece) number
piece-breaks text done piece rest line more number parts begins breaks =
    let front : List ℕ = done ++ (line ++ 10 ∷ []) in
    let same : ((text ++ done) ++ (line ++ 10 ∷ [])) ++ more ≡ text ++ piece =
    ap (λ (t : List ℕ). t ++ more) (append_assoc text done (line ++ 10 ∷ [])) ∙ append_assoc text front more ∙ ap (λ (t : List ℕ). text ++ t) (sym (piece-cut done piece rest line more parts begins)) in
    subst (λ (t : List ℕ). Breaks t number) same (breaks-on ((text ++ done) ++ (line ++ 10 ∷ [])) more number breaks)
