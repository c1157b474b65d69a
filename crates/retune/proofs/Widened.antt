-- Programmes with one statement more, and candidates that come with it.
use Rattle.std.proofs.Common.{◌≡◌, ◌∙◌, inl, inr, ℕ, ◌+◌, ◌-◌, ◌*◌, ◌<◌, ◌≤◌, List, [], ◌∷◌, ◌++◌, length, map, take, drop, get_or, min, All, refl, sym, ap, subst, arith}
use Rattle.std.specs.Prelude.{OnErr, Option, Some, Result, Ok, Err, slice_get, option_to_list}
use Rattle.std.proofs.Math.Seq.{take-add}
use Rattle.std.proofs.lemmas.Bool.{cases_lt}
use Rattle.std.proofs.lemmas.List.{length-append, length-drop, length-map, length-take, length-take-le, map-append, take_all, take-append-drop, take-append-le}
use Rattle.std.proofs.lemmas.List.Elements.{All-append, All-drop, All-map}
use Rattle.std.proofs.lemmas.Option.{slice_get-get_or}
use denote.Struct.Props.{props}
use mathlib.Core.HLevel.{is_prop→PathP}
use Rattle.adv_base.specs.declared.catalogue.Catalogue.{Catalogue}
use Rattle.adv_base.specs.declared.catalogue.index.IndexShape.{IndexShape}
use Rattle.adv_base.specs.declared.limits.TheConstants.{MOST_CANDIDATES, MOST_INDEXES, MOST_INDEX_PAGES, MOST_STATEMENTS, MOST_UPKEEP, MOST_WEIGHT}
use Rattle.adv_base.specs.declared.workload.Statement.{Statement}
use Rattle.adv_base.specs.declared.workload.Work.{Work}
use Rattle.adv_base.specs.Limits.Settings.{SettingLimits}
use Rattle.adv_base.specs.Named.{NamesShape, NamesWork}
use Rattle.adv_base.specs.Settings.{TheSetting, KeepsLimits}
use Rattle.adv_base.specs.Sizes.{shape_pages}
use Rattle.adv_base.specs.Upkeep.{upkeep, kept_upkeep, weighted_upkeep, weighted_kept}
use Rattle.adv_base.proofs.UpkeepBounds.{upkeep-most, kept_upkeep-most}
use Rattle.bip_model.specs.declared.part.Part.{Part}
use Rattle.bip_model.specs.declared.programme.Programme.{Programme}
use Rattle.bip_model.specs.Limits.Programmes.{GrantsWithin, ProgrammeLimits}
use Rattle.bip_model.specs.StandsFor.{AreEach, IsPart, StandsFor, blocked_from}
use Rattle.bip_model.proofs.Lists.{each-map}
use Rattle.candidates.specs.Candidates.{AreCandidates, IsNotUnique, proposal_of, fresh_proposals}
use Rattle.candidates.specs.Proposals.{Proposal}
use Rattle.candidates.proofs.Growing.{fresh-more}
use Rattle.candidates.proofs.SoundLaws.{shapes-named}
use Rattle.hypo_indexes.specs.declared.figures.Figures.{Figures}
use Rattle.hypo_indexes.specs.Figures.{AreFigures}
use Rattle.programme_parts.specs.Kept.{HasKept}
use Rattle.programme_parts.specs.Laws.{IsProgrammeOf}
use Rattle.programme_parts.proofs.Reading.{take-found}
use Rattle.programme_parts.proofs.Statements.{all-within, parts-few}
use Rattle.retune.specs.inner.Renewing.{IsWhole, IsPartAt, IsRenewedBy, all_but_last, put_over, with_shapes}
use Rattle.retune.proofs.Grown.{known-at, last-share, mapped-parts}
use Rattle.retune.proofs.PutOver.{each-both, put-over-by, put-over-front, renewed-few, with-next}
use Rattle.retune.proofs.Steps.{limits-with}
use Rattle.retune.proofs.Untouched.{grown}
use Rattle.retune.proofs.UpkeepWeights.{sum-most}

-- what holds whatever came, holds of an error
pub on-err : {T E : Type 0} (P : Type 0) (r : Result T E) → P → OnErr r P
on-err P (Ok x) p = tt
on-err P (Err x) p = p

-- ## Limits

-- a programme's, by the setting that it stands for
pub stands-limits : (setting : TheSetting) (sizes costs : List ℕ) (kept : ℕ) (parts : List Part) → KeepsLimits setting → All (λ pages. pages ≤ MOST_INDEX_PAGES) sizes →
    sizes ≡ map (shape_pages setting.cat) setting.shapes → costs ≡ map (weighted_upkeep setting) setting.shapes → kept ≡ weighted_kept setting → AreEach (IsPart setting) (blocked_from 1 setting.statements) parts →
    ProgrammeLimits sizes costs kept parts
stands-limits setting sizes costs kept parts limits pages sizes_are costs_are kept_is are =
    let long : length sizes ≡ length setting.shapes = ap length sizes_are ∙ length-map setting.shapes (shape_pages setting.cat) in
    let each : length costs ≡ length setting.shapes = ap length costs_are ∙ length-map setting.shapes (weighted_upkeep setting) in
    let most = sum-most (kept_upkeep setting.cat) (MOST_INDEXES * MOST_UPKEEP) setting.statements (λ s. kept_upkeep-most setting.cat s.weight s.work s.limits) limits.statements_most in
    let costs_most : All (λ (cost : ℕ). cost ≤ MOST_STATEMENTS * (MOST_WEIGHT * MOST_UPKEEP)) (map (weighted_upkeep setting) setting.shapes) =
    All-map (λ (cost : ℕ). cost ≤ MOST_STATEMENTS * (MOST_WEIGHT * MOST_UPKEEP)) (weighted_upkeep setting) setting.shapes
    (λ k d within.
    let shape = get_or setting.shapes k d in
    sum-most (λ work. upkeep setting.cat work shape) MOST_UPKEEP setting.statements (λ s. upkeep-most setting.cat s.weight s.work shape s.limits) limits.statements_most) in
    record {
      sizes_most = omega (arith, long, limits.shapes_most);
      pages_most = pages;
      upkeep_each = omega (arith, long, each);
      upkeep_most = subst (λ (cs : List ℕ). All (λ (cost : ℕ). cost ≤ MOST_STATEMENTS * (MOST_WEIGHT * MOST_UPKEEP)) cs) (sym costs_are) costs_most;
      kept_most = omega (arith, kept_is, most);
      parts_most = omega (arith, parts-few setting setting.statements parts are, limits.statements_most);
      candidates = subst (λ (n : ℕ). All (GrantsWithin n) parts) (sym long) (all-within setting (blocked_from 1 setting.statements) parts are);
    }

programme_prop : (sizes costs : List ℕ) (kept : ℕ) (parts : List Part) → IsProp (ProgrammeLimits sizes costs kept parts)
programme_prop sizes costs kept parts = hlevel props

-- a programme is the same where its numbers and its parts are
pub same_programme : (x y : Programme) → x.sizes ≡ y.sizes → x.upkeep ≡ y.upkeep → x.kept ≡ y.kept → x.parts ≡ y.parts → x ≡ y
same_programme x y sizes costs kept parts =
    let limits = is_prop→PathP (λ i. ProgrammeLimits (sizes i) (costs i) (kept i) (parts i)) (λ i. programme_prop (sizes i) (costs i) (kept i) (parts i)) x.limits y.limits in
    λ i. record { sizes = sizes i; upkeep = costs i; kept = kept i; parts = parts i; limits = limits i }

-- ## Upkeep

-- that of a candidate that is known, by the last statement too
pub upkeep-grown : (s : TheSetting) (last : Statement) (known : List ℕ) (at : ℕ) (shape : IndexShape) (cost : ℕ) → 1 ≤ length s.statements → slice_get s.statements (length s.statements - 1) ≡ Some last →
    known ≡ map (weighted_upkeep (all_but_last s (length known))) (take (length known) s.shapes) → at < length known → cost ≡ upkeep s.cat last.work (get_or s.shapes at shape) →
    get_or known at 0 + last.weight * cost ≡ weighted_upkeep s (get_or s.shapes at shape)
upkeep-grown s last known at shape cost some found same within exact =
    let item : IndexShape = get_or s.shapes at shape in
    let before : IndexShape → ℕ = weighted_upkeep (all_but_last s (length known)) in
    let there : get_or known at 0 ≡ before item = known-at before known s.shapes at shape 0 same within in
    let share : before item + last.weight * upkeep s.cat last.work item ≡ weighted_upkeep s item = last-share (λ work. upkeep s.cat work item) s.statements last some found in
    ap (λ (n : ℕ). n + last.weight * cost) there ∙ ap (λ (n : ℕ). before item + last.weight * n) exact ∙ share

-- ## Parts

grown-whole : (s : TheSetting) (n : ℕ) → grown (all_but_last s n) s.statements (drop n s.shapes) ≡ s
grown-whole s n = ap (λ (shapes : List IndexShape). record { cat = s.cat; statements = s.statements; shapes = shapes }) (take-append-drop n s.shapes)

-- those of the programme before
pub parts-before : (s : TheSetting) (programme : Programme) → IsProgrammeOf s programme → AreEach (IsWhole s) (blocked_from 1 s.statements) programme.parts
parts-before s programme is =
    each-both (IsPart s) (HasKept s.cat) (IsWhole s) (λ b part own kept. record { is = own; kept = kept }) (blocked_from 1 s.statements) programme.parts is.stands.parts_are is.kept

pub few-renewed : (s : TheSetting) (n : ℕ) (renewed : List (Option Part)) (olds : List Part) →
    AreEach (IsWhole (all_but_last s n)) (blocked_from 1 (take (length s.statements - 1) s.statements)) olds → IsRenewedBy s (drop n s.shapes) (length s.statements - 1) renewed → length renewed ≤ length olds
few-renewed s n renewed olds old anew =
    let same = grown-whole s n in
    renewed-few (all_but_last s n) s.statements (drop n s.shapes) (length s.statements - 1) renewed olds
    (subst (λ (t : TheSetting). IsRenewedBy t (drop n s.shapes) (length s.statements - 1) renewed) (sym same) anew) old

-- with those that are made anew, and that of the last statement
pub parts-widened : (s : TheSetting) (n : ℕ) (renewed : List (Option Part)) (own : Option Part) (olds : List Part) → 1 ≤ length s.statements →
    AreEach (IsWhole (all_but_last s n)) (blocked_from 1 (take (length s.statements - 1) s.statements)) olds → IsRenewedBy s (drop n s.shapes) (length s.statements - 1) renewed → IsPartAt s (length s.statements - 1) own →
    AreEach (IsWhole s) (blocked_from 1 s.statements) (put_over renewed (olds ++ option_to_list own))
parts-widened s n renewed own olds some old anew last =
    let k : ℕ = length s.statements - 1 in
    let fresh : List IndexShape = drop n s.shapes in
    let same = grown-whole s n in
    let few = few-renewed s n renewed olds old anew in
    let front : AreEach (IsWhole s) (blocked_from 1 (take k s.statements)) (put_over renewed olds) =
    subst (λ (t : TheSetting). AreEach (IsWhole t) (blocked_from 1 (take k s.statements)) (put_over renewed olds)) same
    (put-over-by (all_but_last s n) s.statements fresh k renewed olds (subst (λ (t : TheSetting). IsRenewedBy t fresh k renewed) (sym same) anew) old) in
    let next : k + 1 ≡ length s.statements = omega (arith, some) in
    let all : take (k + 1) s.statements ≡ s.statements = take_all (k + 1) s.statements (omega (arith, next)) in
    subst (λ (ps : List Part). AreEach (IsWhole s) (blocked_from 1 s.statements) ps) (sym (put-over-front renewed olds (option_to_list own) few))
    (subst (λ (xs : List Statement). AreEach (IsWhole s) (blocked_from 1 xs) (put_over renewed olds ++ option_to_list own)) all
    (with-next s k own (put_over renewed olds) last front))

-- ## The whole

-- what the numbers and parts of a programme are
pub record IsWidened (s : TheSetting) (sizes costs : List ℕ) (kept : ℕ) (parts : List Part) : Type 0 where
  sizes_are : sizes ≡ map (shape_pages s.cat) s.shapes
  sizes_most : All (λ pages. pages ≤ MOST_INDEX_PAGES) sizes
  upkeep_is : costs ≡ map (weighted_upkeep s) s.shapes
  kept_is : kept ≡ weighted_kept s
  whole : AreEach (IsWhole s) (blocked_from 1 s.statements) parts

pub widened : (s : TheSetting) (old : Programme) (known : ℕ) (figures : Figures) (last : Statement) (sizes costs : List ℕ) (cost kept : ℕ) (renewed : List (Option Part)) (own : Option Part) (parts : List Part) → 1 ≤ length s.statements →
    IsProgrammeOf (all_but_last s (length old.sizes)) old → known ≡ length old.sizes → AreFigures (with_shapes s (drop known s.shapes)) figures → slice_get s.statements (length s.statements - 1) ≡ Some last →
    sizes ≡ old.sizes ++ figures.sizes → costs ≡ map (weighted_upkeep s) s.shapes → cost ≡ kept_upkeep s.cat last.work → kept ≡ old.kept + last.weight * cost →
    IsRenewedBy s (drop known s.shapes) (length s.statements - 1) renewed → IsPartAt s (length s.statements - 1) own → parts ≡ put_over renewed (old.parts ++ option_to_list own) →
    IsWidened s sizes costs kept parts
widened s old known figures last sizes costs cost kept renewed own parts some before same figured found sizes_is costs_is exact kept_is anew part parts_is =
    let n : ℕ = length old.sizes in
    let pages : IndexShape → ℕ = shape_pages s.cat in
    let each : Work → ℕ = kept_upkeep s.cat in
    let front : old.sizes ≡ map pages (take n s.shapes) = before.stands.sizes_are in
    let back : figures.sizes ≡ map pages (drop n s.shapes) = figured.sizes_are ∙ ap (λ (k : ℕ). map pages (drop k s.shapes)) same in
    let anew_too = subst (λ (k : ℕ). IsRenewedBy s (drop k s.shapes) (length s.statements - 1) renewed) same anew in
    record {
      sizes_are = sizes_is ∙ ap (λ (xs : List ℕ). xs ++ figures.sizes) front ∙ ap (λ (xs : List ℕ). map pages (take n s.shapes) ++ xs) back ∙ mapped-parts pages n s.shapes;
      sizes_most = subst (λ (xs : List ℕ). All (λ (size : ℕ). size ≤ MOST_INDEX_PAGES) xs) (sym sizes_is)
          (All-append (λ (size : ℕ). size ≤ MOST_INDEX_PAGES) old.sizes figures.sizes old.limits.pages_most figured.sizes_most);
      upkeep_is = costs_is;
      kept_is = kept_is ∙ ap (λ (k : ℕ). k + last.weight * cost) before.stands.kept_is
          ∙ ap (λ (k : ℕ). weighted_kept (all_but_last s n) + last.weight * k) exact ∙ last-share each s.statements last some found;
      whole = subst (λ (ps : List Part). AreEach (IsWhole s) (blocked_from 1 s.statements) ps) (sym parts_is)
          (parts-widened s n renewed own old.parts some (parts-before (all_but_last s n) old before) anew_too part);
    }

pub widened-limits : (s : TheSetting) (sizes costs : List ℕ) (kept : ℕ) (parts : List Part) → KeepsLimits s → IsWidened s sizes costs kept parts → ProgrammeLimits sizes costs kept parts
widened-limits s sizes costs kept parts limits is =
    stands-limits s sizes costs kept parts limits is.sizes_most is.sizes_are is.upkeep_is is.kept_is (each-map (IsWhole s) (IsPart s) (λ b part own. own.is) (blocked_from 1 s.statements) parts is.whole)

pub widened-is : (s : TheSetting) (programme : Programme) → IsWidened s programme.sizes programme.upkeep programme.kept programme.parts → IsProgrammeOf s programme
widened-is s programme is =
    record {
      stands = record {
        sizes_are = is.sizes_are;
        upkeep_is = is.upkeep_is;
        kept_is = is.kept_is;
        parts_are = each-map (IsWhole s) (IsPart s) (λ b part own. own.is) (blocked_from 1 s.statements) programme.parts is.whole;
      };
      kept = each-map (IsWhole s) (HasKept s.cat) (λ b part own. own.kept) (blocked_from 1 s.statements) programme.parts is.whole;
    }

-- ## Candidates

-- what one statement more proposes stands behind
record IsFront (cat : Catalogue) (statements : List Statement) : Type 0 where
  more : List Proposal
  is : fresh_proposals cat statements ≡ fresh_proposals cat (take (length statements - 1) statements) ++ more

front-is : (cat : Catalogue) (statements : List Statement) → 1 ≤ length statements → IsFront cat statements
front-is cat [] some = absurd (omega (arith, some))
front-is cat (x ∷ xs) some =
    let statements : List Statement = x ∷ xs in
    let k : ℕ = length statements - 1 in
    let place : k + 1 ≡ length statements = omega (arith, some) in
    let last : Statement = get_or statements k x in
    let found : slice_get statements k ≡ Some last = slice_get-get_or statements k x (omega (arith, place)) in
    let whole : take k statements ++ last ∷ [] ≡ statements = sym (take-found statements k last found) ∙ take_all (k + 1) statements (omega (arith, place)) in
    let grows = fresh-more cat (take k statements) last in
    record { more = grows.0; is = sym (ap (fresh_proposals cat) whole) ∙ grows.1 }

take-least : (n : ℕ) (ps : List Proposal) → take n ps ≡ take (min (length ps) n) ps
take-least n ps =
    elim (cases_lt n (length ps)) [
      | inl less ↦ let same : n ≡ min (length ps) n = omega (arith, less) in ap (λ (k : ℕ). take k ps) same
      | inr all ↦
          let same : min (length ps) n ≡ length ps = omega (arith, all) in
          take_all n ps all ∙ sym (take_all (min (length ps) n) ps (omega (arith, same)))
    ]

-- the candidates of before are the first of those of all
pub front-kept : (cat : Catalogue) (statements : List Statement) (shapes : List IndexShape) (left : ℕ) → 1 ≤ length statements → AreCandidates cat (take (length statements - 1) statements) shapes left →
    map proposal_of shapes ≡ take (length shapes) (fresh_proposals cat statements)
front-kept cat statements shapes left some are =
    let front = front-is cat statements some in
    let before : List Proposal = fresh_proposals cat (take (length statements - 1) statements) in
    let listed : map proposal_of shapes ≡ take (min (length before) MOST_CANDIDATES) before = are.proposed ∙ take-least MOST_CANDIDATES before in
    let count : length shapes ≡ min (length before) MOST_CANDIDATES = omega (arith, ap length are.proposed, length-map shapes proposal_of, length-take MOST_CANDIDATES before) in
    listed ∙ sym (ap (λ (k : ℕ). take k before) count)
    ∙ sym (take-append-le (length shapes) before front.more (omega (arith, count))) ∙ sym (ap (take (length shapes)) front.is)

-- so many stay as there is room for, among those of all
pub front-few : (cat : Catalogue) (statements : List Statement) (shapes : List IndexShape) (left : ℕ) → 1 ≤ length statements → AreCandidates cat (take (length statements - 1) statements) shapes left →
    length shapes ≤ min (length (fresh_proposals cat statements)) MOST_CANDIDATES
front-few cat statements shapes left some are =
    let front = front-is cat statements some in
    let before : List Proposal = fresh_proposals cat (take (length statements - 1) statements) in
    omega (arith, ap length are.proposed, length-map shapes proposal_of, length-take MOST_CANDIDATES before, ap length front.is, length-append before front.more)

-- those of before and those that come are all
pub candidates-widened : (cat : Catalogue) (statements : List Statement) (shapes fresh : List IndexShape) (before left : ℕ) → 1 ≤ length statements → AreCandidates cat (take (length statements - 1) statements) shapes before →
    map proposal_of fresh ≡ take (min (length (fresh_proposals cat statements)) MOST_CANDIDATES - length shapes) (drop (length shapes) (fresh_proposals cat statements)) → All IsNotUnique fresh →
    left ≡ length (fresh_proposals cat statements) - min (length (fresh_proposals cat statements)) MOST_CANDIDATES → AreCandidates cat statements (shapes ++ fresh) left
candidates-widened cat statements shapes fresh before left some are listed not_unique rest =
    let all : List Proposal = fresh_proposals cat statements in
    let n : ℕ = length shapes in
    let kept : ℕ = min (length all) MOST_CANDIDATES in
    let few : n ≤ kept = front-few cat statements shapes before some are in
    let sum : n + (kept - n) ≡ kept = omega (arith, few) in
    record {
      proposed =
          map-append proposal_of shapes fresh
          ∙ ap (λ (ps : List Proposal). ps ++ map proposal_of fresh) (front-kept cat statements shapes before some are)
          ∙ ap (λ (ps : List Proposal). take n all ++ ps) listed
          ∙ sym (take-add n (kept - n) all) ∙ ap (λ (k : ℕ). take k all) sum ∙ sym (take-least MOST_CANDIDATES all);
      not_unique = All-append IsNotUnique shapes fresh are.not_unique not_unique;
      rest = omega (arith, rest);
    }

-- the limits of a setting with its candidates
pub candidates-limits : (cat : Catalogue) (statements : List Statement) (some shapes : List IndexShape) (left : ℕ) → SettingLimits cat statements some → AreCandidates cat statements shapes left → SettingLimits cat statements shapes
candidates-limits cat statements some shapes left limits are =
    let few : length shapes ≤ MOST_CANDIDATES = omega (arith, ap length are.proposed, length-map shapes proposal_of, length-take MOST_CANDIDATES (fresh_proposals cat statements)) in
    limits-with cat statements some shapes limits few (shapes-named cat statements shapes MOST_CANDIDATES limits.statements_named are.proposed)
