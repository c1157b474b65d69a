-- The certificate of an answer keeps the limits of certificates.
use Rattle.std.proofs.Common.{◌≡◌, ◌∙◌, ℕ, zero, suc, ◌+◌, ◌*◌, ◌<◌, ◌≤◌, Bool, true, false, List, [], ◌∷◌, ◌++◌, length, map, sym, subst, refl, arith}
use Rattle.std.specs.Prelude.{All, sum_by}
use Rattle.std.specs.List.{AllByRecursion}
use Rattle.std.proofs.lemmas.List.{append_assoc, length-map}
use Rattle.std.proofs.lemmas.List.Sums.{sum_by-cons}
use Rattle.adv_base.specs.declared.limits.TheConstants.{MOST_CANDIDATES, MOST_STATEMENTS, MOST_SLOTS, MOST_RENT}
use Rattle.bip_model.specs.declared.answer.Answer.{Answer}
use Rattle.bip_model.specs.declared.grant.Grant.{Grant}
use Rattle.bip_model.specs.declared.multipliers.Multipliers.{Multipliers}
use Rattle.bip_model.specs.declared.part.Part.{Part}
use Rattle.bip_model.specs.declared.programme.Programme.{Programme}
use Rattle.bip_model.specs.declared.slot_part.SlotPart.{SlotPart}
use Rattle.bip_model.specs.Views.{Place, slot_places, part_places, places, AreMultipliers}
use Rattle.certificate.specs.Answers.{entries_of, sparse_set, numbers_from, answer_cert, rent_count, AnswerLimits, GrantsRise, PartsRise, InOrder}
use Rattle.certificate.specs.Limits.{Rise, EntriesFrom, SetLimits, NodeLimits, CertLimits, entry_count}
use Rattle.certificate.specs.declared.cert.Entry.{Entry}
use Rattle.certificate.specs.declared.cert.SparseSet.{SparseSet}
use Rattle.certificate.specs.inner.Writing.{grant_place}
use Rattle.certificate.proofs.WriteLaws.{set-count}

-- where a place stands among entries
abbrev pub number_of : Place → ℕ
number_of place = place.statement * 2048 + suc place.slot * 256 + place.candidate

pub record PlaceLimits (place : Place) : Type 0 where
  pub statement_least : 1 ≤ place.statement
  pub statement_most : place.statement ≤ MOST_STATEMENTS
  pub slot_most : place.slot < MOST_SLOTS
  pub candidate_least : 1 ≤ place.candidate
  pub candidate_most : place.candidate ≤ MOST_CANDIDATES

-- places, from a number on, each behind the one before
abbrev pub PlacesFrom : ℕ → List Place → Type 0
PlacesFrom least [] = Unit {0}
PlacesFrom least (place ∷ places) = PlaceLimits place × (least ≤ number_of place) × PlacesFrom (number_of place + 1) places

places-low : (m least : ℕ) (ps : List Place) → PlacesFrom m ps → least ≤ m → PlacesFrom least ps
places-low m least [] h low = tt
places-low m least (p ∷ ps) h low = (h.0, omega (arith, h.1), h.2)

entries-low : (m least : ℕ) (es : List Entry) → EntriesFrom m es → least ≤ m → EntriesFrom least es
entries-low m least [] h low = tt
entries-low m least (e ∷ es) h low = (h.0, omega (arith, h.1), h.2)

pub entries-from : (least : ℕ) (ps : List Place) (rents : List ℕ) → PlacesFrom least ps → AllByRecursion (λ (rent : ℕ). rent ≤ MOST_RENT) rents → EntriesFrom least (entries_of ps rents)
entries-from least [] rents h most = tt
entries-from least (p ∷ ps) [] h most = tt
entries-from least (p ∷ ps) (zero ∷ rents) h most =
    entries-low (number_of p + 1) least (entries_of ps rents) (entries-from (number_of p + 1) ps rents h.2 most.1) (omega (arith, h.1))
entries-from least (p ∷ ps) (suc more ∷ rents) h most = (
  record {
    statement_least = h.0.statement_least;
    statement_most = h.0.statement_most;
    slot_least = omega arith;
    slot_most = omega (arith, h.0.slot_most);
    candidate_least = h.0.candidate_least;
    candidate_most = h.0.candidate_most;
    lambda_least = omega arith;
    lambda_most = most.0;
  },
  h.1,
  entries-from (number_of p + 1) ps rents h.2 most.1,
)

-- the places of a slot's grants, in front of those behind the slot
grants-from : (q s k least : ℕ) (grants : List Grant) (rest : List Place) → 1 ≤ q → q ≤ MOST_STATEMENTS → s < MOST_SLOTS → k ≤ 257 → GrantsRise k grants → least ≤ q * 2048 + suc s * 256 + k →
    PlacesFrom (q * 2048 + suc s * 256 + 257) rest → PlacesFrom least (map (grant_place q s) grants ++ rest)
grants-from q s k least [] rest some most within few rise low h = places-low (q * 2048 + suc s * 256 + 257) least rest h (omega arith)
grants-from q s k least (grant ∷ grants) rest some most within few rise low h =
    let limits = grant.limits in (
      record {
        statement_least = some;
        statement_most = most;
        slot_most = within;
        candidate_least = limits.least;
        candidate_most = limits.most;
      },
      omega (arith, rise.0),
      grants-from q s (suc grant.candidate) (q * 2048 + suc s * 256 + grant.candidate + 1) grants rest some most within (omega (arith, limits.most)) rise.1 (omega arith) h,
    )

slots-from : (q s least : ℕ) (slots : List SlotPart) (rest : List Place) → 1 ≤ q → q ≤ MOST_STATEMENTS → s + length slots ≤ MOST_SLOTS → AllByRecursion (λ (slot : SlotPart). GrantsRise 1 slot.grants) slots → least ≤ q * 2048 + suc s * 256 + 1 →
    PlacesFrom (suc q * 2048 + 257) rest → PlacesFrom least (slot_places q s slots ++ rest)
slots-from q s least [] rest some most few rise low h = places-low (suc q * 2048 + 257) least rest h (omega arith)
slots-from q s least (slot ∷ slots) rest some most few rise low h =
    let behind = slots-from q (suc s) (q * 2048 + suc s * 256 + 257) slots rest some most (omega arith) rise.1 (omega arith) h in
    subst (λ (ps : List Place). PlacesFrom least ps) (sym (append_assoc (map (grant_place q s) slot.grants) (slot_places q (suc s) slots) rest))
    (grants-from q s 1 least slot.grants (slot_places q (suc s) slots ++ rest) some most (omega arith) (omega arith) rise.0 low behind)

pub parts-from : (k : ℕ) (parts : List Part) → PartsRise k parts → PlacesFrom (k * 2048 + 257) (part_places parts)
parts-from k [] h = tt
parts-from k (part ∷ parts) h =
    let limits = part.limits in
    slots-from part.statement 0 (k * 2048 + 257) part.slots (part_places parts) limits.statement_least limits.statement_most (omega (arith, limits.slots_most)) h.1 (omega (arith, h.0)) (parts-from (suc part.statement) parts h.2)

-- what all elements are
pub all-of : {X : Type 0} (P : X → Type 0) (xs : List X) → All P xs → AllByRecursion P xs
all-of P [] h = tt
all-of P (x ∷ xs) h = (h 0 x (omega arith), all-of P xs (λ k d below. h (suc k) d (omega arith)))

set-keeps : (programme : Programme) (set : Multipliers) → InOrder programme → AreMultipliers programme set → SetLimits (sparse_set programme set)
set-keeps programme set order h = record {
  price = h.page_most;
  entries = entries-low 2305 0 (entries_of (places programme) set.lambda)
      (entries-from 2305 (places programme) set.lambda (parts-from 1 programme.parts order) (all-of (λ (rent : ℕ). rent ≤ MOST_RENT) set.lambda h.rents_most)) (omega arith);
}

sets-keep : (programme : Programme) (sets : List Multipliers) → InOrder programme → AllByRecursion (AreMultipliers programme) sets → AllByRecursion SetLimits (map (sparse_set programme) sets)
sets-keep programme [] order h = tt
sets-keep programme (set ∷ sets) order h = (set-keeps programme set order h.0, sets-keep programme sets order h.1)

-- as many entries as rents that aren't 0
sets-count : (programme : Programme) (sets : List Multipliers) → AllByRecursion (AreMultipliers programme) sets → entry_count (map (sparse_set programme) sets) ≡ sum_by (λ (set : Multipliers). rent_count set.lambda) sets
sets-count programme [] h = refl
sets-count programme (set ∷ sets) h =
    sum_by-cons (λ (s : SparseSet). length s.entries) (sparse_set programme set) (map (sparse_set programme) sets)
    ∙ (λ i. sym (set-count programme set h.0) i + sets-count programme sets h.1 i)
    ∙ sym (sum_by-cons (λ (s : Multipliers). rent_count s.lambda) set sets)

-- numbers of flags rise
numbers-rise : (n : ℕ) (flags : List Bool) → n + length flags ≤ MOST_CANDIDATES + 1 → Rise n (numbers_from n flags)
numbers-rise n [] few = tt
numbers-rise n (true ∷ flags) few =
    let next : suc n ≡ n + 1 = omega arith in
    (omega arith, omega arith, subst (λ (k : ℕ). Rise k (numbers_from (suc n) flags)) next (numbers-rise (suc n) flags (omega arith)))
numbers-rise n (false ∷ flags) few = rise-low (suc n) n (numbers_from (suc n) flags) (numbers-rise (suc n) flags (omega arith)) (omega arith)
  where
    rise-low : (m l : ℕ) (ns : List ℕ) → Rise m ns → l ≤ m → Rise l ns
    rise-low m l [] h low = tt
    rise-low m l (k ∷ ks) h low = (omega (arith, h.0), h.1, h.2)

pub answer-keeps : (programme : Programme) (version budget : ℕ) (answer : Answer) → 1 ≤ version → version ≤ 2 → length answer.config.on ≡ MOST_CANDIDATES → InOrder programme → AnswerLimits programme budget answer → CertLimits (answer_cert programme version budget answer)
answer-keeps programme version budget answer some most flags order h =
    let sets = all-of (AreMultipliers programme) answer.sets h.multipliers in
    let count : length (map (sparse_set programme) answer.sets) ≡ length answer.sets = length-map answer.sets (sparse_set programme) in
    record {
      version_least = some;
      version_most = most;
      budget = h.budget_most;
      config = numbers-rise 1 answer.config.on (omega (arith, flags));
      cost = h.cost_small;
      bound = h.bound_small;
      few_sets = omega (arith, count, h.few_sets);
      sets = sets-keep programme answer.sets order sets;
      few_entries = omega (arith, sets-count programme answer.sets sets, h.few_rents);
      few_nodes = h.few_nodes;
      nodes = subst (λ (k : ℕ). AllByRecursion (NodeLimits k) answer.tree) (sym count) (all-of (NodeLimits (length answer.sets)) answer.tree h.nodes);
      tree = h.tree;
    }
