-- The certificate of the best answer of a search is a proof.
use Rattle.std.proofs.Common.{◌≡◌, ◌∙◌, inl, inr, ℕ, zero, suc, ◌+◌, ◌-◌, ◌≤◌, Bool, true, false, List, [], ◌∷◌, ◌++◌, length, map, replicate, refl, sym, ap, subst, arith}
use Rattle.std.specs.Prelude.{All, slice_set, fold, if◌then◌else◌, ◌==◌, ◌&&◌}
use Rattle.std.specs.List.{AllByRecursion}
use Rattle.std.proofs.lemmas.Bool.{cases_Bool, eqb-true, eq-eqb, false≢true, and_parts}
use Rattle.std.proofs.lemmas.List.{append_assoc}
use Rattle.std.proofs.lemmas.List.Elements.{All-head, All-tail}
use Rattle.adv_base.specs.declared.limits.TheConstants.{MOST_CANDIDATES, MOST_RENT}
use Rattle.adv_base.specs.declared.setting.Config.{Config}
use Rattle.adv_base.specs.Nodes as nodes
use Rattle.adv_base.specs.Settings.{TheSetting}
use Rattle.plan_model.specs.Lagrangian.{TheMultipliers}
use Rattle.bip_model.specs.declared.answer.Answer.{Answer}
use Rattle.bip_model.specs.declared.multipliers.Multipliers.{Multipliers}
use Rattle.bip_model.specs.declared.programme.Programme.{Programme}
use Rattle.bip_model.specs.Best.{IsBest}
use Rattle.bip_model.specs.Proves.{Proves}
use Rattle.bip_model.specs.StandsFor.{StandsFor}
use Rattle.bip_model.specs.Trees.{Rule, with_candidate}
use Rattle.bip_model.specs.Uses.{uses, multipliers_in, AreMultipliersIn}
use Rattle.bip_model.specs.Views.{Place, places, is_place, rent_at}
use Rattle.bip_model.proofs.Using.{places-used}
use Rattle.certificate.specs.Answers.{entries_of, sparse_set, numbers_from, answer_cert, version_of}
use Rattle.certificate.proofs.InOrder.{standing-in-order}
use Rattle.certificate.proofs.Places.{number_of, PlacesFrom, entries-from, parts-from, all-of}
use Rattle.gap_checker.specs.Views.{config_with, is_entry_of, rent_in, multipliers_of, rule_of, IsProof}
use Rattle.gap_checker.proofs.Entries.{use_place, rent-behind}
use Rattle.gap_checker.proofs.Overfull.{in-version}

-- ## The configuration

set-behind : (done rest : List Bool) → slice_set (done ++ false ∷ rest) (length done) true ≡ done ++ true ∷ rest
set-behind [] rest = refl
set-behind (flag ∷ done) rest = ap (λ (flags : List Bool). flag ∷ flags) (set-behind done rest)

abbrev with_flags : List Bool → Config
with_flags flags = record { on = flags }

one-longer : (done : List Bool) (flag : Bool) → length (done ++ flag ∷ []) ≡ suc (length done)
one-longer [] flag = refl
one-longer (first ∷ done) flag = ap suc (one-longer done flag)

-- the numbers of flags, from one on, added to what is done, give the flags behind it
numbers-give : (done flags : List Bool) (n : ℕ) → n ≡ suc (length done) → fold with_candidate (with_flags (done ++ replicate (length flags) false)) (numbers_from n flags) ≡ with_flags (done ++ flags)
numbers-give done [] n next = refl
numbers-give done (true ∷ flags) n next =
    let place : n - 1 ≡ length done = omega (arith, next) in
    let left : List Bool = replicate (length flags) false in
    let set : slice_set (done ++ false ∷ left) (n - 1) true ≡ (done ++ true ∷ []) ++ left =
    ap (λ (k : ℕ). slice_set (done ++ false ∷ left) k true) place ∙ set-behind done left ∙ sym (append_assoc done (true ∷ []) left) in
    ap (λ (on : List Bool). fold with_candidate (with_flags on) (numbers_from (suc n) flags)) set
    ∙ numbers-give (done ++ true ∷ []) flags (suc n) (let longer = one-longer done true in omega (arith, next, longer))
    ∙ ap with_flags (append_assoc done (true ∷ []) flags)
numbers-give done (false ∷ flags) n next =
    let left : List Bool = replicate (length flags) false in
    ap (λ (on : List Bool). fold with_candidate (with_flags on) (numbers_from (suc n) flags)) (sym (append_assoc done (false ∷ []) left))
    ∙ numbers-give (done ++ false ∷ []) flags (suc n) (let longer = one-longer done false in omega (arith, next, longer))
    ∙ ap with_flags (append_assoc done (false ∷ []) flags)

pub config-same : (config : Config) → length config.on ≡ MOST_CANDIDATES → config_with (numbers_from 1 config.on) ≡ config
config-same config count =
    ap (λ (k : ℕ). fold with_candidate (with_flags (replicate k false)) (numbers_from 1 config.on)) (sym count) ∙ numbers-give [] config.on 1 refl

-- ## The rents

place-of : (place : Place) (q s a : ℕ) → is_place place q s a ≡ true → number_of place ≡ use_place q s a
place-of place q s a is =
    let outer = and_parts (place.statement == q) ((place.slot == s) && (place.candidate == a)) is in
    let inner = and_parts (place.slot == s) (place.candidate == a) outer.1 in
    let statement = eqb-true place.statement q outer.0 in
    let slot = eqb-true place.slot s inner.0 in
    let candidate = eqb-true place.candidate a inner.1 in
    omega (arith, statement, slot, candidate)

suc-same : (m n : ℕ) → (suc m == suc n) ≡ (m == n)
suc-same m n =
    elim (cases_Bool (m == n)) [
      | inl same ↦ let e = eqb-true m n same in eq-eqb (suc m) (suc n) (ap suc e) ∙ sym same
      | inr other ↦
          elim (cases_Bool (suc m == suc n)) [
            | inl longer ↦ let e = eqb-true (suc m) (suc n) longer in let shorter : m ≡ n = omega (arith, e) in absurd (false≢true (sym other ∙ eq-eqb m n shorter))
            | inr unlike ↦ unlike ∙ sym other
          ]
    ]

-- an entry names the use that its place is
entry-place : (place : Place) (lambda q s a : ℕ) → is_entry_of (record { statement = place.statement; slot = suc place.slot; candidate = place.candidate; lambda = lambda }) q s a ≡ is_place place q s a
entry-place place lambda q s a = ap (λ (b : Bool). (place.statement == q) && (b && (place.candidate == a))) (suc-same place.slot s)

-- the entries of places in order give each use the rent of its place
entries-rent : (least : ℕ) (ps : List Place) (rents : List ℕ) (q s a : ℕ) → PlacesFrom least ps → AllByRecursion (λ (rent : ℕ). rent ≤ MOST_RENT) rents → rent_in (entries_of ps rents) q s a ≡ rent_at ps rents q s a
entries-rent least [] rents q s a from most = refl
entries-rent least (place ∷ ps) [] q s a from most = refl
entries-rent least (place ∷ ps) (zero ∷ rents) q s a from most =
    elim (cases_Bool (is_place place q s a)) [
      | inl here ↦
          rw here
          (rent-behind (entries_of ps rents) (number_of place + 1) q s a (entries-from (number_of place + 1) ps rents from.2 most.1) (let same = place-of place q s a here in omega (arith, same)))
      | inr other ↦ rw other (entries-rent (number_of place + 1) ps rents q s a from.2 most.1)
    ]
entries-rent least (place ∷ ps) (suc more ∷ rents) q s a from most =
    let rest = entries-rent (number_of place + 1) ps rents q s a from.2 most.1 in
    let named = entry-place place (suc more) q s a in
    ap (λ (b : Bool). if b then suc more else rent_in (entries_of ps rents) q s a) named
    ∙ ap (λ (n : ℕ). if is_place place q s a then suc more else n) rest

set-same : (setting : TheSetting) (programme : Programme) (set : Multipliers) → StandsFor setting programme → All (λ (rent : ℕ). rent ≤ MOST_RENT) set.lambda →
    multipliers_of (sparse_set programme set) ≡ multipliers_in setting set
set-same setting programme set stands most =
    λ i. record { rent = λ q s a. same q s a i; page = set.mu }
  where
    same : (q s a : ℕ) → rent_in (entries_of (places programme) set.lambda) q s a ≡ rent_at (uses setting) set.lambda q s a
    same q s a =
        entries-rent 2305 (places programme) set.lambda q s a (parts-from 1 programme.parts (standing-in-order setting programme stands)) (all-of (λ (rent : ℕ). rent ≤ MOST_RENT) set.lambda most)
        ∙ ap (λ (list : List Place). rent_at list set.lambda q s a) (places-used setting programme stands)

sets-same : (setting : TheSetting) (programme : Programme) (sets : List Multipliers) → StandsFor setting programme → All (AreMultipliersIn setting) sets →
    map multipliers_of (map (sparse_set programme) sets) ≡ map (multipliers_in setting) sets
sets-same setting programme [] stands are = refl
sets-same setting programme (set ∷ sets) stands are =
    let first = set-same setting programme set stands (All-head (AreMultipliersIn setting) set sets are).rents_most in
    let rest = sets-same setting programme sets stands (All-tail (AreMultipliersIn setting) set sets are) in
    λ i. first i ∷ rest i

-- ## The law

pub best-proved : (setting : TheSetting) (programme : Programme) (budget node_budget : ℕ) (root : nodes.Node) (answer : Answer) → StandsFor setting programme → length answer.config.on ≡ MOST_CANDIDATES →
    IsBest setting budget node_budget root answer → IsProof setting root (answer_cert programme (version_of setting.shapes) budget answer)
best-proved setting programme budget node_budget root answer stands count best =
    let rule : Rule = rule_of (version_of setting.shapes) in
    subst (λ (config : Config). Proves rule setting budget root config answer.cost answer.bound (map multipliers_of (map (sparse_set programme) answer.sets)) answer.tree)
    (sym (config-same answer.config count))
    (subst (λ (sets : List TheMultipliers). Proves rule setting budget root answer.config answer.cost answer.bound sets answer.tree)
    (sym (sets-same setting programme answer.sets stands best.limits.each))
    (in-version setting budget root answer.config answer.cost answer.bound (map (multipliers_in setting) answer.sets) answer.tree best.proves))
