-- For a setting a certificate has one fault, and one answer.
use Rattle.std.proofs.Common.{◌≡◌, ◌≢◌, ◌∙◌, inl, inr, ℕ, suc, ◌-◌, ◌<◌, ℤ, List, [], ◌∷◌, ◌++◌, length, refl, sym, ap, subst, arith}
use Rattle.std.specs.Prelude.{All, Some, Result, Ok, Err, slice_get}
use Rattle.std.proofs.lemmas.Bool.{cases_order}
use Rattle.std.proofs.lemmas.Option.{get_or_from_slice_get, slice_get_within, same_Some}
use Rattle.std.proofs.lemmas.List.Elements.{All-head}
use Rattle.adv_base.specs.Configs.{config_pages}
use Rattle.adv_base.specs.Nodes as nodes
use Rattle.adv_base.specs.Settings.{TheSetting}
use Rattle.adv_base.proofs.Clashing.{same-first, same-second}
use Rattle.adv_base.proofs.Firsts.{one-first}
use Rattle.plan_model.proofs.Unique.{one-total, one-lagrangian}
use Rattle.plan_model.specs.Lagrangian.{TheMultipliers, IsLagrangian}
use Rattle.bip_model.specs.declared.answer.Node.{Node}
use Rattle.bip_model.specs.declared.answer.Node.TheVariants.{Branch, Bounded, Overfull}
use Rattle.bip_model.specs.Trees.{set_at}
use Rattle.certificate.specs.declared.cert.Cert.{Cert}
use Rattle.certificate.specs.declared.cert.Entry.{Entry}
use Rattle.certificate.specs.declared.cert.SparseSet.{SparseSet}
use Rattle.certificate.specs.Limits.{CertLimits, EntriesFrom}
use Rattle.gap_checker.specs.declared.fault.Checked.{Checked}
use Rattle.gap_checker.specs.declared.fault.CheckFault.{CheckFault}
use Rattle.gap_checker.specs.declared.fault.CheckFault.TheVariants as faults
use Rattle.gap_checker.specs.Faults.{IsChecked, IsFault, NamesPair, IsNodeAt, IsBadConfig, IsOverBudget, IsClashing, IsOtherCost, IsBadPair, IsBadBranch, IsLeafBelow, IsNotOverfull}
use Rattle.gap_checker.specs.Laws.{IsAnswer}
use Rattle.gap_checker.specs.Views.{config_of, sets_of, rule_of}
use Rattle.gap_checker.specs.Visits.{Visit, IsRight, IsRightAt}
use Rattle.gap_checker.proofs.Excluding.{excluded, sets-rise, bad-number, bad-pair, not-over, not-clashing, not-other, leaf-wrong, full-wrong}

-- ## Parts before the tree

over-same : (setting : TheSetting) (cert : Cert) (size budget other more : ℕ) → IsOverBudget setting cert size budget → IsOverBudget setting cert other more → faults.OverBudget size budget ≡ faults.OverBudget other more
over-same setting cert size budget other more p q =
    let a : size ≡ other = p.size_is ∙ sym q.size_is in
    let b : budget ≡ more = p.budget_is ∙ sym q.budget_is in
    cc

clash-same : (setting : TheSetting) (cert : Cert) (first second other more : ℕ) → IsClashing setting cert first second → IsClashing setting cert other more → faults.Clash first second ≡ faults.Clash other more
clash-same setting cert first second other more p q =
    let a : first ≡ other = same-first setting.shapes (config_of cert) first second other more p.clash q.clash in
    let b : second ≡ more = same-second setting.shapes (config_of cert) first second other more p.clash q.clash in
    cc

other-same : (setting : TheSetting) (cert : Cert) (claimed computed other more : ℕ) → IsOtherCost setting cert claimed computed → IsOtherCost setting cert other more → faults.CostDiffers claimed computed ≡ faults.CostDiffers other more
other-same setting cert claimed computed other more p q =
    let a : claimed ≡ other = p.claimed_is ∙ sym q.claimed_is in
    let b : computed ≡ more = one-total setting.cat setting.shapes (config_of cert) setting.statements computed more p.computed_is q.computed_is in
    cc

same-number : (setting : TheSetting) (cert : Cert) (m n : ℕ) → IsBadConfig setting cert m → IsBadConfig setting cert n → m ≡ n
same-number setting cert m n p q =
    let Past : ℕ → Type 0 = λ k. (number : ℕ) × (slice_get cert.config k ≡ Some number) × (length setting.shapes < number) in
    let place : p.place ≡ q.place =
    one-first Past p.place q.place (m, p.found, p.past) (n, q.found, q.past)
    (λ k less past. omega (arith, p.before k past.0 less past.1, past.2)) (λ k less past. omega (arith, q.before k past.0 less past.1, past.2)) in
    same_Some m n (sym p.found ∙ ap (slice_get cert.config) place ∙ q.found)

entry-named : (setting : TheSetting) (set : SparseSet) (k : ℕ) (entry : Entry) → slice_get set.entries k ≡ Some entry → All (NamesPair setting) set.entries → NamesPair setting entry
entry-named setting set k entry found all =
    subst (NamesPair setting) (get_or_from_slice_get set.entries k entry entry found) (all k entry (slice_get_within set.entries k entry found))

-- two first entries of one set that are wrong have one place
same-place : (setting : TheSetting) (cert : Cert) (m a n b : ℕ) (p : IsBadPair setting cert m a) (q : IsBadPair setting cert n b) → p.set ≡ q.set → a ≡ b
same-place setting cert m a n b p q set =
    let Bad : SparseSet → ℕ → Type 0 = λ set k. (entry : Entry) × (slice_get set.entries k ≡ Some entry) × (NamesPair setting entry → ⊥) in
    let there : Bad p.set (b - 1) = subst (λ (s : SparseSet). Bad s (b - 1)) (sym set) (q.entry, q.entry_found, q.none) in
    let before : (k : ℕ) → k < b - 1 → Bad p.set k → ⊥ =
    subst (λ (s : SparseSet). (k : ℕ) → k < b - 1 → Bad s k → ⊥) (sym set) (λ k less bad. bad.2 (q.entries_before k bad.0 less bad.1)) in
    let same : a - 1 ≡ b - 1 = one-first (Bad p.set) (a - 1) (b - 1) (p.entry, p.entry_found, p.none) there (λ k less bad. bad.2 (p.entries_before k bad.0 less bad.1)) before in
    omega (arith, same, p.some_entry, q.some_entry)

same-pair : (setting : TheSetting) (cert : Cert) (m a n b : ℕ) → IsBadPair setting cert m a → IsBadPair setting cert n b → faults.BadPair m a ≡ faults.BadPair n b
same-pair setting cert m a n b p q =
    let Bad : ℕ → Type 0 = λ j. (set : SparseSet) × (slice_get cert.sets j ≡ Some set) × (All (NamesPair setting) set.entries → ⊥) in
    let same : m - 1 ≡ n - 1 =
    one-first Bad (m - 1) (n - 1)
    (p.set, p.set_found, λ all. p.none (entry-named setting p.set (a - 1) p.entry p.entry_found all)) (q.set, q.set_found, λ all. q.none (entry-named setting q.set (b - 1) q.entry q.entry_found all))
    (λ j less bad. bad.2 (p.sets_before j bad.0 less bad.1)) (λ j less bad. bad.2 (q.sets_before j bad.0 less bad.1)) in
    let number : m ≡ n = omega (arith, same, p.some_set, q.some_set) in
    let set : p.set ≡ q.set = same_Some p.set q.set (sym p.set_found ∙ ap (slice_get cert.sets) same ∙ q.set_found) in
    let place : a ≡ b = same-place setting cert m a n b p q set in
    cc

-- ## Nodes

same-head : {X : Type 0} (x y : X) (xs ys : List X) → x ∷ xs ≡ y ∷ ys → x ≡ y
same-head x y xs ys e = cc

same-tail : {X : Type 0} (x y : X) (xs ys : List X) → x ∷ xs ≡ y ∷ ys → xs ≡ ys
same-tail x y xs ys e = cc

tail-all : {X : Type 0} (P : X → Type 0) (x : X) (xs : List X) → All P (x ∷ xs) → All P xs
tail-all P x xs all = λ k d within. all (suc k) d (omega (arith, within))

-- the first of a list that isn't P is one, and stands at one place
first-one : {X : Type 0} (P : X → Type 0) (before other : List X) (x y : X) (rest more : List X) → before ++ x ∷ rest ≡ other ++ y ∷ more → All P before → All P other → (P x → ⊥) → (P y → ⊥) → (before ≡ other) × (x ≡ y)
first-one P [] [] x y rest more e p q n m = (refl, same-head x y rest more e)
first-one P [] (o ∷ other) x y rest more e p q n m = absurd (n (subst P (sym (same-head x o rest (other ++ y ∷ more) e)) (All-head P o other q)))
first-one P (b ∷ before) [] x y rest more e p q n m = absurd (m (subst P (same-head b y (before ++ x ∷ rest) more e) (All-head P b before p)))
first-one P (b ∷ before) (o ∷ other) x y rest more e p q n m =
    let same = first-one P before other x y rest more (same-tail b o (before ++ x ∷ rest) (other ++ y ∷ more) e) (tail-all P b before p) (tail-all P o other q) n m in
    let head : b ≡ o = same-head b o (before ++ x ∷ rest) (other ++ y ∷ more) e in
    let tail : before ≡ other = same.0 in
    (cc, same.1)

-- two first nodes that aren't right are one, with one number
pub record IsOneNode (m n : ℕ) (at other : nodes.Node) (node another : Node) : Type 0 where
  pub number : m ≡ n
  pub place : at ≡ other
  pub same : node ≡ another

one-node : (setting : TheSetting) (root : nodes.Node) (cert : Cert) (m n : ℕ) (at other : nodes.Node) (node another : Node) → IsNodeAt setting root cert m at node → IsNodeAt setting root cert n other another →
    (IsRightAt (rule_of cert.version) setting cert.budget cert.bound (sets_of cert) at node → ⊥) → (IsRightAt (rule_of cert.version) setting cert.budget cert.bound (sets_of cert) other another → ⊥) → IsOneNode m n at other node another
one-node setting root cert m n at other node another p q wrong bad =
    let x : Visit = record { at = at; node = node } in
    let y : Visit = record { at = other; node = another } in
    let one = first-one (IsRight (rule_of cert.version) setting cert.budget cert.bound (sets_of cert)) p.before q.before x y p.rest q.rest (sym p.parts ∙ q.parts) p.right q.right wrong bad in
    record {
      number = p.number_is ∙ ap (λ (xs : List Visit). suc (length xs)) one.0 ∙ sym q.number_is;
      place = ap (λ (v : Visit). v.at) one.1;
      same = ap (λ (v : Visit). v.node) one.1;
    }

same-branch : (setting : TheSetting) (root : nodes.Node) (cert : Cert) (m n : ℕ) → IsBadBranch setting root cert m → IsBadBranch setting root cert n → faults.BadBranch m ≡ faults.BadBranch n
same-branch setting root cert m n p q =
    ap faults.BadBranch (one-node setting root cert m n p.at q.at (Branch p.candidate) (Branch q.candidate) p.node_is q.node_is p.wrong q.wrong).number

same-leaf : (setting : TheSetting) (root : nodes.Node) (cert : Cert) (m n : ℕ) (v w c d : ℤ) → IsLeafBelow setting root cert m v c → IsLeafBelow setting root cert n w d → faults.LeafBelow m v c ≡ faults.LeafBelow n w d
same-leaf setting root cert m n v w c d p q =
    let one = one-node setting root cert m n p.at q.at (Bounded p.set) (Bounded q.set) p.node_is q.node_is (leaf-wrong setting root cert m v c p) (leaf-wrong setting root cert n w d q) in
    let number : m ≡ n = one.number in
    let set : p.set ≡ q.set = let same = one.same in cc in
    let multipliers : p.multipliers ≡ q.multipliers = same_Some p.multipliers q.multipliers (sym p.found ∙ ap (set_at (sets_of cert)) set ∙ q.found) in
    let moved : IsLagrangian setting cert.budget p.at p.multipliers w = subst (λ (m : TheMultipliers). IsLagrangian setting cert.budget p.at m w) (sym multipliers) (subst (λ (at : nodes.Node). IsLagrangian setting cert.budget at q.multipliers w) (sym one.place) q.value_is) in
    let value : v ≡ w = one-lagrangian setting cert.budget p.at p.multipliers v w p.value_is moved in
    let claim : c ≡ d = p.claimed_is ∙ sym q.claimed_is in
    cc

same-full : (setting : TheSetting) (root : nodes.Node) (cert : Cert) (m n s t : ℕ) → IsNotOverfull setting root cert m s → IsNotOverfull setting root cert n t → faults.NotInfeasible m s ≡ faults.NotInfeasible n t
same-full setting root cert m n s t p q =
    let one = one-node setting root cert m n p.at q.at Overfull Overfull p.node_is q.node_is (full-wrong setting root cert m s p) (full-wrong setting root cert n t q) in
    let number : m ≡ n = one.number in
    let size : s ≡ t = p.size_is ∙ ap (λ (at : nodes.Node). config_pages setting.cat setting.shapes at.inside) one.place ∙ sym q.size_is in
    cc

-- nodes of two kinds aren't one
no-branch-leaf : (setting : TheSetting) (root : nodes.Node) (cert : Cert) (m n : ℕ) (v c : ℤ) → IsBadBranch setting root cert m → IsLeafBelow setting root cert n v c → ⊥
no-branch-leaf setting root cert m n v c p q =
    let same = (one-node setting root cert m n p.at q.at (Branch p.candidate) (Bounded q.set) p.node_is q.node_is p.wrong (leaf-wrong setting root cert n v c q)).same in cc

no-branch-full : (setting : TheSetting) (root : nodes.Node) (cert : Cert) (m n s : ℕ) → IsBadBranch setting root cert m → IsNotOverfull setting root cert n s → ⊥
no-branch-full setting root cert m n s p q =
    let same = (one-node setting root cert m n p.at q.at (Branch p.candidate) Overfull p.node_is q.node_is p.wrong (full-wrong setting root cert n s q)).same in cc

no-leaf-full : (setting : TheSetting) (root : nodes.Node) (cert : Cert) (m n s : ℕ) (v c : ℤ) → IsLeafBelow setting root cert m v c → IsNotOverfull setting root cert n s → ⊥
no-leaf-full setting root cert m n s v c p q =
    let same = (one-node setting root cert m n p.at q.at (Bounded p.set) Overfull p.node_is q.node_is (leaf-wrong setting root cert m v c p) (full-wrong setting root cert n s q)).same in cc

-- ## Two faults

abbrev pub Rising : Cert → Type 0
Rising cert = (j : ℕ) (set : SparseSet) → slice_get cert.sets j ≡ Some set → EntriesFrom 0 set.entries

-- the order of faults
abbrev rank : CheckFault → ℕ
rank faults.Memory = 0
rank (faults.BadConfig k) = 1
rank (faults.OverBudget k l) = 2
rank (faults.Clash k l) = 3
rank (faults.CostDiffers k l) = 4
rank (faults.BadPair k l) = 5
rank (faults.BadBranch k) = 6
rank (faults.LeafBelow k l m) = 7
rank (faults.NotInfeasible k l) = 8

-- no two faults of different ranks stand together
apart : (setting : TheSetting) (root : nodes.Node) (cert : Cert) (one two : CheckFault) → CertLimits cert → Rising cert → one ≢ faults.Memory → rank one < rank two → IsFault setting root cert one → IsFault setting root cert two → ⊥
apart setting root cert faults.Memory two limits rise some less p q = some refl
apart setting root cert (faults.BadConfig k) (faults.OverBudget n o) limits rise some less p q = bad-number setting cert k limits q.members p
apart setting root cert (faults.BadConfig k) (faults.Clash n o) limits rise some less p q = bad-number setting cert k limits q.members p
apart setting root cert (faults.BadConfig k) (faults.CostDiffers n o) limits rise some less p q = bad-number setting cert k limits q.members p
apart setting root cert (faults.BadConfig k) (faults.BadPair n o) limits rise some less p q = bad-number setting cert k limits q.members p
apart setting root cert (faults.BadConfig k) (faults.BadBranch n) limits rise some less p q = bad-number setting cert k limits q.sound.members p
apart setting root cert (faults.BadConfig k) (faults.LeafBelow n o r) limits rise some less p q = bad-number setting cert k limits q.sound.members p
apart setting root cert (faults.BadConfig k) (faults.NotInfeasible n o) limits rise some less p q = bad-number setting cert k limits q.sound.members p
apart setting root cert (faults.BadConfig k) two limits rise some less p q = omega (arith, less)
apart setting root cert (faults.OverBudget k l) (faults.Clash n o) limits rise some less p q = not-over setting cert k l q.pages p
apart setting root cert (faults.OverBudget k l) (faults.CostDiffers n o) limits rise some less p q = not-over setting cert k l q.fits.pages p
apart setting root cert (faults.OverBudget k l) (faults.BadPair n o) limits rise some less p q = not-over setting cert k l q.fits.pages p
apart setting root cert (faults.OverBudget k l) (faults.BadBranch n) limits rise some less p q = not-over setting cert k l q.sound.fits.pages p
apart setting root cert (faults.OverBudget k l) (faults.LeafBelow n o r) limits rise some less p q = not-over setting cert k l q.sound.fits.pages p
apart setting root cert (faults.OverBudget k l) (faults.NotInfeasible n o) limits rise some less p q = not-over setting cert k l q.sound.fits.pages p
apart setting root cert (faults.OverBudget k l) two limits rise some less p q = omega (arith, less)
apart setting root cert (faults.Clash k l) (faults.CostDiffers n o) limits rise some less p q = not-clashing setting cert k l q.fits p
apart setting root cert (faults.Clash k l) (faults.BadPair n o) limits rise some less p q = not-clashing setting cert k l q.fits p
apart setting root cert (faults.Clash k l) (faults.BadBranch n) limits rise some less p q = not-clashing setting cert k l q.sound.fits p
apart setting root cert (faults.Clash k l) (faults.LeafBelow n o r) limits rise some less p q = not-clashing setting cert k l q.sound.fits p
apart setting root cert (faults.Clash k l) (faults.NotInfeasible n o) limits rise some less p q = not-clashing setting cert k l q.sound.fits p
apart setting root cert (faults.Clash k l) two limits rise some less p q = omega (arith, less)
apart setting root cert (faults.CostDiffers k l) (faults.BadPair n o) limits rise some less p q = not-other setting cert k l q.cost_is p
apart setting root cert (faults.CostDiffers k l) (faults.BadBranch n) limits rise some less p q = not-other setting cert k l q.sound.cost_is p
apart setting root cert (faults.CostDiffers k l) (faults.LeafBelow n o r) limits rise some less p q = not-other setting cert k l q.sound.cost_is p
apart setting root cert (faults.CostDiffers k l) (faults.NotInfeasible n o) limits rise some less p q = not-other setting cert k l q.sound.cost_is p
apart setting root cert (faults.CostDiffers k l) two limits rise some less p q = omega (arith, less)
apart setting root cert (faults.BadPair k l) (faults.BadBranch n) limits rise some less p q = bad-pair setting cert k l rise q.sound.rents p
apart setting root cert (faults.BadPair k l) (faults.LeafBelow n o r) limits rise some less p q = bad-pair setting cert k l rise q.sound.rents p
apart setting root cert (faults.BadPair k l) (faults.NotInfeasible n o) limits rise some less p q = bad-pair setting cert k l rise q.sound.rents p
apart setting root cert (faults.BadPair k l) two limits rise some less p q = omega (arith, less)
apart setting root cert (faults.BadBranch k) (faults.LeafBelow n o r) limits rise some less p q = no-branch-leaf setting root cert k n o r p q
apart setting root cert (faults.BadBranch k) (faults.NotInfeasible n o) limits rise some less p q = no-branch-full setting root cert k n o p q
apart setting root cert (faults.BadBranch k) two limits rise some less p q = omega (arith, less)
apart setting root cert (faults.LeafBelow k l m) (faults.NotInfeasible n o) limits rise some less p q = no-leaf-full setting root cert k n o l m p q
apart setting root cert (faults.LeafBelow k l m) two limits rise some less p q = omega (arith, less)
apart setting root cert (faults.NotInfeasible k l) faults.Memory limits rise some less p q = omega (arith, less)
apart setting root cert (faults.NotInfeasible k l) two limits rise some less p q = omega (arith, less)

-- two of one rank are the same
alike : (setting : TheSetting) (root : nodes.Node) (cert : Cert) (one two : CheckFault) → one ≢ faults.Memory → rank one ≡ rank two → IsFault setting root cert one → IsFault setting root cert two → one ≡ two
alike setting root cert faults.Memory two some same p q = absurd (some refl)
alike setting root cert (faults.BadConfig k) (faults.BadConfig n) some same p q = ap faults.BadConfig (same-number setting cert k n p q)
alike setting root cert (faults.BadConfig k) two some same p q = absurd (omega (arith, same))
alike setting root cert (faults.OverBudget k l) (faults.OverBudget n o) some same p q = over-same setting cert k l n o p q
alike setting root cert (faults.OverBudget k l) two some same p q = absurd (omega (arith, same))
alike setting root cert (faults.Clash k l) (faults.Clash n o) some same p q = clash-same setting cert k l n o p q
alike setting root cert (faults.Clash k l) two some same p q = absurd (omega (arith, same))
alike setting root cert (faults.CostDiffers k l) (faults.CostDiffers n o) some same p q = other-same setting cert k l n o p q
alike setting root cert (faults.CostDiffers k l) two some same p q = absurd (omega (arith, same))
alike setting root cert (faults.BadPair k l) (faults.BadPair n o) some same p q = same-pair setting cert k l n o p q
alike setting root cert (faults.BadPair k l) two some same p q = absurd (omega (arith, same))
alike setting root cert (faults.BadBranch k) (faults.BadBranch n) some same p q = same-branch setting root cert k n p q
alike setting root cert (faults.BadBranch k) two some same p q = absurd (omega (arith, same))
alike setting root cert (faults.LeafBelow k l m) (faults.LeafBelow n o r) some same p q = same-leaf setting root cert k n l o m r p q
alike setting root cert (faults.LeafBelow k l m) two some same p q = absurd (omega (arith, same))
alike setting root cert (faults.NotInfeasible k l) (faults.NotInfeasible n o) some same p q = same-full setting root cert k n l o p q
alike setting root cert (faults.NotInfeasible k l) two some same p q = absurd (omega (arith, same))

-- two faults of a certificate are the same
pub one-fault : (setting : TheSetting) (root : nodes.Node) (cert : Cert) (one two : CheckFault) → CertLimits cert → Rising cert → one ≢ faults.Memory → two ≢ faults.Memory → IsFault setting root cert one → IsFault setting root cert two → one ≡ two
one-fault setting root cert one two limits rise some other p q =
    elim (cases_order (rank one) (rank two)) [
      | inl same ↦ alike setting root cert one two some same p q
      | inr differ ↦
          elim differ [
            | inl less ↦ absurd (apart setting root cert one two limits rise some less p q)
            | inr more ↦ absurd (apart setting root cert two one limits rise other more q p)
          ]
    ]

-- ## Two answers

same-checked : (setting : TheSetting) (root : nodes.Node) (cert : Cert) (checked other : Checked) → IsChecked setting root cert checked → IsChecked setting root cert other → checked ≡ other
same-checked setting root cert checked other p q =
    let budget = p.budget_is ∙ sym q.budget_is in
    let cost = p.cost_is ∙ sym q.cost_is in
    let bound = p.bound_is ∙ sym q.bound_is in
    λ i. record { budget = budget i; cost = cost i; bound = bound i }

-- two answers to a certificate are the same
pub one-answer : (setting : TheSetting) (root : nodes.Node) (cert : Cert) (answer other : Result Checked CheckFault) → CertLimits cert → IsAnswer setting root cert answer → IsAnswer setting root cert other → answer ≡ other
one-answer setting root cert (Ok checked) (Ok other) limits p q = ap Ok (same-checked setting root cert checked other p q)
one-answer setting root cert (Ok checked) (Err fault) limits p q = absurd (q.0 (excluded setting root cert fault limits (sets-rise cert.sets limits.sets) p.proof q.1))
one-answer setting root cert (Err fault) (Ok checked) limits p q = absurd (p.0 (excluded setting root cert fault limits (sets-rise cert.sets limits.sets) q.proof p.1))
one-answer setting root cert (Err fault) (Err other) limits p q = ap Err (one-fault setting root cert fault other limits (sets-rise cert.sets limits.sets) p.0 q.0 p.1 q.1)
