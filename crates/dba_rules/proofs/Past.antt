-- What rules leave free: all states past the candidates.
use Rattle.std.proofs.Common.{◌≡◌, ℕ, zero, suc, ◌+◌, ◌<◌, ◌≤◌, Bool, true, false, if◌then◌else◌, ◌==◌, List, [], ◌∷◌, length, replicate, Option, Some, None, Result, Ok, Err, slice_get, get_or, inl, inr, refl, ap, subst, ◌∙◌, arith}
use Rattle.std.specs.List.{list_any, slice_split}
use Rattle.std.specs.Option.{option_map_or}
use Rattle.std.proofs.lemmas.Bool.{cases_lt}
use Rattle.adv_base.specs.declared.catalogue.index.IndexShape.{IndexShape}
use Rattle.adv_base.specs.Readings.{◌>>=◌, where_holds}
use Rattle.adv_base.specs.Settings.{TheSetting}
use Rattle.bip_model.specs.declared.fix.Fix.{Fix}
use Rattle.bip_model.specs.declared.fix.State.{State}
use Rattle.bip_model.specs.declared.fix.State.TheVariants.{Free, In, Out}
use Rattle.bip_model.specs.Views.{state_at}
use Rattle.dba_rules.specs.declared.fault.RuleFault.{RuleFault}
use Rattle.dba_rules.specs.declared.fault.RuleFault.TheVariants.{BadLine, NotCandidate, Contrary}
use Rattle.dba_rules.specs.declared.line.IndexName.{IndexName}
use Rattle.dba_rules.specs.declared.line.Named.{Named}
use Rattle.dba_rules.specs.declared.line.Rule.{Rule}
use Rattle.dba_rules.specs.declared.line.Rule.TheVariants.{Blank, Must, Never}
use Rattle.dba_rules.specs.declared.names.Target.{Target}
use Rattle.dba_rules.specs.Lines.{rule_in}
use Rattle.dba_rules.specs.Names.{index_target, target_of, meets}
use Rattle.dba_rules.specs.Rules.{contrary, state_behind, states_from, root_behind, fixed, behind_must, behind_never, behind_rule, behind_line, behind_lines, free_root, root_of, IsFreePast}

bind-ok : {A B : Type 0} (r : Result A RuleFault) (f : A → Result B RuleFault) (y : B) → (r >>= f) ≡ Ok y → (x : A) × (r ≡ Ok x) × (f x ≡ Ok y)
bind-ok (Ok x) f y e = (x, refl, e)
bind-ok (Err d) f y e = absurd cc

abbrev done : {A : Type 0} → A → Result A RuleFault
done x = Ok x

ok-is : {A : Type 0} (x y : A) → done x ≡ done y → x ≡ y
ok-is x y e = cc

states-at : (state : ℕ → State) (a n k : ℕ) → k < n → get_or (states_from state a n) k Free ≡ state (a + k)
states-at state a zero k less = absurd (omega arith)
states-at state a (suc n) zero less = let here : a ≡ a + 0 = omega arith in ap state here
states-at state a (suc n) (suc k) less = let next : suc a + k ≡ a + suc k = omega arith in states-at state (suc a) n k (omega arith) ∙ ap state next

states-past : (state : ℕ → State) (a n k : ℕ) → n ≤ k → get_or (states_from state a n) k Free ≡ Free
states-past state a zero k more = refl
states-past state a (suc n) zero more = absurd (omega (arith, more))
states-past state a (suc n) (suc k) more = states-past state (suc a) n k (omega (arith, more))

free-at : (n k : ℕ) → get_or (replicate n Free) k Free ≡ Free
free-at zero k = refl
free-at (suc n) zero = refl
free-at (suc n) (suc k) = free-at n k

none-past : (shapes : List IndexShape) (k : ℕ) → length shapes ≤ k → slice_get shapes k ≡ None
none-past [] k more = refl
none-past (shape ∷ shapes) zero more = absurd (omega (arith, more))
none-past (shape ∷ shapes) (suc k) more = none-past shapes k (omega (arith, more))

-- the root behind a rule is free past the candidates, as the one before is
behind-past : (target : Target) (to : State) (shapes : List IndexShape) (root : Fix) → IsFreePast shapes root → IsFreePast shapes (root_behind target to shapes root)
unfolding root_behind state_behind
behind-past target to shapes root free i past =
    elim (cases_lt i 256) [
      | inl within ↦
          let same : 0 + i ≡ i = omega arith in
          states-at (state_behind target to shapes root) 0 256 i within
          ∙ ap (state_behind target to shapes root) same
          ∙ ap (λ (found : Option IndexShape). if option_map_or (meets target) found false then to else state_at root i) (none-past shapes i past)
          ∙ free i past
      | inr beyond ↦ states-past (state_behind target to shapes root) 0 256 i beyond
    ]

fixed-past : (number : ℕ) (target : Target) (to : State) (shapes : List IndexShape) (root next : Fix) → IsFreePast shapes root → fixed number target to shapes root ≡ Ok next → IsFreePast shapes next
unfolding fixed
fixed-past number target to shapes root next free e = by (contrary target to shapes root) e
  where
    by : (found : Option ℕ) → option_map_or (λ candidate. Err (Contrary number candidate)) found (Ok (root_behind target to shapes root)) ≡ Ok next → IsFreePast shapes next
    by (Some candidate) e = absurd cc
    by None e = subst (IsFreePast shapes) (ok-is (root_behind target to shapes root) next e) (behind-past target to shapes root free)

must-past : (setting : TheSetting) (number : ℕ) (root next : Fix) (index : IndexName) → IsFreePast setting.shapes root → behind_must setting number root index ≡ Ok next → IsFreePast setting.shapes next
unfolding behind_must
must-past setting number root next index free e =
    let target = bind-ok (index_target setting.cat number index)
    (λ (target : Target). where_holds (NotCandidate number) (list_any (meets target) setting.shapes) target >>= λ met. fixed number met In setting.shapes root) next e in
    let met = bind-ok (where_holds (NotCandidate number) (list_any (meets target.0) setting.shapes) target.0) (λ (met : Target). fixed number met In setting.shapes root) next target.2 in
    fixed-past number met.0 In setting.shapes root next free met.2

never-past : (setting : TheSetting) (number : ℕ) (root next : Fix) (named : Named) → IsFreePast setting.shapes root → behind_never setting number root named ≡ Ok next → IsFreePast setting.shapes next
unfolding behind_never
never-past setting number root next named free e =
    let target = bind-ok (target_of setting.cat number named) (λ (target : Target). fixed number target Out setting.shapes root) next e in
    fixed-past number target.0 Out setting.shapes root next free target.2

rule-past : (setting : TheSetting) (number : ℕ) (root next : Fix) (rule : Rule) → IsFreePast setting.shapes root → behind_rule setting number root rule ≡ Ok next → IsFreePast setting.shapes next
rule-past setting number root next Blank free e = subst (IsFreePast setting.shapes) (ok-is root next e) free
rule-past setting number root next (Must index) free e = must-past setting number root next index free e
rule-past setting number root next (Never named) free e = never-past setting number root next named free e

line-past : (setting : TheSetting) (number : ℕ) (root next : Fix) (line : List ℕ) → IsFreePast setting.shapes root → behind_line setting number root line ≡ Ok next → IsFreePast setting.shapes next
unfolding behind_line
line-past setting number root next line free e =
    let rule = bind-ok (rule_in number line) (behind_rule setting number root) next e in
    rule-past setting number root next rule.0 free rule.2

last-past : (setting : TheSetting) (number : ℕ) (root next : Fix) (none : Bool) → IsFreePast setting.shapes root → where_holds (BadLine number) none root ≡ Ok next → IsFreePast setting.shapes next
last-past setting number root next true free e = subst (IsFreePast setting.shapes) (ok-is root next e) free
last-past setting number root next false free e = absurd cc

lines-past : (setting : TheSetting) (number : ℕ) (root next : Fix) (lines : List (List ℕ)) → IsFreePast setting.shapes root → behind_lines setting number root lines ≡ Ok next → IsFreePast setting.shapes next
lines-past setting number root next [] free e = subst (IsFreePast setting.shapes) (ok-is root next e) free
lines-past setting number root next (last ∷ []) free e = last-past setting number root next (length last == 0) free e
lines-past setting number root next (line ∷ more ∷ rest) free e =
    let first = bind-ok (behind_line setting number root line) (λ (after : Fix). behind_lines setting (suc number) after (more ∷ rest)) next e in
    lines-past setting (suc number) first.0 next (more ∷ rest) (line-past setting number root first.0 line free first.1) first.2

-- the root that rules make is free past the candidates
pub root_past : (setting : TheSetting) (bytes : List ℕ) (root : Fix) → root_of setting bytes ≡ Ok root → IsFreePast setting.shapes root
unfolding root_of
root_past setting bytes root e = lines-past setting 1 free_root root (slice_split (λ byte. byte == 10) bytes) (λ i past. free-at 256 i) e
