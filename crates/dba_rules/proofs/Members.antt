-- Members of configurations that break rules.
use Rattle.std.proofs.Common.{◌≡◌, ℕ, zero, suc, ◌-◌, ◌<◌, ◌≤◌, Bool, true, false, not, ◌&&◌, ◌||◌, List, [], ◌∷◌, length, get_or, inl, inr, refl, ap, ◌∙◌, ne_eqb, arith}
use Rattle.std.proofs.lemmas.Bool.{cases_lt}
use Rattle.adv_base.specs.declared.setting.Config.{Config}
use Rattle.adv_base.specs.Configs.{has_candidate}
use Rattle.adv_base.specs.Nodes as nodes
use Rattle.dba_rules.specs.Settled.{is_broken, IsFirstBroken}

-- ## Rules that are broken

get-past : (xs : List Bool) (n : ℕ) → length xs ≤ n → get_or xs n false ≡ false
get-past [] n e = refl
get-past (x ∷ xs) zero e = absurd (omega (arith, e))
get-past (x ∷ xs) (suc n) e = get-past xs n (omega (arith, e))

-- a configuration has a candidate only up to its flags
member-within : (config : Config) (n a : ℕ) → length config.on ≡ n → n < a → has_candidate config a ≡ false
member-within config n zero long past = refl
member-within config n (suc a) long past = let back : suc a - 1 ≡ a = omega arith in
    rw back
    (ap (λ (b : Bool). not b && get_or config.on a false) (ne_eqb (suc a) 0 (λ e. omega (arith, e))) ∙ get-past config.on a (omega (arith, long, past)))

cases : (i o c : Bool) → ((i && not c) || (o && c)) ≡ false → ((i ≡ true → c ≡ true) × (o ≡ true → c ≡ false))
cases true o true e = (λ _. refl, λ h. let broken = e in absurd cc)
cases true o false e = absurd cc
cases false true true e = absurd cc
cases false false true e = (λ h. absurd cc, λ h. absurd cc)
cases false o false e = (λ h. absurd cc, λ _. refl)

pub broken-past : (node : nodes.Node) (config : Config) (a : ℕ) → length node.inside.on ≡ 256 → length node.outside.on ≡ 256 → 256 < a → is_broken node config a ≡ false
broken-past node config a inside outside past =
    let no = member-within node.inside 256 a inside past in
    let none = member-within node.outside 256 a outside past in
    ap (λ (i : Bool). (i && not (has_candidate config a)) || (has_candidate node.outside a && has_candidate config a)) no
    ∙ ap (λ (o : Bool). (false && not (has_candidate config a)) || (o && has_candidate config a)) none

-- a configuration that breaks none of the candidates is below
pub below : (node : nodes.Node) (config : Config) (n : ℕ) → length node.inside.on ≡ 256 → length node.outside.on ≡ 256 → 257 ≤ n →
    ((a : ℕ) → 1 ≤ a → a < n → is_broken node config a ≡ false) → nodes.IsBelow node config
below node config n inside outside whole none =
    record {
      holds = λ a has. (cases (has_candidate node.inside a) (has_candidate node.outside a) (has_candidate config a) (each a)).0 has;
      lacks = λ a has. (cases (has_candidate node.inside a) (has_candidate node.outside a) (has_candidate config a) (each a)).1 has;
    }
  where
    each : (a : ℕ) → is_broken node config a ≡ false
    each zero = refl
    each (suc a) = elim (cases_lt (suc a) n) [ inl within ↦ none (suc a) (omega arith) within | inr past ↦ broken-past node config (suc a) inside outside (omega (arith, past, whole)) ]

-- the first candidate that is broken
pub first_broken : (node : nodes.Node) (config : Config) (a : ℕ) → is_broken node config a ≡ true → ((k : ℕ) → 1 ≤ k → k < a → is_broken node config k ≡ false) → IsFirstBroken node config a
first_broken node config a is before = record { is = is; first = first }
  where
    first : (k : ℕ) → k < a → is_broken node config k ≡ false
    first zero less = refl
    first (suc k) less = before (suc k) (omega arith) less
