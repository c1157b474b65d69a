-- There is one answer to what has to be, and one candidate that is told.
use Rattle.std.proofs.Common.{◌≡◌, ℕ, ◌-◌, Bool, true, false, not, ◌&&◌, ◌||◌, inl, inr, refl, arith}
use Rattle.std.proofs.lemmas.Bool.{cases_lt}
use Rattle.adv_base.specs.declared.setting.Config.{Config}
use Rattle.adv_base.specs.Configs.{has_candidate, Fits}
use Rattle.adv_base.specs.Nodes as nodes
use Rattle.adv_base.specs.Settings.{TheSetting}
use Rattle.dba_rules.specs.declared.fault.RuleFault.{RuleFault}
use Rattle.dba_rules.specs.declared.fault.RuleFault.TheVariants.{TooLarge, Clash}
use Rattle.adv_base.proofs.Clashing.{same-first, same-second, clash-or-apart}
use Rattle.dba_rules.specs.Settled.{IsFault, IsFirstBroken}

-- one fault is told of what has to be
pub one_fault : (setting : TheSetting) (config : Config) (budget : ℕ) (fault other : RuleFault) → IsFault setting config budget fault → IsFault setting config budget other → other ≡ fault
one_fault setting config budget (TooLarge size over) (TooLarge told above) h k = let a = h.0 in let b = k.0 in let c = h.1 in let d = k.1 in cc
one_fault setting config budget (TooLarge size over) (Clash first second) h k = absurd (let fits = k.0 in omega (arith, h.2, fits))
one_fault setting config budget (Clash first second) (TooLarge size over) h k = absurd (let fits = h.0 in omega (arith, k.2, fits))
one_fault setting config budget (Clash first second) (Clash one other) h k =
    let a = same-first setting.shapes config first second one other h.1 k.1 in
    let b = same-second setting.shapes config first second one other h.1 k.1 in
    cc
one_fault setting config budget (TooLarge size over) other h k = absurd k
one_fault setting config budget (Clash first second) other h k = absurd k
one_fault setting config budget fault other h k = absurd h

-- and none of what can be
pub fault_or_fits : (setting : TheSetting) (config : Config) (budget : ℕ) (fault : RuleFault) → IsFault setting config budget fault → Fits setting.cat setting.shapes config budget → ⊥
fault_or_fits setting config budget (TooLarge size over) h fits = omega (arith, h.2, fits.pages)
fault_or_fits setting config budget (Clash first second) h fits = clash-or-apart setting.shapes config first second h.1 fits.apart
fault_or_fits setting config budget fault h fits = h

-- one candidate is told where a configuration isn't below a node
pub one_broken : (node : nodes.Node) (config : Config) (a b : ℕ) → IsFirstBroken node config a → IsFirstBroken node config b → a ≡ b
one_broken node config a b h k =
    elim (cases_lt a b) [
      | inl less ↦ let no = k.first a less in let yes = h.is in absurd cc
      | inr more ↦ elim (cases_lt b a) [ inl less ↦ let no = h.first b less in let yes = k.is in absurd cc | inr least ↦ omega (arith, more, least) ]
    ]

not-so : (i o c : Bool) → (i ≡ true → c ≡ true) → (o ≡ true → c ≡ false) → ((i && not c) || (o && c)) ≡ true → ⊥
not-so true o false has hasnt e = let no = has refl in absurd cc
not-so true true true has hasnt e = let no = hasnt refl in absurd cc
not-so true false true has hasnt e = absurd cc
not-so false true true has hasnt e = let no = hasnt refl in absurd cc
not-so false true false has hasnt e = absurd cc
not-so false false c has hasnt e = absurd cc

-- and none where it is
pub broken_or_below : (node : nodes.Node) (config : Config) (a : ℕ) → IsFirstBroken node config a → nodes.IsBelow node config → ⊥
broken_or_below node config a h below = not-so (has_candidate node.inside a) (has_candidate node.outside a) (has_candidate config a) (below.holds a) (below.lacks a) h.is
