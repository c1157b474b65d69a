-- The advice that an answer gives, whichever command it answers.
use Rattle.std.specs.Prelude.{◌⊎◌, Bool, true, false, List, [], ◌∷◌, map}
use Rattle.report.specs.declared.done.Advice.{Advice}
use Rattle.report.specs.declared.done.Done.{Done}
use Rattle.report.specs.declared.done.Done.TheVariants.{Priced, Listed, Advised, Ruled, Swept, Retuned, Folded, Benched}
use Rattle.report.specs.declared.done.Tuned.{Tuned}

-- in its order; an answer of another kind gives none
abbrev pub advices : Done → List Advice
advices (Advised advice) = advice ∷ []
advices (Ruled ruled) = ruled.advice ∷ []
advices (Retuned tuned) = map (λ (each : Tuned). each.advice) tuned
advices (Benched bench) = bench.advice ∷ []
advices done = []

-- an answer that is told of a setting; for no other a command puts files
abbrev pub needs_setting : Done → Bool
needs_setting (Priced prices) = true
needs_setting (Listed found) = true
needs_setting (Advised advice) = true
needs_setting (Ruled ruled) = true
needs_setting (Swept points) = true
needs_setting (Retuned tuned) = true
needs_setting (Folded folded) = true
needs_setting (Benched bench) = true
needs_setting done = false

-- each advice of a list has P; this computes, as std's `All` does not
abbrev pub EachAdvice : (Advice → Type 0) → List Advice → Type 0
EachAdvice P [] = Unit {0}
EachAdvice P (advice ∷ []) = P advice
EachAdvice P (advice ∷ other ∷ more) = P advice × EachAdvice P (other ∷ more)

-- some advice of a list has P
abbrev pub SomeAdvice : (Advice → Type 0) → List Advice → Type 0
SomeAdvice P [] = ⊥
SomeAdvice P (advice ∷ more) = P advice ⊎ SomeAdvice P more
