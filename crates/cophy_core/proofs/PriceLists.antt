-- Costs and weighted sums, one statement more at a time.
use Rattle.std.proofs.Common.{◌≡◌, ℕ, ◌+◌, ◌<◌, List, [], ◌∷◌, ◌++◌, length, take, get_or, refl, ap, sym, ◌∙◌, suc}
use Rattle.std.proofs.lemmas.List.{take_more}
use Rattle.adv_base.specs.declared.catalogue.Catalogue.{Catalogue}
use Rattle.adv_base.specs.declared.catalogue.index.IndexShape.{IndexShape}
use Rattle.adv_base.specs.declared.setting.Config.{Config}
use Rattle.adv_base.specs.declared.workload.Statement.{Statement}
use Rattle.plan_model.specs.Totals.{AreCosts}

pub AreCosts-length : (cat : Catalogue) (shapes : List IndexShape) (config : Config) (statements : List Statement) (costs : List ℕ) → AreCosts cat shapes config statements costs → length costs ≡ length statements
AreCosts-length cat shapes config [] [] all = refl
AreCosts-length cat shapes config [] (c ∷ cs) all = absurd all
AreCosts-length cat shapes config (s ∷ ss) [] all = absurd all
AreCosts-length cat shapes config (s ∷ ss) (c ∷ cs) all = ap suc (AreCosts-length cat shapes config ss cs all.1)

-- the statements up to the next one, and that one
pub next_statement : (statements : List Statement) (i : ℕ) (statement : Statement) → i < length statements → statement ≡ get_or statements i statement → take (i + 1) statements ≡ take i statements ++ statement ∷ []
next_statement statements i statement h is = take_more statements i statement h ∙ ap (λ (s : Statement). take i statements ++ s ∷ []) (sym is)
