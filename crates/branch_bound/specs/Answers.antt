-- What a search answers.
use Rattle.std.specs.Prelude.{◌≡◌, ℕ, List}
use Rattle.adv_base.specs.declared.catalogue.index.IndexShape.{IndexShape}
use Rattle.adv_base.specs.Settings.{TheSetting, KeepsLimits}
use Rattle.bip_model.specs.declared.answer.Answer.{Answer}
use Rattle.bip_model.specs.declared.fix.Fix.{Fix}
use Rattle.bip_model.specs.declared.programme.Programme.{Programme}
use Rattle.bip_model.specs.Best.{IsBest}
use Rattle.bip_model.specs.StandsFor.{StandsFor}
use Rattle.bip_model.specs.Views.{node_of}

-- the answer is best for each setting for which the programme stands and whose candidates these are
abbrev pub IsBestForEach : Programme → List IndexShape → ℕ → ℕ → Fix → Answer → Type 0
IsBestForEach programme shapes budget nodes root answer =
    (setting : TheSetting) → KeepsLimits setting → StandsFor setting programme → setting.shapes ≡ shapes → IsBest setting budget nodes (node_of root) answer
