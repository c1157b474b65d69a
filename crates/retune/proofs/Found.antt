-- The candidates that statements propose.
use Rattle.std.proofs.Common.{◌≡◌, ◌∙◌, ℕ, ◌-◌, ◌≤◌, List, [], length, map, take, All, sym, ap, subst, arith}
use Rattle.std.proofs.lemmas.List.{length-map, length-take}
use Rattle.adv_base.specs.declared.catalogue.Catalogue.{Catalogue}
use Rattle.adv_base.specs.declared.catalogue.index.IndexShape.{IndexShape}
use Rattle.adv_base.specs.declared.limits.TheConstants.{MOST_CANDIDATES}
use Rattle.adv_base.specs.declared.workload.Statement.{Statement}
use Rattle.adv_base.specs.Limits.Numbers.{KeyLimits}
use Rattle.adv_base.specs.Limits.Settings.{SettingLimits}
use Rattle.candidates.specs.Candidates.{AreCandidates, IsNotUnique, fresh_proposals, proposal_of}
use Rattle.candidates.specs.Growing.{IsProposed, TheProposed}
use Rattle.candidates.specs.Proposals.{Proposal}
use Rattle.candidates.proofs.SoundLaws.{fresh-limits, shapes-named}
use Rattle.retune.proofs.Steps.{limits-with}

pub proposed-keys : (cat : Catalogue) (statements : List Statement) (proposed : TheProposed) → SettingLimits cat statements [] → IsProposed cat statements proposed → All (λ p. KeyLimits p.keys) proposed.fresh
proposed-keys cat statements proposed limits is = subst (λ (fresh : List Proposal). All (λ p. KeyLimits p.keys) fresh) (sym is.fresh_are) (fresh-limits cat statements limits.statements_named)

-- a setting with the first of them
pub found-limits : (cat : Catalogue) (statements : List Statement) (proposed : TheProposed) (shapes : List IndexShape) → SettingLimits cat statements [] → IsProposed cat statements proposed →
    map proposal_of shapes ≡ take MOST_CANDIDATES proposed.fresh → SettingLimits cat statements shapes
found-limits cat statements proposed shapes limits is found =
    let listed : map proposal_of shapes ≡ take MOST_CANDIDATES (fresh_proposals cat statements) = found ∙ ap (take MOST_CANDIDATES) is.fresh_are in
    let few : length shapes ≤ MOST_CANDIDATES = omega (arith, ap length found, length-map shapes proposal_of, length-take MOST_CANDIDATES proposed.fresh) in
    limits-with cat statements [] shapes limits few (shapes-named cat statements shapes MOST_CANDIDATES limits.statements_named listed)

pub found-candidates : (cat : Catalogue) (statements : List Statement) (proposed : TheProposed) (shapes : List IndexShape) (left_over : ℕ) → IsProposed cat statements proposed →
    map proposal_of shapes ≡ take MOST_CANDIDATES proposed.fresh → left_over ≡ length proposed.fresh - MOST_CANDIDATES → All IsNotUnique shapes → AreCandidates cat statements shapes left_over
found-candidates cat statements proposed shapes left_over is found rest not_unique =
    record {
      proposed = found ∙ ap (take MOST_CANDIDATES) is.fresh_are;
      not_unique = not_unique;
      rest = rest ∙ ap (λ (ps : List Proposal). length ps - MOST_CANDIDATES) is.fresh_are;
    }
