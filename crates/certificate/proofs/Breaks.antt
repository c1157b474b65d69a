-- Where bytes break.
use Rattle.std.proofs.Common.{◌≡◌, ◌∙◌, ℕ, suc, ◌+◌, List, [], ◌∷◌, ◌++◌, length, sym, ap, subst, refl, arith, length-append}
use Rattle.adv_base.specs.Numbers.{BeginsWithLine}
use Rattle.certificate.specs.Certificates.{BreaksAt, GoesOn}
use Rattle.certificate.specs.inner.Outlines.{Draft}
use Rattle.certificate.specs.declared.stage.Stage.TheVariants as stages
use Rattle.certificate.specs.inner.Steps.{StepAt}
use Rattle.certificate.proofs.StepLaws.{all-more}
use Rattle.certificate.proofs.Keeps.{run-more, fits-step}
use Rattle.certificate.proofs.ReadLaws.{HasRead, draft-goes_on, parts-more}
use Rattle.certificate.proofs.Splits.{no-line, no-cert, no-more, ended}
use Rattle.certificate.specs.Certificates.{IsLine}

-- at a line that no step takes
pub breaks-at : (bytes rest line more : List ℕ) (d : Draft) (number : ℕ) (lines : List (List ℕ)) → HasRead bytes rest d number lines → BeginsWithLine rest line more → ((f : Draft) → StepAt d.stage d line f → ⊥) → BreaksAt bytes number
breaks-at bytes rest line more d number lines h begins none =
    let next : suc (length lines) ≡ number = omega (arith, h.number_is) in
    record {
      none = no-cert bytes rest line more lines d h.parts h.whole h.run begins none;
      before = length lines;
      number_is = sym next;
      goes_on = draft-goes_on bytes rest lines d h.parts h.whole h.run h.fits;
      first = subst (λ (n : ℕ). GoesOn bytes n → ⊥) next (no-line bytes rest line more lines d h.parts h.whole h.run begins none);
    }

-- behind the last line
pub breaks-behind : (bytes rest : List ℕ) (d : Draft) (number : ℕ) (lines : List (List ℕ)) → HasRead bytes rest d number lines → ((line more : List ℕ) → BeginsWithLine rest line more → ⊥) → (rest ≡ [] → d.stage ≡ stages.Done → ⊥) → BreaksAt bytes number
breaks-behind bytes rest d number lines h none open_end =
    let next : suc (length lines) ≡ number = omega (arith, h.number_is) in
    record {
      none = λ c is. let end = ended bytes rest lines d h.parts h.whole h.run none c is in open_end end.0 end.1;
      before = length lines;
      number_is = sym next;
      goes_on = draft-goes_on bytes rest lines d h.parts h.whole h.run h.fits;
      first = subst (λ (n : ℕ). GoesOn bytes n → ⊥) next (no-more bytes rest lines h.parts h.whole none);
    }

-- one more line
pub reads-on : (bytes rest line more : List ℕ) (d e : Draft) (number : ℕ) (lines : List (List ℕ)) → HasRead bytes rest d number lines → BeginsWithLine rest line more → StepAt d.stage d line e → HasRead bytes more e (number + 1) (lines ++ line ∷ [])
reads-on bytes rest line more d e number lines h begins step =
    let size : length (lines ++ line ∷ []) ≡ length lines + 1 = length-append lines (line ∷ []) in
    let long : length rest ≡ length line + suc (length more) = ap length begins.parts ∙ length-append line (10 ∷ more) in
    record {
      parts = parts-more bytes rest line more lines h.parts begins;
      whole = all-more IsLine lines line h.whole begins.whole;
      run = run-more lines line _ d e h.run step;
      fits = fits-step d.stage d e line refl h.fits step;
      number_is = omega (arith, h.number_is, size);
      few = omega (arith, h.few, size, long);
    }
