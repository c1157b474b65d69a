-- Texts line by line, as a loop reads them.
use Rattle.std.proofs.Common.{◌≡◌, ◌≢◌, ℕ, zero, suc, ◌+◌, ◌<◌, Bool, false, ◌==◌, List, [], ◌∷◌, length, Result, Ok, Err, refl, sym, ap, ◌∙◌, ne_eqb, length-append, arith, All}
use Rattle.std.specs.List.{slice_split, onto_first}
use Rattle.std.proofs.lemmas.List.Splits.{slice_split-cons_no, slice_split_at, length-slice_split}
use Rattle.adv_base.specs.Numbers.{BeginsWithLine}
use Rattle.adv_base.specs.Readings.{◌>>=◌, where_holds}
use Rattle.adv_base.specs.Settings.{TheSetting}
use Rattle.bip_model.specs.declared.fix.Fix.{Fix}
use Rattle.dba_rules.specs.declared.fault.RuleFault.{RuleFault}
use Rattle.dba_rules.specs.declared.fault.RuleFault.TheVariants.{Memory, BadLine}
use Rattle.dba_rules.specs.Rules.{behind_line, behind_lines, behind_text}

abbrev is_feed : ℕ → Bool
is_feed byte = byte == 10

not-feed : (byte : ℕ) → byte ≢ 10 → is_feed byte ≡ false
not-feed byte other = ne_eqb byte 10 other

-- a line and what stands behind it
split-line : (bytes line rest : List ℕ) → BeginsWithLine bytes line rest → slice_split is_feed bytes ≡ line ∷ slice_split is_feed rest
split-line bytes line rest h =
    let plain : All (λ (byte : ℕ). is_feed byte ≡ false) line = λ k d within. not-feed _ (h.whole k d within) in
    ap (slice_split is_feed) h.parts ∙ slice_split_at is_feed line 10 rest plain refl

one-more : (byte : ℕ) (bytes line rest : List ℕ) → byte ≢ 10 → BeginsWithLine bytes line rest → BeginsWithLine (byte ∷ bytes) (byte ∷ line) rest
one-more byte bytes line rest other h =
    record { parts = ap (λ (bs : List ℕ). byte ∷ bs) h.parts; whole = whole }
  where
    whole : All (λ (b : ℕ). b ≢ 10) (byte ∷ line)
    whole zero d within e = other e
    whole (suc k) d within e = h.whole k d (omega (arith, within)) e

-- bytes without a line feed are one piece
split-none : (bytes : List ℕ) → ((line rest : List ℕ) → ¬ (BeginsWithLine bytes line rest)) → slice_split is_feed bytes ≡ bytes ∷ []
split-none [] none = refl
split-none (byte ∷ bytes) none =
    let other : byte ≢ 10 = λ e. none [] bytes (record { parts = ap (λ (b : ℕ). b ∷ bytes) e; whole = λ k d within. absurd (omega (arith, within)) }) in
    slice_split-cons_no is_feed byte bytes (not-feed byte other)
    ∙ ap (onto_first byte) (split-none bytes (λ line rest h. none (byte ∷ line) rest (one-more byte bytes line rest other h)))

lines-go : (setting : TheSetting) (number : ℕ) (root : Fix) (line : List ℕ) (pieces : List (List ℕ)) → 0 < length pieces →
    behind_lines setting number root (line ∷ pieces) ≡ (behind_line setting number root line >>= λ after. behind_lines setting (suc number) after pieces)
lines-go setting number root line [] some = absurd (omega arith)
lines-go setting number root line (next ∷ more) some = refl

text-line : (setting : TheSetting) (number : ℕ) (root : Fix) (bytes line rest : List ℕ) → BeginsWithLine bytes line rest →
    behind_text setting number root bytes ≡ (behind_line setting number root line >>= λ after. behind_text setting (suc number) after rest)
text-line setting number root bytes line rest h =
    ap (behind_lines setting number root) (split-line bytes line rest h)
    ∙ lines-go setting number root line (slice_split is_feed rest) (omega (arith, length-slice_split is_feed rest))

-- what stands behind a line is shorter
pub shorter : (bytes line rest : List ℕ) → BeginsWithLine bytes line rest → length rest < length bytes
shorter bytes line rest h = let long : length bytes ≡ length line + length (10 ∷ rest) = ap length h.parts ∙ length-append line (10 ∷ rest) in omega arith

-- the loop goes on behind a line
pub text_goes : (setting : TheSetting) (number : ℕ) (root next : Fix) (bytes line rest : List ℕ) (total : Result Fix RuleFault) → BeginsWithLine bytes line rest →
    behind_line setting number root line ≡ Ok next → behind_text setting number root bytes ≡ total → behind_text setting (number + 1) next rest ≡ total
text_goes setting number root next bytes line rest total h step so_far =
    let after : number + 1 ≡ suc number = omega arith in
    rw after (sym (text-line setting number root bytes line rest h ∙ rw step refl) ∙ so_far)

-- it ends at one with a fault
pub text_fails : (setting : TheSetting) (number : ℕ) (root : Fix) (bytes line rest : List ℕ) (total : Result Fix RuleFault) (e : RuleFault) → BeginsWithLine bytes line rest →
    (e ≢ Memory → behind_line setting number root line ≡ Err e) → behind_text setting number root bytes ≡ total → e ≢ Memory → total ≡ Err e
text_fails setting number root bytes line rest total e h step so_far real = sym so_far ∙ text-line setting number root bytes line rest h ∙ rw (step real) refl

-- at one without its line feed
pub text_breaks : (setting : TheSetting) (number : ℕ) (root : Fix) (bytes : List ℕ) (total : Result Fix RuleFault) → 0 < length bytes →
    ((line rest : List ℕ) → ¬ (BeginsWithLine bytes line rest)) → behind_text setting number root bytes ≡ total → total ≡ Err (BadLine number)
text_breaks setting number root [] total some none so_far = absurd (omega arith)
text_breaks setting number root (byte ∷ bytes) total some none so_far =
    sym so_far ∙ ap (behind_lines setting number root) (split-none (byte ∷ bytes) none)
    ∙ ap (λ (b : Bool). where_holds (BadLine number) b root) (ne_eqb (suc (length bytes)) 0 (λ e. omega (arith, e)))

-- and else at the end
pub text_ends : (setting : TheSetting) (number : ℕ) (root : Fix) (bytes : List ℕ) (total : Result Fix RuleFault) → length bytes ≡ 0 →
    behind_text setting number root bytes ≡ total → total ≡ Ok root
text_ends setting number root [] total none so_far = sym so_far
text_ends setting number root (byte ∷ bytes) total none so_far = absurd (omega (arith, none))
