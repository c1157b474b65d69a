-- Words at the front of bytes.
use Rattle.std.proofs.Common.{◌≡◌, ℕ, Bool, true, false, cond, ◌&&◌, List, [], ◌∷◌, length, take, drop, Option, Some, None, nat_eq, refl, sym, ap, ◌∙◌}
use Rattle.std.specs.Cmp.Lexicographic.{pointwise}
use Rattle.dba_rules.specs.Lines.{after}

both : (s t : Bool) (x : Option (List ℕ)) → cond s (cond t x None) None ≡ cond (s && t) x None
both true t x = refl
both false t x = refl

-- what follows a word, where it stands at the front
after-of : (word bytes : List ℕ) → after word bytes ≡ cond (pointwise nat_eq (take (length word) bytes) word) (Some (drop (length word) bytes)) None
after-of [] bytes = refl
after-of (c ∷ word) [] = refl
after-of (c ∷ word) (byte ∷ bytes) =
    ap (λ (o : Option (List ℕ)). cond (nat_eq byte c) o None) (after-of word bytes)
    ∙ both (nat_eq byte c) (pointwise nat_eq (take (length word) bytes) word) (Some (drop (length word) bytes))

at : (word bytes : List ℕ) (found : Bool) → pointwise nat_eq (take (length word) bytes) word ≡ found → after word bytes ≡ cond found (Some (drop (length word) bytes)) None
at word bytes found e = after-of word bytes ∙ ap (λ (b : Bool). cond b (Some (drop (length word) bytes)) None) e

pub after-none : (word bytes : List ℕ) → pointwise nat_eq (take (length word) bytes) word ≡ false → None ≡ after word bytes
after-none word bytes e = sym (at word bytes false e)

pub after-some : (word bytes rest : List ℕ) → pointwise nat_eq (take (length word) bytes) word ≡ true → rest ≡ drop (length word) bytes → Some rest ≡ after word bytes
after-some word bytes rest e is = ap Some is ∙ sym (at word bytes true e)
