-- Readings that end well.
use Rattle.std.proofs.Common.{◌≡◌, ◌⊎◌, inl, inr, Bool, true, false, cond, Result, Ok, Err, refl}
use Rattle.adv_base.specs.Readings.{◌>>=◌}
use Rattle.command_line.specs.declared.fault.WordFault.{WordFault}

pub pick : {A : Type 0} (b : Bool) (x y : Result A WordFault) (c : A) → cond b x y ≡ Ok c → ((b ≡ true) × (x ≡ Ok c)) ⊎ (y ≡ Ok c)
pick true x y c e = inl (refl, e)
pick false x y c e = inr e

pub not_ok : {A : Type 0} (fault : WordFault) (c : A) → Err fault ≡ Ok c → ⊥
not_ok fault c e = cc

pub pick_else : {A : Type 0} (b : Bool) (fault : WordFault) (y : Result A WordFault) (c : A) → cond b (Err fault) y ≡ Ok c → (b ≡ false) × (y ≡ Ok c)
pick_else true fault y c e = absurd (not_ok fault c e)
pick_else false fault y c e = (refl, e)

pub bind_ok : {A B : Type 0} (r : Result A WordFault) (f : A → Result B WordFault) (c : B) → (r >>= f) ≡ Ok c → (x : A) × ((r ≡ Ok x) × (f x ≡ Ok c))
bind_ok (Ok x) f c e = (x, (refl, e))
bind_ok (Err fault) f c e = absurd (not_ok fault c e)
