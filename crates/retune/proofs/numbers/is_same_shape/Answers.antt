use Rattle.std.proofs.Common.{◌≡◌, ◌∙◌, Bool, true, false, refl, sym}
use Rattle.std.specs.Prelude.{not}
use Rattle.std.specs.Bool.{beq}
use Rattle.std.proofs.lemmas.Bool.Decides.{Decides-eqb}
use Rattle.std.proofs.lemmas.Slice.Eq.{slice_eq-Decides}
use Rattle.retune.proofs.Shapes.{same_shape}
use Rattle.retune.proofs.numbers.is_same_shape.Goals as goal

same_bool : (x y : Bool) → not (beq x y) ≡ false → x ≡ y
same_bool true true e = refl
same_bool true false e = e
same_bool false true e = sym e
same_bool false false e = refl

pub returns-clause-same : goal.returns-clause-same
returns-clause-same c = λ h.
    same_shape c.args.a.now c.args.b.now c.if-a-b.false
    (sym c.as_slice.ensures ∙ (slice_eq-Decides Decides-eqb c.as_slice.result.now c.as_slice-2.result.now c.eq.result c.eq.ensures).0 h ∙ c.as_slice-2.ensures)
    (same_bool c.args.a.now.unique c.args.b.now.unique c.if-a-b-2.false) (same_bool c.args.a.now.clustered c.args.b.now.clustered c.if-a-b-3.false)
