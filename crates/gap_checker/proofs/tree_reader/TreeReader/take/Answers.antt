use Rattle.std.proofs.Common.{◌≡◌, ◌∙◌, ℕ, Bool, true, false, List, [], ◌∷◌, ◌++◌, sym, ap, subst, refl}
use Rattle.std.proofs.lemmas.List.{append-nil}
use Rattle.std.proofs.lemmas.Result.{err_from_is_err_and}
use Rattle.certificate.proofs.Reached.{open-plain}
use Rattle.certificate.proofs.NextPiece.{piece-cut}
use Rattle.gap_checker.specs.declared.fault.AtFault.TheVariants as at_faults
use Rattle.gap_checker.specs.inner.Readings.{Extends, IsFaultIn, TakesOn, line_number}
use Rattle.gap_checker.proofs.Reading.{takes-nothing, takes-bytes, takes-both, fault-later, fault-before, long-breaks}
use Rattle.gap_checker.proofs.tree_reader.TreeReader.take.Goals as goal

pub lines-init : goal.lines-init
lines-init c = record {
  taken = ([], refl, takes-nothing c.args.judge.now c.args.head.now c.args.self.now c.requires.fits);
  memo_is = c.requires.memo_is;
}

pub end_line-requires-clause-fits : goal.end_line-requires-clause-fits
end_line-requires-clause-fits c = c.lines.invariant.taken.2.fits

pub returns-in_err-end_line-clause-fault : goal.returns-in_err-end_line-clause-fault
returns-in_err-end_line-clause-fault c =
    let h = c.lines.invariant.taken in
    let line : List ℕ = c.in-Some.line.now in
    let more : List ℕ = c.in-Some.more.now in
    let p = err_from_is_err_and c.from_residual.result c.from_residual.ensures.1 in
    let same : p.0 ≡ c.in_err-end_line.field-0.0 = cc (p.2) in
    let whole : c.args.piece.now ≡ (h.0 ++ (line ++ 10 ∷ [])) ++ more = piece-cut h.0 c.args.piece.now c.lines.rest.now line more h.1 c.in-Some.ensures in
    let later = fault-later c.args.judge.now c.args.head.now c.args.self.now c.lines.self h.0 (line ++ 10 ∷ []) c.in_err-end_line.field-0.0 h.2 c.in_err-end_line.ensures.fault in
    rw p.1
    (subst (IsFaultIn c.args.judge.now c.args.head.now c.args.self.now c.args.piece.now) (sym same)
    (subst (λ (t : List ℕ). IsFaultIn c.args.judge.now c.args.head.now c.args.self.now t c.in_err-end_line.field-0.0) (sym whole)
    (fault-before c.args.judge.now c.args.head.now c.args.self.now (h.0 ++ (line ++ 10 ∷ [])) more c.in_err-end_line.field-0.0 later)))

pub lines-preserved : goal.lines-preserved
lines-preserved c =
    let h = c.lines.invariant.taken in
    let line : List ℕ = c.in-Some.line.now in
    let more : List ℕ = c.in-Some.more.now in
    record {
      taken = (h.0 ++ (line ++ 10 ∷ []), piece-cut h.0 c.args.piece.now c.lines.rest.now line more h.1 c.in-Some.ensures, takes-both c.args.judge.now c.args.head.now c.args.self.now c.lines.self c.end_line.new.self h.0 (line ++ 10 ∷ []) h.2 c.in_ok-end_line.ensures.taken);
      memo_is = c.in_ok-end_line.ensures.memo;
    }

pub returns-then-not-fits-clause-fault : goal.returns-then-not-fits-clause-fault
returns-then-not-fits-clause-fault c =
    let h = c.lines.invariant.taken in
    let rest : List ℕ = c.lines.rest.now in
    let plain = open-plain rest c.in_default.ensures in
    let long : Extends false c.lines.self rest c.extend.new.self = subst (λ (b : Bool). Extends b c.lines.self rest c.extend.new.self) c.if-not-fits.true c.in_ok-fits.ensures in
    let stuck = long-breaks c.args.judge.now c.args.head.now c.lines.self rest [] (at_faults.Malformed c.number.result) h.2.fits c.requires.judge plain long.1 (ap at_faults.Malformed (c.number.ensures ∙ ap (line_number c.args.head.now) long.0)) in
    let whole : c.args.piece.now ≡ h.0 ++ (rest ++ []) = h.1 ∙ ap (λ (t : List ℕ). h.0 ++ t) (sym (append-nil rest)) in
    subst (λ (t : List ℕ). IsFaultIn c.args.judge.now c.args.head.now c.args.self.now t (at_faults.Malformed c.number.result)) (sym whole) (fault-later c.args.judge.now c.args.head.now c.args.self.now c.lines.self h.0 (rest ++ []) (at_faults.Malformed c.number.result) h.2 stuck)

pub returns-clause-taken : goal.returns-clause-taken
returns-clause-taken c =
    let h = c.lines.invariant.taken in
    let rest : List ℕ = c.lines.rest.now in
    let plain = open-plain rest c.in_default.ensures in
    let more : Extends true c.lines.self rest c.extend.new.self = subst (λ (b : Bool). Extends b c.lines.self rest c.extend.new.self) c.if-not-fits.false c.in_ok-fits.ensures in
    subst (λ (t : List ℕ). TakesOn c.args.judge.now c.args.head.now c.args.self.now t c.extend.new.self) (sym h.1)
    (takes-both c.args.judge.now c.args.head.now c.args.self.now c.lines.self c.extend.new.self h.0 rest h.2 (takes-bytes c.args.judge.now c.args.head.now c.lines.self c.extend.new.self rest h.2.fits plain more))
