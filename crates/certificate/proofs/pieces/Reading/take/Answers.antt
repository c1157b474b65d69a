use Rattle.std.proofs.Common.{◌∙◌, ℕ, Bool, true, false, List, [], ◌∷◌, ◌++◌, sym, ap, subst, refl}
use Rattle.std.proofs.lemmas.List.{append-nil, append_assoc}
use Rattle.std.proofs.lemmas.Result.{IfOk-weaker}
use Rattle.certificate.specs.inner.Pieces.{IsRead, ReadsOn}
use Rattle.certificate.proofs.Reached.{open-plain}
use Rattle.certificate.proofs.NextPiece.{piece-cut, piece-breaks}
use Rattle.certificate.proofs.pieces.Reading.take.Goals as goal

pub lines-init : goal.lines-init
lines-init c = record {
  read = ([], refl, λ text is. subst (IsRead c.args.self.now) (sym (append-nil text)) is);
  reached = c.requires;
}

pub returns-then-not-fits-clause-read : goal.returns-then-not-fits-clause-read
returns-then-not-fits-clause-read c = λ text is.
    let line : List ℕ = c.in-Some.line.now in
    let h = c.lines.invariant.read in
    let stuck : ReadsOn false ((text ++ h.0) ++ (line ++ 10 ∷ [])) c.end_line.new.self =
    subst (λ (b : Bool). (t : List ℕ) → IsRead c.lines.self t → ReadsOn b (t ++ (line ++ 10 ∷ [])) c.end_line.new.self) c.if-not-fits.true c.in_ok-fits.ensures.read (text ++ h.0) (h.2 text is) in
    piece-breaks text h.0 c.args.piece.now c.lines.rest.now line c.in-Some.more.now _ h.1 c.in-Some.ensures stuck

pub lines-preserved : goal.lines-preserved
lines-preserved c =
    let line : List ℕ = c.in-Some.line.now in
    let more : List ℕ = c.in-Some.more.now in
    let h = c.lines.invariant.read in
    let goes : (t : List ℕ) → IsRead c.lines.self t → ReadsOn true (t ++ (line ++ 10 ∷ [])) c.end_line.new.self =
    subst (λ (b : Bool). (t : List ℕ) → IsRead c.lines.self t → ReadsOn b (t ++ (line ++ 10 ∷ [])) c.end_line.new.self) c.if-not-fits.false c.in_ok-fits.ensures.read in
    record {
      read = (h.0 ++ (line ++ 10 ∷ []), piece-cut h.0 c.args.piece.now c.lines.rest.now line more h.1 c.in-Some.ensures, λ text is. subst (λ (t : List ℕ). IsRead c.end_line.new.self t) (append_assoc text h.0 (line ++ 10 ∷ [])) (goes (text ++ h.0) (h.2 text is)));
      reached = c.in_ok-fits.ensures.reached c.if-not-fits.false;
    }

pub open_line-requires-clause-plain : goal.open_line-requires-clause-plain
open_line-requires-clause-plain c = open-plain c.lines.rest.now c.in_default.ensures

pub returns-clause-read : goal.returns-clause-read
returns-clause-read c =
    let h = c.lines.invariant.read in
    IfOk-weaker c.open_line.result _ _ (λ fits goes text is. subst (λ (t : List ℕ). ReadsOn fits t c.open_line.new.self) (append_assoc text h.0 c.lines.rest.now ∙ ap (λ (t : List ℕ). text ++ t) (sym h.1)) (goes (text ++ h.0) (h.2 text is))) c.open_line.ensures.read
