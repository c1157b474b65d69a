use Rattle.std.proofs.Common.{Bool, true, false, [], ◌∷◌, subst}
use Rattle.std.proofs.lemmas.Result.{IfOk-weaker}
use Rattle.certificate.specs.inner.Pieces.{Extends}
use Rattle.certificate.proofs.NextPiece.{extends-reached, ends-line, long-ends-read}
use Rattle.certificate.proofs.pieces.Reading.end_line.Goals as goal

pub returns-then-not-fits-clause-read : goal.returns-then-not-fits-clause-read
returns-then-not-fits-clause-read c = λ text is.
    let long : Extends false c.args.self.now c.args.bytes.now c.extend.new.self = subst (λ (b : Bool). Extends b c.args.self.now c.args.bytes.now c.extend.new.self) c.if-not-fits.true c.in_ok-fits.ensures in
    long-ends-read c.args.self.now c.extend.new.self c.args.bytes.now (10 ∷ []) text long is c.requires.plain

pub take_line-requires : goal.take_line-requires
take_line-requires c = extends-reached _ c.args.self.now c.extend.new.self c.args.bytes.now c.in_ok-fits.ensures c.requires.reached c.if-not-fits.false

pub returns-clause-read : goal.returns-clause-read
returns-clause-read c =
    let more : Extends true c.args.self.now c.args.bytes.now c.extend.new.self = subst (λ (b : Bool). Extends b c.args.self.now c.args.bytes.now c.extend.new.self) c.if-not-fits.false c.in_ok-fits.ensures in
    IfOk-weaker c.take_line.result _ _ (λ fits takes text is. ends-line fits c.args.self.now c.extend.new.self c.take_line.new.self c.args.bytes.now text more.0 is c.requires.plain takes) c.take_line.ensures.line
