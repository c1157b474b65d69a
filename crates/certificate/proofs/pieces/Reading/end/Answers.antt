use Rattle.std.proofs.Common.{subst, sym}
use Rattle.certificate.specs.Heads.{IsHeadOf}
use Rattle.certificate.proofs.NextPiece.{read-breaks, read-head}
use Rattle.certificate.proofs.pieces.Reading.end.Goals as goal

pub returns-then-not-is_whole-clause-fault : goal.returns-then-not-is_whole-clause-fault
returns-then-not-is_whole-clause-fault c = λ text is. read-breaks c.args.self text c.number.result c.number.ensures is (c.is_whole.ensures.not c.if-not-is_whole.true)

pub returns-clause-found : goal.returns-clause-found
returns-clause-found c = λ text is.
    let whole = c.is_whole.ensures.whole c.if-not-is_whole.false in
    subst (IsHeadOf text) (sym c.into_head.ensures) (read-head c.args.self text is whole.0 whole.1)
