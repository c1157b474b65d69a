use Rattle.std.proofs.lemmas.Result.{IfOk-weaker}
use Rattle.certificate.proofs.NextPiece.{extends-reached, opens-line}
use Rattle.certificate.proofs.pieces.Reading.open_line.Goals as goal

pub returns-clause-read : goal.returns-clause-read
returns-clause-read c =
    IfOk-weaker c.extend.result _ _ (λ fits more text is. opens-line fits c.args.self.now c.extend.new.self c.args.bytes.now text is c.requires.plain more) c.extend.ensures

pub returns-clause-reached : goal.returns-clause-reached
returns-clause-reached c =
    IfOk-weaker c.extend.result _ _ (λ fits more took. extends-reached fits c.args.self.now c.extend.new.self c.args.bytes.now more c.requires.reached took) c.extend.ensures
