use Rattle.certificate.proofs.NextPiece.{fits-reached, taken-bytes, taken-lines, taken-line, taken-reached, refused-line}
use Rattle.certificate.proofs.pieces.Reading.take_line.Goals as goal

pub take-requires : goal.take-requires
take-requires c = fits-reached c.args.self.now c.requires

pub returns-then-is_refused-clause-line : goal.returns-then-is_refused-clause-line
returns-then-is_refused-clause-line c = λ lines tree reaches.
    refused-line c.args.self.now c.take.new.self c.in_ok-taken.taken c.as_slice.result.now c.as_slice.ensures c.in_ok-taken.ensures (c.is_refused.ensures.refused c.if-is_refused.true) lines tree

pub count_line-requires-clause-bytes : goal.count_line-requires-clause-bytes
count_line-requires-clause-bytes c =
    taken-bytes c.args.self.now c.take.new.self c.in_ok-taken.taken c.as_slice.result.now c.is_front-is_front.result c.as_slice.ensures c.is_front-is_front.ensures c.in_ok-taken.ensures (c.is_refused.ensures.taken c.if-is_refused.false) c.requires

pub count_line-requires-clause-lines : goal.count_line-requires-clause-lines
count_line-requires-clause-lines c =
    taken-lines c.args.self.now c.take.new.self c.in_ok-taken.taken c.as_slice.result.now c.is_front-is_front.result c.as_slice.ensures c.is_front-is_front.ensures c.in_ok-taken.ensures (c.is_refused.ensures.taken c.if-is_refused.false) c.requires

pub returns-clause-line : goal.returns-clause-line
returns-clause-line c = λ lines tree reaches.
    taken-line c.args.self.now c.count_line.new.self c.take.new.self c.in_ok-taken.taken c.as_slice.result.now c.is_front-is_front.result c.as_slice.ensures c.is_front-is_front.ensures c.in_ok-taken.ensures (c.is_refused.ensures.taken c.if-is_refused.false)
    c.count_line.ensures lines tree reaches

pub returns-clause-reached : goal.returns-clause-reached
returns-clause-reached c = λ took.
    taken-reached c.args.self.now c.count_line.new.self c.take.new.self c.in_ok-taken.taken c.as_slice.result.now c.is_front-is_front.result c.as_slice.ensures c.is_front-is_front.ensures c.in_ok-taken.ensures (c.is_refused.ensures.taken c.if-is_refused.false)
    c.count_line.ensures c.requires
