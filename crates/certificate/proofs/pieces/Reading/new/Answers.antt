use Rattle.std.proofs.Common.{[], length, sym, ap, subst, arith}
use Rattle.certificate.specs.Certificates.{IsLine}
use Rattle.certificate.proofs.NextPiece.{reaches-start, no-bytes}
use Rattle.certificate.proofs.pieces.Reading.new.Goals as goal

pub returns-clause-read : goal.returns-clause-read
returns-clause-read c = record {
  lines = [];
  tree = [];
  reaches = reaches-start c.new.result c.new.ensures;
  plain = subst IsLine (sym c.in_ok-with_capacity.ensures.items) no-bytes;
  parts = sym c.in_ok-with_capacity.ensures.items;
}

pub returns-clause-reached : goal.returns-clause-reached
returns-clause-reached c =
    ∣ record { lines = []; tree = []; reaches = reaches-start c.new.result c.new.ensures; short = omega (arith, ap length c.in_ok-with_capacity.ensures.items) } ∣₁
