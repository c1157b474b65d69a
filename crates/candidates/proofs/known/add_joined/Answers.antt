use Rattle.std.proofs.Common.{sym, arith}
use Rattle.candidates.specs.Columns.{joined}
use Rattle.candidates.specs.inner.Known.{as_proposals}
use Rattle.candidates.proofs.KnownLemmas.{forms-long, joined-longer}
use Rattle.candidates.proofs.known.add_joined.Goals as goal

pub returns-then-keys-gt-MOST_KEYS : goal.returns-then-keys-gt-MOST_KEYS
returns-then-keys-gt-MOST_KEYS c =
    let target = c.args.target in
    let longer = joined-longer c.args.keys.now c.args.more.now in
    sym (forms-long target.clusterable (as_proposals c.args.known.now.keys) (target.table, joined c.args.keys.now c.args.more.now) (omega (arith, longer)))
