use Rattle.std.proofs.Common.{◌+◌, Option, string_bytes, take, drop, rules, sym, ap, subst, ◌∙◌, arith}
use Rattle.adv_shelf.specs.Shelf.{Files, IsPutInPart, put_file}
use Rattle.cophy_core.specs.declared.worked.FilePut.{FilePut}
use Rattle.cophy_core.specs.Endings.{Put, plain_puts, put_all, IsUnput}
use Rattle.cophy_core.proofs.Mapped.{map_more, map_parted}
use Rattle.cophy_core.proofs.Puts.{put_all-more, put_faulted}
use Rattle.cophy_core.proofs.reply.put_each.Goals as goal

abbrev seen : FilePut → Put
seen put = record { name = string_bytes put.name; bytes = put.bytes }

pub returns-in_err-put-clause-err : goal.returns-in_err-put-clause-err
returns-in_err-put-clause-err g c =
    let old = g.S.Shelf.files c.args.shelf.now in
    let new = g.S.Shelf.files c.put.new.self in
    let file = c.index-puts-at.result in
    let i = c.puts.at in
    let inv = c.puts.invariant in
    let fault = c.in_err-put.field-0.0 in
    let front = plain_puts (take i c.args.puts.now) in
    let h : IsUnput old new (g.S.Shelf.put_faults c.args.shelf.now) (g.S.Shelf.put_faults c.put.new.self) (plain_puts c.args.puts.now) fault = record {
      front = front;
      put = seen file;
      rest = plain_puts (drop (i + 1) c.args.puts.now);
      puts_are = map_parted seen c.args.puts.now i file c.puts-test.true c.index-puts-at.is;
      files_are = put_faulted c.put.result fault (put_all old front) new (g.S.Shelf.put_faults c.args.shelf.now) (g.S.Shelf.put_faults c.puts.shelf) (g.S.Shelf.put_faults c.put.new.self) (seen file)
          inv.counts c.in_err-put.was
          (λ e. c.put.ensures.memory e ∙ inv.files_are)
          c.put.ensures.failed
          (λ e. let part = rw (c.as_str.ensures.value, c.as_slice.ensures) at (c.put.ensures.in_part e) in subst (λ (fs : Option Files). IsPutInPart fs new (string_bytes file.name) file.bytes) inv.files_are part);
    } in
    search (rules, h)

pub puts-preserved : goal.puts-preserved
puts-preserved g c =
    let old = g.S.Shelf.files c.args.shelf.now in
    let file = c.index-puts-at.result in
    let i = c.puts.at in
    let inv = c.puts.invariant in
    let grown = map_more seen c.args.puts.now i file c.puts-test.true c.index-puts-at.is in
    let put = rw (c.as_str.ensures.value, c.as_slice.ensures) at c.in_ok-put.ensures.ok in
    record {
      files_are = put ∙ (ap (λ (fs : Option Files). put_file fs (string_bytes file.name) file.bytes) inv.files_are
          ∙ (sym (put_all-more old (plain_puts (take i c.args.puts.now)) (seen file)) ∙ ap (put_all old) (sym grown)));
      counts = omega (arith, inv.counts, c.in_ok-put.ensures.counts);
      reads = c.in_ok-put.ensures.reads ∙ inv.reads;
      reads_at = λ n. c.in_ok-put.ensures.reads_at n ∙ inv.reads_at n;
    }
