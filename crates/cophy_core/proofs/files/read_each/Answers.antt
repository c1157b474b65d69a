use Rattle.std.proofs.Common.{◌+◌, take, drop, rules, sym, ◌∙◌, arith}
use Rattle.std.proofs.lemmas.Option.{get_or_from_slice_get}
use Rattle.cophy_core.specs.declared.files.FileUse.{FileUse}
use Rattle.cophy_core.specs.Files.{InputFile, counts, input_file, plain_uses, IsInput}
use Rattle.cophy_core.specs.Reading.{IsUnreadFile, StopsReading}
use Rattle.cophy_core.proofs.FilesRead.{AreInputs-more, first_stops}
use Rattle.cophy_core.proofs.Mapped.{map_more, map_parted}
use Rattle.cophy_core.proofs.files.read_each.Goals as goal

abbrev seen : FileUse → InputFile
seen file = input_file file.role file.name.now file.most

pub returns-in_err-bytes-clause-stop : goal.returns-in_err-bytes-clause-stop
returns-in_err-bytes-clause-stop g c =
    let old = g.S.Shelf.files c.args.shelf.now in
    let file = c.file_at-file.result in
    let i = c.files.at in
    let stop = c.in_err-bytes.field-0.0 in
    let start = counts (g.S.Shelf.read_faults c.args.shelf.now) (g.S.Shelf.read_faults_at c.args.shelf.now) in
    let before = counts (g.S.Shelf.read_faults c.files.shelf) (g.S.Shelf.read_faults_at c.files.shelf) in
    let after = counts (g.S.Shelf.read_faults c.read_file.new.shelf) (g.S.Shelf.read_faults_at c.read_file.new.shelf) in
    let parted = map_parted seen c.args.files.now i file c.files-test.true (sym (get_or_from_slice_get c.args.files.now i file file c.file_at-file.ensures)) in
    let why : IsUnreadFile old before after (seen file) stop = rw c.files.invariant.stay at c.in_err-bytes.ensures.stop in
    let h : StopsReading old (plain_uses c.args.files.now) start after stop =
    first_stops old (plain_uses c.args.files.now) (plain_uses (take i c.args.files.now)) (plain_uses (drop (i + 1) c.args.files.now)) (seen file) c.files.inputs.items
    start before after stop parted c.files.invariant.inputs_are c.files.invariant.counts c.files.invariant.counts_at why in
    search (rules, h)

pub files-preserved : goal.files-preserved
files-preserved g c =
    let old = g.S.Shelf.files c.args.shelf.now in
    let file = c.file_at-file.result in
    let i = c.files.at in
    let inv = c.files.invariant in
    let grown = map_more seen c.args.files.now i file c.files-test.true (sym (get_or_from_slice_get c.args.files.now i file file c.file_at-file.ensures)) in
    let whole : IsInput old (seen file) c.in_ok-bytes.bytes = rw inv.stay at c.in_ok-bytes.ensures.whole in
    record {
      inputs_are = rw (grown, c.in_ok-put.ensures) (AreInputs-more old (plain_uses (take i c.args.files.now)) c.files.inputs.items (seen file) c.in_ok-bytes.bytes inv.inputs_are whole);
      stay = c.in_ok-bytes.ensures.files ∙ inv.stay;
      counts = omega (arith, inv.counts, c.in_ok-bytes.ensures.counts);
      counts_at = λ n. omega (arith, inv.counts_at n, c.in_ok-bytes.ensures.counts_at n);
      puts = c.in_ok-bytes.ensures.puts ∙ inv.puts;
    }
