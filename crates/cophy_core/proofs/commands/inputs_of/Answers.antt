use Rattle.std.proofs.Common.{rules}
use Rattle.command_line.specs.CommandLine.{plain_command}
use Rattle.cophy_core.specs.Files.{counts, input_file}
use Rattle.cophy_core.specs.Reading.{IsUnreadFile, StopsAtFiles}
use Rattle.cophy_core.proofs.Works.{whole_stops, scanning_stops}
use Rattle.cophy_core.proofs.commands.inputs_of.Goals as goal

pub returns-in_err-whole-clause-stop : goal.returns-in_err-whole-clause-stop
returns-in_err-whole-clause-stop g c =
    let files = g.S.Shelf.files c.args.shelf.now in
    let start = counts (g.S.Shelf.read_faults c.args.shelf.now) (g.S.Shelf.read_faults_at c.args.shelf.now) in
    let after = counts (g.S.Shelf.read_faults c.whole_of.new.shelf) (g.S.Shelf.read_faults_at c.whole_of.new.shelf) in
    let h : StopsAtFiles (plain_command c.args.command.now) files start after c.in_err-whole.field-0.0 =
    whole_stops (plain_command c.args.command.now) files start after c.in_err-whole.field-0.0 c.in_err-whole.ensures.stop in
    search (rules, h)

pub returns-in_err-scanner-in-Some-clause-stop : goal.returns-in_err-scanner-in-Some-clause-stop
returns-in_err-scanner-in-Some-clause-stop g c =
    let command = plain_command c.args.command.now in
    let files = g.S.Shelf.files c.args.shelf.now in
    let start = counts (g.S.Shelf.read_faults c.args.shelf.now) (g.S.Shelf.read_faults_at c.args.shelf.now) in
    let before = counts (g.S.Shelf.read_faults c.whole_of.new.shelf) (g.S.Shelf.read_faults_at c.whole_of.new.shelf) in
    let after = counts (g.S.Shelf.read_faults c.scan_file.new.shelf) (g.S.Shelf.read_faults_at c.scan_file.new.shelf) in
    let file = c.in-Some.file in
    let last = input_file file.role file.name.now file.most in
    let stop = c.in_err-scanner-in-Some.field-0.0 in
    let why : IsUnreadFile files before after last stop = rw c.in_ok-whole.ensures.files at c.in_err-scanner-in-Some.ensures.stop in
    let h : StopsAtFiles command files start after stop =
    scanning_stops files command last c.in_ok-whole.whole start before after stop c.in-Some.ensures c.in_ok-whole.ensures.whole c.in_ok-whole.ensures.counts c.in_ok-whole.ensures.counts_at why in
    search (rules, h)
