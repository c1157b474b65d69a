use Rattle.std.proofs.Common.{◌≡◌, [], length, refl, ap, ◌∙◌}
use Rattle.binder.specs.Needed.{slots_from}
use Rattle.binder.specs.View.{names_of, plain_tests}
use Rattle.binder.proofs.Limited.{change-limits, slots_from-length}
use Rattle.binder.proofs.changes.change_block.Goals as goal

pub invariant_of-result : goal.invariant_of-result
invariant_of-result c =
    let names = names_of c.args.scope.now in
    let made = c.in_ok-slots.ensures in
    let slots : c.in_ok-slots.slots ≡ slots_from names.cat [] c.args.mentions.now 0 names.sources = cc in
    record {
      limits = rw (slots, c.new.ensures)
          (change-limits names c.args.conditions.now (plain_tests c.args.tests) c.args.tests.preds c.args.tests.edges c.args.mentions.now
          c.requires.one c.requires.limits.most c.requires.bound (record { preds_are = refl; edges_are = refl }));
    }

pub returns-clause-limits : goal.returns-clause-limits
returns-clause-limits c =
    let names = names_of c.args.scope.now in
    let made = c.in_ok-slots.ensures in
    let slots : c.in_ok-slots.slots ≡ slots_from names.cat [] c.args.mentions.now 0 names.sources = cc in
    record {
      one_slot = ap length slots ∙ slots_from-length names.cat [] c.args.mentions.now 0 names.sources ∙ c.requires.one;
      reads_table = refl;
    }
