use Rattle.std.proofs.Common.{ap, sym, ◌∙◌, arith, length}
use Rattle.adv_base.specs.declared.catalogue.column.Column.{Column}
use Rattle.binder.specs.Lookups.{find_in, goes_by}
use Rattle.binder.proofs.Positions.{position_from-past, position_from-earlier}
use Rattle.binder.proofs.directory.index_columns.Goals as goal

pub loop-number-init : goal.loop-number-init
loop-number-init c = λ word. c.new-index.ensures word ∙ sym (position_from-past (λ (x : Column). goes_by word x.name) (length c.args.columns.now) c.args.columns.now (omega arith))

pub loop-number-preserved : goal.loop-number-preserved
loop-number-preserved c = λ word.
    position_from-earlier (λ (x : Column). goes_by word x.name) c.args.columns.now c.loop-number.number c.index-columns-number.result
    (goes_by word c.as_slice.result.now) (find_in c.loop-number.index word) (find_in c.put.new.self word) (omega arith) (omega arith)
    c.index-columns-number.is (ap (goes_by word) c.as_slice.ensures ∙ ap (λ (x : Column). goes_by word x.name) (sym c.index-columns-number.is)) (c.loop-number.invariant word) (c.in_ok-put.ensures word)
