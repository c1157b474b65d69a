use Rattle.std.proofs.Common.{◌∙◌, ◌∷◌, ◌++◌, [], refl, ap}
use Rattle.gap_checker.proofs.Begun.{starts-fit, starts-taken}
use Rattle.gap_checker.proofs.tree_reader.TreeReader.new.Goals as goal

pub returns-clause-fits : goal.returns-clause-fits
returns-clause-fits c = starts-fit c.args.head.now _ c.args.judge.now.root.now c.requires refl refl (c.in_ok-put.ensures ∙ ap (λ xs. xs ++ c.args.judge.now.root.now ∷ []) c.new-starts.ensures.items) c.in_ok-with_capacity.ensures.items

pub returns-clause-taken : goal.returns-clause-taken
returns-clause-taken c = starts-taken c.args.judge.now c.args.head.now _ refl refl (c.in_ok-put.ensures ∙ ap (λ xs. xs ++ c.args.judge.now.root.now ∷ []) c.new-starts.ensures.items) c.in_ok-with_capacity.ensures.items
