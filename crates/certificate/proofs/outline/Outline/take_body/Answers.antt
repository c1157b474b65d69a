use Rattle.std.proofs.Common.{◌≡◌, ℕ, List, subst, arith}
use Rattle.std.specs.Prelude.{IfOk}
use Rattle.std.proofs.lemmas.Bool.Decides.{nat_tests}
use Rattle.bip_model.specs.declared.answer.Node.{Node}
use Rattle.certificate.specs.inner.Outlines.{with_tree}
use Rattle.certificate.specs.inner.Steps.{Takes, BodyStep}
use Rattle.certificate.proofs.outline.Outline.take_body.Goals as goal

pub returns-then-self-gt0-2 : goal.returns-then-self-gt0-2
returns-then-self-gt0-2 c =
    let none : 0 ≡ c.args.self.now.entries_left = grind (arith, nat_tests) in
    subst (λ (n : ℕ). IfOk c.take_set.result (λ taken. (tree : List Node) → Takes taken (BodyStep n c.args.self.now.sets_left (with_tree c.args.self.now tree) c.args.line.now) c.take_set.new.self tree)) none c.take_set.ensures

pub returns-else-self-gt0-2 : goal.returns-else-self-gt0-2
returns-else-self-gt0-2 c = λ tree.
    let no_entries : 0 ≡ c.args.self.now.entries_left = grind (arith, nat_tests) in
    let no_sets : 0 ≡ c.args.self.now.sets_left = grind (arith, nat_tests) in
    subst (λ (n : ℕ). Takes c.take_tree.result (BodyStep n c.args.self.now.sets_left (with_tree c.args.self.now tree) c.args.line.now) c.take_tree.new.self tree) no_entries
    (subst (λ (n : ℕ). Takes c.take_tree.result (BodyStep 0 n (with_tree c.args.self.now tree) c.args.line.now) c.take_tree.new.self tree) no_sets (c.take_tree.ensures tree))
