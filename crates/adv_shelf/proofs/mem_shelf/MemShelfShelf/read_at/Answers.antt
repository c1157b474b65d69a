use Rattle.std.proofs.Common.{ap, subst, sym, ◌∙◌}
use Rattle.std.specs.Option.{IsSomeAnd}
use Rattle.std.specs.FinMap.{get}
use Rattle.adv_shelf.specs.Memory.{ShelfState, IsDue, IsWholeRead}
use Rattle.adv_shelf.proofs.MemoryCalls.{read_of_file, read_of_none}
use Rattle.adv_shelf.proofs.mem_shelf.MemShelfShelf.read_at.Goals as goal

pub returns-in-Some-clause-fails : goal.returns-in-Some-clause-fails
returns-in-Some-clause-fails c = λ _.
    read_of_file _ _ _
    (λ due. c.if-count_call.ensures.due.1 (subst IsDue (sym (c.deref_mut.ensures.value ∙ ap (λ (s : ShelfState). s.failing) c.self.view_is)) due))
    (c.in-Some.ensures ∙ ap (λ (s : ShelfState). get s.files c.args.name.now) c.self.view_is)

pub returns-in-Some-clause-read : goal.returns-in-Some-clause-read
returns-in-Some-clause-read c = λ _.
    subst (λ o. IsSomeAnd o (λ file. IsWholeRead file c.args.from c.args.buf.now c.copy_from.result c.copy_from.new.buf))
    (c.in-Some.ensures ∙ ap (λ (s : ShelfState). get s.files c.args.name.now) c.self.view_is)
    c.copy_from.ensures

pub returns-in-None-clause-fails : goal.returns-in-None-clause-fails
returns-in-None-clause-fails c = λ _.
    read_of_none _ _ (c.in-None.ensures ∙ ap (λ (s : ShelfState). get s.files c.args.name.now) c.self.view_is)
