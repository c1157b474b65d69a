use Rattle.std.proofs.Common.{ap, ◌∙◌}
use Rattle.std.specs.FinMap.{get}
use Rattle.adv_shelf.specs.Memory.{ShelfState}
use Rattle.adv_shelf.proofs.mem_shelf.MemShelf.file.Goals as goal

pub returns : goal.returns
returns c = c.find_file.ensures ∙ ap (λ (s : ShelfState). get s.files c.args.name.now) c.self.view_is
