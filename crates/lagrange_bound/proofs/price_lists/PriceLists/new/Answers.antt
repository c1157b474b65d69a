use Rattle.std.proofs.Common.{◌∙◌, fold, ap}
use Rattle.lagrange_bound.specs.inner.SlotBySlot.{no_lists, with_part}
use Rattle.lagrange_bound.proofs.MadeLists.{prices-made}
use Rattle.lagrange_bound.proofs.price_lists.PriceLists.new.Goals as goal

pub returns : goal.returns
returns c = prices-made c.args.programme.now.parts c.push_parts.new.lists (c.in_ok-push_parts.ensures ∙ ap (fold with_part no_lists) c.as_slice.ensures)
