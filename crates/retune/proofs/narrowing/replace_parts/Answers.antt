use Rattle.std.proofs.Common.{◌∙◌, All, sym, subst}
use Rattle.retune.proofs.Gone.{IsOther, left-others}
use Rattle.retune.proofs.narrowing.replace_parts.Goals as goal

pub put_or_renumber-requires-clause-stays : goal.put_or_renumber-requires-clause-stays
put_or_renumber-requires-clause-stays c = subst (All (IsOther c.args.gone)) (sym (c.as_mut_slice.ensures.value ∙ c.remove_part.ensures)) (left-others c.args.gone c.parts.inside.items.items)
