use Rattle.std.proofs.Common.{◌<◌, ◌||◌, ℕ, Bool, cond, List, [], ◌∷◌, ◌++◌, length, false, sym, ap, ◌∙◌, arith}
use Rattle.std.specs.List.{list_any}
use Rattle.std.proofs.lemmas.List.{get_or_read}
use Rattle.binder.specs.Needed.{is_at}
use Rattle.binder.proofs.Ranges.{filter_more}
use Rattle.binder.proofs.needed.needed_columns.Goals as goal

pub loop-column-preserved : goal.loop-column-preserved
loop-column-preserved c =
    let n = c.loop-column.column in
    let p = λ (k : ℕ). c.args.whole || list_any (is_at c.args.slot k) c.args.mentions.now in
    let lt : n < length c.in_ok-flags.flags.items = let len = c.in_ok-flags.ensures.len in omega arith in
    let flag = get_or_read c.in_ok-flags.flags.items n c.index.result.now lt c.index.ensures false ∙ c.in_ok-flags.ensures.each n c.loop-column-test.true in
    c.in_ok-columns.ensures ∙ ap (λ (t : Bool). cond t (c.loop-column.columns ++ n ∷ []) c.loop-column.columns) flag
    ∙ ap (λ (xs : List ℕ). cond (p n) (xs ++ n ∷ []) xs) c.loop-column.invariant ∙ sym (filter_more p n)
