use Rattle.std.proofs.Common.{◌≡◌, ◌+◌, ◌≤◌, ◌++◌, ◌∷◌, [], List, map, length, count_by, ap, ◌∙◌, arith}
use Rattle.std.proofs.lemmas.List.{length-map, map-append}
use Rattle.edit_script.specs.Scripts.{TheEdit, the_edit, is_advise}
use Rattle.edit_script.proofs.Texts.{text-more, edits-more, count-more, one_if}
use Rattle.edit_script.proofs.script.read_edits.Goals as goal

pub lines-preserved : goal.lines-preserved
lines-preserved c =
    let edit = the_edit c.in-Some.read.0 in
    let before : List TheEdit = map the_edit c.lines.edits.items in
    let begins = c.in-Some.ensures in
    let so_far = c.lines.invariant in
    let all : map the_edit c.push.new.self.items ≡ before ++ edit ∷ [] = ap (map the_edit) c.in_ok-push.ensures.items ∙ map-append the_edit c.lines.edits.items (c.in-Some.read.0 ∷ []) in
    let once : c.advices_in-advices.result ≡ one_if edit = c.advices_in-advices.ensures in
    let few : length before + 1 ≤ 1000 = omega (arith, length-map c.lines.edits.items the_edit, so_far.limits.lines) in
    let seldom : count_by is_advise before + one_if edit ≤ 16 = omega (arith, so_far.count, once) in
    rw all
    (record {
      text = text-more c.args.bytes.now c.lines.rest.now c.in-Some.read.1.now before edit so_far.text begins.text;
      limits = edits-more before edit so_far.limits begins.is few seldom;
      count = omega (arith, so_far.count, once, count-more before edit);
    })
