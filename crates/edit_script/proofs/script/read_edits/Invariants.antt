use Rattle.std.proofs.Common.{◌≡◌, ◌++◌, length, map, count_by}
use Rattle.edit_script.specs.Scripts.{the_edit, script_text, AreEdits, is_advise}
use Rattle.edit_script.proofs.script.read_edits.Given as goal

-- the bytes are the text of the edits so far and the rest
abbrev pub invariant-lines : goal.invariant-lines
invariant-lines l = record {
  text : l.bytes ≡ script_text (map the_edit l.edits.items) ++ l.rest;
  limits : AreEdits (map the_edit l.edits.items);
  count : l.advices ≡ count_by is_advise (map the_edit l.edits.items);
}

abbrev pub decreases-lines : goal.decreases-lines
decreases-lines l = length l.rest
