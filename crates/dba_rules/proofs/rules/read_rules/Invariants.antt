use Rattle.std.proofs.Common.{◌≡◌, ◌+◌, ◌≤◌, length}
use Rattle.adv_base.specs.Settings.{the_setting}
use Rattle.dba_rules.specs.Rules.{behind_text, root_of}
use Rattle.dba_rules.proofs.rules.read_rules.Given as goal

-- the rest of the text makes of the root so far what the text makes
abbrev pub invariant-lines : goal.invariant-lines
invariant-lines l = record {
  text : behind_text (the_setting l.setting) l.number l.root l.rest ≡ root_of (the_setting l.setting) l.bytes;
  count : l.number + length l.rest ≤ length l.bytes + 1;
}

abbrev pub decreases-lines : goal.decreases-lines
decreases-lines l = length l.rest
