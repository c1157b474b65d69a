use Rattle.std.proofs.Common.{◌≡◌, ℕ, ◌+◌, ◌<◌, ◌≤◌, true, false, List, ◌++◌, Some, length, replicate, slice_get}
use Rattle.cophy_core.specs.Confs.{lines_of, Rise, last_of, flags_with}
use Rattle.cophy_core.proofs.conf.read_conf.Given as goal

-- lines of rising numbers were read, whose flags and no others are on
abbrev pub invariant-lines : goal.invariant-lines
invariant-lines l = (numbers : List ℕ) × record {
  text : l.bytes ≡ lines_of numbers ++ l.rest;
  rise : Rise l.count 0 numbers;
  last_is : l.last ≡ last_of 0 numbers;
  line_is : l.line ≡ length numbers + 1;
  few : length numbers ≤ l.last;
  within : l.last ≤ l.count;
  flags : l.on ≡ flags_with (replicate 256 false) numbers;
  size : length l.on ≡ 256;
  below : (a : ℕ) → slice_get l.on a ≡ Some true → a < l.last;
}

abbrev pub decreases-lines : goal.decreases-lines
decreases-lines l = length l.rest
