use Rattle.std.proofs.Common.{◌≡◌, ℕ, ◌<◌, ◌||◌, false, length, take, slice_index_or}
use Rattle.std.specs.List.{list_any}
use Rattle.binder.specs.Needed.{is_at}
use Rattle.binder.proofs.needed.flags.Given as goal

-- the flags tell what the mentions so far mention
abbrev pub invariant-loop-mention : goal.invariant-loop-mention
invariant-loop-mention l = record {
  len : length l.flags.items ≡ l.count;
  each : (c : ℕ) → c < l.count → slice_index_or l.flags.items c false ≡ (l.whole || list_any (is_at l.slot c) (take l.mention-index l.mentions));
}
