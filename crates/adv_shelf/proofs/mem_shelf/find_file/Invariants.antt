use Rattle.std.proofs.Common.{◌≡◌}
use Rattle.std.specs.VecDeque.Iter.{deque_iter_rest}
use Rattle.adv_shelf.proofs.Entries.{bytes_at}
use Rattle.adv_shelf.proofs.mem_shelf.find_file.Given as goal

abbrev pub invariant-loop-key : goal.invariant-loop-key
invariant-loop-key l = bytes_at l.name l.files.items ≡ bytes_at l.name (deque_iter_rest l.key-iterator)
