use Rattle.std.proofs.Common.{◌≡◌, ◌++◌, ℕ, List, Result, Ok, Err, OnOk, codes}
use Rattle.std.specs.Prelude.{if◌then◌else◌}
use Rattle.std.specs.Result.{is_ok}
use Rattle.report.specs.Words.{numbered}
use Rattle.report.proofs.TwoParts.{in_two_parts}
use Rattle.report.proofs.checked.push_clash.Goals as goal

-- what was added where nothing failed
added : {T E : Type 0} (r : Result T E) (new more old : List ℕ) → new ≡ (if is_ok r then more else old) → OnOk r (new ≡ more)
added (Ok x) new more old h = h
added (Err x) new more old h = tt

pub returns : goal.returns
returns c =
    let mid = c.push_both.new.out.items in
    in_two_parts c.extend_from_slice.result c.extend_from_slice.new.self.items mid c.args.out.now.items
    (numbered (codes "candidates ") c.args.first ++ numbered (codes " and ") c.args.second) (codes " clash") c.in_ok-push_both.ensures
    (added c.extend_from_slice.result c.extend_from_slice.new.self.items (mid ++ codes " clash") mid c.extend_from_slice.ensures.items)
