use Rattle.std.proofs.Common.{refl, ℕ}
use Rattle.std.specs.Global.{Vec}
use Rattle.binder.proofs.Entries.{found-put}
use Rattle.binder.proofs.index.NameIndex.put.Goals as goal

pub returns : goal.returns
returns c = λ word. let e = c.in_ok-insert.ensures.entries in rw (e, found-put (λ (key : Vec ℕ). key.items) word c.in_ok-folded.field-0 c.args.number c.args.self.now.numbers.entries, c.in_ok-folded.ensures) refl
