use Rattle.std.proofs.Common.{◌≡◌, ℕ, ◌<◌, false, length, get_or}
use Rattle.bip_model.specs.declared.fix.State.TheVariants.{Free}
use Rattle.bip_model.specs.Views as views
use Rattle.bip_model.proofs.fix.Fix.outside.Given as goal

abbrev pub invariant-loop-a : goal.invariant-loop-a
invariant-loop-a l = record { count : length l.on ≡ 256; done : (k : ℕ) → k < l.a → get_or l.on k false ≡ views.is_out (get_or l.self.state k Free) }
