use Rattle.adv_shelf.proofs.Entries.{found, passed, none_left}
use Rattle.adv_shelf.proofs.mem_shelf.find_file.Goals as goal

pub returns-then-eq : goal.returns-then-eq
returns-then-eq c =
    found _ _ _ _ _ _ _ _ c.loop-key.invariant c.in-Some.ensures.steps c.as_bytes.ensures.value c.as_slice.ensures c.as_slice-then-eq.ensures c.if-eq.ensures

pub loop-key-preserved : goal.loop-key-preserved
loop-key-preserved c =
    passed _ _ _ _ _ _ _ c.loop-key.invariant c.in-Some.ensures.steps c.as_bytes.ensures.value c.as_slice.ensures c.if-eq.ensures

pub returns : goal.returns
returns c = none_left _ _ _ c.loop-key.invariant c.in-None.ensures.steps.0
