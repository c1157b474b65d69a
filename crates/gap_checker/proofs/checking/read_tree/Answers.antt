use Rattle.std.proofs.Common.{◌≡◌, ◌∙◌, ℕ, ◌<◌, ◌≤◌, List, [], ◌++◌, length, length-append, take, refl, sym, subst, arith}
use Rattle.std.proofs.lemmas.Grind.{common_steps}
use Rattle.std.proofs.lemmas.List.{length-take-le}
use Rattle.std.proofs.lemmas.Result.{err_from_is_err_and, on_ok_weaker, IfErr-weaker}
use Rattle.certificate.proofs.Heads.{heads-keep-limits}
use Rattle.gap_checker.specs.At.{IsAtFault}
use Rattle.gap_checker.specs.declared.fault.AtFault.TheVariants as at_faults
use Rattle.gap_checker.specs.inner.Judges.{setting_of, root_of}
use Rattle.gap_checker.specs.inner.Readings.{IsTreeFault}
use Rattle.gap_checker.proofs.Behind.{front-none, front-more, front-whole, front-on}
use Rattle.gap_checker.proofs.Told.{some-behind, tree-fault, unfailed, same_Err}
use Rattle.gap_checker.proofs.checking.read_tree.Goals as goal

pub returns-in_err-reader-clause-fault : goal.returns-in_err-reader-clause-fault
returns-in_err-reader-clause-fault g c =
    let judge = c.args.judge.now in
    let head = c.args.head.now in
    let p = err_from_is_err_and c.from_residual.result c.from_residual.ensures.1 in
    let b = some-behind (g.S.Shelf.files c.args.shelf.now) c.args.name.now head.tree_at in
    rw p.1 (b.0, b.1, subst (IsAtFault (setting_of judge) (root_of judge) head b.0) (sym p.2) tt)

pub reading-init : goal.reading-init
reading-init g c =
    record {
      read = ([], front-none (g.S.Shelf.files c.args.shelf.now) c.args.name.now c.args.head.now.tree_at, c.in_ok-reader.ensures.taken, omega arith);
      fits = c.in_ok-reader.ensures.fits;
      memo_is = c.requires.memo_is;
      most = omega (arith, c.in_ok-reader.ensures.left);
      files = refl;
      counts = omega arith;
      counts_at = λ n. omega arith;
      puts = refl;
    }

pub returns-in_err-count-clause-fault : goal.returns-in_err-count-clause-fault
returns-in_err-count-clause-fault g c =
    let judge = c.args.judge.now in
    let head = c.args.head.now in
    let p = err_from_is_err_and c.from_residual-in_err-count.result c.from_residual-in_err-count.ensures.1 in
    let b = some-behind (g.S.Shelf.files c.args.shelf.now) c.args.name.now head.tree_at in
    rw p.1 (b.0, b.1, subst (IsAtFault (setting_of judge) (root_of judge) head b.0) (sym p.2) tt)

pub returns-then-count-eq0-clause-whole : goal.returns-then-count-eq0-clause-whole
returns-then-count-eq0-clause-whole g c =
    let judge = c.args.judge.now in
    let inv = c.reading.invariant in
    let room : 0 < length c.reading.buf = grind (arith, common_steps) in
    let behind = front-whole (g.S.Shelf.files c.args.shelf.now) _ c.args.name.now inv.read.0 _ c.args.head.now.tree_at _ _ inv.files inv.read.3 (omega (arith, c.if-count-eq0.true)) inv.read.1 (c.in_ok-count.ensures.read room) in
    on_ok_weaker c.end.result (λ whole. (inv.read.0, behind, whole judge inv.read.0 c.requires.judge inv.read.2)) c.end.ensures.whole

pub returns-then-count-eq0-clause-failed : goal.returns-then-count-eq0-clause-failed
returns-then-count-eq0-clause-failed g c = λ is.
    let judge = c.args.judge.now in
    let inv = c.reading.invariant in
    absurd (unfailed (setting_of judge) (root_of judge) c.args.head.now inv.read.0 c.end.result (IfErr-weaker c.end.result _ _ (λ fault h. h judge inv.read.0 c.requires.judge inv.read.2) c.end.ensures.fault) is)

pub returns-then-count-eq0-clause-failed_at : goal.returns-then-count-eq0-clause-failed_at
returns-then-count-eq0-clause-failed_at g c = λ is.
    let judge = c.args.judge.now in
    let inv = c.reading.invariant in
    absurd (unfailed (setting_of judge) (root_of judge) c.args.head.now inv.read.0 c.end.result (IfErr-weaker c.end.result _ _ (λ fault h. h judge inv.read.0 c.requires.judge inv.read.2) c.end.ensures.fault) is)

pub returns-then-count-eq0-clause-fault : goal.returns-then-count-eq0-clause-fault
returns-then-count-eq0-clause-fault g c =
    let judge = c.args.judge.now in
    let inv = c.reading.invariant in
    let room : 0 < length c.reading.buf = grind (arith, common_steps) in
    let behind = front-whole (g.S.Shelf.files c.args.shelf.now) _ c.args.name.now inv.read.0 _ c.args.head.now.tree_at _ _ inv.files inv.read.3 (omega (arith, c.if-count-eq0.true)) inv.read.1 (c.in_ok-count.ensures.read room) in
    IfErr-weaker c.end.result _ _ (λ fault h. (inv.read.0, behind, tree-fault (setting_of judge) (root_of judge) c.args.head.now inv.read.0 fault (h judge inv.read.0 c.requires.judge inv.read.2))) c.end.ensures.fault

pub returns-in_err-take-clause-fault : goal.returns-in_err-take-clause-fault
returns-in_err-take-clause-fault g c =
    let judge = c.args.judge.now in
    let head = c.args.head.now in
    let files = g.S.Shelf.files c.args.shelf.now in
    let inv = c.reading.invariant in
    let p = err_from_is_err_and c.from_residual-in_err-take.result c.from_residual-in_err-take.ensures.1 in
    let same : p.0 ≡ c.in_err-take.field-0.0 = cc (p.2) in
    let fits : c.in_ok-count.count ≤ length c.read_at.new.buf = grind (arith, common_steps) in
    let room : 0 < length c.reading.buf = grind (arith, common_steps) in
    let piece : List ℕ = take c.in_ok-count.count c.read_at.new.buf in
    let front = front-more files _ c.args.name.now inv.read.0 c.read_at.new.buf head.tree_at _ _ inv.files inv.read.3 inv.read.1 (c.in_ok-count.ensures.read room) fits in
    let on = front-on files c.args.name.now head.tree_at (inv.read.0 ++ piece) front in
    let told = c.in_err-take.ensures.fault inv.read.0 on.0 inv.read.2 in
    rw p.1 (
      (inv.read.0 ++ piece) ++ on.0,
      on.1,
      subst (IsAtFault (setting_of judge) (root_of judge) head ((inv.read.0 ++ piece) ++ on.0)) (sym same)
          (tree-fault (setting_of judge) (root_of judge) head ((inv.read.0 ++ piece) ++ on.0) c.in_err-take.field-0.0 told),
    )

pub returns-in_err-take-clause-failed : goal.returns-in_err-take-clause-failed
returns-in_err-take-clause-failed g c = λ is.
    let judge = c.args.judge.now in
    let inv = c.reading.invariant in
    let p = err_from_is_err_and c.from_residual-in_err-take.result c.from_residual-in_err-take.ensures.1 in
    let same : p.0 ≡ c.in_err-take.field-0.0 = cc (p.2) in
    let failed : c.in_err-take.field-0.0 ≡ at_faults.Failed = sym same ∙ same_Err p.0 at_faults.Failed (sym p.1 ∙ is) in
    absurd (subst (IsTreeFault (setting_of judge) (root_of judge) c.args.head.now _) failed (c.in_err-take.ensures.fault inv.read.0 [] inv.read.2))

pub returns-in_err-take-clause-failed_at : goal.returns-in_err-take-clause-failed_at
returns-in_err-take-clause-failed_at g c = λ is.
    let judge = c.args.judge.now in
    let inv = c.reading.invariant in
    let p = err_from_is_err_and c.from_residual-in_err-take.result c.from_residual-in_err-take.ensures.1 in
    let same : p.0 ≡ c.in_err-take.field-0.0 = cc (p.2) in
    let failed : c.in_err-take.field-0.0 ≡ at_faults.Failed = sym same ∙ same_Err p.0 at_faults.Failed (sym p.1 ∙ is) in
    absurd (subst (IsTreeFault (setting_of judge) (root_of judge) c.args.head.now _) failed (c.in_err-take.ensures.fault inv.read.0 [] inv.read.2))

pub overflow_add-place : goal.overflow_add-place
overflow_add-place g c =
    let limits = heads-keep-limits c.requires.head.bytes c.args.head.now c.requires.head.is in
    let fits : c.in_ok-count.count ≤ length c.read_at.new.buf = grind (arith, common_steps) in
    let size = length-take-le c.in_ok-count.count c.read_at.new.buf fits in
    omega (arith, limits.tree_at, c.reading.invariant.most, c.in_ok-take.ensures.taken.left, size)

pub reading-preserved : goal.reading-preserved
reading-preserved g c =
    let head = c.args.head.now in
    let files = g.S.Shelf.files c.args.shelf.now in
    let inv = c.reading.invariant in
    let fits : c.in_ok-count.count ≤ length c.read_at.new.buf = grind (arith, common_steps) in
    let room : 0 < length c.reading.buf = grind (arith, common_steps) in
    let piece : List ℕ = take c.in_ok-count.count c.read_at.new.buf in
    let size : length piece ≡ c.in_ok-count.count = length-take-le c.in_ok-count.count c.read_at.new.buf fits in
    let front = front-more files _ c.args.name.now inv.read.0 c.read_at.new.buf head.tree_at _ _ inv.files inv.read.3 inv.read.1 (c.in_ok-count.ensures.read room) fits in
    let taken = c.in_ok-take.ensures.taken in
    record {
      read = (inv.read.0 ++ piece, front, taken.taken inv.read.0 inv.read.2, omega (arith, inv.read.3, length-append inv.read.0 piece, size));
      fits = taken.fits;
      memo_is = c.in_ok-take.ensures.memo;
      most = omega (arith, inv.most, taken.left, size);
      files = c.in_ok-count.ensures.files ∙ inv.files;
      counts = omega (arith, inv.counts, c.in_ok-count.ensures.counts);
      counts_at = λ n. omega (arith, inv.counts_at n, c.in_ok-count.ensures.counts_at n);
      puts = c.in_ok-count.ensures.puts ∙ inv.puts;
    }
