use Rattle.std.proofs.Common.{◌∙◌, Bool, true, false, ◌∷◌, [], ap, subst}
use Rattle.std.proofs.lemmas.Result.{on_ok_weaker, IfErr-weaker}
use Rattle.gap_checker.specs.declared.fault.AtFault.TheVariants as at_faults
use Rattle.gap_checker.specs.inner.Readings.{Extends, line_number}
use Rattle.gap_checker.proofs.Reading.{takes-bytes, takes-both, fault-later, long-breaks}
use Rattle.gap_checker.proofs.tree_reader.TreeReader.end_line.Goals as goal

pub returns-then-not-fits-clause-fault : goal.returns-then-not-fits-clause-fault
returns-then-not-fits-clause-fault c =
    let long : Extends false c.args.self.now c.args.bytes.now c.extend.new.self = subst (λ (b : Bool). Extends b c.args.self.now c.args.bytes.now c.extend.new.self) c.if-not-fits.true c.in_ok-fits.ensures in
    long-breaks c.args.judge.now c.args.head.now c.args.self.now c.args.bytes.now (10 ∷ []) _ c.requires.fits c.requires.judge c.requires.plain long.1 (ap at_faults.Malformed (c.number.ensures ∙ ap (line_number c.args.head.now) long.0))

pub take_line-requires-clause-fits : goal.take_line-requires-clause-fits
take_line-requires-clause-fits c =
    let more : Extends true c.args.self.now c.args.bytes.now c.extend.new.self = subst (λ (b : Bool). Extends b c.args.self.now c.args.bytes.now c.extend.new.self) c.if-not-fits.false c.in_ok-fits.ensures in
    (takes-bytes c.args.judge.now c.args.head.now c.args.self.now c.extend.new.self c.args.bytes.now c.requires.fits c.requires.plain more).fits

pub returns-clause-taken : goal.returns-clause-taken
returns-clause-taken c =
    let more : Extends true c.args.self.now c.args.bytes.now c.extend.new.self = subst (λ (b : Bool). Extends b c.args.self.now c.args.bytes.now c.extend.new.self) c.if-not-fits.false c.in_ok-fits.ensures in
    let first = takes-bytes c.args.judge.now c.args.head.now c.args.self.now c.extend.new.self c.args.bytes.now c.requires.fits c.requires.plain more in
    on_ok_weaker c.take_line.result (λ next. takes-both c.args.judge.now c.args.head.now c.args.self.now c.extend.new.self c.take_line.new.self c.args.bytes.now (10 ∷ []) first next) c.take_line.ensures.taken

pub returns-clause-fault : goal.returns-clause-fault
returns-clause-fault c =
    let more : Extends true c.args.self.now c.args.bytes.now c.extend.new.self = subst (λ (b : Bool). Extends b c.args.self.now c.args.bytes.now c.extend.new.self) c.if-not-fits.false c.in_ok-fits.ensures in
    let first = takes-bytes c.args.judge.now c.args.head.now c.args.self.now c.extend.new.self c.args.bytes.now c.requires.fits c.requires.plain more in
    IfErr-weaker c.take_line.result _ _ (λ fault h. fault-later c.args.judge.now c.args.head.now c.args.self.now c.extend.new.self c.args.bytes.now (10 ∷ []) fault first h) c.take_line.ensures.fault
