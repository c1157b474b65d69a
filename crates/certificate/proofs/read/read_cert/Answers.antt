use Rattle.std.proofs.Common.{◌≡◌, ◌∙◌, Bool, true, false, [], ◌∷◌, ◌++◌, length, sym, ap, subst, refl, arith}
use Rattle.std.proofs.lemmas.Bool.Decides.{nat_tests}
use Rattle.certificate.specs.Certificates.{IsCertificate}
use Rattle.certificate.specs.inner.Drafts.{DraftFits}
use Rattle.certificate.specs.inner.Outlines.{Draft, with_tree}
use Rattle.certificate.specs.inner.Steps.{start, Reads}
use Rattle.certificate.proofs.ReadLaws.{start-fits, cert-is}
use Rattle.certificate.proofs.Breaks.{breaks-at, breaks-behind, reads-on}
use Rattle.certificate.proofs.StepLaws.{outline-fits}
use Rattle.certificate.proofs.read.read_cert.Goals as goal

pub lines-init : goal.lines-init
lines-init c =
    let none : with_tree c.new-outline.result c.new-tree.result ≡ with_tree c.new-outline.result [] = ap (with_tree c.new-outline.result) c.new-tree.ensures in
    let begun : with_tree c.new-outline.result c.new-tree.result ≡ start = none ∙ c.new-outline.ensures in (
      [],
      record {
        parts = refl;
        whole = tt;
        run = sym begun;
        fits = subst DraftFits (sym begun) start-fits;
        number_is = refl;
        few = omega arith;
      },
    )

pub take_line-requires : goal.take_line-requires
take_line-requires c = outline-fits c.lines.outline c.lines.tree c.lines.invariant.1.fits

pub returns-then-not-fits-clause-fault : goal.returns-then-not-fits-clause-fault
returns-then-not-fits-clause-fault c =
    let d : Draft = with_tree c.lines.outline c.lines.tree in
    let none : Reads false d c.in-Some.line.now (with_tree c.take_line.new.outline c.take_line.new.tree) =
    subst (λ (b : Bool). Reads b d c.in-Some.line.now (with_tree c.take_line.new.outline c.take_line.new.tree)) c.if-not-fits.true c.in-Ok.ensures in
    breaks-at c.args.bytes.now c.lines.rest.now c.in-Some.line.now c.in-Some.more.now d c.lines.number c.lines.invariant.0 c.lines.invariant.1 c.in-Some.ensures none

pub lines-preserved : goal.lines-preserved
lines-preserved c =
    let d : Draft = with_tree c.lines.outline c.lines.tree in
    let e : Draft = with_tree c.take_line.new.outline c.take_line.new.tree in
    let step : Reads true d c.in-Some.line.now e =
    subst (λ (b : Bool). Reads b d c.in-Some.line.now e) c.if-not-fits.false c.in-Ok.ensures in (
      c.lines.invariant.0 ++ c.in-Some.line.now ∷ [],
      reads-on c.args.bytes.now c.lines.rest.now c.in-Some.line.now c.in-Some.more.now d e c.lines.number c.lines.invariant.0 c.lines.invariant.1 c.in-Some.ensures step,
    )

pub returns-then-not-is_empty-clause-fault : goal.returns-then-not-is_empty-clause-fault
returns-then-not-is_empty-clause-fault c =
    breaks-behind c.args.bytes.now c.lines.rest.now (with_tree c.lines.outline c.lines.tree) c.lines.number c.lines.invariant.0 c.lines.invariant.1 c.in_default.ensures
    (λ e done. let empty : length c.lines.rest.now ≡ 0 = ap length e in grind (arith, nat_tests))

pub returns-then-not-is_done-clause-fault : goal.returns-then-not-is_done-clause-fault
returns-then-not-is_done-clause-fault c =
    breaks-behind c.args.bytes.now c.lines.rest.now (with_tree c.lines.outline c.lines.tree) c.lines.number c.lines.invariant.0 c.lines.invariant.1 c.in_default.ensures
    (λ empty. c.is_done.ensures.not c.if-not-is_done.true)

pub returns-clause-found : goal.returns-clause-found
returns-clause-found c =
    let empty : length c.lines.rest.now ≡ 0 = grind (arith, nat_tests) in
    let read = c.lines.invariant.1 in
    subst (IsCertificate c.args.bytes.now) (sym c.into_cert.ensures)
    (cert-is c.args.bytes.now c.lines.rest.now c.lines.invariant.0 (with_tree c.lines.outline c.lines.tree) read.parts empty read.run (c.is_done.ensures.done c.if-not-is_done.false))
