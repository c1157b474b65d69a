use Rattle.std.proofs.Common.{◌≡◌, ◌∙◌, ℕ, ◌+◌, ◌++◌, ◌∷◌, [], List, length, take, refl, sym, ap, subst, arith}
use Rattle.std.specs.Prelude.{decimal, string_bytes}
use Rattle.std.proofs.lemmas.List.{take_more, map-append, length-take-le, take_all}
use Rattle.std.proofs.lemmas.Option.{slice_get_read}
use Rattle.adv_base.specs.Settings.{the_setting}
use Rattle.bip_model.specs.declared.point.Point.{Point}
use Rattle.cophy_core.specs.Endings.{Put, plain_puts}
use Rattle.cophy_core.specs.commands.Sweep.{AreCertificates}
use Rattle.cophy_core.proofs.Sweeping.{AreCertificates-more}
use Rattle.cophy_core.proofs.commands.sweep.certificates.Goals as goal

pub certificate_put-requires-clause-limits : goal.certificate_put-requires-clause-limits
certificate_put-requires-clause-limits c =
    let points = c.args.points.now in
    c.requires.limits c.points.at c.index-points-at.result (slice_get_read points (length points) c.points.at c.index-points-at.result refl c.points-test.true c.index-points-at.is)

pub points-preserved : goal.points-preserved
points-preserved c =
    let setting = the_setting c.args.setting.now in
    let points = c.args.points.now in
    let prefix = c.args.prefix.now in
    let at = c.points.at in
    let point = c.index-points-at.result in
    let put = c.in_ok-put.put in
    let own = c.in_ok-put.ensures in
    let plain : Put = record { name = string_bytes put.name; bytes = put.bytes } in
    let before = c.points.items.items in
    let grown : take (at + 1) points ≡ take at points ++ point ∷ [] = take_more points at point c.points-test.true ∙ ap (λ (p : Point). take at points ++ p ∷ []) (sym c.index-points-at.is) in
    let puts : plain_puts (before ++ put ∷ []) ≡ plain_puts before ++ plain ∷ [] = map-append _ before (put ∷ []) in
    let count = length-take-le at points (omega (arith, c.points-test.true)) in
    let number : at + 1 ≡ 1 + length (take at points) = omega (arith, count) in
    let more = AreCertificates-more setting prefix 1 (take at points) (plain_puts before) point plain c.points.invariant
    (record { name_is = own.name_is ∙ ap (λ (n : ℕ). prefix ++ decimal n) number; certificate_is = record { programme = c.args.programme.now; stands = c.requires.stands; is_text = own.text_is } }) in
    rw (c.in_ok-push.ensures.items, grown, puts) more

pub returns : goal.returns
returns c =
    let setting = the_setting c.args.setting.now in
    let points = c.args.points.now in
    let whole = take_all c.points.at points c.points-test.false in
    subst (λ (ps : List Point). AreCertificates setting c.args.prefix.now 1 ps (plain_puts c.points.items.items)) whole c.points.invariant
