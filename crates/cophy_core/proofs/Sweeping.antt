-- The certificates of a sweep, and the files that they are put into.
use Rattle.std.proofs.Common.{◌≡◌, ℕ, suc, ◌+◌, List, [], ◌∷◌, ◌++◌, length, map, refl, subst, arith}
use Rattle.std.specs.Prelude.{decimal}
use Rattle.adv_base.specs.Settings.{TheSetting}
use Rattle.bip_model.specs.declared.point.Point.{Point}
use Rattle.cophy_core.specs.Endings.{Put}
use Rattle.cophy_core.specs.commands.Sweep.{names_from, IsCertificateFile, AreCertificates}

-- they have the names of as many points
pub names_are : (setting : TheSetting) (prefix : List ℕ) (number : ℕ) (points : List Point) (puts : List Put) → AreCertificates setting prefix number points puts → map (λ put. put.name) puts ≡ names_from prefix number (length points)
names_are setting prefix number [] [] are = refl
names_are setting prefix number [] (put ∷ puts) are = absurd are
names_are setting prefix number (point ∷ points) [] are = absurd are
names_are setting prefix number (point ∷ points) (put ∷ puts) are =
    let first = are.0.name_is in
    let rest = names_are setting prefix (suc number) points puts are.1 in
    cc

-- one point more
pub AreCertificates-more : (setting : TheSetting) (prefix : List ℕ) (number : ℕ) (points : List Point) (puts : List Put) (point : Point) (put : Put) → AreCertificates setting prefix number points puts →
    IsCertificateFile setting point (prefix ++ decimal (number + length points)) put → AreCertificates setting prefix number (points ++ point ∷ []) (puts ++ put ∷ [])
AreCertificates-more setting prefix number [] [] point put are is =
    let here : number + 0 ≡ number = omega arith in
    (subst (λ (n : ℕ). IsCertificateFile setting point (prefix ++ decimal n) put) here is, tt)
AreCertificates-more setting prefix number [] (q ∷ puts) point put are is = absurd are
AreCertificates-more setting prefix number (p ∷ points) [] point put are is = absurd are
AreCertificates-more setting prefix number (p ∷ points) (q ∷ puts) point put are is =
    let here : number + suc (length points) ≡ suc number + length points = omega arith in
    (are.0, AreCertificates-more setting prefix (suc number) points puts point put are.1 (subst (λ (n : ℕ). IsCertificateFile setting point (prefix ++ decimal n) put) here is))
