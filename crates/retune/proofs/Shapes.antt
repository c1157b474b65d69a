-- What has limits is the same where its numbers are.
use Rattle.std.proofs.Common.{◌≡◌, ℕ, List}
use denote.Struct.Props.{props}
use mathlib.Core.HLevel.{is_prop→PathP}
use Rattle.adv_base.specs.declared.catalogue.index.IndexShape.{IndexShape}
use Rattle.adv_base.specs.Limits.Numbers.{KeyLimits}

keys_prop : (keys : List ℕ) → IsProp (KeyLimits keys)
keys_prop keys = hlevel props

pub same_shape : (x y : IndexShape) → x.table ≡ y.table → x.keys ≡ y.keys → x.unique ≡ y.unique → x.clustered ≡ y.clustered → x ≡ y
same_shape x y table keys unique clustered =
    let limits = is_prop→PathP (λ i. KeyLimits (keys i)) (λ i. keys_prop (keys i)) x.limits y.limits in
    λ i. record { table = table i; keys = keys i; unique = unique i; clustered = clustered i; limits = limits i }
