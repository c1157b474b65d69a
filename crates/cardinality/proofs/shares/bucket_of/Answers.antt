use Rattle.std.proofs.Common.{◌≡◌, ◌-◌, ◌<◌, ◌≤◌, length, rules, arith}
use Rattle.std.specs.Prelude.{int_le}
use Rattle.std.proofs.lemmas.List.Sorted.{IsPartitionPoint-from_clause}
use Rattle.adv_base.specs.Shares.{bucket}
use Rattle.cardinality.proofs.Bisections.{is_partitioned, point-is}
use Rattle.cardinality.proofs.shares.bucket_of.Goals as goal

found : (c : goal.After-partition_point) → (1 ≤ c.partition_point.result) × (c.partition_point.result < length c.args.ends.now) ×
    (c.partition_point.result - 1 ≡ bucket c.args.ends.now c.args.value (length c.args.ends.now - 1))
found c =
    let point = IsPartitionPoint-from_clause (λ e. int_le e c.args.value) c.args.ends.now _ c.partition_point.ensures.partitioned
    (is_partitioned c.args.ends.now c.args.value c.requires.limits) (λ a r q k. search rules) in
    point-is c.args.ends.now c.args.value c.partition_point.result c.requires.above c.requires.below point c.partition_point.ensures.bound

pub overflow_sub-result : goal.overflow_sub-result
overflow_sub-result c = (found c).0

pub returns-clause-exact : goal.returns-clause-exact
returns-clause-exact c = (found c).2

pub returns-clause-inner : goal.returns-clause-inner
returns-clause-inner c = let is = found c in omega (arith, is.0, is.1)
