use Rattle.std.proofs.Common.{leb, leb-true, leb-false, arith, rules}
use Rattle.std.proofs.lemmas.List.Sorted.{IsPartitionPoint-from_clause, IsPartitionedBy-leb}
use Rattle.claim_store.proofs.Places.{ends_rise}
use Rattle.claim_store.proofs.ranges.ended_by.Goals as goal

pub returns-clause-before : goal.returns-clause-before
returns-clause-before c =
    let parted = IsPartitionedBy-leb (λ s. s.end) _ c.args.unit (ends_rise 0 _ c.requires) in
    let point = IsPartitionPoint-from_clause (λ s. leb s.end c.args.unit) _ _ c.partition_point.ensures.partitioned parted (λ a r q k. search rules) in
    λ k d below. leb-true _ _ (point.0 k d (omega arith) below)

pub returns-clause-behind : goal.returns-clause-behind
returns-clause-behind c =
    let parted = IsPartitionedBy-leb (λ s. s.end) _ c.args.unit (ends_rise 0 _ c.requires) in
    let point = IsPartitionPoint-from_clause (λ s. leb s.end c.args.unit) _ _ c.partition_point.ensures.partitioned parted (λ a r q k. search rules) in
    λ k d above inside. leb-false _ _ (point.1 k d above inside)
