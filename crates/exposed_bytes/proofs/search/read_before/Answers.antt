-- Calls by where they read are parted by a test of that place.
use Rattle.std.proofs.Common.{rules}
use Rattle.std.specs.Prelude.{nat_lt}
use Rattle.std.proofs.lemmas.List.Sorted.{IsPartitionPoint-from_clause, IsPartitionedBy-ltb}
use Rattle.exposed_bytes.specs.declared.call.Call.{Call}
use Rattle.exposed_bytes.specs.Search.{source_key}
use Rattle.exposed_bytes.proofs.Grown.{partition-below}
use Rattle.exposed_bytes.proofs.search.read_before.Goals as goal

pub returns-clause-parted : goal.returns-clause-parted
returns-clause-parted c =
    let calls = c.args.calls.now in
    let place = c.args.place in
    partition-below source_key calls place c.partition_point.result
    (IsPartitionPoint-from_clause (λ (d : Call). nat_lt (source_key d) place) calls c.partition_point.result
    c.partition_point.ensures.partitioned (IsPartitionedBy-ltb source_key calls place c.requires) (λ a r q k. search rules))
