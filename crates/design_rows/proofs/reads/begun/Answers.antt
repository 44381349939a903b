use Rattle.std.proofs.Common.{rules, sym}
use Rattle.std.proofs.lemmas.List.Sorted.{IsPartitionPoint-from_clause, IsPartitionedBy-leb}
use Rattle.design_rows.proofs.Owners.{front_is}
use Rattle.design_rows.specs.View.{begins_by, no_instance}
use Rattle.design_rows.proofs.reads.begun.Goals as goal

pub returns : goal.returns
returns c =
    let insts = c.args.insts.now in
    let parted = IsPartitionedBy-leb (λ i. i.first_bit) insts c.args.n c.requires in
    let point = IsPartitionPoint-from_clause (begins_by c.args.n) insts c.partition_point.result c.partition_point.ensures.partitioned parted (λ a r q k. search rules) in
    sym (front_is (begins_by c.args.n) insts c.partition_point.result c.partition_point.ensures.bound point no_instance)
