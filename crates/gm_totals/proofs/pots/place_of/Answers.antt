-- The place among totals in the order of their statements.
use Rattle.std.proofs.Common.{nat_lt, arith, rules}
use Rattle.std.proofs.lemmas.Bool.{ltb-true, ltb-false}
use Rattle.std.proofs.lemmas.List.Sorted.{IsPartitionPoint-from_clause}
use Rattle.gm_totals.specs.declared.entries.Entry.{Entry}
use Rattle.gm_totals.proofs.Gaining.{earlier-first}
use Rattle.gm_totals.proofs.pots.place_of.Goals as goal

pub returns-clause-place : goal.returns-clause-place
returns-clause-place c = λ low from.
    let parted = earlier-first low c.args.statement c.args.entries.now from in
    let point = IsPartitionPoint-from_clause (λ (e : Entry). nat_lt e.statement c.args.statement) _ _ c.partition_point.ensures.partitioned parted (λ a r q k. search rules) in
    (λ k d h. ltb-true _ _ (point.0 k d (omega arith) h), λ d h. ltb-false _ _ (point.1 _ d (omega arith) h))
