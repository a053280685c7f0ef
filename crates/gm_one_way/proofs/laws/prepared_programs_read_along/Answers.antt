use Rattle.gm_one_way.proofs.NodesPrograms.{prepared-keep, slices-go}
use Rattle.gm_one_way.proofs.laws.prepared_programs_read_along.Goals as goal

pub returns-clause-reads : goal.returns-clause-reads
returns-clause-reads c = prepared-keep

pub returns-clause-go : goal.returns-clause-go
returns-clause-go c = slices-go
