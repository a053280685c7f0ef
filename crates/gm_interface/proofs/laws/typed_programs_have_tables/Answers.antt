-- Typed programs have tables in order.
use Rattle.gm_interface.proofs.Source.{typed-table}
use Rattle.gm_interface.proofs.laws.typed_programs_have_tables.Goals as goal

pub returns : goal.returns
returns c = typed-table
