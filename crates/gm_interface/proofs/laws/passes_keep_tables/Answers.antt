-- Tables stay in order.
use Rattle.gm_interface.proofs.Kept.{passes-keep-tables}
use Rattle.gm_interface.proofs.laws.passes_keep_tables.Goals as goal

pub returns : goal.returns
returns c = passes-keep-tables
