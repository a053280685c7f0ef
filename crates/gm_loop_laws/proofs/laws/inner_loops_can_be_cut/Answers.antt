-- Inner loops are cut.
use Rattle.gm_loop_laws.proofs.InnerCuts.{inner-loops-cut}
use Rattle.gm_loop_laws.proofs.MaskedCuts.{masked-cut}
use Rattle.gm_loop_laws.proofs.laws.inner_loops_can_be_cut.Goals as goal

pub returns-clause-saved : goal.returns-clause-saved
returns-clause-saved c = inner-loops-cut

pub returns-clause-masked : goal.returns-clause-masked
returns-clause-masked c = masked-cut
