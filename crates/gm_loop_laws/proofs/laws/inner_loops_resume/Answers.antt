-- Inner loops go on behind others.
use Rattle.gm_loop_laws.proofs.InnerCuts.{inner-loops-resume, inner-loops-trim}
use Rattle.gm_loop_laws.proofs.MaskedCuts.{masked-resume, masked-trim}
use Rattle.gm_loop_laws.proofs.laws.inner_loops_resume.Goals as goal

pub returns-clause-saved : goal.returns-clause-saved
returns-clause-saved c = inner-loops-resume

pub returns-clause-masked : goal.returns-clause-masked
returns-clause-masked c = masked-resume

pub returns-clause-trimmed : goal.returns-clause-trimmed
returns-clause-trimmed c = inner-loops-trim

pub returns-clause-trimmed_masked : goal.returns-clause-trimmed_masked
returns-clause-trimmed_masked c = masked-trim
