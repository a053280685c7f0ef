-- A law of parted programs.
use Rattle.gm_compilable.proofs.Texts.{no-parameter}
use Rattle.gm_compilable.proofs.laws.typed_programs_iterate_no_parameter.Goals as goal

pub returns : goal.returns
returns c = no-parameter
