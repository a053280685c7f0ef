-- Names of typed programs differ.
use Rattle.gm_interface.proofs.Spelled.{typed-names}
use Rattle.gm_interface.proofs.laws.typed_programs_have_names_apart.Goals as goal

pub returns : goal.returns
returns c = typed-names
