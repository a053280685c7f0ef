-- Texts have names.
use Rattle.gm_interface.proofs.Texts.{texts-are-named}
use Rattle.gm_interface.proofs.laws.texts_are_named.Goals as goal

pub returns : goal.returns
returns c = texts-are-named
