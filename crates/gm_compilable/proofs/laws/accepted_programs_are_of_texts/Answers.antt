-- A law of parted programs.
use Rattle.gm_compilable.proofs.Texts.{accepted-of-text}
use Rattle.gm_compilable.proofs.laws.accepted_programs_are_of_texts.Goals as goal

pub returns : goal.returns
returns c = accepted-of-text
