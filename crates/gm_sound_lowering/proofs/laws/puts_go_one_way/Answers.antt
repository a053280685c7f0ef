-- Puts go one way.
use Rattle.gm_sound_lowering.proofs.PutBlocks.{puts-go-one-way}
use Rattle.gm_sound_lowering.proofs.laws.puts_go_one_way.Goals as goal

pub returns : goal.returns
returns c = puts-go-one-way
