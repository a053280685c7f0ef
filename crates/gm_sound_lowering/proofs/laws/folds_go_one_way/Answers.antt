-- Folds go one way.
use Rattle.gm_sound_lowering.proofs.FoldBlocks.{folds-go-one-way}
use Rattle.gm_sound_lowering.proofs.laws.folds_go_one_way.Goals as goal

pub returns : goal.returns
returns c = folds-go-one-way
