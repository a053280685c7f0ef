use Rattle.gm_slices.proofs.slices.take.Goals as goal

pub returns : goal.returns
returns c ss = c.take_told.ensures ss
