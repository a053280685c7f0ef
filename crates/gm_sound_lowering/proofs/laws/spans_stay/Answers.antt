-- Spans stay.
use Rattle.gm_sound_lowering.proofs.Spans.{spans-stay}
use Rattle.gm_sound_lowering.proofs.laws.spans_stay.Goals as goal

pub returns : goal.returns
returns c = spans-stay
