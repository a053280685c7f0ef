-- Master lists lead.
use Rattle.gm_sound_lowering.proofs.Jumps.{master-lists-lead}
use Rattle.gm_sound_lowering.proofs.laws.master_lists_lead.Goals as goal

pub returns : goal.returns
returns c = master-lists-lead
