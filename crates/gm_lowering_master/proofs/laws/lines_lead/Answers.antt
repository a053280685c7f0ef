-- Lines lead.
use Rattle.gm_lowering_master.proofs.Lines.{lines-lead}
use Rattle.gm_lowering_master.proofs.laws.lines_lead.Goals as goal

pub returns : goal.returns
returns c = lines-lead
