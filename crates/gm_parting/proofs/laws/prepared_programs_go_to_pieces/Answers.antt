use Rattle.gm_parting.proofs.Prepared.{pieces-same, pieces-cut}
use Rattle.gm_parting.proofs.laws.prepared_programs_go_to_pieces.Goals as goal

pub returns-clause-same : goal.returns-clause-same
returns-clause-same c = pieces-same

pub returns-clause-cut : goal.returns-clause-cut
returns-clause-cut c = pieces-cut
