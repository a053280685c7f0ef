use Rattle.gm_observe.proofs.Reporting.{reports-map}
use Rattle.gm_observe.proofs.audience.report_all.Goals as goal

pub returns-else-is_err-clause-reported : goal.returns-else-is_err-clause-reported
returns-else-is_err-clause-reported g c = simp reports-map c.put_reports-written.ensures.reported
