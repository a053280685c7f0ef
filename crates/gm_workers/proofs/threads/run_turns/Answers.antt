use denote.Param.Send.{IsSync, param_send}
use mir.Syntax.{named}
use Rattle.gm_workers.specs.contracts.parts.Part as part
use Rattle.gm_workers.proofs.Sharing.{part_send}
use Rattle.gm_workers.proofs.threads.run_turns.Goals as goal

pub run_all-requires-send-T : goal.run_all-requires-send-T
run_all-requires-send-T g c κs within =
    let sync_R : IsSync g.row.R = record { shared = c.type_bounds.sync-R.shared } in
    let two = param_send 0 (part.the_row (record { mir = named 0; lft = κs.1.1.1.0 }) g.row.R) (part_send (record { mir = named 0; lft = κs.1.1.1.0 }) g.row.R sync_R) in
    record { owned = two.owned; leaving = two.leaving }
