-- One superstep of a run of the workers.
use Rattle.std.proofs.Common.{length}
use Rattle.gm_model.specs.Graphs.{node_count}
use Rattle.gm_image.specs.Views.{program}
use Rattle.gm_workers.proofs.RunLemmas.{comes-to, recount}
use Rattle.gm_workers.proofs.runs.step.Goals as goal

pub returns-clause-crew : goal.returns-clause-crew
returns-clause-crew g c =
    recount (node_count c.args.graph.now) (length c.args.progress.now.crew.slots.items) c.superstep.new.crew.dealing c.superstep.new.crew.slots.items c.in_ok-end.ensures.crew

pub returns-clause-step : goal.returns-clause-step
returns-clause-step g c =
    comes-to (program c.args.image.now) c.args.graph.now c.args.block c.args.globals.now.items c.args.progress.now c.superstep.new.crew c.in_ok-number.number c.in_ok-messages.messages
    c.superstep.new.globals.items c.in_ok-end.end.messages c.in_ok-end.end.fault c.in_ok-end.ensures.dealing c.in_ok-number.ensures c.in_ok-messages.ensures c.in_ok-end.ensures.stands
