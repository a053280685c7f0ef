-- The handlers, and then the body.
use Rattle.std.proofs.Common.{map, refl}
use Rattle.gm_image.specs.Views.{program}
use Rattle.gm_machine.specs.Batches.{message_of}
use Rattle.gm_machine.specs.VertexViews.{context_of, code_of, state_of}
use Rattle.gm_machine.proofs.VertexSteps.{vertex-faulted, vertex-goes}
use Rattle.gm_machine.proofs.bodies.run_vertex.Goals as goal

pub returns-in-Faulted : goal.returns-in-Faulted
returns-in-Faulted c =
    vertex-faulted (program c.args.image.now) (code_of c.args.code) (context_of c.args.context.now) (map (message_of c.args.values.now) c.args.headers.now) c.args.state.now.fields.items c.args.state.now.messages c.args.state.now.puts
    c.len-places.result (code_of c.args.code).handlers c.as_slice-registers.result.now
    c.len-places.ensures refl c.as_slice-registers.ensures
    (state_of c.run_handlers.new.state) (state_of c.take_folds.new.state) c.in_ok-handled.handled c.in_ok-end.end c.in-Faulted.f
    c.in_ok-handled.ensures c.in_ok-end.ensures c.in-Faulted.is

pub returns-in_ok-fault-in-Next : goal.returns-in_ok-fault-in-Next
returns-in_ok-fault-in-Next c =
    vertex-goes (program c.args.image.now) (code_of c.args.code) (context_of c.args.context.now) (map (message_of c.args.values.now) c.args.headers.now) c.args.state.now.fields.items c.args.state.now.messages c.args.state.now.puts
    c.len-places.result (code_of c.args.code).handlers c.as_slice-registers.result.now (code_of c.args.code).body
    c.len-places.ensures refl c.as_slice-registers.ensures refl
    (state_of c.run_handlers.new.state) (state_of c.take_folds.new.state) (state_of c.run_body.new.state) c.in_ok-handled.handled c.in_ok-fault-in-Next.fault c.in_ok-end.end c.in-Next.field-0
    c.in_ok-handled.ensures c.in_ok-end.ensures c.in-Next.is c.in_ok-fault-in-Next.ensures
