-- Each handler's run comes behind those before it.
use Rattle.std.proofs.Common.{◌≡◌, ◌∙◌, ℕ, List, get_or, map, ap}
use Rattle.gm_value.specs.declared.values.Value.{Value}
use Rattle.gm_value.specs.Numbers.{zero_of}
use Rattle.gm_image.specs.Views.{handler}
use Rattle.gm_machine.specs.declared.batches.MessageHeader.{MessageHeader}
use Rattle.gm_machine.specs.Batches.{message_of}
use Rattle.gm_machine.specs.Vertex.{After, VertexState, handler_lines, lines_after}
use Rattle.gm_machine.specs.VertexViews.{context_of, state_of}
use Rattle.gm_machine.proofs.Handlers.{one_message}
use Rattle.gm_machine.proofs.bodies.run_handlers.Goals as goal

pub loop-header-preserved : goal.loop-header-preserved
loop-header-preserved c =
    let d : MessageHeader = record { to = 0; sort = 0; start = 0 } in
    let h : MessageHeader = get_or c.args.headers.now c.loop-header.header-index d in
    let begins : VertexState = record (state_of c.loop-header.state) { registers = map zero_of c.args.registers.now } in
    let ran : List Value → ℕ → After = λ vs k. lines_after (record (context_of c.args.context.now) { message = vs }) (handler_lines (map handler c.args.handlers.now) k) 0 begins in
    one_message (context_of c.args.context.now) (map handler c.args.handlers.now) c.args.registers.now c.args.values.now c.args.headers.now c.loop-header.header-index d
    (state_of c.args.state.now) (state_of c.loop-header.state) (state_of c.run_handler.new.state) c.loop-header.fault c.in_ok-one.one c.lesser-fault.result
    c.loop-header-test.true c.requires.keeps c.lesser-fault.ensures c.loop-header.invariant
    (c.in_ok-one.ensures
    ∙ ap (λ vs. ran vs c.kind-kind.result) (c.as_slice.ensures.value ∙ c.in_ok-load.ensures)
    ∙ ap (ran (message_of c.args.values.now h).values) c.kind-kind.ensures)
