-- The parts of a line stand for what it gives.
use Rattle.std.proofs.Common.{◌≡◌, List, map, sym}
use Rattle.std.proofs.lemmas.List.{length-map}
use Rattle.gm_image.specs.Program.{Target}
use Rattle.gm_image.specs.Views.{target}
use Rattle.gm_machine.specs.Vertex.{VertexContext, VertexState}
use Rattle.gm_machine.specs.VertexViews.{context_of, state_of}
use Rattle.gm_machine.proofs.GivenSteps.{given-whole, fold-given, fold-faulted}
use Rattle.gm_machine.proofs.lines.fold.Goals as goal

pub add_parts-requires : goal.add_parts-requires
add_parts-requires c =
    given-whole (context_of c.args.context.now) c.args.reduce c.args.place (map target c.args.targets.now) (state_of c.args.state.now) c.as_slice-fields.result.now c.as_slice-registers.result.now
    c.in_ok-fault.fault c.evaluate_targets.new.given.items c.as_slice-parts.result.now
    c.as_slice-fields.ensures.value c.as_slice-registers.ensures.value (length-map c.args.targets.now target) c.in_ok-fault.ensures c.in-None.is c.as_slice-parts.ensures.value

pub returns-in_ok-add_parts-in-None : goal.returns-in_ok-add_parts-in-None
returns-in_ok-add_parts-in-None c =
    fold-given (context_of c.args.context.now) c.args.reduce c.args.place (map target c.args.targets.now) (state_of c.args.state.now) c.as_slice-fields.result.now c.as_slice-registers.result.now
    c.in_ok-fault.fault c.evaluate_targets.new.given.items c.as_slice-parts.result.now c.add_parts.new.self
    c.as_slice-fields.ensures.value c.as_slice-registers.ensures.value (length-map c.args.targets.now target) c.in_ok-fault.ensures c.in-None.is c.as_slice-parts.ensures.value c.in_ok-add_parts-in-None.ensures.added

pub returns-in-Some : goal.returns-in-Some
returns-in-Some c =
    fold-faulted (context_of c.args.context.now) c.args.reduce c.args.place (map target c.args.targets.now) (state_of c.args.state.now) c.as_slice-fields.result.now c.as_slice-registers.result.now
    c.in_ok-fault.fault c.in-Some.f c.evaluate_targets.new.given.items
    c.as_slice-fields.ensures.value c.as_slice-registers.ensures.value (length-map c.args.targets.now target) c.in_ok-fault.ensures c.in-Some.is
