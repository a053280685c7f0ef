-- The message has the value.
use Rattle.std.proofs.Common.{◌≡◌, ◌∙◌, [], length, arith, ap, sym}
use Rattle.std.specs.Prelude.{slice_index_or}
use Rattle.std.proofs.lemmas.List.{length-map}
use Rattle.gm_machine.specs.declared.batches.MessageHeader.{MessageHeader}
use Rattle.gm_machine.specs.declared.message_values.MessageValues.{MessageValues}
use Rattle.gm_machine.specs.Batches.{message_of}
use Rattle.gm_machine.specs.MessageValues.{cell_value, sort_cells}
use Rattle.gm_machine.specs.Vertex.{Message}
use Rattle.gm_machine.proofs.Messages.{header-read}
use Rattle.gm_machine.proofs.batches.Batch.value.Goals as goal

pub value-requires-clause-index : goal.value-requires-clause-index
value-requires-clause-index c =
    let v : MessageValues = c.self.inside.values in
    let h : MessageHeader = c.index-header.result.now in
    let e : Message = record { to = 0; kind = 0; values = [] } in
    let read : message_of v h ≡ slice_index_or c.args.self.now c.args.i e =
    ap (message_of v) c.index-header.ensures ∙ header-read v c.self.inside.headers.items c.self.inside.taken c.args.i h e c.args.self.now c.self.invariant c.self.view_is c.requires.message in
    let count : length (sort_cells v h.sort) ≡ length (slice_index_or c.args.self.now c.args.i e).values =
    sym (length-map (sort_cells v h.sort) (cell_value v.words.items h.start)) ∙ ap (λ (m : Message). length m.values) read in
    omega (arith, count, c.requires.value e)
