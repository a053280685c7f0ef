-- One more message stands behind the others.
use Rattle.std.proofs.Common.{◌<◌, [], ◌∷◌, ◌++◌, ◌∙◌, length, take, get_or, sym, ap, append_assoc, arith}
use Rattle.std.proofs.lemmas.List.{take_more}
use Rattle.gm_machine.specs.Vertex.{Message}
use Rattle.gm_machine.proofs.batches.Batch.append.Goals as goal

pub loop-i-preserved : goal.loop-i-preserved
loop-i-preserved c =
    let d : Message = record { to = 0; kind = 0; values = [] } in
    let within : c.loop-i.i < length c.args.more.now = omega (arith, c.loop-i-test.true, c.messages-i-end.ensures) in
    c.in_ok-add_from.ensures.added d
    ∙ ap (λ ms. ms ++ get_or c.args.more.now c.loop-i.i d ∷ []) c.loop-i.invariant
    ∙ append_assoc c.args.self.now (take c.loop-i.i c.args.more.now) (get_or c.args.more.now c.loop-i.i d ∷ [])
    ∙ ap (λ ms. c.args.self.now ++ ms) (sym (take_more c.args.more.now c.loop-i.i d within))
