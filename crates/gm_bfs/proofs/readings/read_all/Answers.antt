use Rattle.std.proofs.Common.{◌<◌, length, arith, ap, ◌∙◌, map}
use Rattle.gm_ast.specs.Tree.{expr_of}
use Rattle.gm_bfs.specs.Copies.{reading}
use Rattle.gm_bfs.proofs.InPlace.{done-none, done-next, done-all, written-back}
use Rattle.gm_bfs.proofs.readings.read_all.Goals as goal

pub loop-value-init : goal.loop-value-init
loop-value-init c = done-none expr_of (reading c.args.fresh c.args.marks.now c.args.iterator) c.deref_mut-value-items.result.now

pub loop-value-preserved : goal.loop-value-preserved
loop-value-preserved c =
    let at = c.loop-value in
    let inside : at.value-index < length at.value-items = omega arith in
    done-next expr_of (reading c.args.fresh c.args.marks.now c.args.iterator) c.deref_mut-value-items.result.now at.value-index at.value-items c.read_copies.new.e c.value-item.result
    inside c.in_ok-read_copies.ensures at.invariant

pub returns : goal.returns
returns c =
    let at = c.loop-value in
    let read = reading c.args.fresh c.args.marks.now c.args.iterator in
    ap (map expr_of) (written-back c.args.values.now.len at.value-items _ (omega arith))
    ∙ done-all expr_of read c.deref_mut-value-items.result.now at.value-index at.value-items (omega arith) at.invariant
    ∙ ap (λ xs. map read (map expr_of xs)) c.deref_mut-value-items.ensures.value
