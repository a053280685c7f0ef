use Rattle.std.proofs.Common.{◌≡◌, ◌∙◌, ◌+◌, ◌++◌, ◌∷◌, [], ap, sym, get_or, false, take, length, length-take, arith}
use Rattle.gm_kernels.specs.Pointwise.{merged}
use Rattle.gm_kernels.proofs.Parting.{count-held, count-left, counted, few, room-true, room-false, merge-true, merge-false}
use Rattle.gm_kernels.proofs.partitions.merge_cells.Goals.{then-flags-row+in_ok-push, else-flags-row+in_ok-push-2}
use Rattle.gm_kernels.proofs.partitions.merge_cells.Goals as goal

pub offset_bounds-some-taken : goal.offset_bounds-some-taken
offset_bounds-some-taken g c = omega (arith, c.loop-row.invariant.0, counted c.args.flags.now c.loop-row.row, c.requires.some)

pub bounds-some-taken : goal.bounds-some-taken
bounds-some-taken g c = omega (arith, c.loop-row.invariant.0, room-true c.args.flags.now c.loop-row.row c.loop-row-test.true c.if-flags-row.true, c.requires.some)

pub overflow_add-taken : goal.overflow_add-taken
overflow_add-taken g c = omega (arith, c.loop-row.invariant.0, room-true c.args.flags.now c.loop-row.row c.loop-row-test.true c.if-flags-row.true, few c.args.flags.now, c.loop-row.auto.taken-fits, c.loop-row.auto.row-end)

pub overflow_sub-row : goal.overflow_sub-row
overflow_sub-row g c = omega (arith, c.loop-row.invariant.0, few (take c.loop-row.row c.args.flags.now), length-take c.loop-row.row c.args.flags.now, c.loop-row-test.true)

pub offset_bounds-others-row : goal.offset_bounds-others-row
offset_bounds-others-row g c = omega (arith, c.loop-row.invariant.0, room-false c.args.flags.now c.loop-row.row c.loop-row-test.true c.if-flags-row.false, c.requires.some, c.requires.rows, few (take c.loop-row.row c.args.flags.now), length-take c.loop-row.row c.args.flags.now, c.loop-row-test.true)

pub bounds-others-row : goal.bounds-others-row
bounds-others-row g c = omega (arith, c.loop-row.invariant.0, room-false c.args.flags.now c.loop-row.row c.loop-row-test.true c.if-flags-row.false, c.requires.some, c.requires.rows, few (take c.loop-row.row c.args.flags.now), length-take c.loop-row.row c.args.flags.now, c.loop-row-test.true)

pub loop-row-preserved : goal.loop-row-preserved
loop-row-preserved g c =
    let flags = c.args.flags.now in
    let k = c.loop-row.row in
    elim c.if-flags-row.branch [
      | then-flags-row+in_ok-push w ↦ (
        w.taken-is ∙ ap (λ n. n + 1) c.loop-row.invariant.0 ∙ sym (count-held flags k c.loop-row-test.true w.if-flags-row.true),
        ap (λ out. out.items) w.out-is ∙ w.in_ok-push.ensures.items ∙ ap (λ l. l ++ w.index-some-taken.result ∷ []) c.loop-row.invariant.1
            ∙ sym (merge-true flags c.args.some.now c.args.others.now k c.loop-row.taken w.index-some-taken.result
            c.loop-row-test.true w.if-flags-row.true c.requires.some c.requires.rows c.loop-row.invariant.0 w.index-some-taken.is),
      )
      | else-flags-row+in_ok-push-2 w ↦ (
        w.taken-is ∙ c.loop-row.invariant.0 ∙ sym (count-left flags k c.loop-row-test.true w.if-flags-row.false),
        ap (λ out. out.items) w.out-is ∙ w.in_ok-push-2.ensures.items ∙ ap (λ l. l ++ w.index-others-row.result ∷ []) c.loop-row.invariant.1
            ∙ sym (merge-false flags c.args.some.now c.args.others.now k c.loop-row.taken w.index-others-row.result
            c.loop-row-test.true w.if-flags-row.false c.requires.some c.requires.rows c.loop-row.invariant.0 w.index-others-row.is),
      )
    ]
