use Rattle.std.proofs.Common.{◌≡◌, ◌∙◌, ap, sym, map, get_or, arith}
use Rattle.std.proofs.lemmas.List.{take_all}
use Rattle.gm_kernels.proofs.Reading.{read-more}
use Rattle.gm_kernels.proofs.gathering.read_at.Goals as goal

pub loop-row-preserved : goal.loop-row-preserved
loop-row-preserved g c = λ d.
    let k = c.loop-row.row in
    read-more c.args.cells.now c.loop-row.out c.args.places.now k c.index-cells-places.result d
    c.loop-row-test.true (omega (arith, c.requires.rows, c.loop-row.auto.out, c.loop-row-test.true)) (c.requires.within k 0 c.loop-row-test.true) c.index-cells-places.is (c.loop-row.invariant d)

pub returns-clause-cells : goal.returns-clause-cells
returns-clause-cells g c = λ d.
    let k = c.loop-row.row in
    sym (take_all k c.loop-row.out (omega (arith, c.requires.rows, c.loop-row.auto.out, c.loop-row-test.false)))
    ∙ c.loop-row.invariant d
    ∙ ap (map (λ place. get_or c.args.cells.now place d)) (take_all k c.args.places.now c.loop-row-test.false)
