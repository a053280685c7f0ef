use Rattle.std.proofs.Common.{◌∙◌, arith, sym}
use Rattle.std.proofs.lemmas.List.{ext_get_or}
use Rattle.std.proofs.lemmas.List.FromFn.{length-range_with_len}
use Rattle.gm_graph.specs.Rows.{lines_of}
use Rattle.gm_graph.proofs.Steps.{line-at}
use Rattle.gm_graph.proofs.builds.all_lines.Goals as goal

pub returns : goal.returns
returns c =
    let lines = c.loop-line.lines.items in
    let held = c.loop-line.invariant in
    ext_get_or 0 lines (lines_of c.args.count)
    (omega (arith, held.0, c.loop-line-test.false, c.loop-line.auto.line-end, length-range_with_len 0 c.args.count))
    (λ e h. held.1 e (omega (arith, h, held.0)) ∙ sym (line-at c.args.count e (omega (arith, h, held.0, c.loop-line.auto.line-end))))
