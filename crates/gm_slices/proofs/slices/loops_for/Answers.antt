use Rattle.std.proofs.Common.{ap, ◌∙◌}
use Rattle.gm_ast.specs.Program.{Foreach}
use Rattle.gm_ast.specs.Tree.{expr_of}
use Rattle.gm_dissect.proofs.Trees.{ok-then}
use Rattle.gm_slices.proofs.slices.loops_for.Goals as goal

pub returns : goal.returns
returns c =
    let around = c.args.nest.now.around in
    ok-then c.loop_of-2.result c.loop_of-2.ensures (λ r e. e ∙ ap (Foreach around.key around.place around.head (expr_of c.args.nest.now.mask)) c.in_ok-inner.ensures)
