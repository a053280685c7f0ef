use Rattle.std.proofs.Common.{◌∙◌}
use Rattle.gm_ast.specs.Tree.{expr_of, stmt_of}
use Rattle.gm_dissect.proofs.Trees.{ok-then}
use Rattle.gm_slices.proofs.SliceWalks.{whole_other}
use Rattle.gm_slices.proofs.slices.keep_loop.Goals as goal

pub returns : goal.returns
returns c =
    let around = c.args.around in
    ok-then c.whole_loop.result c.whole_loop.ensures (λ r e. e ∙ whole_other c.args.declarations.now around.key around.place around.head (expr_of c.args.mask) (stmt_of c.args.body) c.requires)
