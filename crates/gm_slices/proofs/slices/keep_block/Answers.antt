use Rattle.std.proofs.Common.{◌∙◌, ap, map}
use Rattle.gm_ast.specs.Program.{Foreach}
use Rattle.gm_ast.specs.Tree.{expr_of, stmt_of}
use Rattle.gm_dissect.proofs.Trees.{ok-then, stmt_of-Block}
use Rattle.gm_slices.proofs.SliceWalks.{whole_block}
use Rattle.gm_slices.proofs.slices.keep_block.Goals as goal

pub returns : goal.returns
returns c =
    let around = c.args.around in
    ok-then c.whole_loop.result c.whole_loop.ensures (λ r e.
    e ∙ ap (Foreach around.key around.place around.head (expr_of c.args.mask)) (stmt_of-Block c.args.stmts) ∙ whole_block c.args.declarations.now around.key around.place around.head (expr_of c.args.mask) (map stmt_of c.args.stmts.items))
