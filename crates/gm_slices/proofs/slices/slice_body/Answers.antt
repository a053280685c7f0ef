use Rattle.std.proofs.Common.{true, [], ◌++◌, map, ap, ◌∙◌}
use Rattle.gm_ast.specs.Program.{sequence}
use Rattle.gm_ast.specs.Tree.{stmt_of}
use Rattle.gm_dissect.proofs.Trees.{stmt_of-Block}
use Rattle.gm_slices.specs.Nests.{nest_of}
use Rattle.gm_cut.specs.Slices.{statements_of}
use Rattle.gm_slices.specs.SliceWalks.{loops_behind}
use Rattle.gm_slices.proofs.slices.slice_body.Goals as goal

pub returns : goal.returns
returns c =
    stmt_of-Block c.in_ok-loops.loops
    ∙ ap sequence
    (c.in_ok-loops.ensures
    ∙ ap (loops_behind c.args.declarations.now (nest_of c.args.nest.now) true [] [] []) (c.in_ok-stmts.ensures ∙ ap (λ l. map stmt_of l ++ statements_of (stmt_of c.args.body)) c.new.ensures.items))
