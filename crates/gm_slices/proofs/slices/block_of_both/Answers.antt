use Rattle.std.proofs.Common.{◌++◌, map, ap, ◌∙◌}
use Rattle.gm_ast.specs.Program.{sequence}
use Rattle.gm_ast.specs.Tree.{stmt_of}
use Rattle.gm_dissect.proofs.Trees.{stmt_of-Block}
use Rattle.gm_slices.proofs.slices.block_of_both.Goals as goal

pub returns : goal.returns
returns c =
    stmt_of-Block c.in_ok-both.both
    ∙ ap sequence
    (c.in_ok-both.ensures
    ∙ ap (λ l. l ++ map stmt_of c.args.behind.now.items) (c.in_ok-first.ensures ∙ ap (λ l. map stmt_of l ++ map stmt_of c.args.before.now.items) c.new.ensures.items))
