use Rattle.std.proofs.Common.{◌≡◌, map, ap, sym, ◌∙◌}
use Rattle.gm_ast.specs.Program.{sequence}
use Rattle.gm_ast.specs.Tree.{stmt_of}
use Rattle.gm_dissect.proofs.Trees.{stmt_of-Block}
use Rattle.gm_slices.specs.OneWay.{goes_within}
use Rattle.gm_slices.proofs.OneWay.{within-block}
use Rattle.gm_slices.proofs.ways.goes_within.Goals as goal

pub returns-in-Block : goal.returns-in-Block
returns-in-Block c =
    let xs = map stmt_of c.in-Block.field-0.items in
    let block : stmt_of c.args.body.now ≡ sequence xs = ap stmt_of c.in-Block.is ∙ stmt_of-Block c.in-Block.field-0 in
    within-block c.args.declarations.now c.args.outer xs ∙ ap (goes_within c.args.declarations.now c.args.outer) (sym block)
