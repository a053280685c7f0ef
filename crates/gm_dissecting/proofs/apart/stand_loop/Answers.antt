use Rattle.std.proofs.Common.{◌≡◌, ◌∙◌, ap, sym, map}
use Rattle.gm_ast.specs.Program.{sequence}
use Rattle.gm_ast.specs.Tree.{stmt_of}
use Rattle.gm_dissect.proofs.Trees.{stmt_of-Block}
use Rattle.gm_dissecting.specs.Standing.{inner_apart}
use Rattle.gm_dissecting.proofs.Standing.{block_inner}
use Rattle.gm_dissecting.proofs.apart.stand_loop.Goals as goal

pub returns-in-Block : goal.returns-in-Block
returns-in-Block c =
    let ss = map stmt_of c.in-Block.field-0.items in
    let is : stmt_of c.args.body.now ≡ sequence ss = ap stmt_of c.in-Block.is ∙ stmt_of-Block _ in
    is ∙ sym (ap (inner_apart c.args.declarations.now c.args.first c.args.outer) is ∙ block_inner c.args.declarations.now c.args.first c.args.outer ss)
