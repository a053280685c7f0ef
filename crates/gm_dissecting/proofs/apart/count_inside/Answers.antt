use Rattle.std.proofs.Common.{◌∙◌, ap, sym, map}
use Rattle.gm_ast.specs.Tree.{stmt_of}
use Rattle.gm_dissect.proofs.Trees.{stmt_of-Block}
use Rattle.gm_dissecting.proofs.Standing.{none_inside}
use Rattle.gm_parting.specs.Apart.{ifs_inside}
use Rattle.gm_dissecting.proofs.apart.count_inside.Goals as goal

pub returns-in-Block : goal.returns-in-Block
returns-in-Block c = sym (ap ifs_inside (ap stmt_of c.in-Block.is ∙ stmt_of-Block _) ∙ none_inside (map stmt_of c.in-Block.field-0.items))
