use Rattle.std.proofs.Common.{◌≤◌, ap, ◌∙◌, arith}
use Rattle.std.specs.Int.{w64}
use Rattle.std.proofs.lemmas.Int.{to_z_pos}
use Rattle.gm_ast.specs.Surface as trees
use Rattle.gm_ast.proofs.SurfaceTrees.{expr_of-Number}
use Rattle.gm_parse.specs.Trees.{ReadsTree}
use Rattle.gm_parse.proofs.Paths.{at_exit}
use Rattle.gm_parse.proofs.TreeLaws.{as_tree}
use Rattle.gm_parse.proofs.NumberLaws.{number_here, reads_number}
use Rattle.gm_parse.proofs.expressions.number.Goals as goal

pub returns-in_err-place-clause-goes : goal.returns-in_err-place-clause-goes
returns-in_err-place-clause-goes c = at_exit c.from_residual.result c.from_residual.ensures.1 c.in_err-place.ensures.goes

pub number-value-requires : goal.number-value-requires
number-value-requires c = number_here c.args.tokens.now.tokens c.args.at c.in_ok-place.ensures.tree

pub returns-clause-goes : goal.returns-clause-goes
returns-clause-goes c = c.in_ok-place.ensures.goes

pub returns-clause-tree : goal.returns-clause-tree
returns-clause-tree c =
    let small : c.number-value.result ≤ 9223372036854775807 = c.number-value.ensures.limit in
    as_tree (expr_of-Number _ _ ∙ ap (trees.Number c.in_ok-place.place) (to_z_pos w64 c.number-value.result (omega arith)))
    (ReadsTree.number (reads_number c.args.tokens.now.tokens c.args.at c.number-value.result c.in_ok-place.ensures.tree c.number-value.ensures.value))
