use Rattle.std.proofs.Common.{List, ap, ◌∙◌}
use Rattle.gm_token.specs.Tokens.{words_of}
use Rattle.gm_parse.specs.Grammar.{Group, Of, rule}
use Rattle.gm_parse.specs.Factored.{factored}
use Rattle.gm_parse.specs.Trees.{ReadsNames, ReadsGroup}
use Rattle.gm_parse.proofs.Paths.{at_exit, goes_first, goes_nowhere, goes_part, goes_then}
use Rattle.gm_parse.proofs.TreeLaws.{as_names}
use Rattle.gm_parse.proofs.procedures.group.Goals as goal
use Rattle.gm_ast.specs.declared.surface.Name.{Name}
use Rattle.std.proofs.Common.{map, ◌++◌, ◌∷◌, []}
use Rattle.gm_ast.specs.SurfaceTree.{name_of}

pub returns-in_err-name-clause-goes : goal.returns-in_err-name-clause-goes
unfolding rule factored
returns-in_err-name-clause-goes c = at_exit c.from_residual.result c.from_residual.ensures.1 (goes_part Group (goes_first c.in_err-name.ensures.goes))

pub returns-in_err-push-clause-goes : goal.returns-in_err-push-clause-goes
unfolding rule factored
returns-in_err-push-clause-goes c = at_exit c.from_residual-in_err-push.result c.from_residual-in_err-push.ensures.1 (goes_nowhere (Of Group) c.args.around (words_of c.args.tokens.now) c.args.at)

pub returns-in_err-names-clause-goes : goal.returns-in_err-names-clause-goes
unfolding rule factored
returns-in_err-names-clause-goes c = at_exit c.from_residual-in_err-names.result c.from_residual-in_err-names.ensures.1 (goes_part Group (goes_then c.in_ok-name.ensures.goes (goes_first c.in_err-names.ensures.goes)))

pub returns-in_err-colon-clause-goes : goal.returns-in_err-colon-clause-goes
unfolding rule factored
returns-in_err-colon-clause-goes c = at_exit c.from_residual-in_err-colon.result c.from_residual-in_err-colon.ensures.1 (goes_part Group (goes_then c.in_ok-name.ensures.goes (goes_then c.in_ok-names.ensures.goes (goes_first c.in_err-colon.ensures.goes))))

pub returns-in_err-vtype-clause-goes : goal.returns-in_err-vtype-clause-goes
unfolding rule factored
returns-in_err-vtype-clause-goes c = at_exit c.from_residual-in_err-vtype.result c.from_residual-in_err-vtype.ensures.1 (goes_part Group (goes_then c.in_ok-name.ensures.goes (goes_then c.in_ok-names.ensures.goes (goes_then c.in_ok-colon.ensures.goes (c.in_err-vtype.ensures.goes)))))

pub returns-clause-goes : goal.returns-clause-goes
unfolding rule factored
returns-clause-goes c = goes_part Group (goes_then c.in_ok-name.ensures.goes (goes_then c.in_ok-names.ensures.goes (goes_then c.in_ok-colon.ensures.goes (c.in_ok-vtype.ensures.goes))))

pub returns-clause-tree : goal.returns-clause-tree
unfolding rule factored
returns-clause-tree c = ReadsGroup.group (c.in_ok-names.ensures.tree _ (as_names (ap (map name_of) (c.in_ok-push.ensures.items ∙ ap (λ (xs : List Name). xs ++ c.in_ok-name.name ∷ []) c.new-first.ensures.items)) (ReadsNames.one c.in_ok-name.ensures.tree))) c.in_ok-colon.ensures.tree c.in_ok-vtype.ensures.tree
