use Rattle.std.proofs.Common.{List, ap, ◌∙◌}
use Rattle.gm_token.specs.Tokens.{words_of}
use Rattle.gm_parse.specs.Grammar.{a_declaration, rule}
use Rattle.gm_parse.specs.Factored.{factored}
use Rattle.gm_parse.specs.Trees.{ReadsNames, ReadsStmt}
use Rattle.gm_parse.proofs.Paths.{at_exit, goes_first, goes_left, goes_nowhere, goes_right, goes_then, sees_then}
use Rattle.gm_parse.proofs.TreeLaws.{as_stmt, as_names}
use Rattle.gm_parse.proofs.statements.declaration.Goals as goal
use Rattle.gm_ast.specs.declared.surface.Name.{Name}
use Rattle.std.proofs.Common.{map, ◌++◌, ◌∷◌, []}
use Rattle.gm_ast.specs.SurfaceTree.{name_of}
use Rattle.gm_ast.proofs.SurfaceTrees.{stmt_of-Declare, stmt_of-DeclareAs}

pub returns-in_err-vtype-clause-goes : goal.returns-in_err-vtype-clause-goes
unfolding rule factored
returns-in_err-vtype-clause-goes c = at_exit c.from_residual.result c.from_residual.ensures.1 (goes_first c.in_err-vtype.ensures.goes)

pub returns-in_err-name-clause-goes : goal.returns-in_err-name-clause-goes
unfolding rule factored
returns-in_err-name-clause-goes c = at_exit c.from_residual-in_err-name.result c.from_residual-in_err-name.ensures.1 (goes_then c.in_ok-vtype.ensures.goes (goes_first c.in_err-name.ensures.goes))

pub returns-in_err-equals-clause-goes : goal.returns-in_err-equals-clause-goes
unfolding rule factored
returns-in_err-equals-clause-goes c = at_exit c.from_residual-in_err-equals.result c.from_residual-in_err-equals.ensures.1 (goes_then c.in_ok-vtype.ensures.goes (goes_then c.in_ok-name.ensures.goes (goes_first (goes_left (sees_then c.next_is.ensures c.if-next_is.true) (goes_first c.in_err-equals.ensures.goes)))))

pub returns-in_err-value-clause-goes : goal.returns-in_err-value-clause-goes
unfolding rule factored
returns-in_err-value-clause-goes c = at_exit c.from_residual-in_err-value.result c.from_residual-in_err-value.ensures.1 (goes_then c.in_ok-vtype.ensures.goes (goes_then c.in_ok-name.ensures.goes (goes_first (goes_left (sees_then c.next_is.ensures c.if-next_is.true) (goes_then c.in_ok-equals.ensures.goes c.in_err-value.ensures.goes)))))

pub returns-in_err-last-clause-goes : goal.returns-in_err-last-clause-goes
unfolding rule factored
returns-in_err-last-clause-goes c = at_exit c.from_residual-in_err-last.result c.from_residual-in_err-last.ensures.1 (goes_then c.in_ok-vtype.ensures.goes (goes_then c.in_ok-name.ensures.goes (goes_then (goes_left (sees_then c.next_is.ensures c.if-next_is.true) (goes_then c.in_ok-equals.ensures.goes c.in_ok-value.ensures.goes)) c.in_err-last.ensures.goes)))

pub returns-then-next_is-clause-goes : goal.returns-then-next_is-clause-goes
unfolding rule factored
returns-then-next_is-clause-goes c = goes_then c.in_ok-vtype.ensures.goes (goes_then c.in_ok-name.ensures.goes (goes_then (goes_left (sees_then c.next_is.ensures c.if-next_is.true) (goes_then c.in_ok-equals.ensures.goes c.in_ok-value.ensures.goes)) c.in_ok-last.ensures.goes))

pub returns-in_err-push-clause-goes : goal.returns-in_err-push-clause-goes
unfolding rule factored
returns-in_err-push-clause-goes c = at_exit c.from_residual-in_err-push.result c.from_residual-in_err-push.ensures.1 (goes_nowhere (a_declaration) c.args.around (words_of c.args.tokens.now) c.args.at)

pub returns-in_err-names-clause-goes : goal.returns-in_err-names-clause-goes
unfolding rule factored
returns-in_err-names-clause-goes c = at_exit c.from_residual-in_err-names.result c.from_residual-in_err-names.ensures.1 (goes_then c.in_ok-vtype.ensures.goes (goes_then c.in_ok-name.ensures.goes (goes_first (goes_right (sees_then c.next_is.ensures c.if-next_is.false) c.in_err-names.ensures.goes))))

pub returns-in_err-close-clause-goes : goal.returns-in_err-close-clause-goes
unfolding rule factored
returns-in_err-close-clause-goes c = at_exit c.from_residual-in_err-close.result c.from_residual-in_err-close.ensures.1 (goes_then c.in_ok-vtype.ensures.goes (goes_then c.in_ok-name.ensures.goes (goes_then (goes_right (sees_then c.next_is.ensures c.if-next_is.false) c.in_ok-names.ensures.goes) c.in_err-close.ensures.goes)))

pub returns-clause-goes : goal.returns-clause-goes
unfolding rule factored
returns-clause-goes c = goes_then c.in_ok-vtype.ensures.goes (goes_then c.in_ok-name.ensures.goes (goes_then (goes_right (sees_then c.next_is.ensures c.if-next_is.false) c.in_ok-names.ensures.goes) c.in_ok-close.ensures.goes))

pub returns-then-next_is-clause-tree : goal.returns-then-next_is-clause-tree
unfolding rule factored
returns-then-next_is-clause-tree c = as_stmt (stmt_of-DeclareAs _ _ _ _) (ReadsStmt.declare_as c.in_ok-vtype.ensures.tree c.in_ok-name.ensures.tree c.in_ok-equals.ensures.tree c.in_ok-value.ensures.tree c.in_ok-last.ensures.tree)

pub returns-clause-tree : goal.returns-clause-tree
unfolding rule factored
returns-clause-tree c = as_stmt (stmt_of-Declare _ _) (ReadsStmt.declare c.in_ok-vtype.ensures.tree (c.in_ok-names.ensures.tree _ (as_names (ap (map name_of) (c.in_ok-push.ensures.items ∙ ap (λ (xs : List Name). xs ++ c.in_ok-name.name ∷ []) c.new-first.ensures.items)) (ReadsNames.one c.in_ok-name.ensures.tree))) c.in_ok-close.ensures.tree)
