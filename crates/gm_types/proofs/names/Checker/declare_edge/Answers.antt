use Rattle.std.proofs.Common.{◌∙◌, ap}
use Rattle.gm_ast.specs.Program.{DeclareEdge}
use Rattle.gm_ast.specs.Statements.{declared_typed, edge_owner}
use Rattle.gm_ast.specs.SurfaceTree.{name_of, type_of}
use Rattle.gm_types.proofs.Answered.{made-beside}
use Rattle.gm_types.proofs.Blocks.{judges-made}
use Rattle.gm_types.proofs.Walks.{judges-both}
use Rattle.std.proofs.lemmas.Result.{IfOk-from_err}
use Rattle.gm_types.proofs.names.Checker.declare_edge.Goals as goal

pub returns-clause-judged : goal.returns-clause-judged
returns-clause-judged c =
    let y = name_of c.args.owner.now in
    judges-made (λ p. DeclareEdge p.0 p.1.index y.place)
    (judges-both (declared_typed (type_of c.args.vtype.now) (name_of c.args.name.now)) (edge_owner y) c.in_ok-index.ensures c.edge_owner-found.ensures)
    (c.declared_edge-stmt.ensures ∙ made-beside c.in_ok-index.index (λ n b. DeclareEdge n b.index y.place) c.edge_owner-found.result)

pub returns-in_err-index-clause-judged : goal.returns-in_err-index-clause-judged
returns-in_err-index-clause-judged c = IfOk-from_err _ _ c.from_residual.ensures.0

pub returns-in_err-index-clause-index : goal.returns-in_err-index-clause-index
returns-in_err-index-clause-index c = IfOk-from_err _ _ c.from_residual.ensures.0
