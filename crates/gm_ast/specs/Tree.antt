-- The syntax that a tree with resolved names holds.
use Rattle.std.specs.Prelude.{map, option_map, box_value}
use Rattle.gm_ast.specs.declared.tree.Expr as E
use Rattle.gm_ast.specs.declared.tree.Expr.{fold-Expr}
use Rattle.gm_ast.specs.declared.tree.Expr.TheOpen.{Expr-F}
use Rattle.gm_ast.specs.declared.tree.Stmt as S
use Rattle.gm_ast.specs.declared.tree.Stmt.{fold-Stmt}
use Rattle.gm_ast.specs.declared.tree.Stmt.TheOpen.{Stmt-F}
use Rattle.gm_ast.specs.declared.tree.Tree.{Tree}
use Rattle.gm_ast.specs.Program as P
use Rattle.gm_ast.specs.Program.{Expr, Stmt, Program, sequence}

-- one level of an expression, with the syntax of its parts in their place
abbrev pub expr_step : Expr-F Expr → Expr
expr_step (Expr-F.Const v) = P.Const v
expr_step (Expr-F.Var x at) = P.Var x at
expr_step (Expr-F.Property x p at) = P.Property x p at
expr_step (Expr-F.EdgeProperty x p at) = P.EdgeProperty x p at
expr_step (Expr-F.Degree d x at) = P.Degree d x at
expr_step Expr-F.NodeCount = P.NodeCount
expr_step Expr-F.EdgeCount = P.EdgeCount
expr_step (Expr-F.Live x at) = P.Live x at
expr_step (Expr-F.Unary op at e) = P.Unary op at (box_value e)
expr_step (Expr-F.Binary op at a b) = P.Binary op at (box_value a) (box_value b)
expr_step (Expr-F.Both a b) = P.Both (box_value a) (box_value b)
expr_step (Expr-F.Either a b) = P.Either (box_value a) (box_value b)
expr_step (Expr-F.Choose c a b) = P.Choose (box_value c) (box_value a) (box_value b)
expr_step (Expr-F.Fold f head filter e) = P.Folded f head (box_value filter) (box_value e)

-- the syntax of an expression
abbrev pub expr_of : E.Expr → Expr
expr_of = fold-Expr Expr expr_step

-- one level of a statement, with the syntax of its parts in their place
abbrev pub stmt_step : Stmt-F Stmt → Stmt
stmt_step (Stmt-F.Block stmts) = sequence stmts.items
stmt_step (Stmt-F.Declare k x e) = P.Declare k x (option_map expr_of e)
stmt_step (Stmt-F.DeclareEdge x y at) = P.DeclareEdge x y at
stmt_step (Stmt-F.Assign k t e) = P.Assign k t (expr_of e)
stmt_step (Stmt-F.Defer k t e) = P.Defer k t (expr_of e)
stmt_step (Stmt-F.Reduce k total r ts es) = P.Combine k total r ts.items (map expr_of es.items)
stmt_step (Stmt-F.Group k at g p e) = P.Group k at g p (expr_of e)
stmt_step (Stmt-F.Foreach k at head f s) = P.Foreach k at head (expr_of f) (box_value s)
stmt_step (Stmt-F.For k at head f s) = P.For k at head (expr_of f) (box_value s)
stmt_step (Stmt-F.If k e s other) = P.If k (expr_of e) (box_value s) (box_value other)
stmt_step (Stmt-F.While k at e s) = P.While k at (expr_of e) (box_value s)
stmt_step (Stmt-F.Do k at s e) = P.Do k at (box_value s) (expr_of e)
stmt_step (Stmt-F.InBfs k at search f s) = P.InBfs k at search (expr_of f) (box_value s)
stmt_step (Stmt-F.InBfsBoth k at search f s back_key h back) = P.InBfsBoth k at search (expr_of f) (box_value s) back_key (expr_of h) (box_value back)
stmt_step (Stmt-F.Return k at e) = P.Return k at (option_map expr_of e)

-- the syntax of a statement
abbrev pub stmt_of : S.Stmt → Stmt
stmt_of = fold-Stmt Stmt stmt_step

-- the program that a tree holds
abbrev pub program_of : Tree → Program
program_of t = record {
  name = t.name;
  declarations = t.declarations.items;
  inputs = t.inputs;
  outputs = t.outputs;
  result = t.result;
  statements = t.statements;
  body = stmt_of t.body;
}
