-- The syntax that a tree of the text holds.
use Rattle.std.specs.Prelude.{map, fold, Option, Some, None, option_map, Box, box_value}
use Rattle.std.specs.declared.alloc.Global.{Global}
use Rattle.gm_ast.specs.declared.surface.Name.{Name}
use Rattle.gm_ast.specs.declared.surface.PropertyLayer.{PropertyLayer}
use Rattle.gm_ast.specs.declared.surface.SpelledType.{SpelledType}
use Rattle.gm_ast.specs.declared.surface.SpelledHead.{SpelledHead}
use Rattle.gm_ast.specs.declared.surface.SpelledTarget.{SpelledTarget}
use Rattle.gm_ast.specs.declared.surface.CallResult.{CallResult}
use Rattle.gm_ast.specs.declared.surface.SpelledExpr.{SpelledExpr, fold-SpelledExpr}
use Rattle.gm_ast.specs.declared.surface.SpelledExpr.TheOpen.{SpelledExpr-F}
use Rattle.gm_ast.specs.declared.surface.SpelledStmt.{SpelledStmt, fold-SpelledStmt}
use Rattle.gm_ast.specs.declared.surface.SpelledStmt.TheOpen.{SpelledStmt-F}
use Rattle.gm_ast.specs.declared.surface.SpelledGroup.{SpelledGroup}
use Rattle.gm_ast.specs.declared.surface.SpelledProcedure.{SpelledProcedure}
use Rattle.gm_ast.specs.Surface as S
use Rattle.gm_ast.specs.Surface.{SurfaceName, SurfaceType, SurfaceHead, SurfaceTarget, SurfaceResult, SurfaceExpr, SurfaceStmt, SurfaceGroup, SurfaceProcedure, sequence}

-- the letters and the place of a name
abbrev pub name_of : Name → SurfaceName
name_of x = record { text = x.text.items; place = x.place }

-- a property type around a type
abbrev pub layer_over : SurfaceType → PropertyLayer → SurfaceType
layer_over t l = S.Property l.place l.bearer t (option_map name_of l.graph)

-- the syntax of a type
abbrev pub type_of : SpelledType → SurfaceType
type_of t = fold layer_over (S.Plain t.place t.word (option_map name_of t.graph)) t.layers.items

-- the syntax of what a loop runs over
abbrev pub head_of : SpelledHead → SurfaceHead
head_of h = record { iterator = name_of h.iterator; owner = name_of h.owner; range = h.range }

-- a boxed filter or condition that may be absent
abbrev pub boxed_of : Option (Box SurfaceExpr Global) → SurfaceExpr
boxed_of None = S.Always
boxed_of (Some e) = box_value e

-- one level of an expression, with the syntax of its parts in their place
abbrev pub expr_step : SpelledExpr-F SurfaceExpr → SurfaceExpr
expr_step (SpelledExpr-F.Number at n) = S.Number at n
expr_step (SpelledExpr-F.Truth at b) = S.Truth at b
expr_step (SpelledExpr-F.Nil at) = S.Nil at
expr_step (SpelledExpr-F.Greatest at) = S.Greatest at
expr_step (SpelledExpr-F.Least at) = S.Least at
expr_step (SpelledExpr-F.Named x) = S.Named (name_of x)
expr_step (SpelledExpr-F.Member x p) = S.Member (name_of x) (name_of p)
expr_step (SpelledExpr-F.Method x m) = S.Method (name_of x) (name_of m)
expr_step (SpelledExpr-F.Paren at e) = S.Paren at (box_value e)
expr_step (SpelledExpr-F.Prefix at op e) = S.Prefixed at op (box_value e)
expr_step (SpelledExpr-F.Infix at op a b) = S.Infixed at op (box_value a) (box_value b)
expr_step (SpelledExpr-F.Choose at c a b) = S.Choose at (box_value c) (box_value a) (box_value b)
expr_step (SpelledExpr-F.Reduction at w h filter body close) = S.Reduction at w (head_of h) (boxed_of filter) (boxed_of body) close

-- the syntax of an expression
abbrev pub expr_of : SpelledExpr → SurfaceExpr
expr_of = fold-SpelledExpr SurfaceExpr expr_step

-- a boxed expression that may be absent
abbrev pub optional_of : Option (Box SpelledExpr Global) → SurfaceExpr
optional_of None = S.Always
optional_of (Some e) = expr_of (box_value e)

-- a filter that may be absent
abbrev pub test_of : Option SpelledExpr → SurfaceExpr
test_of None = S.Always
test_of (Some e) = expr_of e

-- the syntax of a target
abbrev pub target_of : SpelledTarget → SurfaceTarget
target_of t = record { owner = name_of t.owner; property = option_map name_of t.property }

-- where the result of a call goes
abbrev pub result_of : CallResult → SurfaceResult
result_of r = record { target = target_of r.target; equals = r.equals }

-- a boxed branch that may be absent
abbrev pub branch_of : Option (Box SurfaceStmt Global) → SurfaceStmt
branch_of None = S.Skip
branch_of (Some s) = box_value s

-- one level of a statement, with the syntax of its parts in their place
abbrev pub stmt_step : SpelledStmt-F SurfaceStmt → SurfaceStmt
stmt_step (SpelledStmt-F.Block stmts) = sequence stmts.items
stmt_step (SpelledStmt-F.Declare t xs) = S.Declare (type_of t) (map name_of xs.items)
stmt_step (SpelledStmt-F.DeclareAs t x at e) = S.DeclareAs (type_of t) (name_of x) at (expr_of e)
stmt_step (SpelledStmt-F.Assign t at e) = S.Assign (target_of t) at (expr_of e)
stmt_step (SpelledStmt-F.Defer t at e x) = S.Defer (target_of t) at (expr_of e) (option_map name_of x)
stmt_step (SpelledStmt-F.Reduce ts r at es x) = S.Combine (map target_of ts.items) r at (map expr_of es.items) (option_map name_of x)
stmt_step (SpelledStmt-F.Increment t at) = S.Increment (target_of t) at
stmt_step (SpelledStmt-F.Call r f es xs) = S.Call (option_map result_of r) (name_of f) (map expr_of es.items) (map name_of xs.items)
stmt_step (SpelledStmt-F.Loop at w h f s) = S.Loop at w (head_of h) (test_of f) (box_value s)
stmt_step (SpelledStmt-F.If at c s other) = S.If at (expr_of c) (box_value s) (branch_of other)
stmt_step (SpelledStmt-F.While at c s) = S.While at (expr_of c) (box_value s)
stmt_step (SpelledStmt-F.Do at s c) = S.Do at (box_value s) (expr_of c)
stmt_step (SpelledStmt-F.InBfs at x g root f s) = S.InBfs at (name_of x) (name_of g) (name_of root) (test_of f) (box_value s)
stmt_step (SpelledStmt-F.InBfsBoth at x g root f s reverse h back) = S.InBfsBoth at (name_of x) (name_of g) (name_of root) (test_of f) (box_value s) reverse (test_of h) (box_value back)
stmt_step (SpelledStmt-F.Return at e) = S.Return at (option_map expr_of e)

-- the syntax of a statement
abbrev pub stmt_of : SpelledStmt → SurfaceStmt
stmt_of = fold-SpelledStmt SurfaceStmt stmt_step

-- the syntax of parameters
abbrev pub group_of : SpelledGroup → SurfaceGroup
group_of g = record { names = map name_of g.names.items; vtype = type_of g.vtype }

-- the procedure that a tree holds
abbrev pub procedure_of : SpelledProcedure → SurfaceProcedure
procedure_of p = record {
  name = name_of p.name;
  inputs = map group_of p.inputs.items;
  outputs = map group_of p.outputs.items;
  result = option_map type_of p.result;
  body = sequence (map stmt_of p.body.items);
}
