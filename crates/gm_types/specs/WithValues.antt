-- Declarations with values, as a checker judges them.
use Rattle.std.specs.Prelude.{Ok}
use Rattle.gm_base.specs.declared.places.Place.{Place}
use Rattle.gm_ast.specs.Surface.{SurfaceName, SurfaceType, SurfaceExpr}
use Rattle.gm_ast.specs.Program.{Stmt, DeclareEdge}
use Rattle.gm_ast.specs.Judged.{Judged, judge}
use Rattle.gm_ast.specs.Names.{Env, both}
use Rattle.gm_ast.specs.Typing.{typed}
use Rattle.gm_ast.specs.Statements.{declared_typed, declared_value, declared_with, edge_declared, edge_owner, sort_of, vtype_of}

-- a declaration of the edge of a node
abbrev pub edge_of : SurfaceName → SurfaceType → SurfaceName → Env → Judged Stmt
edge_of y t x env = judge (both (declared_typed t x) (edge_owner y) env) (λ p. Ok (DeclareEdge p.0 p.1.index y.place))

-- a declaration with a value that is no edge
abbrev pub value_of : SurfaceType → SurfaceName → Place → SurfaceExpr → Env → Judged Stmt
value_of t x at e env = judge (both (declared_typed t x) (typed e) env) (declared_value env.key x at (vtype_of t) (sort_of t))

-- a declaration with a value
abbrev pub declared_by : SurfaceType → SurfaceName → Place → SurfaceExpr → Env → Judged Stmt
declared_by t x at e env = declared_with (edge_declared t e) t x at e env
