-- The iterator of a reduction, its filter and its braces, as a checker judges them.
use Rattle.std.specs.Prelude.{ℕ, Option, Some, option_map}
use Rattle.gm_ast.specs.declared.kinds.Reducer.{Reducer}
use Rattle.gm_ast.specs.Judged.{Judged, both_of}
use Rattle.gm_ast.specs.Kinds.{Part}
use Rattle.gm_ast.specs.Names.{Env, both, iterated, keyed}
use Rattle.gm_ast.specs.Program.{Expr}
use Rattle.gm_ast.specs.Surface.{SurfaceName, SurfaceExpr}
use Rattle.gm_ast.specs.Tree.{expr_of}
use Rattle.gm_ast.specs.Typing.{typed, condition, start_of}
use Rattle.gm_types.specs.declared.reductions.Folding.{Folding}
use Rattle.gm_types.specs.Parts.{part_of}

-- the iterator, the filter and the braces, if both have types
abbrev pub folding_of : Folding → Option (ℕ × (Expr × Part))
folding_of f = both_of (Some f.iterator) (both_of (option_map expr_of f.filter) (option_map part_of f.body))

-- what the rules say of them
abbrev pub folded_parts : Reducer → SurfaceName → SurfaceExpr → SurfaceExpr → Env → Judged (ℕ × (Expr × Part))
folded_parts r x filter body = iterated x 1 (both (keyed r.filter (condition (start_of filter) (typed filter))) (keyed r.body (typed body)))
