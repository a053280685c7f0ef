-- The parts that a checker holds, as the rules see them.
use Rattle.gm_types.specs.declared.parts.Part as Held
use Rattle.gm_ast.specs.Kinds.{Part}
use Rattle.gm_ast.specs.Tree.{expr_of}
use Rattle.gm_ast.specs.declared.tree.Expr as Tree
use Rattle.gm_ast.specs.Program.{Expr}

-- a part with a type
abbrev pub part_of : Held.Part → Part
part_of p = record { kind = p.kind; core = expr_of p.core; large = p.large.items }

-- two expressions
abbrev pub pair_of : Tree.Expr × Tree.Expr → Expr × Expr
pair_of p = (expr_of p.0, expr_of p.1)
