-- Statements in boxes, and the halves of searches.
use Rattle.std.specs.Prelude.{Box, box_value}
use Rattle.std.specs.declared.alloc.Global.{Global}
use Rattle.gm_ast.specs.declared.tree.Key.{Key}
use Rattle.gm_ast.specs.declared.tree.Stmt as Tree
use Rattle.gm_ast.specs.Program.{Expr, Stmt}
use Rattle.gm_ast.specs.Tree.{expr_of, stmt_of}
use Rattle.gm_types.specs.declared.assembled.Half.{Half}
use Rattle.gm_types.specs.declared.assembled.Back.{Back}

-- a statement in a box
abbrev pub boxed_of : Box Tree.Stmt Global → Stmt
boxed_of b = stmt_of (box_value b)

-- a filter and the body under it
abbrev pub half_of : Half → Expr × Stmt
half_of h = (expr_of h.filter, boxed_of h.body)

-- the part of a search after InReverse, with the key of its filter
abbrev pub back_of : Back → Key × (Expr × Stmt)
back_of b = (b.key, half_of b.half)
