-- Loops of a sequential phase that are written as others.
use Rattle.gm_base.specs.declared.places.Place.{Place}
use Rattle.gm_ast.specs.declared.tree.Head.{Head}
use Rattle.gm_ast.specs.declared.tree.Key.{Key}
use Rattle.gm_ast.specs.Program.{Expr, Stmt, Then, Foreach, For, If, While, Do}

-- a sequential phase with each of its parallel loops over nodes written as a function says
abbrev pub each_loop : (Key → Place → Head → Expr → Stmt → Stmt) → Stmt → Stmt
each_loop f (Then a b) = Then (each_loop f a) (each_loop f b)
each_loop f (Foreach k at h test body) = f k at h test body
each_loop f (For k at h test body) = For k at h test (each_loop f body)
each_loop f (If k c a b) = If k c (each_loop f a) (each_loop f b)
each_loop f (While k at c body) = While k at c (each_loop f body)
each_loop f (Do k at body c) = Do k at (each_loop f body) c
each_loop f s = s
