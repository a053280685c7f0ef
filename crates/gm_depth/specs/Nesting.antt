-- How many Ifs stand within one another, at most.
use Rattle.std.specs.Prelude.{ℕ, suc, max}
use Rattle.gm_ast.specs.Program.{Stmt, Then, Foreach, For, If, While, Do, InBfs, InBfsBoth}
use Rattle.gm_ast.specs.Surface as S
use Rattle.gm_ast.specs.Surface.{SurfaceStmt}

-- in the body of a parallel loop, outside of its inner loops
abbrev pub body_nesting : Stmt → ℕ
body_nesting (Then a b) = max (body_nesting a) (body_nesting b)
body_nesting (If k test a b) = suc (max (body_nesting a) (body_nesting b))
body_nesting _ = 0

-- in the bodies of the parallel loops and searches of a sequential phase
abbrev pub nesting : Stmt → ℕ
nesting (Then a b) = max (nesting a) (nesting b)
nesting (Foreach k at h test body) = body_nesting body
nesting (For k at h test body) = nesting body
nesting (If k test a b) = max (nesting a) (nesting b)
nesting (While k at test body) = nesting body
nesting (Do k at body test) = nesting body
nesting (InBfs k at s test body) = body_nesting body
nesting (InBfsBoth k at s test body back_key back_test back) = max (body_nesting body) (body_nesting back)
nesting _ = 0

-- anywhere in the tree of a text
abbrev pub tree_nesting : SurfaceStmt → ℕ
tree_nesting (S.Then a b) = max (tree_nesting a) (tree_nesting b)
tree_nesting (S.Loop at word h filter body) = tree_nesting body
tree_nesting (S.If at c a b) = suc (max (tree_nesting a) (tree_nesting b))
tree_nesting (S.While at c body) = tree_nesting body
tree_nesting (S.Do at body c) = tree_nesting body
tree_nesting (S.InBfs at v g root filter body) = tree_nesting body
tree_nesting (S.InBfsBoth at v g root filter body reverse back_filter back) = max (tree_nesting body) (tree_nesting back)
tree_nesting _ = 0

-- as many statements may stand within one another in a text
abbrev pub text_nesting : ℕ
text_nesting = 64
