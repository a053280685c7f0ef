-- Numbers above the variables that statements write.
use Rattle.std.specs.Prelude.{ℕ, suc, max, List, [], ◌∷◌}
use Rattle.gm_ast.specs.declared.tree.Target.{Target}
use Rattle.gm_ast.specs.declared.tree.Target.TheVariants as T
use Rattle.gm_ast.specs.Program.{Stmt, Skip, Then, Declare, DeclareEdge, Assign, Defer, Combine, Group, Foreach, For, If, While, Do, InBfs, InBfsBoth, Return}

-- a number above the variable of a target
abbrev pub target_bound : Target → ℕ
target_bound (T.Scalar x at) = suc x
target_bound (T.Property x p at) = suc p

-- a number above the variables of some targets
abbrev pub targets_bound : List Target → ℕ
targets_bound [] = 0
targets_bound (t ∷ ts) = max (target_bound t) (targets_bound ts)

-- a number above all variables that a statement writes
abbrev pub bound_of : Stmt → ℕ
bound_of Skip = 0
bound_of (Then a b) = max (bound_of a) (bound_of b)
bound_of (Declare key x value) = suc x
bound_of (DeclareEdge x y at) = 0
bound_of (Assign key t e) = target_bound t
bound_of (Defer key t e) = target_bound t
bound_of (Combine key total r ts es) = targets_bound ts
bound_of (Group key at g p e) = max (suc g) (suc p)
bound_of (Foreach key at head test body) = max (suc head.iterator) (bound_of body)
bound_of (For key at head test body) = max (suc head.iterator) (bound_of body)
bound_of (If key test a b) = max (bound_of a) (bound_of b)
bound_of (While key at test body) = bound_of body
bound_of (Do key at body test) = bound_of body
bound_of (InBfs key at search test body) = max (suc search.iterator) (bound_of body)
bound_of (InBfsBoth key at search test body back_key back_test back) = max (suc search.iterator) (max (bound_of body) (bound_of back))
bound_of (Return key at value) = 0
