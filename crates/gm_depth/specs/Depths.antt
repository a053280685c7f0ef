-- How deep expressions are: the levels of a tree, of which a leaf has one.
use Rattle.std.specs.Prelude.{ℕ, suc, max, nat_le, Bool, true, ◌&&◌, List, [], ◌∷◌, Option, Some, None}
use Rattle.gm_ast.specs.Program.{Expr, Const, Var, Property, EdgeProperty, Degree, NodeCount, EdgeCount, Live, Unary, Binary, Both, Either, Choose, Folded, Stmt, Skip, Then, Declare, DeclareEdge, Assign, Defer, Combine, Group, Foreach, For, If, While, Do, InBfs, InBfsBoth, Return, Program}

-- the levels of an expression
abbrev pub depth : Expr → ℕ
depth (Const v) = 1
depth (Var x at) = 1
depth (Property x p at) = 1
depth (EdgeProperty x p at) = 1
depth (Degree d x at) = 1
depth NodeCount = 1
depth EdgeCount = 1
depth (Live x at) = 1
depth (Unary op at e) = suc (depth e)
depth (Binary op at a b) = suc (max (depth a) (depth b))
depth (Both a b) = suc (max (depth a) (depth b))
depth (Either a b) = suc (max (depth a) (depth b))
depth (Choose c a b) = suc (max (depth c) (max (depth a) (depth b)))
depth (Folded f h test e) = suc (max (depth test) (depth e))

-- whether an expression has no more levels than a limit
abbrev pub is_within : ℕ → Expr → Bool
is_within limit e = nat_le (depth e) limit

abbrev pub may_be_within : ℕ → Option Expr → Bool
may_be_within limit None = true
may_be_within limit (Some e) = is_within limit e

abbrev pub are_within : ℕ → List Expr → Bool
are_within limit [] = true
are_within limit (e ∷ es) = is_within limit e && are_within limit es

-- whether no expression of a statement has more levels than a limit
abbrev pub all_within : ℕ → Stmt → Bool
all_within limit Skip = true
all_within limit (Then a b) = all_within limit a && all_within limit b
all_within limit (Declare k x e) = may_be_within limit e
all_within limit (DeclareEdge x y at) = true
all_within limit (Assign k t e) = is_within limit e
all_within limit (Defer k t e) = is_within limit e
all_within limit (Combine k total r ts es) = are_within limit es
all_within limit (Group k at g p e) = is_within limit e
all_within limit (Foreach k at h test body) = is_within limit test && all_within limit body
all_within limit (For k at h test body) = is_within limit test && all_within limit body
all_within limit (If k test a b) = is_within limit test && (all_within limit a && all_within limit b)
all_within limit (While k at test body) = is_within limit test && all_within limit body
all_within limit (Do k at body test) = all_within limit body && is_within limit test
all_within limit (InBfs k at s test body) = is_within limit test && all_within limit body
all_within limit (InBfsBoth k at s test body back_key back_test back) =
    is_within limit test && (all_within limit body && (is_within limit back_test && all_within limit back))
all_within limit (Return k at e) = may_be_within limit e

-- the levels that an expression of an accepted text's program has at most: 256, as many as it may have tokens, and one where its value becomes a Long for what takes it
abbrev pub text_levels : ℕ
text_levels = 257

-- whether no expression of a program has more levels
abbrev pub is_shallow_text : Program → Bool
is_shallow_text p = all_within text_levels p.body

-- whether no expression of a program has more than 512 levels, as many as one in an image may have
abbrev pub is_shallow : Program → Bool
is_shallow p = all_within 512 p.body
