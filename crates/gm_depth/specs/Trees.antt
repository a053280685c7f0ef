-- How deep the expressions in the tree of a text are.
use Rattle.std.specs.Prelude.{ℕ, suc, max, nat_le, Bool, true, ◌&&◌, List, [], ◌∷◌, Some, None}
use Rattle.gm_ast.specs.Surface.{SurfaceExpr, Always, Number, Truth, Nil, Greatest, Least, Named, Member, Method, Paren, Prefixed, Infixed, Choose, Reduction, SurfaceStmt, Skip, Then, Declare, DeclareAs, Assign, Defer, Combine, Increment, Call, Loop, If, While, Do, InBfs, InBfsBoth, Return, SurfaceProcedure}

-- the levels of an expression, with those that typing adds to it inside: an operator that gives its operands one type, of which one may become a Long, counts for two. Each level takes a token or more
abbrev pub tree_depth : SurfaceExpr → ℕ
tree_depth Always = 1
tree_depth (Number at n) = 1
tree_depth (Truth at b) = 1
tree_depth (Nil at) = 1
tree_depth (Greatest at) = 1
tree_depth (Least at) = 1
tree_depth (Named x) = 1
tree_depth (Member x p) = 1
tree_depth (Method x m) = 1
tree_depth (Paren at e) = suc (tree_depth e)
tree_depth (Prefixed at op e) = suc (tree_depth e)
tree_depth (Infixed at op a b) = suc (suc (max (tree_depth a) (tree_depth b)))
tree_depth (Choose at c a b) = suc (suc (max (tree_depth c) (max (tree_depth a) (tree_depth b))))
tree_depth (Reduction at word h filter body close) = suc (max (tree_depth filter) (tree_depth body))

-- whether an expression has no more levels than a limit
abbrev pub is_tree_within : ℕ → SurfaceExpr → Bool
is_tree_within limit e = nat_le (tree_depth e) limit

abbrev pub are_trees_within : ℕ → List SurfaceExpr → Bool
are_trees_within limit [] = true
are_trees_within limit (e ∷ es) = is_tree_within limit e && are_trees_within limit es

-- whether no expression of a statement has more levels than a limit
abbrev pub trees_within : ℕ → SurfaceStmt → Bool
trees_within limit Skip = true
trees_within limit (Then a b) = trees_within limit a && trees_within limit b
trees_within limit (Declare t xs) = true
trees_within limit (DeclareAs t x at e) = is_tree_within limit e
trees_within limit (Assign t at e) = is_tree_within limit e
trees_within limit (Defer t at e iterator) = is_tree_within limit e
trees_within limit (Combine ts r at es iterator) = are_trees_within limit es
trees_within limit (Increment t at) = true
trees_within limit (Call r f es xs) = are_trees_within limit es
trees_within limit (Loop at word h filter body) = is_tree_within limit filter && trees_within limit body
trees_within limit (If at c a b) = is_tree_within limit c && (trees_within limit a && trees_within limit b)
trees_within limit (While at c body) = is_tree_within limit c && trees_within limit body
trees_within limit (Do at body c) = trees_within limit body && is_tree_within limit c
trees_within limit (InBfs at v g root filter body) = is_tree_within limit filter && trees_within limit body
trees_within limit (InBfsBoth at v g root filter body reverse back_filter back) =
    is_tree_within limit filter && (trees_within limit body && (is_tree_within limit back_filter && trees_within limit back))
trees_within limit (Return at None) = true
trees_within limit (Return at (Some e)) = is_tree_within limit e

-- whether no expression of a procedure has more than 256 levels
abbrev pub is_shallow_tree : SurfaceProcedure → Bool
is_shallow_tree p = trees_within 256 p.body
