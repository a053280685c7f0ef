-- What types do not say of a program, and passes need: its constants are in range, and only Min and Max keep tuples.
-- The grammar, and the numbers that a text may spell, are to give it; that they do is not proved here.
use Rattle.std.specs.Prelude.{Bool, true, ◌&&◌, List, [], ◌∷◌, Option, Some, None}
use Rattle.gm_value.specs.Numbers.{type_of, number_of, fits}
use Rattle.gm_value.specs.declared.reductions.Reduce.{Reduce}
use Rattle.gm_ast.specs.declared.tree.Target.{Target}
use Rattle.gm_ast.specs.Program.{Expr, Const, Unary, Binary, Both, Either, Choose, Folded, Stmt, Then, Declare, Assign, Defer, Combine, Group, Foreach, For, If, While, Do, InBfs, InBfsBoth, Return, Program}
use Rattle.gm_forms.specs.Typing.{keeps_tuples}

-- whether each constant of an expression is in the range of its type
abbrev pub constants_fit : Expr → Bool
constants_fit (Const v) = fits (type_of v) (number_of v)
constants_fit (Unary op at e) = constants_fit e
constants_fit (Binary op at a b) = constants_fit a && constants_fit b
constants_fit (Both a b) = constants_fit a && constants_fit b
constants_fit (Either a b) = constants_fit a && constants_fit b
constants_fit (Choose c a b) = constants_fit c && (constants_fit a && constants_fit b)
constants_fit (Folded f h test e) = constants_fit test && constants_fit e
constants_fit _ = true

abbrev pub may_fit : Option Expr → Bool
may_fit None = true
may_fit (Some e) = constants_fit e

abbrev pub all_fit : List Expr → Bool
all_fit [] = true
all_fit (e ∷ es) = constants_fit e && all_fit es

-- whether a reduction has one target, or keeps tuples
abbrev pub may_reduce : Reduce → List Target → Bool
may_reduce r (t ∷ (u ∷ ts)) = keeps_tuples r
may_reduce r _ = true

-- whether in a statement each constant is in the range of its type, and only Min and Max have several targets
abbrev pub is_spelled_in : Stmt → Bool
is_spelled_in (Then a b) = is_spelled_in a && is_spelled_in b
is_spelled_in (Declare k x e) = may_fit e
is_spelled_in (Assign k t e) = constants_fit e
is_spelled_in (Defer k t e) = constants_fit e
is_spelled_in (Combine k total r ts es) = may_reduce r ts && all_fit es
is_spelled_in (Group k at g p e) = constants_fit e
is_spelled_in (Foreach k at h test body) = constants_fit test && is_spelled_in body
is_spelled_in (For k at h test body) = constants_fit test && is_spelled_in body
is_spelled_in (If k c a b) = constants_fit c && (is_spelled_in a && is_spelled_in b)
is_spelled_in (While k at c body) = constants_fit c && is_spelled_in body
is_spelled_in (Do k at body c) = is_spelled_in body && constants_fit c
is_spelled_in (InBfs k at s test body) = constants_fit test && is_spelled_in body
is_spelled_in (InBfsBoth k at s test body back_key back_test back) =
    constants_fit test && (is_spelled_in body && (constants_fit back_test && is_spelled_in back))
is_spelled_in (Return k at e) = may_fit e
is_spelled_in _ = true

-- whether all constants of a program are in range, and only Min and Max have several targets
abbrev pub is_spelled : Program → Bool
is_spelled p = is_spelled_in p.body
