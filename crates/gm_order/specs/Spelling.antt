-- What the tokens and the grammar say of the tree of a text, and its types do not: numbers are within the limit, and
-- several targets stand under `min=` and `max=` alone.
use Rattle.std.specs.Prelude.{Bool, true, ◌&&◌, List, [], ◌∷◌, Option, Some, None}
use Rattle.gm_value.specs.Numbers.{fits}
use Rattle.gm_value.specs.declared.values.VType.TheVariants.{I64}
use Rattle.gm_value.specs.declared.reductions.Reduce.{Reduce}
use Rattle.gm_ast.specs.Surface.{SurfaceTarget, SurfaceExpr, Number, Paren, Prefixed, Infixed, Choose, Reduction, SurfaceStmt, Then, DeclareAs, Assign, Defer, Combine, Loop, If, While, Do, InBfs, InBfsBoth, Return}
use Rattle.gm_forms.specs.Typing.{keeps_tuples}

-- whether Long holds each number of an expression
abbrev pub numbers_fit : SurfaceExpr → Bool
numbers_fit (Number at n) = fits I64 n
numbers_fit (Paren at e) = numbers_fit e
numbers_fit (Prefixed at op e) = numbers_fit e
numbers_fit (Infixed at op a b) = numbers_fit a && numbers_fit b
numbers_fit (Choose at c a b) = numbers_fit c && (numbers_fit a && numbers_fit b)
numbers_fit (Reduction at word h filter body close) = numbers_fit filter && numbers_fit body
numbers_fit _ = true

abbrev pub all_numbers_fit : List SurfaceExpr → Bool
all_numbers_fit [] = true
all_numbers_fit (e ∷ es) = numbers_fit e && all_numbers_fit es

abbrev pub option_numbers_fit : Option SurfaceExpr → Bool
option_numbers_fit None = true
option_numbers_fit (Some e) = numbers_fit e

-- whether a reduction assignment has one target, or keeps tuples
abbrev pub may_assign : Reduce → List SurfaceTarget → Bool
may_assign r (t ∷ (u ∷ ts)) = keeps_tuples r
may_assign r _ = true

-- whether in a statement Long holds each number, and only Min and Max have several targets
abbrev pub is_within_limits : SurfaceStmt → Bool
is_within_limits (Then a b) = is_within_limits a && is_within_limits b
is_within_limits (DeclareAs t x at e) = numbers_fit e
is_within_limits (Assign t at e) = numbers_fit e
is_within_limits (Defer t at e iterator) = numbers_fit e
is_within_limits (Combine ts r at es iterator) = may_assign r ts && all_numbers_fit es
is_within_limits (Loop at word h filter body) = numbers_fit filter && is_within_limits body
is_within_limits (If at c a b) = numbers_fit c && (is_within_limits a && is_within_limits b)
is_within_limits (While at c body) = numbers_fit c && is_within_limits body
is_within_limits (Do at body c) = is_within_limits body && numbers_fit c
is_within_limits (InBfs at v g root filter body) = numbers_fit filter && is_within_limits body
is_within_limits (InBfsBoth at v g root filter body reverse back_filter back) =
    numbers_fit filter && (is_within_limits body && (numbers_fit back_filter && is_within_limits back))
is_within_limits (Return at e) = option_numbers_fit e
is_within_limits _ = true
