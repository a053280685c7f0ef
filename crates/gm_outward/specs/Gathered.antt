-- Inner bodies that are one reduction under conditions: the conditions join the inner loop's filter.
use Rattle.std.specs.Prelude.{Bool, true, false, ◌&&◌, ◌||◌, if◌then◌else◌}
use Rattle.gm_ast.specs.Program.{Expr, always, Both, Stmt, Skip, Then, DeclareEdge, Combine, Foreach, If}
use Rattle.gm_forms.specs.Order.{cannot_fail}
use Rattle.gm_flip.specs.Flipped.{is_always}

-- two conditions in one: one that passes everything is left out
abbrev pub together : Expr → Expr → Expr
together a b = if is_always a then b else if is_always b then a else Both a b

-- statements that do nothing
abbrev pub is_idle : Stmt → Bool
is_idle Skip = true
is_idle (Then a b) = is_idle a && is_idle b
is_idle (DeclareEdge x y at) = true
is_idle _ = false

-- whether a body is one reduction, under conditions that cannot fault and have no other branch
abbrev pub is_one_reduction : Stmt → Bool
is_one_reduction (Then a b) = if is_idle a then is_one_reduction b else is_one_reduction a && is_idle b
is_one_reduction (If k c a b) = cannot_fail c && (is_one_reduction a && is_idle b)
is_one_reduction (Combine k total r ts es) = true
is_one_reduction _ = false

-- the conditions of such a body
abbrev pub conditions : Stmt → Expr
conditions (Then a b) = if is_idle a then conditions b else conditions a
conditions (If k c a b) = together c (conditions a)
conditions _ = always

-- and its reduction
abbrev pub reduction : Stmt → Stmt
reduction (Then a b) = if is_idle a then reduction b else reduction a
reduction (If k c a b) = reduction a
reduction s = s

-- the filter of an inner loop: where the loop's body is one reduction, its conditions join it
abbrev pub gathered_filter : Expr → Stmt → Expr
gathered_filter test body = if is_one_reduction body then together test (conditions body) else test

-- and its body
abbrev pub gathered_body : Stmt → Stmt
gathered_body body = if is_one_reduction body then reduction body else body

-- an inner loop so
abbrev pub gathered : Stmt → Stmt
gathered (Foreach j here i test body) = Foreach j here i (gathered_filter test body) (gathered_body body)
gathered s = s
