-- A minus before a literal is the negative literal.
use Rattle.std.specs.Prelude.{Bool, true, false, ◌&&◌, map, Option, Some, None, option_map, Result, Ok, Err}
use Rattle.std.specs.List.{list_all}
use Rattle.gm_base.specs.declared.places.Place.{Place}
use Rattle.gm_value.specs.declared.faults.FaultKind.{FaultKind}
use Rattle.gm_value.specs.declared.operations.Op1.{Op1}
use Rattle.gm_value.specs.declared.operations.Op1.TheVariants.{Neg}
use Rattle.gm_value.specs.declared.values.Value.{Value}
use Rattle.gm_value.specs.Operations.{result1}
use Rattle.gm_ast.specs.Program.{Expr, Const, Unary, Binary, Both, Either, Choose, Folded, Stmt, Then, Declare, Assign, Defer, Combine, Group, Foreach, For, If, While, Do, InBfs, InBfsBoth, Return, Program}

-- the constant that an expression is
abbrev pub literal_of : Expr → Option Value
literal_of (Const v) = Some v
literal_of e = None

-- the constant that a minus gives, or the minus where it gives none
abbrev pub constant_or : Place → Value → Result Value FaultKind → Expr
constant_or at v (Ok n) = Const n
constant_or at v (Err f) = Unary Neg at (Const v)

-- a minus before an expression: before a constant it is one, unless its value is out of range
abbrev pub negated : Place → Expr → Expr
negated at (Const v) = constant_or at v (result1 Neg v)
negated at e = Unary Neg at e

-- an operation on one value
abbrev pub applied : Op1 → Place → Expr → Expr
applied Neg at e = negated at e
applied op at e = Unary op at e

-- what is Ok, if it is
abbrev pub ok_of : Result Value FaultKind → Option Value
ok_of (Ok n) = Some n
ok_of (Err f) = None

-- the negative of a constant, if there is one and it is in range
abbrev pub negated_of : Option Value → Option Value
negated_of (Some v) = ok_of (result1 Neg v)
negated_of None = None

-- the constant that a minus before a constant is, unless its value is out of range
abbrev pub negative_of : Expr → Option Value
negative_of (Unary Neg at e) = negated_of (literal_of e)
negative_of e = None

-- an operation whose value has no such minus
abbrev pub at_once : Expr → Expr
at_once (Unary op at e) = applied op at e
at_once e = e

-- an expression with each minus before a literal as a constant
abbrev pub with_literals : Expr → Expr
with_literals (Unary op at e) = applied op at (with_literals e)
with_literals (Binary op at a b) = Binary op at (with_literals a) (with_literals b)
with_literals (Both a b) = Both (with_literals a) (with_literals b)
with_literals (Either a b) = Either (with_literals a) (with_literals b)
with_literals (Choose c a b) = Choose (with_literals c) (with_literals a) (with_literals b)
with_literals (Folded f h test e) = Folded f h (with_literals test) (with_literals e)
with_literals e = e

-- a body of a parallel loop with each of its expressions changed by a function
abbrev pub each_expr_in : (Expr → Expr) → Stmt → Stmt
each_expr_in f (Then a b) = Then (each_expr_in f a) (each_expr_in f b)
each_expr_in f (Declare k x e) = Declare k x (option_map f e)
each_expr_in f (Assign k t e) = Assign k t (f e)
each_expr_in f (Defer k t e) = Defer k t (f e)
each_expr_in f (Combine k total r ts es) = Combine k total r ts (map f es)
each_expr_in f (If k c a b) = If k (f c) (each_expr_in f a) (each_expr_in f b)
each_expr_in f (Foreach k at h test body) = Foreach k at h (f test) (each_expr_in f body)
each_expr_in f s = s

-- a sequential phase with each of its expressions changed by a function
abbrev pub each_expr : (Expr → Expr) → Stmt → Stmt
each_expr f (Then a b) = Then (each_expr f a) (each_expr f b)
each_expr f (Declare k x e) = Declare k x (option_map f e)
each_expr f (Assign k t e) = Assign k t (f e)
each_expr f (Combine k total r ts es) = Combine k total r ts (map f es)
each_expr f (Group k at g p e) = Group k at g p (f e)
each_expr f (Foreach k at h test body) = Foreach k at h (f test) (each_expr_in f body)
each_expr f (For k at h test body) = For k at h (f test) (each_expr f body)
each_expr f (If k c a b) = If k (f c) (each_expr f a) (each_expr f b)
each_expr f (While k at c body) = While k at (f c) (each_expr f body)
each_expr f (Do k at body c) = Do k at (each_expr f body) (f c)
each_expr f (InBfs k at s test body) = InBfs k at s (f test) (each_expr_in f body)
each_expr f (InBfsBoth k at s test body back_key back_test back) = InBfsBoth k at s (f test) (each_expr_in f body) back_key (f back_test) (each_expr_in f back)
each_expr f (Return k at e) = Return k at (option_map f e)
each_expr f s = s

-- a program with negative literals
abbrev pub with_negative_literals : Program → Program
with_negative_literals p = record p { body = each_expr with_literals p.body }

-- whether a minus could not be a constant
abbrev pub is_err : Result Value FaultKind → Bool
is_err (Ok n) = false
is_err (Err f) = true

abbrev pub stays : Op1 → Expr → Bool
stays Neg (Const v) = is_err (result1 Neg v)
stays op e = true

-- whether an expression has no minus before a literal that could be a constant
abbrev pub has_literals : Expr → Bool
has_literals (Unary op at e) = stays op e && has_literals e
has_literals (Binary op at a b) = has_literals a && has_literals b
has_literals (Both a b) = has_literals a && has_literals b
has_literals (Either a b) = has_literals a && has_literals b
has_literals (Choose c a b) = has_literals c && (has_literals a && has_literals b)
has_literals (Folded f h test e) = has_literals test && has_literals e
has_literals e = true

-- whether an expression that may be absent passes a test
abbrev pub passes : (Expr → Bool) → Option Expr → Bool
passes f None = true
passes f (Some e) = f e

-- whether each expression of a body passes a test
abbrev pub all_exprs_in : (Expr → Bool) → Stmt → Bool
all_exprs_in f (Then a b) = all_exprs_in f a && all_exprs_in f b
all_exprs_in f (Declare k x e) = passes f e
all_exprs_in f (Assign k t e) = f e
all_exprs_in f (Defer k t e) = f e
all_exprs_in f (Combine k total r ts es) = list_all f es
all_exprs_in f (If k c a b) = f c && (all_exprs_in f a && all_exprs_in f b)
all_exprs_in f (Foreach k at h test body) = f test && all_exprs_in f body
all_exprs_in f s = true

-- whether each expression of a sequential phase does
abbrev pub all_exprs : (Expr → Bool) → Stmt → Bool
all_exprs f (Then a b) = all_exprs f a && all_exprs f b
all_exprs f (Declare k x e) = passes f e
all_exprs f (Assign k t e) = f e
all_exprs f (Combine k total r ts es) = list_all f es
all_exprs f (Group k at g p e) = f e
all_exprs f (Foreach k at h test body) = f test && all_exprs_in f body
all_exprs f (For k at h test body) = f test && all_exprs f body
all_exprs f (If k c a b) = f c && (all_exprs f a && all_exprs f b)
all_exprs f (While k at c body) = f c && all_exprs f body
all_exprs f (Do k at body c) = all_exprs f body && f c
all_exprs f (InBfs k at s test body) = f test && all_exprs_in f body
all_exprs f (InBfsBoth k at s test body back_key back_test back) = f test && (all_exprs_in f body && (f back_test && all_exprs_in f back))
all_exprs f (Return k at e) = passes f e
all_exprs f s = true
