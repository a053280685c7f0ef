-- Reads of a sequential phase, each an assignment of its own: administrative normal form.
use Rattle.std.specs.Prelude.{ℕ, ◌+◌, nat_eq, Bool, true, false, not, ◌&&◌, ◌||◌, List, [], ◌∷◌, ◌++◌, map, length, Option, Some, None}
use Rattle.gm_value.specs.declared.values.VType.{VType}
use Rattle.gm_value.specs.declared.values.VType.TheVariants as V
use Rattle.gm_ast.specs.declared.tree.Declaration.{Declaration}
use Rattle.gm_ast.specs.declared.tree.Key.{Key}
use Rattle.gm_ast.specs.declared.tree.Target.{Target}
use Rattle.gm_ast.specs.declared.tree.Target.TheVariants as T
use Rattle.gm_base.specs.declared.places.Place.{Place}
use Rattle.gm_ast.specs.Program.{Expr, Const, Var, Property, EdgeProperty, Degree, NodeCount, EdgeCount, Live, Unary, Binary, Both, Either, Choose, Folded, Stmt, Then, Declare, Assign, For, If, While, Do, Return, Program, sequence}
use Rattle.gm_forms.specs.Forms.{is_told, may}
use Rattle.gm_forms.specs.Typing.{type_at}
use Rattle.gm_desugar.specs.Conditions.{fresh, set_to, asked}

-- the types of what an expression of a sequential phase reads through node variables and by reductions, from left to right
abbrev pub types_read : List Declaration → Expr → List VType
types_read ds (Property x p at) = type_at ds p ∷ []
types_read ds (Degree d x at) = V.I32 ∷ []
types_read ds (Live x at) = V.Node ∷ []
types_read ds (Folded f h test e) = f.vtype ∷ []
types_read ds (Unary op at e) = types_read ds e
types_read ds (Binary op at a b) = types_read ds a ++ types_read ds b
types_read ds (Both a b) = types_read ds a ++ types_read ds b
types_read ds (Either a b) = types_read ds a ++ types_read ds b
types_read ds (Choose c a b) = types_read ds c ++ (types_read ds a ++ types_read ds b)
types_read ds e = []

-- how many reads these are
abbrev pub count_read : Expr → ℕ
count_read (Property x p at) = 1
count_read (Degree d x at) = 1
count_read (Live x at) = 1
count_read (Folded f h test e) = 1
count_read (Unary op at e) = count_read e
count_read (Binary op at a b) = count_read a + count_read b
count_read (Both a b) = count_read a + count_read b
count_read (Either a b) = count_read a + count_read b
count_read (Choose c a b) = count_read c + (count_read a + count_read b)
count_read e = 0

-- each read set to a variable, from a number on
abbrev pub reads_set : ℕ → Key → Expr → List Stmt
reads_set n k (Property x p at) = set_to n k (Property x p at) ∷ []
reads_set n k (Degree d x at) = set_to n k (Degree d x at) ∷ []
reads_set n k (Live x at) = set_to n k (Live x at) ∷ []
reads_set n k (Folded f h test e) = set_to n k (Folded f h test e) ∷ []
reads_set n k (Unary op at e) = reads_set n k e
reads_set n k (Binary op at a b) = reads_set n k a ++ reads_set (n + count_read a) k b
reads_set n k (Both a b) = reads_set n k a ++ reads_set (n + count_read a) k b
reads_set n k (Either a b) = reads_set n k a ++ reads_set (n + count_read a) k b
reads_set n k (Choose c a b) = reads_set n k c ++ (reads_set (n + count_read c) k a ++ reads_set ((n + count_read c) + count_read a) k b)
reads_set n k e = []

-- the expression with its reads as these variables
abbrev pub told_from : ℕ → Expr → Expr
told_from n (Property x p at) = asked n
told_from n (Degree d x at) = asked n
told_from n (Live x at) = asked n
told_from n (Folded f h test e) = asked n
told_from n (Unary op at e) = Unary op at (told_from n e)
told_from n (Binary op at a b) = Binary op at (told_from n a) (told_from (n + count_read a) b)
told_from n (Both a b) = Both (told_from n a) (told_from (n + count_read a) b)
told_from n (Either a b) = Either (told_from n a) (told_from (n + count_read a) b)
told_from n (Choose c a b) = Choose (told_from n c) (told_from (n + count_read c) a) (told_from ((n + count_read c) + count_read a) b)
told_from n e = e

-- whether an expression names a variable: as a scalar, a node or a property that it reads
abbrev pub names : ℕ → Expr → Bool
names x (Const v) = false
names x (Var y at) = nat_eq y x
names x (Property y p at) = nat_eq y x || nat_eq p x
names x (EdgeProperty y p at) = nat_eq p x
names x (Degree d y at) = nat_eq y x
names x NodeCount = false
names x EdgeCount = false
names x (Live y at) = nat_eq y x
names x (Unary op at e) = names x e
names x (Binary op at a b) = names x a || names x b
names x (Both a b) = names x a || names x b
names x (Either a b) = names x a || names x b
names x (Choose c a b) = names x c || (names x a || names x b)
names x (Folded f h test e) = nat_eq h.owner x || (names x test || names x e)

-- one read that a scalar may be set to. A reduction does not name the scalar, to which later passes take its total
abbrev pub is_read : ℕ → Expr → Bool
is_read x (Property y p at) = true
is_read x (Degree d y at) = true
is_read x (Live y at) = true
is_read x (Folded f h test e) = not (names x (Folded f h test e))
is_read x e = false

-- what is assigned to a scalar: one read, or what scalars and counts tell
abbrev pub is_single : ℕ → Expr → Bool
is_single x e = is_told e || is_read x e

-- a statement with an expression, after the reads of the expression. Where there is nothing to set it stands alone
abbrev pub after_reads : (alone : Bool) → ℕ → Key → Expr → (Expr → Stmt) → Stmt
after_reads true n k e s = s e
after_reads false n k e s = sequence (reads_set n k e ++ (s (told_from n e) ∷ []))

-- the reads of an expression, each set to a variable, unless it stands alone
abbrev pub set_unless : (alone : Bool) → ℕ → Key → Expr → Option (List Stmt)
set_unless true n k e = None
set_unless false n k e = Some (reads_set n k e)

-- the expression with its reads as these variables, unless it stands alone
abbrev pub told_unless : (alone : Bool) → ℕ → Expr → Expr
told_unless true n e = e
told_unless false n e = told_from n e

-- whether an assignment's value may stay as it is
abbrev pub stays_alone : Target → Expr → Bool
stays_alone (T.Scalar x at) e = is_single x e
stays_alone (T.Property x p at) e = is_told e

-- how many variables an expression's reads take, where they are set before
abbrev pub count_unless : Bool → Expr → ℕ
count_unless true e = 0
count_unless false e = count_read e

-- how many variables the reads of a sequential phase take
abbrev pub count_reads : Stmt → ℕ
count_reads (Then a b) = count_reads a + count_reads b
count_reads (Declare k x (Some e)) = count_unless (is_single x e) e
count_reads (Assign k t e) = count_unless (stays_alone t e) e
count_reads (For k at h e s) = count_reads s
count_reads (If k e a b) = count_reads a + count_reads b
count_reads (While k at e s) = count_reads s
count_reads (Do k at s e) = count_reads s
count_reads (Return k at (Some e)) = count_unless (is_told e) e
count_reads s = 0

-- a sequential phase with the reads of what is declared, assigned and returned set to variables from a number on, where they do not stand alone
abbrev pub apart : ℕ → Stmt → Stmt
apart n (Then a b) = Then (apart n a) (apart (n + count_reads a) b)
apart n (Declare k x (Some e)) = after_reads (is_single x e) n k e (λ d. Declare k x (Some d))
apart n (Assign k t e) = after_reads (stays_alone t e) n k e (Assign k t)
apart n (For k at h e s) = For k at h e (apart n s)
apart n (If k e a b) = If k e (apart n a) (apart (n + count_reads a) b)
apart n (While k at e s) = While k at e (apart n s)
apart n (Do k at s e) = Do k at (apart n s) e
apart n (Return k at (Some e)) = after_reads (is_told e) n k e (λ d. Return k at (Some d))
apart n s = s

-- the types of the variables of an expression's reads, where they are set before
abbrev pub types_unless : Bool → List Declaration → Expr → List VType
types_unless true ds e = []
types_unless false ds e = types_read ds e

-- those of what a declaration sets, if anything
abbrev pub types_declared : List Declaration → ℕ → Option Expr → List VType
types_declared ds x (Some e) = types_unless (is_single x e) ds e
types_declared ds x None = []

-- those of what is returned, if anything
abbrev pub types_returned : List Declaration → Option Expr → List VType
types_returned ds (Some e) = types_unless (is_told e) ds e
types_returned ds None = []

-- the types of all these variables, in the same order
abbrev pub types_apart : List Declaration → Stmt → List VType
types_apart ds (Then a b) = types_apart ds a ++ types_apart ds b
types_apart ds (Declare k x e) = types_declared ds x e
types_apart ds (Assign k t e) = types_unless (stays_alone t e) ds e
types_apart ds (For k at h e s) = types_apart ds s
types_apart ds (If k e a b) = types_apart ds a ++ types_apart ds b
types_apart ds (While k at e s) = types_apart ds s
types_apart ds (Do k at s e) = types_apart ds s
types_apart ds (Return k at e) = types_returned ds e
types_apart ds s = []

-- a program with its reads apart, each set to a variable of its own
abbrev pub with_reads_apart : Program → Program
with_reads_apart p = record p { declarations = p.declarations ++ map fresh (types_apart p.declarations p.body); body = apart (length p.declarations) p.body }

-- whether in a sequential phase each read stands alone as the value of a scalar
abbrev pub has_reads_apart : Stmt → Bool
has_reads_apart (Then a b) = has_reads_apart a && has_reads_apart b
has_reads_apart (Declare k x (Some e)) = is_single x e
has_reads_apart (Assign k t e) = stays_alone t e
has_reads_apart (For k at h e s) = has_reads_apart s
has_reads_apart (If k e a b) = has_reads_apart a && has_reads_apart b
has_reads_apart (While k at e s) = has_reads_apart s
has_reads_apart (Do k at s e) = has_reads_apart s
has_reads_apart (Return k at (Some e)) = is_told e
has_reads_apart s = true
