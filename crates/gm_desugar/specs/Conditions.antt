-- Conditions of a sequential phase, set to a variable before they are asked.
use Rattle.std.specs.Prelude.{ℕ, Bool, true, false, ◌&&◌, [], ◌∷◌, ◌++◌, length, Option, Some, None}
use Rattle.gm_base.specs.declared.places.Place.{Place}
use Rattle.gm_value.specs.declared.values.VType.{VType}
use Rattle.gm_value.specs.declared.values.VType.TheVariants.{Flag}
use Rattle.gm_ast.specs.declared.tree.Declaration.{Declaration}
use Rattle.gm_ast.specs.declared.tree.Head.{Head}
use Rattle.gm_ast.specs.declared.tree.Key.{Key}
use Rattle.gm_ast.specs.declared.tree.Sort.TheVariants as Sorts
use Rattle.gm_ast.specs.declared.tree.Target.TheVariants as T
use Rattle.gm_ast.specs.Program.{Expr, always, Var, Stmt, Skip, Then, Assign, For, If, While, Do, Program, sequence}
use Rattle.gm_forms.specs.Forms.{is_told}

-- the place of what no text spells, which no fault names
abbrev pub nowhere : Place
nowhere = record { line = 0; col = 0 }

-- a variable that no text declares: a scalar of the procedure, without a name
abbrev pub fresh : VType → Declaration
fresh t = record { name = []; variable = record { sort = Sorts.Scalar; vtype = t; depth = 0 } }

-- a variable set to a condition, under the key of the condition's statement
abbrev pub set_to : ℕ → Key → Expr → Stmt
set_to c k e = Assign k (T.Scalar c nowhere) e

-- the variable as a condition
abbrev pub asked : ℕ → Expr
asked c = Var c nowhere

-- the variable set to a condition, unless scalars tell that
abbrev pub set_unless : (told : Bool) → ℕ → Key → Expr → Option Stmt
set_unless true c k e = None
set_unless false c k e = Some (set_to c k e)

-- what is asked then
abbrev pub asked_unless : (told : Bool) → ℕ → Expr → Expr
asked_unless true c e = e
asked_unless false c e = asked c

-- an If whose condition is set before, where it is not told by scalars
abbrev pub if_hoisted : (told : Bool) → ℕ → Key → Expr → (yes no : Stmt) → Stmt
if_hoisted true c k e a b = If k e a b
if_hoisted false c k e a b = sequence (set_to c k e ∷ If k (asked c) a b ∷ [])

-- a For whose filter is set in each turn
abbrev pub for_hoisted : (told : Bool) → ℕ → Key → Place → Head → Expr → Stmt → Stmt
for_hoisted true c k at h e s = For k at h e s
for_hoisted false c k at h e s = For k at h always (sequence (set_to c k e ∷ If k (asked c) s Skip ∷ []))

-- a While whose condition is set before it, and again at the end of each turn
abbrev pub while_hoisted : (told : Bool) → ℕ → Key → Place → Expr → Stmt → Stmt
while_hoisted true c k at e s = While k at e s
while_hoisted false c k at e s = sequence (set_to c k e ∷ While k at (asked c) (sequence (s ∷ set_to c k e ∷ [])) ∷ [])

-- a Do whose condition is set at the end of each turn
abbrev pub do_hoisted : (told : Bool) → ℕ → Key → Place → Stmt → Expr → Stmt
do_hoisted true c k at s e = Do k at s e
do_hoisted false c k at s e = Do k at (sequence (s ∷ set_to c k e ∷ [])) (asked c)

-- a sequential phase in which each condition that scalars and counts do not tell is set to a variable before it is asked
abbrev pub hoisted : ℕ → Stmt → Stmt
hoisted c (Then a b) = Then (hoisted c a) (hoisted c b)
hoisted c (For k at h e s) = for_hoisted (is_told e) c k at h e (hoisted c s)
hoisted c (If k e a b) = if_hoisted (is_told e) c k e (hoisted c a) (hoisted c b)
hoisted c (While k at e s) = while_hoisted (is_told e) c k at e (hoisted c s)
hoisted c (Do k at s e) = do_hoisted (is_told e) c k at (hoisted c s) e
hoisted c s = s

-- a program with its conditions hoisted to one more variable, which all of them share: none is asked after the next is set
abbrev pub with_conditions : Program → Program
with_conditions p = record p { declarations = p.declarations ++ (fresh Flag ∷ []); body = hoisted (length p.declarations) p.body }

-- whether scalars and counts tell each condition of a sequential phase
abbrev pub has_told_conditions : Stmt → Bool
has_told_conditions (Then a b) = has_told_conditions a && has_told_conditions b
has_told_conditions (For k at h e s) = is_told e && has_told_conditions s
has_told_conditions (If k e a b) = is_told e && (has_told_conditions a && has_told_conditions b)
has_told_conditions (While k at e s) = is_told e && has_told_conditions s
has_told_conditions (Do k at s e) = has_told_conditions s && is_told e
has_told_conditions s = true
