-- Locals of the bodies of parallel loops, kept in properties of the loop's node.
use Rattle.std.specs.Prelude.{ℕ, nat_eq, Bool, false, ◌&&◌, ◌||◌, if◌then◌else◌, List, [], ◌∷◌, ◌++◌, length}
use Rattle.gm_base.specs.declared.places.Place.{Place}
use Rattle.gm_value.specs.Numbers.{zero_of}
use Rattle.gm_ast.specs.declared.tree.Declaration.{Declaration}
use Rattle.gm_ast.specs.declared.tree.Head.{Head}
use Rattle.gm_ast.specs.declared.tree.Key.{Key}
use Rattle.gm_ast.specs.declared.tree.Sort.TheVariants.{Scalar}
use Rattle.gm_ast.specs.declared.tree.Target.TheVariants as T
use Rattle.gm_ast.specs.Names.{sort_eq}
use Rattle.gm_ast.specs.Program.{Expr, Var, always, Stmt, Then, Declare, Assign, Foreach, For, If, While, Do, Program, sequence}
use Rattle.gm_semantics.specs.Statements.{variable_at}
use Rattle.gm_forms.specs.Order.{first_key, second_key}
use Rattle.gm_loop_laws.specs.Localised.{moved_in, moved, names_plainly, may_move}
use Rattle.gm_dissect.specs.Conditions.{holds_cut}
use Rattle.gm_dissect.specs.Deferred.{copy_of}
use Rattle.gm_dissect.specs.Loops.{each_loop}

-- whether a body declares a variable, outside of its inner loops
abbrev pub declares : ℕ → Stmt → Bool
declares x (Then a b) = declares x a || declares x b
declares x (Declare k y e) = nat_eq y x
declares x (If k c a b) = declares x a || declares x b
declares x _ = false

-- whether a loop keeps a scalar of its body in a property: a part is cut from its body, and nothing is reached through the scalar
abbrev pub keeps_local : List Declaration → ℕ → ℕ → Expr → Stmt → Bool
keeps_local ds x n test body = sort_eq Scalar (variable_at ds x).sort && (declares x body && (holds_cut n body && (names_plainly x test && may_move x n body)))

-- a loop that sets a property to what a scalar holds before it
abbrev pub set_to : ℕ → ℕ → Place → Head → Stmt
set_to q x at h = Foreach first_key at h always (Assign second_key (T.Property h.iterator q at) (Var x at))

-- a loop that keeps a local x in a property q sets the property to it first
abbrev pub local_loop : List Declaration → ℕ → ℕ → Key → Place → Head → Expr → Stmt → Stmt
local_loop ds x q k at h test body =
    let n = h.iterator in
    let zero = zero_of (variable_at ds x).vtype in
    if keeps_local ds x n test body
    then sequence (set_to q x at h ∷ Foreach k at h (moved_in x q n at zero test) (moved x q n at zero body) ∷ [])
    else Foreach k at h test body

-- a program whose loops keep a local in a property, the last of its variables
abbrev pub with_kept_local : ℕ → Program → Program
with_kept_local x program = record program {
  declarations = program.declarations ++ (copy_of program.declarations x ∷ []);
  body = each_loop (local_loop program.declarations x (length program.declarations)) program.body;
}

-- whether a loop of a sequential phase keeps a local
abbrev pub some_keeps : List Declaration → ℕ → Stmt → Bool
some_keeps ds x (Then a b) = some_keeps ds x a || some_keeps ds x b
some_keeps ds x (Foreach k at h test body) = keeps_local ds x h.iterator test body
some_keeps ds x (For k at h test body) = some_keeps ds x body
some_keeps ds x (If k c a b) = some_keeps ds x a || some_keeps ds x b
some_keeps ds x (While k at c body) = some_keeps ds x body
some_keeps ds x (Do k at body c) = some_keeps ds x body
some_keeps ds x _ = false

-- the variables that a body declares outside of its inner loops, in the order of the text
abbrev pub locals_of : Stmt → List ℕ
locals_of (Then a b) = locals_of a ++ locals_of b
locals_of (Declare k y e) = y ∷ []
locals_of (If k c a b) = locals_of a ++ locals_of b
locals_of _ = []

-- those of the loops from whose bodies a part is cut
abbrev pub locals_in : Stmt → List ℕ
locals_in (Then a b) = locals_in a ++ locals_in b
locals_in (Foreach k at h test body) = if holds_cut h.iterator body then locals_of body else []
locals_in (For k at h test body) = locals_in body
locals_in (If k c a b) = locals_in a ++ locals_in b
locals_in (While k at c body) = locals_in body
locals_in (Do k at body c) = locals_in body
locals_in _ = []

-- a program whose loops keep one local after another in a property, where some loop keeps it
abbrev pub with_each_kept : List ℕ → Program → Program
with_each_kept [] program = program
with_each_kept (x ∷ xs) program = with_each_kept xs (if some_keeps program.declarations x program.body then with_kept_local x program else program)

-- a program whose loops keep all locals in properties that they can
abbrev pub with_kept_locals : Program → Program
with_kept_locals program = with_each_kept (locals_in program.body) program
