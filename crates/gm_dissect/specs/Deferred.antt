-- Deferred writes to a property, written as writes at once to a copy of it.
use Rattle.std.specs.Prelude.{ℕ, nat_eq, Bool, false, ◌||◌, if◌then◌else◌, List, [], ◌∷◌, ◌++◌, length}
use Rattle.gm_base.specs.declared.places.Place.{Place}
use Rattle.gm_ast.specs.declared.tree.Declaration.{Declaration}
use Rattle.gm_ast.specs.declared.tree.Head.{Head}
use Rattle.gm_ast.specs.declared.tree.Key.{Key}
use Rattle.gm_ast.specs.declared.tree.Sort.TheVariants.{NodeProperty}
use Rattle.gm_ast.specs.declared.tree.Target.{Target}
use Rattle.gm_ast.specs.declared.tree.Target.TheVariants as T
use Rattle.gm_ast.specs.Program.{Expr, Property, always, Stmt, Then, Assign, Defer, Foreach, If, Program, sequence}
use Rattle.gm_semantics.specs.Statements.{variable_at}
use Rattle.gm_forms.specs.Order.{first_key, second_key}
use Rattle.gm_loop_laws.specs.Deferring.{undeferred}
use Rattle.gm_dissect.specs.Loops.{each_loop}

-- a loop that sets one property to another at every node. It cannot fault, so that its keys need only stand in order
abbrev pub copied : ℕ → ℕ → Place → Head → Stmt
copied p q at h = Foreach first_key at h always (Assign second_key (T.Property h.iterator p at) (Property h.iterator q at))

-- whether a target is a property
abbrev pub is_property : ℕ → Target → Bool
is_property p (T.Scalar x at) = false
is_property p (T.Property x q at) = nat_eq q p

-- whether a body defers writes to a property
abbrev pub defers : ℕ → Stmt → Bool
defers p (Then a b) = defers p a || defers p b
defers p (Defer k t e) = is_property p t
defers p (If k c a b) = defers p a || defers p b
defers p _ = false

-- a loop that defers writes to a property p: p is copied to q, the loop writes to q at once, and q is copied to p. Any other loop stands as it is
abbrev pub undeferred_loop : ℕ → ℕ → Key → Place → Head → Expr → Stmt → Stmt
undeferred_loop p q k at h test body =
    if defers p body then sequence (copied q p at h ∷ Foreach k at h test (undeferred p q body) ∷ copied p q at h ∷ [])
    else Foreach k at h test body

-- a property like another, which no text names
abbrev pub copy_of : List Declaration → ℕ → Declaration
copy_of ds p = record { name = []; variable = record { sort = NodeProperty; vtype = (variable_at ds p).vtype; depth = 0 } }

-- a program in which the writes that its loops defer to a property go to a copy of it, the last of its variables
abbrev pub without_deferred_to : ℕ → Program → Program
without_deferred_to p program = record program {
  declarations = program.declarations ++ (copy_of program.declarations p ∷ []);
  body = each_loop (undeferred_loop p (length program.declarations)) program.body;
}
