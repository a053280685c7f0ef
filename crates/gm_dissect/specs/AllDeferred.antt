-- All deferred writes of a program, written as writes at once to copies.
use Rattle.std.specs.Prelude.{ℕ, Bool, true, false, ◌||◌, ◌&&◌, if◌then◌else◌, List, [], ◌∷◌, ◌++◌}
use Rattle.gm_ast.specs.declared.tree.Target.{Target}
use Rattle.gm_ast.specs.declared.tree.Target.TheVariants as T
use Rattle.gm_ast.specs.Program.{Stmt, Then, Defer, Foreach, For, If, While, Do, Program}
use Rattle.gm_dissect.specs.Deferred.{defers, without_deferred_to}

-- the property that a target is, if it is one
abbrev pub property_in : Target → List ℕ
property_in (T.Scalar x at) = []
property_in (T.Property x p at) = p ∷ []

-- the properties to which a body defers writes, in the order of the text
abbrev pub deferred_of : Stmt → List ℕ
deferred_of (Then a b) = deferred_of a ++ deferred_of b
deferred_of (Defer k t e) = property_in t
deferred_of (If k c a b) = deferred_of a ++ deferred_of b
deferred_of _ = []

-- the same of the loops of a sequential phase
abbrev pub deferred_in : Stmt → List ℕ
deferred_in (Then a b) = deferred_in a ++ deferred_in b
deferred_in (Foreach k at h test body) = deferred_of body
deferred_in (For k at h test body) = deferred_in body
deferred_in (If k c a b) = deferred_in a ++ deferred_in b
deferred_in (While k at c body) = deferred_in body
deferred_in (Do k at body c) = deferred_in body
deferred_in _ = []

-- whether a loop of a sequential phase defers writes to a property
abbrev pub some_defers : ℕ → Stmt → Bool
some_defers p (Then a b) = some_defers p a || some_defers p b
some_defers p (Foreach k at h test body) = defers p body
some_defers p (For k at h test body) = some_defers p body
some_defers p (If k c a b) = some_defers p a || some_defers p b
some_defers p (While k at c body) = some_defers p body
some_defers p (Do k at body c) = some_defers p body
some_defers p _ = false

-- a program without the writes deferred to one property after another, with a copy of each to which some loop still defers
abbrev pub without_each : List ℕ → Program → Program
without_each [] program = program
without_each (p ∷ ps) program = without_each ps (if some_defers p program.body then without_deferred_to p program else program)

-- a program without deferred writes
abbrev pub without_deferred : Program → Program
without_deferred program = without_each (deferred_in program.body) program

-- whether there is none
abbrev pub is_empty : List ℕ → Bool
is_empty [] = true
is_empty (p ∷ ps) = false

-- whether no loop of a program defers a write
abbrev pub has_no_deferred : Program → Bool
has_no_deferred program = is_empty (deferred_in program.body)
