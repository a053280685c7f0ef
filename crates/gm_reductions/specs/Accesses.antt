-- Reads and writes of a sequential phase through node variables, as checks and loops over all nodes.
use Rattle.std.specs.Prelude.{ℕ, ◌+◌, Bool, true, false, ◌&&◌, List, [], ◌∷◌, ◌++◌, length, Option, Some, None}
use Rattle.gm_base.specs.declared.places.Place.{Place}
use Rattle.gm_value.specs.declared.operations.Op2.TheVariants.{Eq}
use Rattle.gm_value.specs.declared.values.VType.{VType}
use Rattle.gm_value.specs.declared.values.VType.TheVariants as V
use Rattle.gm_ast.specs.declared.surface.ReductionWord.{ReductionWord}
use Rattle.gm_ast.specs.declared.surface.ReductionWord.TheVariants.{Max, Exist}
use Rattle.gm_ast.specs.declared.tree.Declaration.{Declaration}
use Rattle.gm_ast.specs.declared.tree.Domain.TheVariants.{Nodes}
use Rattle.gm_ast.specs.declared.tree.Head.{Head}
use Rattle.gm_ast.specs.declared.tree.Key.{Key}
use Rattle.gm_ast.specs.declared.tree.Sort.TheVariants as Sorts
use Rattle.gm_ast.specs.declared.tree.Stage.TheVariants.{Inner, Operator, Total}
use Rattle.gm_ast.specs.declared.tree.Target.{Target}
use Rattle.gm_ast.specs.declared.tree.Target.TheVariants as T
use Rattle.gm_ast.specs.Ways.{is_in}
use Rattle.gm_ast.specs.Program.{Expr, Var, Property, Degree, Live, Binary, Folded, Stmt, Then, Declare, Assign, Foreach, For, If, While, Do, Program, sequence}
use Rattle.gm_forms.specs.Order.{first_key, second_key}
use Rattle.gm_forms.specs.Typing.{type_at}
use Rattle.gm_desugar.specs.Conditions.{nowhere, fresh, set_to}
use Rattle.gm_reductions.specs.declared.accesses.Fresh.{Fresh}

-- ---- the variables that are added, which all statements share, since each is set before it is told

-- an iterator that no text declares
abbrev pub an_iterator : Declaration
an_iterator = record { name = []; variable = record { sort = Sorts.Iterator; vtype = V.Node; depth = 1 } }

-- a node that was checked, an iterator, and a value of each type
abbrev pub added : List Declaration
added = fresh V.Node ∷ an_iterator ∷ fresh V.I32 ∷ fresh V.I64 ∷ fresh V.Flag ∷ fresh V.Node ∷ []

-- these, where they stand from a number on
abbrev pub added_at : ℕ → Fresh
added_at n = record { checked = n; iterator = n + 1; int = n + 2; long = n + 3; flag = n + 4; node = n + 5 }

-- the one for a value of a type
abbrev pub holder : Fresh → VType → ℕ
holder f V.I32 = f.int
holder f V.I64 = f.long
holder f V.Flag = f.flag
holder f V.Node = f.node

-- ---- one node among all

-- the keys of a reduction in which nothing faults: they rise, and are numbered
abbrev pub filter_key : Key
filter_key = record { statement = 1; stage = Inner }

abbrev pub element_key : Key
element_key = record { statement = 1; stage = Operator }

abbrev pub total_key : Key
total_key = record { statement = 1; stage = Total }

-- the place of its total, behind that of what it reads
abbrev pub total_place : Place
total_place = record { line = 0; col = 1 }

-- all nodes
abbrev pub all_nodes : Fresh → Head
all_nodes f = record { iterator = f.iterator; domain = Nodes; owner = f.iterator; place = nowhere }

-- whether the iterator is at the node that a variable holds
abbrev pub is_there : Fresh → ℕ → Expr
is_there f c = Binary Eq nowhere (Var f.iterator nowhere) (Var c nowhere)

-- the reduction that gives the value of one element, of a type
abbrev pub word_for : VType → ReductionWord
word_for V.Flag = Exist
word_for t = Max

-- what an expression is at the node that a variable holds, as a reduction over all nodes
abbrev pub one_node : Fresh → ℕ → VType → Expr → Expr
one_node f c t e =
    Folded (record { word = word_for t; vtype = t; filter = filter_key; body = element_key; total = record { key = total_key; place = total_place; shown = nowhere } }) (all_nodes f) (is_there f c) e

-- ---- the node that a variable holds: an iterator of a For around always holds one, and any other variable is checked

-- the variable with the node: the iterator itself, or the one that is set by the check
abbrev pub compared : (is_iterator : Bool) → Fresh → ℕ → ℕ
compared true f y = y
compared false f y = f.checked

-- the check
abbrev pub checks : (is_iterator : Bool) → Fresh → Key → ℕ → Place → List Stmt
checks true f k y at = []
checks false f k y at = set_to f.checked k (Live y at) ∷ []

-- a statement behind the check, if there is one
abbrev pub after_check : (is_iterator : Bool) → Fresh → Key → ℕ → Place → Stmt → Stmt
after_check true f k y at s = s
after_check false f k y at s = sequence (set_to f.checked k (Live y at) ∷ s ∷ [])

-- ---- statements

-- a loop that writes what a variable holds to a property, at the node that another holds
abbrev pub write_there : Fresh → ℕ → ℕ → ℕ → Stmt
write_there f c p x = Foreach first_key nowhere (all_nodes f) (is_there f c) (Assign second_key (T.Property f.iterator p nowhere) (Var x nowhere))

-- a declaration inside some Fors, of which the iterators are given
abbrev pub declared_by_loops : List Declaration → Fresh → List ℕ → Key → ℕ → Option Expr → Stmt
declared_by_loops ds f its k x (Some (Property y p at)) =
    let i = is_in its y in after_check i f k y at (Declare k x (Some (one_node f (compared i f y) (type_at ds p) (Property f.iterator p nowhere))))
declared_by_loops ds f its k x (Some (Degree d y at)) =
    let i = is_in its y in after_check i f k y at (Declare k x (Some (one_node f (compared i f y) V.I32 (Degree d f.iterator nowhere))))
declared_by_loops ds f its k x e = Declare k x e

-- an assignment. To a property through a node variable: the node is checked before the value is told
abbrev pub assigned_by_loops : List Declaration → Fresh → List ℕ → Key → Target → Expr → Stmt
assigned_by_loops ds f its k (T.Scalar x a) (Property y p at) =
    let i = is_in its y in after_check i f k y at (Assign k (T.Scalar x a) (one_node f (compared i f y) (type_at ds p) (Property f.iterator p nowhere)))
assigned_by_loops ds f its k (T.Scalar x a) (Degree d y at) =
    let i = is_in its y in after_check i f k y at (Assign k (T.Scalar x a) (one_node f (compared i f y) V.I32 (Degree d f.iterator nowhere)))
assigned_by_loops ds f its k (T.Scalar x a) e = Assign k (T.Scalar x a) e
assigned_by_loops ds f its k (T.Property y p at) e =
    let i = is_in its y in
    let x = holder f (type_at ds p) in
    sequence (checks i f k y at ++ (set_to x k e ∷ write_there f (compared i f y) p x ∷ []))

-- a part of a sequential phase inside some Fors, whose accesses through node variables are checks and loops
abbrev pub by_loops : List Declaration → Fresh → List ℕ → Stmt → Stmt
by_loops ds f its (Then a b) = Then (by_loops ds f its a) (by_loops ds f its b)
by_loops ds f its (Declare k x e) = declared_by_loops ds f its k x e
by_loops ds f its (Assign k t e) = assigned_by_loops ds f its k t e
by_loops ds f its (For k at h test body) = For k at h test (by_loops ds f (h.iterator ∷ its) body)
by_loops ds f its (If k c a b) = If k c (by_loops ds f its a) (by_loops ds f its b)
by_loops ds f its (While k at c body) = While k at c (by_loops ds f its body)
by_loops ds f its (Do k at body c) = Do k at (by_loops ds f its body) c
by_loops ds f its s = s

-- a program with its accesses so
abbrev pub without_accesses : Program → Program
without_accesses p = record p { declarations = p.declarations ++ added; body = by_loops p.declarations (added_at (length p.declarations)) [] p.body }

-- whether nothing in a sequential phase is set to a property or a degree, and no property is set
abbrev pub has_no_accesses : Stmt → Bool
has_no_accesses (Then a b) = has_no_accesses a && has_no_accesses b
has_no_accesses (Declare k x (Some (Property y p at))) = false
has_no_accesses (Declare k x (Some (Degree d y at))) = false
has_no_accesses (Assign k (T.Property y p at) e) = false
has_no_accesses (Assign k t (Property y p at)) = false
has_no_accesses (Assign k t (Degree d y at)) = false
has_no_accesses (For k at h test body) = has_no_accesses body
has_no_accesses (If k c a b) = has_no_accesses a && has_no_accesses b
has_no_accesses (While k at c body) = has_no_accesses body
has_no_accesses (Do k at body c) = has_no_accesses body
has_no_accesses s = true
