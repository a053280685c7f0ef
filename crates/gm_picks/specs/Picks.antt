-- Picks of a sequential phase, reductions by Min and Max that are done at once, onto scalars alone.
use Rattle.std.specs.Prelude.{ℕ, ◌+◌, Bool, true, false, ◌&&◌, List, [], ◌∷◌, ◌++◌, map, length}
use Rattle.std.specs.List.{list_all}
use Rattle.gm_base.specs.declared.places.Place.{Place}
use Rattle.gm_value.specs.declared.reductions.Reduce.{Reduce}
use Rattle.gm_value.specs.declared.values.VType.{VType}
use Rattle.gm_value.specs.declared.values.VType.TheVariants as V
use Rattle.gm_ast.specs.declared.tree.Declaration.{Declaration}
use Rattle.gm_ast.specs.declared.tree.Key.{Key}
use Rattle.gm_ast.specs.declared.tree.Target.{Target}
use Rattle.gm_ast.specs.declared.tree.Target.TheVariants as T
use Rattle.gm_ast.specs.declared.tree.TotalKey.{TotalKey}
use Rattle.gm_ast.specs.Ways.{is_in}
use Rattle.gm_ast.specs.Program.{Expr, Property, Live, Stmt, Then, Assign, Combine, For, If, While, Do, Program, sequence}
use Rattle.gm_forms.specs.Forms.{is_told}
use Rattle.gm_forms.specs.Typing.{type_at}
use Rattle.gm_desugar.specs.Conditions.{nowhere, fresh, set_to, asked}
use Rattle.gm_desugar.specs.Reads.{types_read, count_read, reads_set, told_from}

-- ---- several values, whose reads come before all of them

-- how many variables the reads of several expressions take, and their types
abbrev pub count_all : List Expr → ℕ
count_all [] = 0
count_all (e ∷ es) = count_read e + count_all es

abbrev pub types_all : List Declaration → List Expr → List VType
types_all ds [] = []
types_all ds (e ∷ es) = types_read ds e ++ types_all ds es

-- each read set to a variable, from a number on, and the expressions with these variables
abbrev pub all_set : ℕ → Key → List Expr → List Stmt
all_set n k [] = []
all_set n k (e ∷ es) = reads_set n k e ++ all_set (n + count_read e) k es

abbrev pub all_told : ℕ → List Expr → List Expr
all_told n [] = []
all_told n (e ∷ es) = told_from n e ∷ all_told (n + count_read e) es

-- ---- the targets: a scalar stays; a property through a node variable is held in scalars, its node and its value, and written back. An iterator of a For around always holds a node: it is not held itself

-- how many variables that takes
abbrev pub taken : (is_iterator : Bool) → ℕ
taken true = 1
taken false = 2

-- the variable with the node, and the one with the value, from a number on
abbrev pub node_variable : (is_iterator : Bool) → ℕ → ℕ → ℕ
node_variable true n y = y
node_variable false n y = n

abbrev pub value_variable : (is_iterator : Bool) → ℕ → ℕ
value_variable true n = n
value_variable false n = n + 1

-- the types of these variables, where the property has a type
abbrev pub property_types : (is_iterator : Bool) → VType → List VType
property_types true t = t ∷ []
property_types false t = V.Node ∷ t ∷ []

-- a node is checked, and the value is read
abbrev pub property_set : (is_iterator : Bool) → ℕ → Key → ℕ → ℕ → Place → List Stmt
property_set true n k y p at = set_to n k (Property y p at) ∷ []
property_set false n k y p at = set_to n k (Live y at) ∷ set_to (n + 1) k (Property y p at) ∷ []

-- the same of all targets inside some Fors, of which the iterators are given
abbrev pub count_held : List ℕ → List Target → ℕ
count_held its [] = 0
count_held its (T.Scalar x at ∷ ts) = count_held its ts
count_held its (T.Property y p at ∷ ts) = taken (is_in its y) + count_held its ts

abbrev pub types_held : List Declaration → List ℕ → List Target → List VType
types_held ds its [] = []
types_held ds its (T.Scalar x at ∷ ts) = types_held ds its ts
types_held ds its (T.Property y p at ∷ ts) = property_types (is_in its y) (type_at ds p) ++ types_held ds its ts

abbrev pub held_set : List ℕ → ℕ → Key → List Target → List Stmt
held_set its n k [] = []
held_set its n k (T.Scalar x at ∷ ts) = held_set its n k ts
held_set its n k (T.Property y p at ∷ ts) = property_set (is_in its y) n k y p at ++ held_set its (n + taken (is_in its y)) k ts

-- the scalars that take the pick
abbrev pub held : List ℕ → ℕ → List Target → List Target
held its n [] = []
held its n (T.Scalar x at ∷ ts) = T.Scalar x at ∷ held its n ts
held its n (T.Property y p at ∷ ts) = T.Scalar (value_variable (is_in its y) n) nowhere ∷ held its (n + taken (is_in its y)) ts

-- what they hold after it, at the nodes that were checked and at those of iterators
abbrev pub written_back : List ℕ → ℕ → Key → List Target → List Stmt
written_back its n k [] = []
written_back its n k (T.Scalar x at ∷ ts) = written_back its n k ts
written_back its n k (T.Property y p at ∷ ts) =
    let i = is_in its y in Assign k (T.Property (node_variable i n y) p at) (asked (value_variable i n)) ∷ written_back its (n + taken i) k ts

-- ---- statements inside some Fors

-- a pick: what the targets hold is read first, then what the values read, from left to right; scalars and counts tell the rest
abbrev pub picked : List ℕ → ℕ → Key → TotalKey → Reduce → List Target → List Expr → Stmt
picked its n k total r ts es =
    let m = n + count_held its ts in
    sequence (held_set its n k ts ++ (all_set m k es ++ (Combine k total r (held its n ts) (all_told m es) ∷ written_back its n k ts)))

-- a statement that is no part of others, with its pick so, and how many variables that takes
abbrev pub picked_alone : List ℕ → ℕ → Stmt → Stmt
picked_alone its n (Combine k total r ts es) = picked its n k total r ts es
picked_alone its n s = s

abbrev pub count_alone : List ℕ → Stmt → ℕ
count_alone its (Combine k total r ts es) = count_held its ts + count_all es
count_alone its s = 0

-- how many variables the picks of a part of a sequential phase take, and their types
abbrev pub count_picks : List ℕ → Stmt → ℕ
count_picks its (Then a b) = count_picks its a + count_picks its b
count_picks its (Combine k total r ts es) = count_held its ts + count_all es
count_picks its (For k at h e s) = count_picks (h.iterator ∷ its) s
count_picks its (If k e a b) = count_picks its a + count_picks its b
count_picks its (While k at e s) = count_picks its s
count_picks its (Do k at s e) = count_picks its s
count_picks its s = 0

abbrev pub types_picked : List Declaration → List ℕ → Stmt → List VType
types_picked ds its (Then a b) = types_picked ds its a ++ types_picked ds its b
types_picked ds its (Combine k total r ts es) = types_held ds its ts ++ types_all ds es
types_picked ds its (For k at h e s) = types_picked ds (h.iterator ∷ its) s
types_picked ds its (If k e a b) = types_picked ds its a ++ types_picked ds its b
types_picked ds its (While k at e s) = types_picked ds its s
types_picked ds its (Do k at s e) = types_picked ds its s
types_picked ds its s = []

-- a part of a sequential phase with its picks onto scalars, whose variables stand from a number on
abbrev pub onto_scalars : List ℕ → ℕ → Stmt → Stmt
onto_scalars its n (Then a b) = Then (onto_scalars its n a) (onto_scalars its (n + count_picks its a) b)
onto_scalars its n (Combine k total r ts es) = picked its n k total r ts es
onto_scalars its n (For k at h e s) = For k at h e (onto_scalars (h.iterator ∷ its) n s)
onto_scalars its n (If k e a b) = If k e (onto_scalars its n a) (onto_scalars its (n + count_picks its a) b)
onto_scalars its n (While k at e s) = While k at e (onto_scalars its n s)
onto_scalars its n (Do k at s e) = Do k at (onto_scalars its n s) e
onto_scalars its n s = s

-- a program so
abbrev pub with_plain_picks : Program → Program
with_plain_picks p = record p { declarations = p.declarations ++ map fresh (types_picked p.declarations [] p.body); body = onto_scalars [] (length p.declarations) p.body }

-- whether a target is a scalar
abbrev pub is_scalar : Target → Bool
is_scalar (T.Scalar x at) = true
is_scalar (T.Property y p at) = false

-- whether each pick of a sequential phase is onto scalars, of what scalars and counts tell
abbrev pub has_plain_picks : Stmt → Bool
has_plain_picks (Then a b) = has_plain_picks a && has_plain_picks b
has_plain_picks (Combine k total r ts es) = list_all is_scalar ts && list_all is_told es
has_plain_picks (For k at h e s) = has_plain_picks s
has_plain_picks (If k e a b) = has_plain_picks a && has_plain_picks b
has_plain_picks (While k at e s) = has_plain_picks s
has_plain_picks (Do k at s e) = has_plain_picks s
has_plain_picks s = true
