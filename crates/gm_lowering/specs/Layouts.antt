-- Where variables lie in an image: scalars of the procedure in globals, node properties in fields, locals of loops in registers, edge properties in columns. Each has its own number, its rank among those of its sort.
use Rattle.std.specs.Prelude.{ℕ, zero, suc, ◌+◌, ◌*◌, max, nat_eq, nat_lt, Bool, true, false, not, ◌&&◌, ◌||◌, if◌then◌else◌, Option, Some, None, List, [], ◌∷◌, ◌++◌, length, map, filter}
use Rattle.std.specs.List.{list_any}
use Rattle.gm_value.specs.declared.values.VType.{VType}
use Rattle.gm_value.specs.declared.values.VType.TheVariants as V
use Rattle.gm_ast.specs.declared.tree.Declaration.{Declaration}
use Rattle.gm_ast.specs.declared.tree.Sort.TheVariants as Sorts
use Rattle.gm_ast.specs.declared.tree.Target.{Target}
use Rattle.gm_ast.specs.declared.tree.Target.TheVariants as T
use Rattle.gm_ast.specs.declared.tree.Variable.{Variable}
use Rattle.gm_ast.specs.Names.{is}
use Rattle.gm_ast.specs.Program.{Stmt, Then, Combine, Foreach, For, If, While, Do, Program}
use Rattle.gm_semantics.specs.Levels.{numbers_from}
use Rattle.gm_semantics.specs.Statements.{variable_at}
use Rattle.gm_forms.specs.Uses.{Role, NodeValue, Use, uses_of}

-- where variables lie: the table of declarations, and a variable's number as a global, a register, a field and a column; whether a node property has a field; the global of the result; the counter and the flag of a loop of the master list, by how many such loops are around it; and spare globals and registers, by position and type
pub record Layout : Type 0 where
  pub declarations : List Declaration
  pub global : ℕ → ℕ
  pub register : ℕ → ℕ
  pub field : ℕ → ℕ
  pub column : ℕ → ℕ
  pub is_kept : ℕ → Bool
  pub result : ℕ
  pub counter : ℕ → ℕ
  pub flag : ℕ → ℕ
  pub spare_global : ℕ → VType → ℕ
  pub spare_register : ℕ → VType → ℕ

-- the variables below a number that pass a test, and how many they are
abbrev pub those : (ℕ → Bool) → ℕ → List ℕ
those test x = filter test (numbers_from 0 x)

abbrev pub rank : (ℕ → Bool) → ℕ → ℕ
rank test x = length (those test x)

-- scalars and nodes of the procedure
abbrev pub is_global : Variable → Bool
is_global v = nat_eq v.depth 0 && (is Sorts.Scalar v || is Sorts.Iterator v)

-- whether a variable has a value of its own, as scalars and nodes have
abbrev pub has_value : Variable → Bool
has_value v = is Sorts.Scalar v || is Sorts.Iterator v

-- locals of parallel loops
abbrev pub is_register : Variable → Bool
is_register v = is Sorts.Scalar v && not (nat_eq v.depth 0)

-- whether a use names a node property
abbrev pub is_node_value : Role → Bool
is_node_value NodeValue = true
is_node_value _ = false

abbrev pub names_property : ℕ → Use → Bool
names_property p u = nat_eq u.variable p && is_node_value u.role

-- whether a variable has a field: an input or an output, or a property that the body names
abbrev pub has_field : Program → ℕ → Bool
has_field p x =
    is Sorts.NodeProperty (variable_at p.declarations x)
    && (nat_lt x (p.inputs + p.outputs) || list_any (names_property x) (uses_of p.body))

-- how many loops of the master list stand in each other that count or have a flag
abbrev pub nesting : Stmt → ℕ
nesting (Then a b) = max (nesting a) (nesting b)
nesting (If k c a b) = max (nesting a) (nesting b)
nesting (While k at c a) = nesting a
nesting (Do k at a c) = suc (nesting a)
nesting (For k at h c a) = suc (nesting a)
nesting _ = 0

-- the types of the counters and flags of so many loops
abbrev pub loop_types : ℕ → List VType
loop_types zero = []
loop_types (suc n) = V.I64 ∷ V.Flag ∷ loop_types n

-- a type's number among the types
abbrev pub type_number : VType → ℕ
type_number V.I32 = 0
type_number V.I64 = 1
type_number V.Flag = 2
type_number V.Node = 3

-- the types of spare slots at so many positions
abbrev pub spare_types : ℕ → List VType
spare_types zero = []
spare_types (suc n) = V.I32 ∷ V.I64 ∷ V.Flag ∷ V.Node ∷ spare_types n

-- whether a target is a scalar that passes a test
abbrev pub is_scalar_of : (Variable → Bool) → List Declaration → Target → Bool
is_scalar_of test ds (T.Scalar x at) = test (variable_at ds x)
is_scalar_of test ds (T.Property x p at) = false

-- how many spare positions a reduction needs: where it keeps a tuple in scalars of a sort, one for each of its values, and one for the comparison
abbrev pub positions : (Target → Bool) → List Target → ℕ
positions test [] = 0
positions test (t ∷ []) = 0
positions test (t ∷ (u ∷ ts)) = if list_any test (t ∷ (u ∷ ts)) then suc (suc (suc (length ts))) else 0

-- the same of a statement, in a sequential phase and in parallel loops
abbrev pub phase_positions : List Declaration → Stmt → ℕ
phase_positions ds (Then a b) = max (phase_positions ds a) (phase_positions ds b)
phase_positions ds (Combine k total r ts es) = positions (is_scalar_of is_global ds) ts
phase_positions ds (If k c a b) = max (phase_positions ds a) (phase_positions ds b)
phase_positions ds (While k at c a) = phase_positions ds a
phase_positions ds (Do k at a c) = phase_positions ds a
phase_positions ds (For k at h c a) = phase_positions ds a
phase_positions ds _ = 0

abbrev pub body_positions : List Declaration → Stmt → ℕ
body_positions ds (Then a b) = max (body_positions ds a) (body_positions ds b)
body_positions ds (Combine k total r ts es) = positions (is_scalar_of is_register ds) ts
body_positions ds (If k c a b) = max (body_positions ds a) (body_positions ds b)
body_positions ds (While k at c a) = body_positions ds a
body_positions ds (Do k at a c) = body_positions ds a
body_positions ds (For k at h c a) = body_positions ds a
body_positions ds (Foreach k at h c a) = body_positions ds a
body_positions ds _ = 0

-- the types of some variables
abbrev pub types_of : Program → List ℕ → List VType
types_of p xs = map (λ x. (variable_at p.declarations x).vtype) xs

-- the variables of a program that pass a test
abbrev pub all_those : Program → (ℕ → Bool) → List ℕ
all_those p test = those test (length p.declarations)

-- a test of what a variable is
abbrev pub tested : Program → (Variable → Bool) → ℕ → Bool
tested p test x = test (variable_at p.declarations x)

-- a result's type, if there is one
abbrev pub optional : Option VType → List VType
optional None = []
optional (Some t) = t ∷ []

-- the types of an image's globals: the procedure's scalars, the result, the counters and flags, and the spare ones
abbrev pub named_globals : Program → List VType
named_globals p = types_of p (all_those p (tested p is_global))

abbrev pub kept_globals : Program → List VType
kept_globals p = named_globals p ++ optional p.result

abbrev pub counted_globals : Program → List VType
counted_globals p = kept_globals p ++ loop_types (nesting p.body)

abbrev pub global_types : Program → List VType
global_types p = counted_globals p ++ spare_types (phase_positions p.declarations p.body)

-- the types of its registers: the locals, and the spare ones
abbrev pub local_types : Program → List VType
local_types p = types_of p (all_those p (tested p is_register))

abbrev pub register_types : Program → List VType
register_types p = local_types p ++ spare_types (body_positions p.declarations p.body)

-- the types of its fields and columns
abbrev pub field_types : Program → List VType
field_types p = types_of p (all_those p (has_field p))

abbrev pub column_types : Program → List VType
column_types p = types_of p (all_those p (tested p (is Sorts.EdgeProperty)))

-- the layout of a program
abbrev pub layout : Program → Layout
layout p = record {
  declarations = p.declarations;
  global = rank (tested p is_global);
  register = rank (tested p is_register);
  field = rank (has_field p);
  column = rank (tested p (is Sorts.EdgeProperty));
  is_kept = has_field p;
  result = length (named_globals p);
  counter = λ d. length (kept_globals p) + 2 * d;
  flag = λ d. length (kept_globals p) + 2 * d + 1;
  spare_global = λ i t. length (counted_globals p) + 4 * i + type_number t;
  spare_register = λ i t. length (local_types p) + 4 * i + type_number t;
}
