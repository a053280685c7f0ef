-- What is asked of a program whose image is to be sound, beside its last form and what the passes keep.
use Rattle.std.specs.Prelude.{slice_get, ◌+◌, ◌≤◌, if◌then◌else◌, ◌≡◌, ◌<◌, ℕ, ◌||◌, length, Bool, true, false, ◌&&◌, List, Option, Some, None}
use Rattle.gm_value.specs.declared.values.VType.TheVariants as V
use Rattle.gm_value.specs.declared.values.Value.{Value}
use Rattle.gm_value.specs.declared.values.Value.TheVariants.{At}
use Rattle.gm_ast.specs.declared.tree.Declaration.{Declaration}
use Rattle.gm_ast.specs.declared.tree.Sort.TheVariants as Sorts
use Rattle.gm_ast.specs.Names.{is}
use Rattle.gm_ast.specs.declared.tree.Target.{Target}
use Rattle.gm_ast.specs.declared.tree.Target.TheVariants as T
use Rattle.gm_ast.specs.Program.{Expr, Const, Unary, Binary, Both, Either, Choose, Folded, Stmt, Then, Declare, Assign, Combine, Foreach, For, If, While, Do, Return, Program}
use Rattle.std.specs.List.{list_all}
use Rattle.std.specs.Str.{bytes_eq}
use Rattle.gm_value.specs.Operations.{same_type, is_numeric}
use Rattle.gm_image.specs.Names.{is_name}
use Rattle.gm_lowering.specs.Lowered.{name_or}
use Rattle.gm_forms.specs.Cut.{is_flipped}
use Rattle.gm_forms.specs.Forms.{may, is_flat}
use Rattle.gm_forms.specs.Sharing.{are_alike, are_distinct, variables_of}
use Rattle.gm_forms.specs.Typing.{type_at, target_type, has_types}
use Rattle.gm_forms.specs.Uses.{is_named}
use Rattle.gm_semantics.specs.Statements.{variable_at}
use Rattle.gm_lowering.specs.Layouts.{is_global, is_register, is_scalar_of}
use Rattle.gm_lowering.specs.Plans.{Way, Picks, way_of, is_here}
use Rattle.gm_lowering_master.specs.Whole.{HasInterface}

-- whether a constant may stand in an image: a node among them is NIL
abbrev pub is_plain_constant : Value → Bool
is_plain_constant (At (Some n)) = false
is_plain_constant v = true

-- whether the constants of an expression may stand in an image
abbrev pub is_plain : List Declaration → Expr → Bool
is_plain ds (Const v) = is_plain_constant v
is_plain ds (Unary op at e) = is_plain ds e
is_plain ds (Binary op at a b) = is_plain ds a && is_plain ds b
is_plain ds (Both a b) = is_plain ds a && is_plain ds b
is_plain ds (Either a b) = is_plain ds a && is_plain ds b
is_plain ds (Choose c a b) = is_plain ds c && (is_plain ds a && is_plain ds b)
is_plain ds (Folded f h c a) = is_plain ds c && is_plain ds a
is_plain ds e = true

-- iterators and graphs are declared as nodes
abbrev pub NodesAreNodes : List Declaration → Type 0
NodesAreNodes ds = (x : ℕ) → x < length ds → is Sorts.Iterator (variable_at ds x) || is Sorts.Graph (variable_at ds x) ≡ true → type_at ds x ≡ V.Node

-- ---- bodies

-- a number that is kept in a local of a loop
abbrev pub is_number_local : List Declaration → Target → Bool
is_number_local ds t = is_scalar_of is_register ds t && is_numeric (target_type ds t)

-- what a body keeps at once by comparisons are numbers in locals
abbrev pub may_pick : Way → List Declaration → List Target → Bool
may_pick Picks ds ts = list_all (is_number_local ds) ts
may_pick w ds ts = true

-- whether a reduction at a node may stand in an image: its targets are alike, none stands twice, and what it picks are such numbers
abbrev pub is_asked_reduction : List Declaration → ℕ → List Target → Bool
is_asked_reduction ds n ts = are_alike ts && (are_distinct (variables_of ts) && may_pick (way_of ds n ts) ds ts)

abbrev pub all_plain : List Declaration → List Expr → Bool
all_plain ds es = list_all (is_plain ds) es

abbrev pub may_be_plain : List Declaration → Option Expr → Bool
may_be_plain ds None = true
may_be_plain ds (Some e) = is_plain ds e

-- a target that a line of a body may set: a local, or a property
abbrev pub is_settable : List Declaration → Target → Bool
is_settable ds (T.Scalar x at) = is_register (variable_at ds x)
is_settable ds (T.Property x q at) = true

-- whether a body at a node may stand in an image
abbrev pub is_asked_body : List Declaration → ℕ → Stmt → Bool
is_asked_body ds n (Then a b) = is_asked_body ds n a && is_asked_body ds n b
is_asked_body ds n (Declare k x e) = is_register (variable_at ds x) && may_be_plain ds e
is_asked_body ds n (Assign k t e) = is_settable ds t && is_plain ds e
is_asked_body ds n (Combine k total r ts es) = is_asked_reduction ds n ts && all_plain ds es
is_asked_body ds n (If k c a b) = is_plain ds c && (is_asked_body ds n a && is_asked_body ds n b)
is_asked_body ds n _ = true

-- whether the expressions of a body read through some iterators alone, and an edge's properties where one is at hand
abbrev pub is_flat_body : List ℕ → Bool → Stmt → Bool
is_flat_body its edge (Then a b) = is_flat_body its edge a && is_flat_body its edge b
is_flat_body its edge (Declare k x e) = may (is_flat its edge) e
is_flat_body its edge (Assign k t e) = is_flat its edge e
is_flat_body its edge (Combine k total r ts es) = list_all (is_flat its edge) es
is_flat_body its edge (If k c a b) = is_flat its edge c && (is_flat_body its edge a && is_flat_body its edge b)
is_flat_body its edge _ = true

-- ---- sequential phases

-- a number that is kept in a scalar of the procedure
abbrev pub is_number_global : List Declaration → Target → Bool
is_number_global ds t = is_scalar_of is_global ds t && is_numeric (target_type ds t)

-- whether a parallel loop may stand in an image: an inner loop's body is one at the node where it is evaluated
abbrev pub is_asked_loop : List Declaration → ℕ → Expr → Stmt → Bool
is_asked_loop ds n test (Foreach k at h inner body) =
    is_plain ds test && (is_plain ds inner && is_asked_body ds (if is_here ds n h inner body then n else h.iterator) body)
is_asked_loop ds n test body = is_plain ds test && is_asked_body ds n body

-- whether a statement of a sequential phase may: its iterators are nodes of the procedure, and what it picks are numbers in scalars of the procedure
abbrev pub is_asked_phase : List Declaration → Stmt → Bool
is_asked_phase ds (Then a b) = is_asked_phase ds a && is_asked_phase ds b
is_asked_phase ds (Declare k x e) = may_be_plain ds e
is_asked_phase ds (Assign k t e) = is_plain ds e
is_asked_phase ds (Combine k total r ts es) = list_all (is_number_global ds) ts && all_plain ds es
is_asked_phase ds (Foreach k at h test body) = is_asked_loop ds h.iterator test body
is_asked_phase ds (For k at h test body) = is_global (variable_at ds h.iterator) && (is_plain ds test && is_asked_phase ds body)
is_asked_phase ds (If k c a b) = is_plain ds c && (is_asked_phase ds a && is_asked_phase ds b)
is_asked_phase ds (While k at c body) = is_plain ds c && is_asked_phase ds body
is_asked_phase ds (Do k at body c) = is_asked_phase ds body && is_plain ds c
is_asked_phase ds (Return k at e) = may_be_plain ds e
is_asked_phase ds _ = true

-- what is asked of a program: it is in the last form and has types, variables stand in the table as they are used, iterators and graphs are nodes, inputs and outputs are declared outside of loops, and its statements may stand in an image
pub record IsAskedProgram (p : Program) : Type 0 where
  pub form : is_flipped p ≡ true
  pub named : is_named p ≡ true
  pub typed : has_types p ≡ true
  pub nodes : NodesAreNodes p.declarations
  pub interface : HasInterface p
  pub asked : is_asked_phase p.declarations p.body ≡ true

-- ---- names

-- the name of a variable
abbrev pub name_at : List Declaration → ℕ → List ℕ
name_at ds x = name_or (slice_get ds x)

-- the procedure, its inputs and its outputs have names, different among the inputs and among the outputs, and inputs of nodes and edges are no nodes
pub record HasNames (p : Program) : Type 0 where
  pub name : is_name p.name ≡ true
  pub names : (x : ℕ) → x < p.inputs + p.outputs → is_name (name_at p.declarations x) ≡ true
  pub inputs_differ : (x y : ℕ) → x < y → y < p.inputs → bytes_eq (name_at p.declarations x) (name_at p.declarations y) ≡ false
  pub outputs_differ : (x y : ℕ) → p.inputs ≤ x → x < y → y < p.inputs + p.outputs → bytes_eq (name_at p.declarations x) (name_at p.declarations y) ≡ false
  pub no_nodes : (x : ℕ) → x < p.inputs → is Sorts.NodeProperty (variable_at p.declarations x) || is Sorts.EdgeProperty (variable_at p.declarations x) ≡ true → same_type (type_at p.declarations x) V.Node ≡ false
