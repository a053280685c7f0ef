-- What statements of a sequential phase do.
use Rattle.std.specs.Prelude.{ℕ, zero, suc, nat_lt, Bool, true, false, List, [], ◌∷◌, reverse, Option, Some, None, option_map, slice_get, Result, Ok, Err}
use Rattle.gm_value.specs.declared.values.VType.{VType}
use Rattle.gm_value.specs.declared.values.VType.TheVariants as V
use Rattle.gm_value.specs.declared.values.Value.{Value}
use Rattle.gm_value.specs.declared.values.Value.TheVariants.{At}
use Rattle.gm_value.specs.Numbers.{zero_of}
use Rattle.gm_value.specs.Operations.{is_true}
use Rattle.gm_model.specs.Graphs.{NumberedGraph}
use Rattle.gm_ast.specs.declared.tree.Declaration.{Declaration}
use Rattle.gm_ast.specs.declared.tree.Key.{Key}
use Rattle.gm_ast.specs.declared.tree.Sort.{Sort}
use Rattle.gm_ast.specs.declared.tree.Sort.TheVariants as Sorts
use Rattle.gm_ast.specs.declared.tree.Target.TheVariants as T
use Rattle.gm_ast.specs.declared.tree.Variable.{Variable}
use Rattle.gm_ast.specs.Program.{Expr, always, Stmt, Skip, Then, Declare, Assign, Combine, Group, Foreach, For, If, While, Do, InBfs, InBfsBoth, Return}
use Rattle.gm_semantics.specs.declared.faults.Fault.{Fault}
use Rattle.gm_semantics.specs.declared.slots.Slot.{Slot}
use Rattle.gm_semantics.specs.declared.slots.Slot.TheVariants.{Scalar}
use Rattle.gm_semantics.specs.Levels.{nodes, level_of, levels, no_levels}
use Rattle.gm_semantics.specs.Stores.{Store, write, write_all, fill}
use Rattle.gm_semantics.specs.Expressions.{View, Answer, evaluated, value, node_of}
use Rattle.gm_semantics.specs.Iterations.{Loop, assigned, at_once}
use Rattle.gm_semantics.specs.Loops.{parallel, pushes}

-- what stays the same over a run: the graph, the declarations, and the bound on turns
pub record Run : Type 0 where
  pub graph : NumberedGraph
  pub declarations : List Declaration
  pub bound : ℕ

-- the store, and how many turns have begun
pub record State : Type 0 where
  pub store : Store
  pub turns : ℕ

-- what a statement leads to: the next one, the end of the procedure, a fault, or the cut
pub data Course : Type 0 where
  Goes : (state : State) → Course
  Returns : (result : Option Value) (state : State) → Course
  Faults : (fault : Fault) → Course
  Stops : Course

-- what stands for a variable that is not declared
abbrev pub undeclared : Variable
undeclared = record { sort = Sorts.Scalar; vtype = V.I32; depth = 0 }

-- a variable, or what stands for it where it is not declared
abbrev pub variable_or : Option Variable → Variable
variable_or None = undeclared
variable_or (Some v) = v

-- the variable of an index
abbrev pub variable_at : List Declaration → ℕ → Variable
variable_at ds x = variable_or (option_map (λ d. d.variable) (slice_get ds x))

-- a loop with an iterator and a body
abbrev pub loop_of : Run → (ℕ → Option ℕ) → ℕ → Stmt → Loop
loop_of run levels x body = record {
  graph = run.graph;
  levels = levels;
  depth = λ y. (variable_at run.declarations y).depth;
  vtype = λ y. (variable_at run.declarations y).vtype;
  outer = x;
  pushed = pushes body x;
}

-- what the operators of a statement see
abbrev pub view_of : Run → State → Key → View
view_of run s key = record { graph = run.graph; levels = no_levels; parallel = false; store = s.store; edge = 0; key = key }

-- goes on with a value, or ends with a fault
abbrev pub with_value : {A : Type 0} → Result A Fault → (A → Course) → Course
with_value (Ok a) next = next a
with_value (Err f) next = Faults f

-- the next statement, unless this one ended the run
abbrev pub then_do : Course → (State → Course) → Course
then_do (Goes s) next = next s
then_do (Returns v s) next = Returns v s
then_do (Faults f) next = Faults f
then_do Stops next = Stops

-- the first way where the test holds, else the second
abbrev pub either_way : Bool → (State → Course) → (State → Course) → State → Course
either_way true a b s = a s
either_way false a b s = b s

-- goes on with another store
abbrev pub with_store : State → Store → Course
with_store s store = Goes (record s { store = store })

-- the cut
abbrev pub stopped : State → Course
stopped s = Stops

-- one more turn, or the cut where the bound is reached
abbrev pub begin_turn : Run → (State → Course) → State → Course
begin_turn run next s = either_way (nat_lt s.turns run.bound) next stopped (record s { turns = suc s.turns })

-- a loop whose test is asked at most n times, each turn after the test
abbrev pub repeated : ℕ → Run → (State → Answer) → (State → Course) → State → Course
repeated zero run test body s = Stops
repeated (suc n) run test body s =
    with_value (test s) (λ v. either_way (is_true v) (begin_turn run (λ t. then_do (body t) (repeated n run test body))) Goes s)

-- one turn for each item, in order
abbrev pub in_turns : {A : Type 0} → Run → List A → (A → State → Course) → State → Course
in_turns run [] body s = Goes s
in_turns run (a ∷ rest) body s = begin_turn run (λ t. then_do (body a t) (in_turns run rest body)) s

-- a write to a slot
abbrev pub writes : State → Result (Slot × Value) Fault → Course
writes s answer = with_value answer (λ p. with_store s (write s.store p.0 p.1))

-- writes to several slots, or a fault
abbrev pub writes_all : State → Result (List Slot × List Value) Fault → Course
writes_all s answer = with_value answer (λ p. with_store s (write_all s.store p.0 p.1))

-- a parallel loop over nodes
abbrev pub loops : Run → (ℕ → Option ℕ) → ℕ → Key → Expr → Stmt → List ℕ → State → Course
loops run levels x key test body ks s = with_value (parallel (loop_of run levels x body) key test body ks s.store) (with_store s)

-- a declaration sets the first value anew, for a property at every node
abbrev pub declared : Sort → VType → ℕ → Store → Store
declared Sorts.Scalar t x s = write s (Scalar x) (zero_of t)
declared Sorts.NodeProperty t x s = fill s x (zero_of t)
declared _ t x s = s

-- a parallel loop over the nodes of each of some levels of a search, each level a turn
abbrev pub searched : Run → ℕ → List (List ℕ) → Key → ℕ → Expr → Stmt → State → Course
searched run root lists key x test body s = in_turns run lists (loops run (level_of run.graph root) x key test body) s

-- a statement of a sequential phase
abbrev pub sequential : Stmt → Run → State → Course
sequential Skip run s = Goes s
sequential (Then a b) run s = then_do (sequential a run s) (sequential b run)
sequential (Declare key x None) run s =
    let v = variable_at run.declarations x in with_store s (declared v.sort v.vtype x s.store)
sequential (Declare key x (Some e)) run s = with_value (value e (view_of run s key)) (λ v. with_store s (write s.store (Scalar x) v))
sequential (Assign key t e) run s = let w = view_of run s key in writes s (assigned w t (evaluated e w))
sequential (Combine key total r ts es) run s = writes_all s (at_once (view_of run s key) total.place r ts es)
sequential (Group key at g p e) run s =
    let body = Assign key (T.Property g p at) e in loops run no_levels g key always body (nodes run.graph) s
sequential (Foreach key at head test body) run s = loops run no_levels head.iterator key test body (nodes run.graph) s
sequential (For key at head test body) run s =
    in_turns run (nodes run.graph) (λ n t.
    let u : State = record t { store = write t.store (Scalar head.iterator) (At (Some n)) } in
    with_value (value test (view_of run u key)) (λ v. either_way (is_true v) (sequential body run) Goes u)) s
sequential (If key test a b) run s =
    with_value (value test (view_of run s key)) (λ v. either_way (is_true v) (sequential a run) (sequential b run) s)
sequential (While key at test body) run s = repeated (suc run.bound) run (λ t. value test (view_of run t key)) (sequential body run) s
sequential (Do key at body test) run s =
    begin_turn run (λ t. then_do (sequential body run t) (repeated (suc run.bound) run (λ u. value test (view_of run u key)) (sequential body run))) s
sequential (InBfs key at search test body) run s =
    with_value (node_of (view_of run s key) search.root search.place) (λ r. searched run r (levels run.graph r) key search.iterator test body s)
sequential (InBfsBoth key at search test body back_key back_test back) run s =
    with_value (node_of (view_of run s key) search.root search.place) (λ r.
    then_do (searched run r (levels run.graph r) key search.iterator test body s) (searched run r (reverse (levels run.graph r)) back_key search.iterator back_test back))
sequential (Return key at None) run s = Returns None s
sequential (Return key at (Some e)) run s = with_value (value e (view_of run s key)) (λ v. Returns (Some v) s)
sequential _ run s = Goes s
