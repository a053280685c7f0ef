-- The points of a run: the states at which the statements of a phase begin.
use Rattle.std.specs.Prelude.{◌≡◌, ℕ, suc, nat_lt, true, false, List, ◌∷◌, Some, Ok}
use Rattle.gm_base.specs.declared.places.Place.{Place}
use Rattle.gm_value.specs.declared.values.Value.{Value}
use Rattle.gm_value.specs.declared.values.Value.TheVariants.{At}
use Rattle.gm_value.specs.Operations.{is_true}
use Rattle.gm_ast.specs.declared.tree.Head.{Head}
use Rattle.gm_ast.specs.declared.tree.Key.{Key}
use Rattle.gm_ast.specs.Program.{Expr, Stmt, Then, For, If, While, Do}
use Rattle.gm_semantics.specs.declared.slots.Slot.TheVariants.{Scalar}
use Rattle.gm_semantics.specs.Levels.{nodes}
use Rattle.gm_semantics.specs.Stores.{write}
use Rattle.gm_semantics.specs.Expressions.{Answer, value}
use Rattle.gm_semantics.specs.Statements.{Run, State, Course, Goes, view_of, with_value, either_way, sequential}

-- one more turn has begun
abbrev pub next_turn : State → State
next_turn s = record s { turns = suc s.turns }

-- a node in a loop's iterator
abbrev pub at_node : State → ℕ → ℕ → State
at_node s i n = record s { store = write s.store (Scalar i) (At (Some n)) }

-- a state in which a loop's body begins a turn, after each turn's test
pub data Rounds (run : Run) (test : State → Answer) (body : State → Course) : State → State → Type 0 where
  begins : {s : State} {v : Value} → test s ≡ Ok v → is_true v ≡ true → nat_lt s.turns run.bound ≡ true → Rounds run test body s (next_turn s)
  again : {s t u : State} {v : Value} → test s ≡ Ok v → is_true v ≡ true → nat_lt s.turns run.bound ≡ true → body (next_turn s) ≡ Goes t → Rounds run test body t u → Rounds run test body s u

-- an item of a list, and the state in which its turn begins
pub data Items {A : Type 0} (run : Run) (body : A → State → Course) : List A → State → A → State → Type 0 where
  begins : {x : A} {xs : List A} {s : State} → nat_lt s.turns run.bound ≡ true → Items run body (x ∷ xs) s x (next_turn s)
  later : {x y : A} {xs : List A} {s t u : State} → nat_lt s.turns run.bound ≡ true → body x (next_turn s) ≡ Goes t → Items run body xs t y u → Items run body (x ∷ xs) s y u

-- one turn of a loop over nodes in order
abbrev pub for_turn : Run → Key → Head → Expr → Stmt → ℕ → State → Course
for_turn run key head test body n t =
    with_value (value test (view_of run (at_node t head.iterator n) key)) (λ v. either_way (is_true v) (sequential body run) Goes (at_node t head.iterator n))

-- A statement of a phase begins in a state, inside some iterators; and so does a statement in it, later in its run.
pub data Reaches (run : Run) : List ℕ → Stmt → State → List ℕ → Stmt → State → Type 0 where
  here : {its : List ℕ} {s : Stmt} {a : State} → Reaches run its s a its s a
  first : {its others : List ℕ} {s u x : Stmt} {a b : State} → Reaches run its s a others x b → Reaches run its (Then s u) a others x b
  rest : {its others : List ℕ} {s u x : Stmt} {a b c : State} → sequential s run a ≡ Goes b → Reaches run its u b others x c → Reaches run its (Then s u) a others x c
  yes : {its others : List ℕ} {key : Key} {test : Expr} {s u x : Stmt} {a b : State} {v : Value}
      → value test (view_of run a key) ≡ Ok v → is_true v ≡ true → Reaches run its s a others x b → Reaches run its (If key test s u) a others x b
  no : {its others : List ℕ} {key : Key} {test : Expr} {s u x : Stmt} {a b : State} {v : Value}
      → value test (view_of run a key) ≡ Ok v → is_true v ≡ false → Reaches run its u a others x b → Reaches run its (If key test s u) a others x b
  turn : {its others : List ℕ} {key : Key} {at : Place} {test : Expr} {s x : Stmt} {a b c : State}
      → Rounds run (λ t. value test (view_of run t key)) (sequential s run) a b → Reaches run its s b others x c → Reaches run its (While key at test s) a others x c
  first_turn : {its others : List ℕ} {key : Key} {at : Place} {test : Expr} {s x : Stmt} {a b : State}
      → nat_lt a.turns run.bound ≡ true → Reaches run its s (next_turn a) others x b → Reaches run its (Do key at s test) a others x b
  later_turn : {its others : List ℕ} {key : Key} {at : Place} {test : Expr} {s x : Stmt} {a b c d : State}
      → nat_lt a.turns run.bound ≡ true → sequential s run (next_turn a) ≡ Goes b → Rounds run (λ t. value test (view_of run t key)) (sequential s run) b c
      → Reaches run its s c others x d → Reaches run its (Do key at s test) a others x d
  node_turn : {its others : List ℕ} {key : Key} {at : Place} {head : Head} {test : Expr} {s x : Stmt} {a b c : State} {n : ℕ} {v : Value}
      → Items run (for_turn run key head test s) (nodes run.graph) a n b → value test (view_of run (at_node b head.iterator n) key) ≡ Ok v → is_true v ≡ true
      → Reaches run (head.iterator ∷ its) s (at_node b head.iterator n) others x c → Reaches run its (For key at head test s) a others x c
