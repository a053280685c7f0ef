-- A statement of a sequential phase begins turns, and takes none back.
use Rattle.std.proofs.Common.{◌≤◌, ℕ, zero, suc, Bool, true, false, List, [], ◌∷◌, arith, Option, Some, None, Result, Ok, Err}
use Rattle.std.specs.Prelude.{nat_lt, reverse}
use Rattle.gm_value.specs.declared.values.Value.TheVariants.{At}
use Rattle.gm_value.specs.Operations.{is_true}
use Rattle.gm_ast.specs.declared.tree.Key.{Key}
use Rattle.gm_ast.specs.declared.tree.Target.TheVariants as T
use Rattle.gm_ast.specs.Program.{Expr, always, Stmt, Skip, Then, Declare, DeclareEdge, Assign, Defer, Combine, Group, Foreach, For, If, While, Do, InBfs, InBfsBoth, Return}
use Rattle.gm_semantics.specs.declared.faults.Fault.{Fault}
use Rattle.gm_semantics.specs.declared.slots.Slot.TheVariants.{Scalar}
use Rattle.gm_semantics.specs.Levels.{nodes, level_of, levels, no_levels}
use Rattle.gm_semantics.specs.Stores.{write}
use Rattle.gm_semantics.specs.Expressions.{Answer, value, evaluated, node_of}
use Rattle.gm_semantics.specs.Iterations.{assigned, at_once}
use Rattle.gm_semantics.specs.Loops.{parallel}
use Rattle.gm_semantics.specs.Statements.{Run, State, Course, Goes, Returns, Faults, Stops, view_of, with_value, with_store, then_do, either_way, stopped, begin_turn, repeated, in_turns, loops, loop_of, sequential}

-- where a course goes on, so many turns have begun, at least
abbrev pub Later : ℕ → Course → Type 0
Later n (Goes t) = n ≤ t.turns
Later n (Returns v t) = Unit {0}
Later n (Faults f) = Unit {0}
Later n Stops = Unit {0}

module _ (n : ℕ) where
  later-with : {A : Type 0} (r : Result A Fault) (f : A → Course) → ((x : A) → Later n (f x)) → Later n (with_value r f)
  later-with (Ok x) f each = each x
  later-with (Err e) f each = tt

  later-then : (c : Course) (f : State → Course) → Later n c → ((t : State) → n ≤ t.turns → Later n (f t)) → Later n (then_do c f)
  later-then (Goes t) f h each = each t h
  later-then (Returns v t) f h each = tt
  later-then (Faults e) f h each = tt
  later-then Stops f h each = tt

  later-either : (b : Bool) (f g : State → Course) (s : State) → Later n (f s) → Later n (g s) → Later n (either_way b f g s)
  later-either true f g s h i = h
  later-either false f g s h i = i

  later-turn : (run : Run) (f : State → Course) (s : State) → n ≤ s.turns → ((t : State) → n ≤ t.turns → Later n (f t)) → Later n (begin_turn run f s)
  later-turn run f s h each =
      let next : State = record { store = s.store; turns = suc s.turns } in
      let more : n ≤ suc s.turns = omega arith in
      later-either (nat_lt s.turns run.bound) f stopped next (each next more) tt

  later-repeated : (m : ℕ) (run : Run) (test : State → Answer) (body : State → Course) (s : State) → n ≤ s.turns → ((t : State) → n ≤ t.turns → Later n (body t)) → Later n (repeated m run test body s)
  later-repeated zero run test body s h each = tt
  later-repeated (suc m) run test body s h each =
      later-with (test s) _ (λ v. later-either (is_true v) _ Goes s (later-turn run _ s h (λ t i. later-then (body t) _ (each t i) (λ u j. later-repeated m run test body u j each))) h)

  later-in_turns : {A : Type 0} (run : Run) (xs : List A) (body : A → State → Course) (s : State) → n ≤ s.turns → ((x : A) (t : State) → n ≤ t.turns → Later n (body x t)) → Later n (in_turns run xs body s)
  later-in_turns run [] body s h each = h
  later-in_turns run (x ∷ xs) body s h each = later-turn run _ s h (λ t i. later-then (body x t) _ (each x t i) (λ u j. later-in_turns run xs body u j each))

  later-loops : (run : Run) (ls : ℕ → Option ℕ) (x : ℕ) (key : Key) (test : Expr) (body : Stmt) (ks : List ℕ) (s : State) → n ≤ s.turns → Later n (loops run ls x key test body ks s)
  later-loops run ls x key test body ks s h = later-with (parallel (loop_of run ls x body) key test body ks s.store) (with_store s) (λ u. h)

  pub later : (s : Stmt) (run : Run) (t : State) → n ≤ t.turns → Later n (sequential s run t)
  later Skip run t h = h
  later (Then a b) run t h = later-then (sequential a run t) (sequential b run) (later a run t h) (λ u i. later b run u i)
  later (Declare key x None) run t h = h
  later (Declare key x (Some e)) run t h = later-with (value e (view_of run t key)) _ (λ v. h)
  later (DeclareEdge x y at) run t h = h
  later (Assign key g e) run t h = later-with (assigned (view_of run t key) g (evaluated e (view_of run t key))) _ (λ p. h)
  later (Defer key g e) run t h = h
  later (Combine key total r ts es) run t h = later-with (at_once (view_of run t key) total.place r ts es) _ (λ p. h)
  later (Group key at g p e) run t h = later-loops run no_levels g key always (Assign key (T.Property g p at) e) (nodes run.graph) t h
  later (Foreach key at head test body) run t h = later-loops run no_levels head.iterator key test body (nodes run.graph) t h
  later (For key at head test body) run t h =
      later-in_turns run (nodes run.graph) _ t h (λ m u i.
      let w : State = record u { store = write u.store (Scalar head.iterator) (At (Some m)) } in
      later-with (value test (view_of run w key)) _ (λ v. later-either (is_true v) (sequential body run) Goes w (later body run w i) i))
  later (If key c a b) run t h = later-with (value c (view_of run t key)) _ (λ v. later-either (is_true v) (sequential a run) (sequential b run) t (later a run t h) (later b run t h))
  later (While key at c body) run t h = later-repeated (suc run.bound) run (λ u. value c (view_of run u key)) (sequential body run) t h (λ u i. later body run u i)
  later (Do key at body c) run t h =
      later-turn run _ t h (λ u i. later-then (sequential body run u) _ (later body run u i)
      (λ w j. later-repeated (suc run.bound) run (λ x. value c (view_of run x key)) (sequential body run) w j (λ x l. later body run x l)))
  later (InBfs key at search c body) run t h =
      later-with (node_of (view_of run t key) search.root search.place) _ (λ r. later-in_turns run (levels run.graph r) _ t h (λ ks u i. later-loops run (level_of run.graph r) search.iterator key c body ks u i))
  later (InBfsBoth key at search c body back_key d back) run t h =
      later-with (node_of (view_of run t key) search.root search.place) _ (λ r.
      later-then _ _ (later-in_turns run (levels run.graph r) _ t h (λ ks u i. later-loops run (level_of run.graph r) search.iterator key c body ks u i))
      (λ w j. later-in_turns run (reverse (levels run.graph r)) _ w j (λ ks u i. later-loops run (level_of run.graph r) search.iterator back_key d back ks u i)))
  later (Return key at None) run t h = tt
  later (Return key at (Some e)) run t h = later-with (value e (view_of run t key)) _ (λ v. tt)
