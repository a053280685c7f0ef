-- At every point of a run the store has types.
use Rattle.std.proofs.Common.{◌≡◌, ◌<◌, ◌+◌, ℕ, true, List, [], ◌∷◌, ◌++◌, length, refl, subst, Option}
use Rattle.std.specs.Prelude.{◌&&◌, nat_le}
use Rattle.std.specs.List.{list_all}
use Rattle.gm_base.specs.declared.places.Place.{Place}
use Rattle.gm_value.specs.declared.values.VType.{VType}
use Rattle.gm_value.specs.declared.values.VType.TheVariants as V
use Rattle.gm_value.specs.declared.values.Value.{Value}
use Rattle.gm_value.specs.Operations.{is_true}
use Rattle.gm_model.specs.Graphs.{NumberedGraph, node_count}
use Rattle.gm_ast.specs.declared.tree.Declaration.{Declaration}
use Rattle.gm_ast.specs.declared.tree.Head.{Head}
use Rattle.gm_ast.specs.declared.tree.Key.{Key}
use Rattle.gm_ast.specs.Program.{Expr, Stmt, Then, For, If, While, Do, Program}
use Rattle.gm_semantics.specs.Levels.{nodes}
use Rattle.gm_semantics.specs.Expressions.{Answer, value}
use Rattle.gm_semantics.specs.Statements.{Run, State, Course, Goes, view_of, either_way, sequential}
use Rattle.gm_forms.specs.Extends.{run_of, start_of}
use Rattle.gm_forms.specs.Typing.{type_in, has_type, is_typed_in}
use Rattle.gm_forms.specs.Uses.{suits, uses_of_head, uses_in, uses_of}
use Rattle.gm_forms.proofs.Named.{both-true}
use Rattle.gm_typed_stores.specs.Values.{IsValue, Each}
use Rattle.gm_typed_stores.specs.Tells.{TypeTable, table_of, takes_nodes, tells, tells_in}
use Rattle.gm_typed_stores.specs.Stores.{IsTypedStore, IsGraphBelow, IsTypedCourse}
use Rattle.gm_typed_stores.specs.Points.{next_turn, at_node, Rounds, Items, for_turn, Reaches}
use Rattle.gm_typed_stores.specs.Laws.{IsWellTypedStmt, IsWellTyped, FitsBelow, IsTypedPoint}
use Rattle.gm_typed_stores.proofs.Kept.{nodes-within, enter}
use Rattle.gm_typed_stores.proofs.Expressions.{is-type, split, value-gives}
use Rattle.gm_typed_stores.proofs.Phases.{led-weaken, led-with, led-either, sequential-keeps}
use Rattle.gm_typed_stores.proofs.Outcomes.{first-typed}

module _ (table : TypeTable) (result : Option VType) where
  abbrev ds : List Declaration
  ds = table.declarations

  abbrev Stored : List ℕ → State → Type 0
  Stored its s = IsTypedStore table its s.store

  -- ---- parts of statements

  then-parts : (its : List ℕ) (s u : Stmt) → IsWellTypedStmt table its result (Then s u) → IsWellTypedStmt table its result s × IsWellTypedStmt table its result u
  then-parts its s u h =
      let q = both-true (is_typed_in ds result s) (is_typed_in ds result u) h.typed in
      let r = split ds (uses_of s) (uses_of u) h.named in
      let k = both-true (tells_in table its s) (tells_in table its u) h.tells in
      (record { typed = q.0; named = r.0; tells = k.0 }, record { typed = q.1; named = r.1; tells = k.1 })

  if-parts : (its : List ℕ) (key : Key) (test : Expr) (s u : Stmt) → IsWellTypedStmt table its result (If key test s u) → IsWellTypedStmt table its result (Then s u)
  if-parts its key test s u h = record {
    typed = (both-true (has_type ds V.Flag test) (is_typed_in ds result s && is_typed_in ds result u) h.typed).1;
    named = (split ds (uses_in test) (uses_of s ++ uses_of u) h.named).1;
    tells = (both-true (tells table its test) (tells_in table its s && tells_in table its u) h.tells).1;
  }

  while-body : (its : List ℕ) (key : Key) (at : Place) (test : Expr) (s : Stmt) → IsWellTypedStmt table its result (While key at test s) → IsWellTypedStmt table its result s
  while-body its key at test s h = record {
    typed = (both-true (has_type ds V.Flag test) (is_typed_in ds result s) h.typed).1;
    named = (split ds (uses_in test) (uses_of s) h.named).1;
    tells = (both-true (tells table its test) (tells_in table its s) h.tells).1;
  }

  do-body : (its : List ℕ) (key : Key) (at : Place) (test : Expr) (s : Stmt) → IsWellTypedStmt table its result (Do key at s test) → IsWellTypedStmt table its result s
  do-body its key at test s h = record {
    typed = (both-true (is_typed_in ds result s) (has_type ds V.Flag test) h.typed).0;
    named = (split ds (uses_of s) (uses_in test) h.named).0;
    tells = (both-true (tells_in table its s) (tells table its test) h.tells).0;
  }

  for-body : (its : List ℕ) (key : Key) (at : Place) (head : Head) (test : Expr) (s : Stmt) → IsWellTypedStmt table its result (For key at head test s) → (takes_nodes table head.iterator ≡ true) × IsWellTypedStmt table (head.iterator ∷ its) result s
  for-body its key at head test s h =
      let i = head.iterator in
      let k = both-true (takes_nodes table i) (tells table (i ∷ its) test && tells_in table (i ∷ its) s) h.tells in
      let r = split ds (uses_of_head head) (uses_in test ++ uses_of s) h.named in (
        k.0,
        record {
          typed = (both-true (has_type ds V.Flag test) (is_typed_in ds result s) h.typed).1;
          named = (split ds (uses_in test) (uses_of s) r.1).1;
          tells = (both-true (tells table (i ∷ its) test) (tells_in table (i ∷ its) s) k.1).1;
        },
      )

  module _ (run : Run) (graph : IsGraphBelow table.limit run.graph) (same : run.declarations ≡ ds) where
    goes-typed : (its : List ℕ) (c : Course) (t : State) → c ≡ Goes t → IsTypedCourse table result its c → Stored its t
    goes-typed its c t e h = subst (IsTypedCourse table result its) e h

    stmt-typed : (its : List ℕ) (s : Stmt) (a t : State) → IsWellTypedStmt table its result s → Stored its a → sequential s run a ≡ Goes t → Stored its t
    stmt-typed its s a t h k e = goes-typed its (sequential s run a) t e (sequential-keeps table result run graph same s its a h.typed h.named h.tells k)

    -- a turn of a loop over nodes in order
    for-keeps : (its : List ℕ) (key : Key) (at : Place) (head : Head) (test : Expr) (s : Stmt) → IsWellTypedStmt table its result (For key at head test s) →
        (n : ℕ) → n < node_count run.graph → (t : State) → Stored its t → IsTypedCourse table result its (for_turn run key head test s n t)
    for-keeps its key at head test s h n low t k =
        let i = head.iterator in
        let body = for-body its key at head test s h in
        let typed = both-true (has_type ds V.Flag test) (is_typed_in ds result s) h.typed in
        let named = split ds (uses_in test) (uses_of s) (split ds (uses_of_head head) (uses_in test ++ uses_of s) h.named).1 in
        let told = both-true (tells table (i ∷ its) test) (tells_in table (i ∷ its) s) (both-true (takes_nodes table i) (tells table (i ∷ its) test && tells_in table (i ∷ its) s) h.tells).1 in
        let v = at_node t i n in
        let entered = enter table its i n run.graph t.store graph body.0 low k in
        led-weaken table result its i (for_turn run key head test s n t)
        (led-with table result (IsValue table.limit V.Flag) (i ∷ its) (value test (view_of run v key)) (λ x. either_way (is_true x) (sequential s run) Goes v)
        (value-gives table test (i ∷ its) (view_of run v key) V.Flag (record { graph = graph; store = entered }) (is-type V.Flag (type_in ds test) typed.0) named.0 told.0)
        (λ x p. led-either table result (i ∷ its) (is_true x) (sequential s run) Goes v (sequential-keeps table result run graph same s (i ∷ its) v body.1.typed body.1.named body.1.tells entered) entered))

    rounds-typed : (its : List ℕ) (test : State → Answer) (body : State → Course) {a b : State} → ((t : State) → Stored its t → IsTypedCourse table result its (body t)) → Stored its a → Rounds run test body a b → Stored its b
    rounds-typed its test body keeps h (Rounds.begins e holds low) = h
    rounds-typed its test body keeps h (Rounds.again {s} {t} e holds low goes more) = rounds-typed its test body keeps (goes-typed its (body (next_turn s)) t goes (keeps (next_turn s) h)) more

    items-typed : {A : Type 0} (P : A → Type 0) (its : List ℕ) (body : A → State → Course) (xs : List A) {a b : State} {x : A} → ((y : A) → P y → (t : State) → Stored its t → IsTypedCourse table result its (body y t)) → Each P xs → Stored its a
        → Items run body xs a x b → P x × Stored its b
    items-typed P its body [] keeps each h i = none i
      where
        none : {B : Type 0} {a b : State} {x : _} → Items run body [] a x b → B
        none i = elim i [ ]
    items-typed P its body (y ∷ xs) keeps each h (Items.begins low) = (each.0, h)
    items-typed P its body (y ∷ xs) keeps each h (Items.later {s} {t} low goes more) =
        items-typed P its body xs keeps each.1 (goes-typed its (body y (next_turn s)) t goes (keeps y each.0 (next_turn s) h)) more

    pub reached : {its others : List ℕ} {s x : Stmt} {a b : State} → IsWellTypedStmt table its result s → Stored its a → Reaches run its s a others x b → IsTypedPoint table result others x b
    reached h k Reaches.here = record { store = k; statement = h }
    reached h k (Reaches.first {its} {s} {u} r) = reached (then-parts its s u h).0 k r
    reached h k (Reaches.rest {its} {s} {u} {a} {b} goes r) = let p = then-parts its s u h in reached p.1 (stmt-typed its s a b p.0 k goes) r
    reached h k (Reaches.yes {its} {key} {test} {s} {u} e holds r) = reached (then-parts its s u (if-parts its key test s u h)).0 k r
    reached h k (Reaches.no {its} {key} {test} {s} {u} e fails r) = reached (then-parts its s u (if-parts its key test s u h)).1 k r
    reached h k (Reaches.turn {its} {key} {at} {test} {s} {a} {b} rounds r) =
        let body = while-body its key at test s h in
        reached body (rounds-typed its (λ t. value test (view_of run t key)) (sequential s run) (λ t g. sequential-keeps table result run graph same s its t body.typed body.named body.tells g) k rounds) r
    reached h k (Reaches.first_turn {its} {key} {at} {test} {s} low r) = reached (do-body its key at test s h) k r
    reached h k (Reaches.later_turn {its} {key} {at} {test} {s} {a} {b} low goes rounds r) =
        let body = do-body its key at test s h in
        reached body
        (rounds-typed its (λ t. value test (view_of run t key)) (sequential s run) (λ t g. sequential-keeps table result run graph same s its t body.typed body.named body.tells g)
        (stmt-typed its s (next_turn a) b body k goes) rounds) r
    reached h k (Reaches.node_turn {its} {key} {at} {head} {test} {s} {a} {b} {n} items e holds r) =
        let body = for-body its key at head test s h in
        let i = items-typed (λ n. n < node_count run.graph) its (for_turn run key head test s) (nodes run.graph) (for-keeps its key at head test s h) (nodes-within run.graph) k items in
        reached body.1 (enter table its head.iterator n run.graph b.store graph body.0 i.0 i.1) r

pub points-typed : (limit : ℕ) (p : Program) (g : NumberedGraph) (args : List Value) (bound : ℕ) (its : List ℕ) (s : Stmt) (state : State) →
    IsWellTyped limit p → FitsBelow limit p g args → Reaches (run_of p g bound) [] p.body (start_of p g args) its s state →
    IsTypedPoint (table_of limit p) p.result its s state
points-typed limit p g args bound its s state well fits r =
    let named = both-true (nat_le (p.inputs + p.outputs) (length p.declarations)) (list_all (suits p.declarations) (uses_of p.body)) well.named in
    reached (table_of limit p) p.result (run_of p g bound) fits.graph refl (record { typed = well.typed; named = named.1; tells = well.tells }) (first-typed limit p g args fits) r
