-- A sequential phase leaves nodes in the iterators of the Fors around it: no statement writes what is no scalar, and a For writes nodes.
use Rattle.std.proofs.Common.{◌≡◌, ◌<◌, ◌++◌, ℕ, zero, suc, Bool, true, false, cond, List, [], ◌∷◌, map, refl, sym, ap, subst, ◌∙◌, Option, Some, None, Result, Ok, Err, IfOk, ⊎_elim}
use Rattle.std.specs.Prelude.{◌||◌, length, nat_eq, nat_lt, reverse}
use Rattle.std.specs.List.{list_all}
use Rattle.std.proofs.lemmas.Bool.{both_ways, ne_eqb}
use Rattle.gm_base.specs.declared.places.Place.{Place}
use Rattle.gm_value.specs.declared.values.VType.{VType}
use Rattle.gm_value.specs.declared.values.Value.{Value}
use Rattle.gm_value.specs.declared.values.Value.TheVariants.{At}
use Rattle.gm_value.specs.declared.reductions.Reduce.{Reduce}
use Rattle.gm_value.specs.Numbers.{zero_of}
use Rattle.gm_value.specs.Operations.{is_true}
use Rattle.gm_model.specs.Graphs.{Step, node_count}
use Rattle.gm_ast.specs.declared.tree.Declaration.{Declaration}
use Rattle.gm_ast.specs.declared.tree.Key.{Key}
use Rattle.gm_ast.specs.declared.tree.Sort.{Sort}
use Rattle.gm_ast.specs.declared.tree.Sort.TheVariants as Sorts
use Rattle.gm_ast.specs.declared.tree.Target.{Target}
use Rattle.gm_ast.specs.declared.tree.Target.TheVariants as T
use Rattle.gm_ast.specs.declared.tree.TotalKey.{TotalKey}
use Rattle.gm_ast.specs.Names.{is}
use Rattle.gm_ast.specs.Program.{Expr, always, Stmt, Skip, Then, Declare, DeclareEdge, Assign, Defer, Combine, Group, Foreach, For, If, While, Do, InBfs, InBfsBoth, Return}
use Rattle.gm_semantics.specs.declared.faults.Fault.{Fault}
use Rattle.gm_semantics.specs.declared.slots.Slot.{Slot}
use Rattle.gm_semantics.specs.declared.slots.Slot.TheVariants.{Scalar, Node}
use Rattle.gm_semantics.specs.declared.slots.Write.{Write}
use Rattle.gm_semantics.specs.Levels.{nodes, level_of, levels, no_levels}
use Rattle.gm_semantics.specs.Stores.{Store, has_slot, write, write_all, overlaid}
use Rattle.gm_semantics.specs.Faults.{least, then_with, somes, joined}
use Rattle.gm_semantics.specs.Contributions.{Contribution, settled_store, total_faults}
use Rattle.gm_semantics.specs.Expressions.{Answer, View, Evaluated, AllEvaluated, evaluated, evaluated_all, value, node_of, steps_in}
use Rattle.gm_semantics.specs.Iterations.{Ends, AtOnce, WithInner, WithOutermost, Loop, Iteration, begun, unless_failed, go_on, with_ok, one_way, as_it_is, Mode, Outermost, AtEdge, view_in, slot_of, slots_of, assigned, assigned_all, alone, at_once, ends_of_all, wrote, wrote_all, contribution, gave_inner, gave_outermost, deferred_to, reduced, turn_at, does}
use Rattle.gm_semantics.specs.Laws.{Away}
use Rattle.gm_semantics.specs.Loops.{iteration, own_left, parallel}
use Rattle.gm_semantics.specs.Statements.{Run, State, Course, Goes, Returns, Faults, Stops, variable_at, loop_of, view_of, with_value, with_store, then_do, either_way, stopped, begin_turn, repeated, in_turns, loops, declared, searched, sequential}
use Rattle.gm_semantics.proofs.TargetLaws.{value-away}
use Rattle.gm_forms.specs.Doing.{IsNode}
use Rattle.gm_forms.specs.Uses.{Use, Written, suits, has_role, use_as, uses_of_head, uses_of_search, uses_in, uses_in_all, uses_of_target, uses_of_targets, uses_of}
use Rattle.gm_forms.proofs.Named.{both-true, all-append}
use Rattle.gm_typed_stores.specs.Values.{Each}
use Rattle.gm_typed_stores.proofs.Eaches.{each-append, if-unless}
use Rattle.gm_typed_stores.proofs.Kept.{nodes-within}

-- y: what is no scalar
module _ (ds : List Declaration) (y : ℕ) (none : is Sorts.Scalar (variable_at ds y) ≡ false) where
  abbrev Suit : List Use → Type 0
  Suit us = list_all (suits ds) us ≡ true

  -- ---- what is written is another variable

  abbrev Off : Slot → Type 0
  Off (Scalar x) = x ≡ y → ⊥
  Off (Node p n) = Unit {0}

  abbrev EachOff : List Slot → Type 0
  EachOff slots = Each Off slots

  written-off : (x : ℕ) → Suit (use_as Written x) → x ≡ y → ⊥
  written-off x h e =
      let s = both-true (suits ds (record { variable = x; role = Written })) true h in
      let w = both-true (nat_lt x (length ds)) (has_role (variable_at ds x) Written) s.0 in
      both_ways (is Sorts.Scalar (variable_at ds y)) none (ap (λ z. is Sorts.Scalar (variable_at ds z)) (sym e) ∙ w.1)

  slot-off : (w : View) (t : Target) → Suit (uses_of_target t) → IfOk (slot_of w t) Off
  slot-off w (T.Scalar x at) h = written-off x h
  slot-off w (T.Property x p at) h = by (node_of w x at)
    where
      by : (r : Result ℕ Fault) → IfOk {T = Slot} (then_with r (λ n. Ok (Node p n))) Off
      by (Ok n) = tt
      by (Err f) = tt

  slots-off : (w : View) (ts : List Target) → Suit (uses_of_targets ts) → IfOk (slots_of w ts) EachOff
  slots-off w [] h = tt
  slots-off w (t ∷ ts) h = let r = all-append (suits ds) (uses_of_target t) (uses_of_targets ts) h in by (slot_of w t) (slots_of w ts) (slot-off w t r.0) (slots-off w ts r.1)
    where
      by : (a : Result Slot Fault) (b : Result (List Slot) Fault) → IfOk a Off → IfOk b EachOff → IfOk {T = List Slot} (then_with a (λ s. then_with b (λ ss. Ok (s ∷ ss)))) EachOff
      by (Ok s) (Ok ss) p q = (p, q)
      by (Ok s) (Err f) p q = tt
      by (Err f) b p q = tt

  abbrev OneOff : Slot × Value → Type 0
  OneOff q = Off q.0

  abbrev AllOff : List Slot × List Value → Type 0
  AllOff q = EachOff q.0

  assigned-off : (w : View) (t : Target) (v : Evaluated) → Suit (uses_of_target t) → IfOk (assigned w t v) OneOff
  assigned-off w t v h = if-unless OneOff v.hoisted _ (by (slot_of w t) v.rest (slot-off w t h))
    where
      by : (r : Result Slot Fault) (a : Answer) → IfOk r Off → IfOk {T = Slot × Value} (then_with r (λ s. then_with a (λ x. Ok (s, x)))) OneOff
      by (Ok s) (Ok x) p = p
      by (Ok s) (Err f) p = tt
      by (Err f) a p = tt

  all-off : (w : View) (ts : List Target) (v : AllEvaluated) → Suit (uses_of_targets ts) → IfOk (assigned_all w ts v) AllOff
  all-off w ts v h = if-unless AllOff v.hoisted _ (by (slots_of w ts) v.rest (slots-off w ts h))
    where
      by : (r : Result (List Slot) Fault) (a : Result (List Value) Fault) → IfOk r EachOff → IfOk {T = List Slot × List Value} (then_with r (λ ss. then_with a (λ xs. Ok (ss, xs)))) AllOff
      by (Ok ss) (Ok xs) p = p
      by (Ok ss) (Err f) p = tt
      by (Err f) a p = tt

  once-off : (w : View) (at : Place) (r : Reduce) (ts : List Target) (es : List Expr) → Suit (uses_of_targets ts) → IfOk (at_once w at r ts es) AllOff
  once-off w at r [] es h = all-off w [] _ h
  once-off w at r (t ∷ []) [] h = all-off w (t ∷ []) _ h
  once-off w at r (t ∷ []) (e ∷ []) h = by _ (assigned-off w t _ (all-append (suits ds) (uses_of_target t) [] h).0)
    where
      by : (q : Result (Slot × Value) Fault) → IfOk q OneOff → IfOk (alone q) AllOff
      by (Ok q) p = (p, tt)
      by (Err f) p = tt
  once-off w at r (t ∷ []) (e ∷ d ∷ es) h = all-off w (t ∷ []) _ h
  once-off w at r (t ∷ u ∷ ts) es h = all-off w (t ∷ u ∷ ts) _ h

  -- ---- stores

  write-leaves : (s : Store) (slot : Slot) (v : Value) → Off slot → (write s slot v).scalar y ≡ s.scalar y
  write-leaves s (Scalar x) v off = ap (λ b. cond b v (s.scalar y)) (ne_eqb x y off)
  write-leaves s (Node p n) v off = refl

  all-leave : (s : Store) (slots : List Slot) (vs : List Value) → EachOff slots → (write_all s slots vs).scalar y ≡ s.scalar y
  all-leave s [] vs off = refl
  all-leave s (x ∷ xs) [] off = refl
  all-leave s (x ∷ xs) (v ∷ vs) off = all-leave (write s x v) xs vs off.1 ∙ write-leaves s x v off.0

  abbrev LateOff : Write → Type 0
  LateOff w = Off w.slot

  overlaid-leaves : (s : Store) (ws : List Write) → Each LateOff ws → (overlaid s ws).scalar y ≡ s.scalar y
  overlaid-leaves s [] off = refl
  overlaid-leaves s (w ∷ ws) off = overlaid-leaves (write s w.slot w.value) ws off.1 ∙ write-leaves s w.slot w.value off.0

  has-none : (slots : List Slot) → EachOff slots → has_slot (Scalar y) slots ≡ false
  has-none [] off = refl
  has-none (Scalar x ∷ slots) off = ap (λ b. b || has_slot (Scalar y) slots) (ne_eqb y x (λ e. off.0 (sym e))) ∙ has-none slots off.1
  has-none (Node p n ∷ slots) off = has-none slots off.1

  abbrev GivesOff : Contribution → Type 0
  GivesOff c = EachOff c.slots

  given-away : (cs : List Contribution) → Each GivesOff cs → Away (Scalar y) cs
  given-away [] off c i = absurd i
  given-away (d ∷ cs) off c i = ⊎_elim (λ (e : c ≡ d). ap (λ (z : Contribution). has_slot (Scalar y) z.slots) e ∙ has-none d.slots off.0) (λ m. given-away cs off.1 c m) i

  -- ---- what a body gives and defers

  record Quiet (it : Iteration) : Type 0 where
    given : Each GivesOff it.with_outermost
    late : Each LateOff it.deferred

  quiet-with : {A : Type 0} (P : A → Type 0) (it : Iteration) (r : Result A Fault) (f : A → Iteration) → Quiet it → IfOk r P → ((a : A) → P a → Quiet (f a)) → Quiet (with_ok it r f)
  quiet-with P it (Ok a) f h ok each = each a ok
  quiet-with P it (Err e) f h ok each = record { given = h.given; late = h.late }

  any-ok : {A : Type 0} (r : Result A Fault) → IfOk r (λ a. Unit {0})
  any-ok (Ok a) = tt
  any-ok (Err f) = tt

  quiet-each : {A : Type 0} (it : Iteration) (r : Result A Fault) (f : A → Iteration) → Quiet it → ((a : A) → Quiet (f a)) → Quiet (with_ok it r f)
  quiet-each it r f h each = quiet-with (λ a. Unit {0}) it r f h (any-ok r) (λ a u. each a)

  quiet-go_on : (it : Iteration) (f : Iteration → Iteration) → Quiet it → Quiet (f it) → Quiet (go_on it f)
  quiet-go_on it f h k = by it.fault
    where
      by : (o : Option Fault) → Quiet (unless_failed o it f)
      by None = k
      by (Some e) = h

  quiet-way : (b : Bool) (f g : Iteration → Iteration) (it : Iteration) → Quiet (f it) → Quiet (g it) → Quiet (one_way b f g it)
  quiet-way true f g it h k = h
  quiet-way false f g it h k = k

  quiet-wrote : (it : Iteration) (p : Slot × Value) → Quiet it → Quiet (wrote it p)
  quiet-wrote it p h = record { given = h.given; late = h.late }

  quiet-reduced : (ends : Ends) (w : View) (it : Iteration) (total : TotalKey) (r : Reduce) (ts : List Target) (es : List Expr) → Suit (uses_of_targets ts) → Quiet it → Quiet (reduced ends w it total r ts es)
  quiet-reduced AtOnce w it total r ts es s h = quiet-each it (at_once w total.place r ts es) (wrote_all it) h (λ p. record { given = h.given; late = h.late })
  quiet-reduced WithInner w it total r ts es s h = quiet-each it (assigned_all w ts (evaluated_all es w)) (λ p. gave_inner it (contribution total r p)) h (λ p. record { given = h.given; late = h.late })
  quiet-reduced WithOutermost w it total r ts es s h =
      quiet-with AllOff it (assigned_all w ts (evaluated_all es w)) (λ p. gave_outermost it (contribution total r p)) h (all-off w ts (evaluated_all es w) s)
      (λ p off. record { given = each-append GivesOff it.with_outermost (contribution total r p ∷ []) h.given (off, tt); late = h.late })

  turns-given : (f : Step → Iteration) (steps : List Step) → ((e : Step) → Quiet (f e)) → Each GivesOff (joined (map (λ (t : Iteration). t.with_outermost) (map f steps)))
  turns-given f [] h = tt
  turns-given f (e ∷ steps) h = each-append GivesOff (f e).with_outermost (joined (map (λ (t : Iteration). t.with_outermost) (map f steps))) (h e).given (turns-given f steps h)

  turn-quiet : (loop : Loop) (m : Mode) (key : Key) (test : Expr) (body : Iteration → Iteration) (i n : ℕ) (s : Store) → ((it : Iteration) → Quiet it → Quiet (body it)) → Quiet (turn_at loop m key test body i n s)
  turn-quiet loop m key test body i n s each =
      let start = begun (write s (Scalar i) (At (Some n))) in
      let quiet : Quiet start = record { given = tt; late = tt } in
      quiet-each start (value test (view_in loop m start key)) (λ v. one_way (is_true v) body as_it_is start) quiet (λ v. quiet-way (is_true v) body as_it_is start (each start quiet) quiet)

  does-quiet : (b : Stmt) (m : Mode) (loop : Loop) (it : Iteration) → Suit (uses_of b) → Quiet it → Quiet (does b m loop it)
  does-quiet Skip m loop it u h = h
  does-quiet (Then a b) m loop it u h =
      let r = all-append (suits ds) (uses_of a) (uses_of b) u in
      let first = does-quiet a m loop it r.0 h in
      quiet-go_on (does a m loop it) (does b m loop) first (does-quiet b m loop (does a m loop it) r.1 first)
  does-quiet (Declare key x None) m loop it u h = quiet-wrote it (Scalar x, zero_of (loop.vtype x)) h
  does-quiet (Declare key x (Some e)) m loop it u h = quiet-each it (value e (view_in loop m it key)) (λ v. wrote it (Scalar x, v)) h (λ v. quiet-wrote it (Scalar x, v) h)
  does-quiet (DeclareEdge x z at) m loop it u h = h
  does-quiet (Assign key t e) m loop it u h = let w = view_in loop m it key in quiet-each it (assigned w t (evaluated e w)) (wrote it) h (λ p. quiet-wrote it p h)
  does-quiet (Defer key t e) Outermost loop it u h =
      let w = view_in loop Outermost it key in
      let r = all-append (suits ds) (uses_of_target t) (uses_in e) u in
      quiet-with OneOff it (assigned w t (evaluated e w)) (deferred_to it) h (assigned-off w t (evaluated e w) r.0)
      (λ p off. record { given = h.given; late = each-append LateOff it.deferred (record { slot = p.0; value = p.1 } ∷ []) h.late (off, tt) })
  does-quiet (Defer key t e) (AtEdge i) loop it u h = h
  does-quiet (Combine key total r ts es) m loop it u h = quiet-reduced (ends_of_all m loop ts) (view_in loop m it key) it total r ts es (all-append (suits ds) (uses_of_targets ts) (uses_in_all es) u).0 h
  does-quiet (Group key at g p e) m loop it u h = h
  does-quiet (Foreach key at head test body) Outermost loop it u h =
      let s = all-append (suits ds) (uses_of_head head) (uses_in test ++ uses_of body) u in
      let r = all-append (suits ds) (uses_in test) (uses_of body) s.1 in
      let f : Step → Iteration = (λ step. turn_at loop (AtEdge step.edge) key test (does body (AtEdge step.edge) loop) head.iterator step.node it.store) in
      let steps = steps_in (view_in loop Outermost it key) head in
      record {
        given = each-append GivesOff it.with_outermost (joined (map (λ (t : Iteration). t.with_outermost) (map f steps))) h.given
            (turns-given f steps (λ step. turn-quiet loop (AtEdge step.edge) key test (does body (AtEdge step.edge) loop) head.iterator step.node it.store (λ i q. does-quiet body (AtEdge step.edge) loop i r.1 q)));
        late = h.late;
      }
  does-quiet (Foreach key at head test body) (AtEdge i) loop it u h = h
  does-quiet (For key at head test body) m loop it u h = h
  does-quiet (If key c a b) m loop it u h =
      let s = all-append (suits ds) (uses_in c) (uses_of a ++ uses_of b) u in
      let r = all-append (suits ds) (uses_of a) (uses_of b) s.1 in
      quiet-each it (value c (view_in loop m it key)) (λ v. one_way (is_true v) (does a m loop) (does b m loop) it) h
      (λ v. quiet-way (is_true v) (does a m loop) (does b m loop) it (does-quiet a m loop it r.0 h) (does-quiet b m loop it r.1 h))
  does-quiet (While key at c body) m loop it u h = h
  does-quiet (Do key at body c) m loop it u h = h
  does-quiet (InBfs key at s c body) m loop it u h = h
  does-quiet (InBfsBoth key at s c body back_key d back) m loop it u h = h
  does-quiet (Return key at e) m loop it u h = h

  -- ---- a parallel loop leaves it as it was

  abbrev Leaves : Store → Store → Type 0
  Leaves s t = t.scalar y ≡ s.scalar y

  parallel-leaves : (loop : Loop) (key : Key) (test : Expr) (body : Stmt) (ks : List ℕ) (s : Store) → ((it : Iteration) → Quiet it → Quiet (does body Outermost loop it)) → IfOk (parallel loop key test body ks s) (Leaves s)
  parallel-leaves loop key test body ks s each =
      let turns = map (iteration loop key test body s) ks in
      let own = own_left s ks turns in
      let cs = joined (map (λ (t : Iteration). t.with_outermost) turns) in
      let ws = joined (map (λ (t : Iteration). t.deferred) turns) in
      let all : (n : ℕ) → Quiet (iteration loop key test body s n) = (λ n. turn-quiet loop Outermost key test (does body Outermost loop) loop.outer n s each) in
      if-unless (Leaves s) (least (somes (map (λ (t : Iteration). t.fault) turns) ++ total_faults own cs)) (Ok (overlaid (settled_store own cs) ws))
      (overlaid-leaves (settled_store own cs) ws (late ks all) ∙ value-away own (Scalar y) cs (given-away cs (given ks all)))
    where
      turn : ℕ → Iteration
      turn n = iteration loop key test body s n

      given : (ks : List ℕ) → ((n : ℕ) → Quiet (turn n)) → Each GivesOff (joined (map (λ (t : Iteration). t.with_outermost) (map turn ks)))
      given [] all = tt
      given (k ∷ ks) all = each-append GivesOff (turn k).with_outermost (joined (map (λ (t : Iteration). t.with_outermost) (map turn ks))) (all k).given (given ks all)

      late : (ks : List ℕ) → ((n : ℕ) → Quiet (turn n)) → Each LateOff (joined (map (λ (t : Iteration). t.deferred) (map turn ks)))
      late [] all = tt
      late (k ∷ ks) all = each-append LateOff (turn k).deferred (joined (map (λ (t : Iteration). t.deferred) (map turn ks))) (all k).late (late ks all)

  -- ---- courses after which it holds a node

  module _ (run : Run) (same : run.declarations ≡ ds) where
    abbrev Holds : State → Type 0
    Holds s = IsNode run.graph (s.store.scalar y)

    abbrev pub Leads : Course → Type 0
    Leads (Goes s) = Holds s
    Leads _ = Unit {0}

    leaves-holds : (s t : State) → Leaves s.store t.store → Holds s → Holds t
    leaves-holds s t e h = subst (IsNode run.graph) (sym e) h

    leads-with : {A : Type 0} (P : A → Type 0) (r : Result A Fault) (f : A → Course) → IfOk r P → ((a : A) → P a → Leads (f a)) → Leads (with_value r f)
    leads-with P (Ok a) f ok each = each a ok
    leads-with P (Err e) f ok each = tt

    leads-each : {A : Type 0} (r : Result A Fault) (f : A → Course) → ((a : A) → Leads (f a)) → Leads (with_value r f)
    leads-each r f each = leads-with (λ a. Unit {0}) r f (any-ok r) (λ a u. each a)

    leads-then : (c : Course) (f : State → Course) → Leads c → ((s : State) → Holds s → Leads (f s)) → Leads (then_do c f)
    leads-then (Goes s) f h each = each s h
    leads-then (Returns v s) f h each = tt
    leads-then (Faults e) f h each = tt
    leads-then Stops f h each = tt

    leads-either : (b : Bool) (f g : State → Course) (s : State) → Leads (f s) → Leads (g s) → Leads (either_way b f g s)
    leads-either true f g s h k = h
    leads-either false f g s h k = k

    leads-turn : (f : State → Course) (s : State) → Holds s → ((t : State) → Holds t → Leads (f t)) → Leads (begin_turn run f s)
    leads-turn f s h each = let t : State = record s { turns = suc s.turns } in leads-either (nat_lt s.turns run.bound) f stopped t (each t h) tt

    leads-repeated : (n : ℕ) (test : State → Answer) (body : State → Course) (s : State) → Holds s → ((t : State) → Holds t → Leads (body t)) → Leads (repeated n run test body s)
    leads-repeated zero test body s h each = tt
    leads-repeated (suc n) test body s h each =
        leads-each (test s) (λ v. either_way (is_true v) (begin_turn run (λ t. then_do (body t) (repeated n run test body))) Goes s)
        (λ v. leads-either (is_true v) (begin_turn run (λ t. then_do (body t) (repeated n run test body))) Goes s
        (leads-turn (λ t. then_do (body t) (repeated n run test body)) s h (λ t g. leads-then (body t) (repeated n run test body) (each t g) (λ u i. leads-repeated n test body u i each))) h)

    leads-in_turns : {A : Type 0} (P : A → Type 0) (xs : List A) (body : A → State → Course) (s : State) → Each P xs → Holds s → ((x : A) → P x → (t : State) → Holds t → Leads (body x t)) → Leads (in_turns run xs body s)
    leads-in_turns P [] body s all h each = h
    leads-in_turns P (x ∷ xs) body s all h each =
        leads-turn (λ t. then_do (body x t) (in_turns run xs body)) s h (λ t g. leads-then (body x t) (in_turns run xs body) (each x all.0 t g) (λ u i. leads-in_turns P xs body u all.1 i each))

    leads-loops : (levels : ℕ → Option ℕ) (i : ℕ) (key : Key) (test : Expr) (body : Stmt) (ks : List ℕ) (s : State) → ((it : Iteration) → Quiet it → Quiet (does body Outermost (loop_of run levels i body) it)) → Holds s → Leads (loops run levels i key test body ks s)
    leads-loops levels i key test body ks s each h =
        let loop = loop_of run levels i body in
        leads-with (Leaves s.store) (parallel loop key test body ks s.store) (with_store s) (parallel-leaves loop key test body ks s.store each) (λ t e. leaves-holds s (record s { store = t }) e h)

    leads-searched : (root : ℕ) (lists : List (List ℕ)) (key : Key) (i : ℕ) (test : Expr) (body : Stmt) (s : State) → Suit (uses_of body) → Holds s → Leads (searched run root lists key i test body s)
    leads-searched root lists key i test body s u h =
        leads-in_turns (λ ks. Unit {0}) lists (loops run (level_of run.graph root) i key test body) s (any lists) h
        (λ ks a t g. leads-loops (level_of run.graph root) i key test body ks t (λ it q. does-quiet body Outermost (loop_of run (level_of run.graph root) i body) it u q) g)
      where
        any : (xs : List (List ℕ)) → Each (λ ks. Unit {0}) xs
        any [] = tt
        any (x ∷ xs) = (tt, any xs)

    declared-leaves : (sort : Sort) (t : VType) (x : ℕ) (s : Store) → (is Sorts.Scalar (record { sort = sort; vtype = t; depth = 0 }) ≡ true → x ≡ y → ⊥) → Leaves s (declared sort t x s)
    declared-leaves Sorts.Graph t x s off = refl
    declared-leaves Sorts.Iterator t x s off = refl
    declared-leaves Sorts.Scalar t x s off = write-leaves s (Scalar x) (zero_of t) (off refl)
    declared-leaves Sorts.Edge t x s off = refl
    declared-leaves Sorts.NodeProperty t x s off = refl
    declared-leaves Sorts.EdgeProperty t x s off = refl

    -- a node that is written to an iterator, which may be this one
    enter-holds : (i n : ℕ) (s : State) → n < node_count run.graph → Holds s → Holds (record s { store = write s.store (Scalar i) (At (Some n)) })
    enter-holds i n s low h = by (nat_eq i y)
      where
        by : (b : Bool) → IsNode run.graph (cond b (At (Some n)) (s.store.scalar y))
        by true = (n, refl, low)
        by false = h

    -- a turn of a For
    pub turn-leads : (i n : ℕ) (key : Key) (test : Expr) (body : State → Course) (s : State) → n < node_count run.graph → ((t : State) → Holds t → Leads (body t)) → Holds s →
        Leads (let u : State = record s { store = write s.store (Scalar i) (At (Some n)) } in with_value (value test (view_of run u key)) (λ v. either_way (is_true v) body Goes u))
    turn-leads i n key test body s low each h =
        let u : State = record s { store = write s.store (Scalar i) (At (Some n)) } in
        let o : Holds u = enter-holds i n s low h in
        leads-each (value test (view_of run u key)) (λ v. either_way (is_true v) body Goes u) (λ v. leads-either (is_true v) body Goes u (each u o) o)

    pub sequential-leads : (s : Stmt) (state : State) → Suit (uses_of s) → Holds state → Leads (sequential s run state)
    sequential-leads Skip state u h = h
    sequential-leads (Then a b) state u h =
        let r = all-append (suits ds) (uses_of a) (uses_of b) u in
        leads-then (sequential a run state) (sequential b run) (sequential-leads a state r.0 h) (λ t g. sequential-leads b t r.1 g)
    sequential-leads (Declare key x None) state u h =
        let v = variable_at run.declarations x in
        leaves-holds state (record state { store = declared v.sort v.vtype x state.store })
        (declared-leaves v.sort v.vtype x state.store
        (λ s e. both_ways (is Sorts.Scalar (variable_at ds y)) none (ap (λ z. is Sorts.Scalar (variable_at ds z)) (sym e) ∙ ap (λ es. is Sorts.Scalar (variable_at es x)) (sym same) ∙ s))) h
    sequential-leads (Declare key x (Some e)) state u h =
        let r = all-append (suits ds) (use_as Written x) (uses_in e) u in
        leads-each (value e (view_of run state key)) (λ v. with_store state (write state.store (Scalar x) v))
        (λ v. leaves-holds state (record state { store = write state.store (Scalar x) v }) (write-leaves state.store (Scalar x) v (written-off x r.0)) h)
    sequential-leads (DeclareEdge x z at) state u h = h
    sequential-leads (Assign key t e) state u h =
        let w = view_of run state key in
        let r = all-append (suits ds) (uses_of_target t) (uses_in e) u in
        leads-with OneOff (assigned w t (evaluated e w)) (λ p. with_store state (write state.store p.0 p.1)) (assigned-off w t (evaluated e w) r.0)
        (λ p off. leaves-holds state (record state { store = write state.store p.0 p.1 }) (write-leaves state.store p.0 p.1 off) h)
    sequential-leads (Defer key t e) state u h = h
    sequential-leads (Combine key total r ts es) state u h =
        let w = view_of run state key in
        let s = all-append (suits ds) (uses_of_targets ts) (uses_in_all es) u in
        leads-with AllOff (at_once w total.place r ts es) (λ p. with_store state (write_all state.store p.0 p.1)) (once-off w total.place r ts es s.0)
        (λ p off. leaves-holds state (record state { store = write_all state.store p.0 p.1 }) (all-leave state.store p.0 p.1 off) h)
    sequential-leads (Group key at g p e) state u h =
        let body = Assign key (T.Property g p at) e in
        let loop = loop_of run no_levels g body in
        leads-loops no_levels g key always body (nodes run.graph) state
        (λ it q. let w = view_in loop Outermost it key in quiet-each it (assigned w (T.Property g p at) (evaluated e w)) (wrote it) q (λ z. quiet-wrote it z q)) h
    sequential-leads (Foreach key at head test body) state u h =
        let s = all-append (suits ds) (uses_of_head head) (uses_in test ++ uses_of body) u in
        let r = all-append (suits ds) (uses_in test) (uses_of body) s.1 in
        leads-loops no_levels head.iterator key test body (nodes run.graph) state (λ it q. does-quiet body Outermost (loop_of run no_levels head.iterator body) it r.1 q) h
    sequential-leads (For key at head test body) state u h =
        let s = all-append (suits ds) (uses_of_head head) (uses_in test ++ uses_of body) u in
        let r = all-append (suits ds) (uses_in test) (uses_of body) s.1 in
        leads-in_turns (λ n. n < node_count run.graph) (nodes run.graph) _ state (nodes-within run.graph) h
        (λ n low t g. turn-leads head.iterator n key test (sequential body run) t low (λ v i. sequential-leads body v r.1 i) g)
    sequential-leads (If key c a b) state u h =
        let s = all-append (suits ds) (uses_in c) (uses_of a ++ uses_of b) u in
        let r = all-append (suits ds) (uses_of a) (uses_of b) s.1 in
        leads-each (value c (view_of run state key)) (λ v. either_way (is_true v) (sequential a run) (sequential b run) state)
        (λ v. leads-either (is_true v) (sequential a run) (sequential b run) state (sequential-leads a state r.0 h) (sequential-leads b state r.1 h))
    sequential-leads (While key at c body) state u h =
        let r = all-append (suits ds) (uses_in c) (uses_of body) u in
        leads-repeated (suc run.bound) (λ t. value c (view_of run t key)) (sequential body run) state h (λ t g. sequential-leads body t r.1 g)
    sequential-leads (Do key at body c) state u h =
        let r = all-append (suits ds) (uses_of body) (uses_in c) u in
        leads-turn (λ t. then_do (sequential body run t) (repeated (suc run.bound) run (λ v. value c (view_of run v key)) (sequential body run))) state h
        (λ t g. leads-then (sequential body run t) (repeated (suc run.bound) run (λ v. value c (view_of run v key)) (sequential body run)) (sequential-leads body t r.0 g)
        (λ v i. leads-repeated (suc run.bound) (λ t. value c (view_of run t key)) (sequential body run) v i (λ t g. sequential-leads body t r.0 g)))
    sequential-leads (InBfs key at over c body) state u h =
        let s = all-append (suits ds) (uses_of_search over) (uses_in c ++ uses_of body) u in
        let r = all-append (suits ds) (uses_in c) (uses_of body) s.1 in
        leads-each (node_of (view_of run state key) over.root over.place) (λ root. searched run root (levels run.graph root) key over.iterator c body state)
        (λ root. leads-searched root (levels run.graph root) key over.iterator c body state r.1 h)
    sequential-leads (InBfsBoth key at over c body back_key d back) state u h =
        let s = all-append (suits ds) (uses_of_search over) (uses_in c ++ (uses_of body ++ (uses_in d ++ uses_of back))) u in
        let r = all-append (suits ds) (uses_in c) (uses_of body ++ (uses_in d ++ uses_of back)) s.1 in
        let q = all-append (suits ds) (uses_of body) (uses_in d ++ uses_of back) r.1 in
        let o = all-append (suits ds) (uses_in d) (uses_of back) q.1 in
        leads-each (node_of (view_of run state key) over.root over.place)
        (λ root. then_do (searched run root (levels run.graph root) key over.iterator c body state) (searched run root (reverse (levels run.graph root)) back_key over.iterator d back))
        (λ root. leads-then (searched run root (levels run.graph root) key over.iterator c body state) (searched run root (reverse (levels run.graph root)) back_key over.iterator d back)
        (leads-searched root (levels run.graph root) key over.iterator c body state q.0 h)
        (λ t g. leads-searched root (reverse (levels run.graph root)) back_key over.iterator d back t o.1 g))
    sequential-leads (Return key at None) state u h = tt
    sequential-leads (Return key at (Some e)) state u h = leads-each (value e (view_of run state key)) (λ v. Returns (Some v) state) (λ v. tt)
