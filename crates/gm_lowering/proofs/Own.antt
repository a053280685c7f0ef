-- The lines of an own body at its vertex.
use Rattle.std.proofs.Common.{◌≡◌, ◌<◌, ℕ, Bool, true, false, Option, Some, None, Ok, Err, List, [], ◌∷◌, ◌++◌, length, map, refl, ap, ◌∙◌, sym, subst}
use Rattle.std.specs.Prelude.{if◌then◌else◌, ◌&&◌, ◌||◌, not, nat_eq, nat_lt, slice_set, pos}
use Rattle.std.specs.List.{list_all, list_any}
use Rattle.std.proofs.lemmas.List.{get_or-set_same, get_or-set_other, length-set}
use Rattle.std.proofs.lemmas.Bool.{both_ways, eqb-true, eqb-false, ne_eqb, eq-eqb, ltb-true}
use Rattle.gm_base.specs.declared.places.Place.{Place}
use Rattle.gm_value.specs.declared.values.Value.{Value}
use Rattle.gm_value.specs.declared.values.Value.TheVariants.{I32, I64, Flag, At}
use Rattle.gm_value.specs.declared.reductions.Reduce.{Reduce}
use Rattle.gm_value.specs.Numbers.{zero_of}
use Rattle.gm_model.specs.Graphs.{node_count, out_steps, in_steps}
use Rattle.gm_ast.specs.declared.tree.Direction.{Direction}
use Rattle.gm_ast.specs.declared.tree.Direction.TheVariants.{Out, In}
use Rattle.gm_ast.specs.declared.tree.Key.{Key}
use Rattle.gm_ast.specs.declared.tree.Sort.TheVariants as Sorts
use Rattle.gm_ast.specs.declared.tree.Target.{Target}
use Rattle.gm_ast.specs.declared.tree.Target.TheVariants as T
use Rattle.gm_ast.specs.declared.tree.TotalKey.{TotalKey}
use Rattle.gm_ast.specs.declared.tree.Variable.{Variable}
use Rattle.gm_ast.specs.Names.{is}
use Rattle.gm_ast.specs.Program as S
use Rattle.gm_ast.specs.Program.{Expr}
use Rattle.gm_ast.specs.Ways.{is_in}
use Rattle.gm_forms.proofs.Named.{both-true}
use Rattle.gm_semantics.specs.Statements.{variable_at}
use Rattle.gm_semantics.specs.declared.faults.Fault.{Fault}
use Rattle.gm_semantics.specs.declared.slots.Slot.{Slot}
use Rattle.gm_semantics.specs.declared.slots.Slot.TheVariants.{Scalar, Node}
use Rattle.gm_semantics.specs.Levels.{node_in}
use Rattle.gm_semantics.specs.Contributions.{Contribution}
use Rattle.gm_semantics.specs.Faults.{then_with, unless_fault}
use Rattle.gm_semantics.specs.Expressions.{View, Answer, evaluated, node_held, at_node, degree_of}
use Rattle.gm_semantics.specs.Iterations.{Loop, Outermost, Iteration, view_in, failed, with_ok, wrote, slot_of, assigned, gave_outermost, does}
use Rattle.gm_image.specs.Term as M
use Rattle.gm_image.specs.Term.{Term}
use Rattle.gm_image.specs.Program.{Line, SetField}
use Rattle.gm_machine.specs.Expressions.{value as term_value, value_at, live}
use Rattle.gm_machine.specs.Vertex.{VertexContext, VertexState, After, view, line_ends, leaves, goes_on, body_after}
use Rattle.gm_machine.proofs.BagLemmas.{map-push}
use Rattle.gm_lowering.specs.Layouts.{Layout, is_global, is_register, has_value}
use Rattle.gm_lowering.specs.Places.{Segment}
use Rattle.gm_lowering.specs.Terms.{Env, term, phase_scalar, vertex_scalar, own_degree, own_env}
use Rattle.gm_lowering.specs.Plans.{Puts, Folds, Sends, Picks, is_property_of, is_property_off, way_of}
use Rattle.gm_lowering.specs.Bodies.{reduce_lines}
use Rattle.gm_lowering.specs.Blocks.{own_site}
use Rattle.gm_lowering.specs.Showing.{answer_of, Tells}
use Rattle.gm_lowering.specs.Sites.{are_of_scalars, finds_scalar, finds_node, same_length, is_local, given, phase_value, IsInGraph, IsApart, OwnShows, OwnGave}
use Rattle.gm_lowering.specs.OwnLoops.{is_declared, own_finds, own_sets, puts_to_scalars}
use Rattle.gm_lowering.proofs.Terms.{rest-term, hoisted-parallel}
use Rattle.gm_lowering.proofs.Bodies.{Ends as Ending}
use Rattle.gm_lowering.proofs.Givens.{AllTell, are_scalars, put-ends, node-in}

-- a slot of a list that is set
pub after-set : (vs : List Value) (k : ℕ) (v : Value) (j : ℕ) → k < length vs → value_at (slice_set vs k v) j ≡ (if nat_eq k j then v else value_at vs j)
after-set vs k v j lt = set-by (nat_eq k j) refl where
  set-by : (b : Bool) → nat_eq k j ≡ b → value_at (slice_set vs k v) j ≡ (if b then v else value_at vs j)
  set-by true e = ap (value_at (slice_set vs k v)) (sym (eqb-true k j e)) ∙ get_or-set_same vs k v (At None) lt
  set-by false e = get_or-set_other vs k j v (At None) (λ i. eqb-false k j e (sym i))

-- a check of a node gives the same in the program and in the image
pub live-same : (v : Env) (w : View) (at : Place) (a : Value) → IsInGraph w.graph a
    → live (v.place w.key at) a ≡ answer_of v (then_with (node_held w at (node_in w.graph a)) (λ n. Ok (At (Some n))))
live-same v w at (At (Some k)) h = sym (ap (λ o. answer_of v (then_with (node_held w at o) (λ n. Ok (At (Some n))))) (node-in w.graph k (h k refl)))
live-same v w at (At None) h = refl
live-same v w at (I32 z) h = refl
live-same v w at (I64 z) h = refl
live-same v w at (Flag b) h = refl

-- a scalar that is no local has its value in the globals, or its first value
pub phase-term : (c : Layout) (s : VertexContext) (w : VertexState) (x : ℕ) → term_value (view s w) (phase_scalar c x) ≡ Ok (phase_value c s.globals x)
phase-term c s w x = by (is_global (variable_at c.declarations x)) where
  by : (b : Bool) → term_value (view s w) (if b then M.Global (c.global x) else M.Const (zero_of (variable_at c.declarations x).vtype)) ≡ Ok (if b then value_at s.globals (c.global x) else zero_of (variable_at c.declarations x).vtype)
  by true = refl
  by false = refl

-- scalars of the procedure have values and are no locals
pub global-has_value : (x : Variable) → is_global x ≡ true → has_value x ≡ true
global-has_value x h = (both-true (nat_eq x.depth 0) (has_value x) h).1

pub global-no_register : (x : Variable) → is_global x ≡ true → is_register x ≡ false
global-no_register x h =
    ap (λ b. is Sorts.Scalar x && not b) (both-true (nat_eq x.depth 0) (is Sorts.Scalar x || is Sorts.Iterator x) h).0 ∙ and-not (is Sorts.Scalar x) where
      and-not : (b : Bool) → b && false ≡ false
      and-not true = refl
      and-not false = refl

or-false : (a b : Bool) → a ≡ false → a || b ≡ true → b ≡ true
or-false a b e h = ap (λ x. x || b) (sym e) ∙ h

-- what is asked of what a vertex has given for an iteration: what both gave tells it, folds do not wait, and contributions to scalars are put
pub record Giving (c : Layout) (v : Env) (Gave : Iteration → VertexState → Type 0) : Type 0 where
  pub stays : (it new : Iteration) (w u : VertexState) → new.with_inner ≡ it.with_inner → new.with_outermost ≡ it.with_outermost → new.deferred ≡ it.deferred
      → u.puts ≡ w.puts → u.folds ≡ [] → u.messages ≡ w.messages → Gave it w → Gave new u
  pub folds : (it : Iteration) (w : VertexState) → Gave it w → w.folds ≡ []
  pub puts : (it : Iteration) (w : VertexState) (a : Contribution) → are_of_scalars a.slots ≡ true → Gave it w → Gave (gave_outermost it a) (record w { puts = w.puts ++ given c v a ∷ [] })

-- an own body that sends nothing
pub own-giving : (c : Layout) (v : Env) → Giving c v (λ it w. OwnGave c v it w)
own-giving c v = record {
  stays = λ it new w u inner outermost deferred puts folds messages g. record {
    puts = puts ∙ g.puts ∙ ap (map (given c v)) (sym outermost);
    folds = folds;
    messages = messages ∙ g.messages;
    inner = inner ∙ g.inner;
    deferred = deferred ∙ g.deferred;
  };
  folds = λ it w g. g.folds;
  puts = λ it w a o g. record {
    puts = ap (λ ps. ps ++ given c v a ∷ []) g.puts ∙ sym (map-push (given c v) it.with_outermost a);
    folds = g.folds;
    messages = g.messages;
    inner = g.inner;
    deferred = g.deferred;
  };
}

module _ (c : Layout) (seg : Segment) (loop : Loop) (k registers fields places : ℕ) (s : VertexContext)
    (apart : IsApart c registers fields)
    (unlike : is_register (variable_at c.declarations loop.outer) ≡ false)
    (type_is : (x : ℕ) → loop.vtype x ≡ (variable_at c.declarations x).vtype)
    (depth_is : (x : ℕ) → loop.depth x ≡ (variable_at c.declarations x).depth)
    (Gave : Iteration → VertexState → Type 0) (giving : Giving c (own_env c seg loop.outer) Gave) where
  abbrev n : ℕ
  n = loop.outer

  abbrev v : Env
  v = own_env c seg n

  abbrev pub Shows : Iteration → VertexState → Type 0
  Shows it w = OwnShows c v loop.graph n k registers fields s it w × Gave it w

  abbrev run : List Line → ℕ → VertexState → After
  run = body_after places s

  -- a scalar is found
  pub scalar-is : (it : Iteration) (w : VertexState) (x : ℕ) → finds_scalar c (n ∷ []) x ≡ true → Shows it w → term_value (view s w) (v.scalar x) ≡ Ok (it.store.scalar x)
  scalar-is it w x o q = by (nat_eq x n) refl where
    other : (b : Bool) → is_register (variable_at c.declarations x) ≡ b → nat_eq x n ≡ false → nat_lt x (length c.declarations) && has_value (variable_at c.declarations x) ≡ true
        → term_value (view s w) (if b then M.Register (c.register x) else phase_scalar c x) ≡ Ok (it.store.scalar x)
    other true e f d =
        let t = both-true (nat_lt x (length c.declarations)) (has_value (variable_at c.declarations x)) d in
        ap Ok (q.0.locals x (ltb-true x (length c.declarations) t.0) e)
    other false e f d =
        let t = both-true (nat_lt x (length c.declarations)) (has_value (variable_at c.declarations x)) d in
        phase-term c s w x ∙ ap Ok (q.0.phase x f (ltb-true x (length c.declarations) t.0) e t.1)

    by : (b : Bool) → nat_eq x n ≡ b → term_value (view s w) (if b then M.Self else vertex_scalar c x) ≡ Ok (it.store.scalar x)
    by true e = ap (λ j. Ok (At (Some j))) q.0.node ∙ ap Ok (sym q.0.at_node) ∙ ap (λ y. Ok (it.store.scalar y)) (sym (eqb-true x n e))
    by false e =
        other (is_register (variable_at c.declarations x)) refl e
        (or-false (nat_eq x n || false) (nat_lt x (length c.declarations) && has_value (variable_at c.declarations x)) (ap (λ b. b || false) e) o)

  -- what stands at the iterator's node
  here : (it : Iteration) (w : VertexState) (u : View) (x : ℕ) (at : Place) (f : ℕ → Value) → u.graph ≡ loop.graph → u.store ≡ it.store → is_in (n ∷ []) x ≡ true → Shows it w
      → at_node u x at f ≡ Ok (f k)
  here it w u x at f g e o q =
      let same : u.store.scalar x ≡ At (Some k) =
      ap (λ r. r.scalar x) e ∙ ap it.store.scalar (eqb-true x n (one-true (nat_eq x n) o)) ∙ q.0.at_node in
      ap (λ a. then_with (node_held u at (node_in u.graph a)) (λ j. Ok (f j))) same
      ∙ ap (λ d. then_with (node_held u at (node_in d (At (Some k)))) (λ j. Ok (f j))) g
      ∙ ap (λ a. then_with (node_held u at a) (λ j. Ok (f j))) (node-in loop.graph k q.0.inside) where
        one-true : (b : Bool) → b || false ≡ true → b ≡ true
        one-true true h = refl
        one-true false h = h

  degree-is : (d : Direction) (it : Iteration) (w : VertexState) (u : View) → u.graph ≡ loop.graph → Shows it w → term_value (view s w) (own_degree d) ≡ Ok (degree_of u d k)
  degree-is Out it w u g q =
      ap (λ j. Ok (I32 (pos (length (out_steps s.graph j))))) q.0.node ∙ ap (λ y. Ok (I32 (pos (length (out_steps y k))))) (q.0.graph ∙ sym g)
  degree-is In it w u g q =
      ap (λ j. Ok (I32 (pos (length (in_steps s.graph j))))) q.0.node ∙ ap (λ y. Ok (I32 (pos (length (in_steps y k))))) (q.0.graph ∙ sym g)

  -- the node that a scalar holds is in the graph
  in-graph : (it : Iteration) (w : VertexState) (x : ℕ) → finds_node c (n ∷ []) x ≡ true → Shows it w → IsInGraph loop.graph (it.store.scalar x)
  in-graph it w x o q = by (nat_eq x n) refl where
    at-iterator : nat_eq x n ≡ true → IsInGraph loop.graph (it.store.scalar x)
    at-iterator e j h = subst (λ i. i < node_count loop.graph) (same_node (sym q.0.at_node ∙ ap it.store.scalar (sym (eqb-true x n e)) ∙ h)) q.0.inside where
      node_or : Value → ℕ
      node_or (At (Some i)) = i
      node_or _ = 0

      same_node : At (Some k) ≡ At (Some j) → k ≡ j
      same_node p = ap node_or p

    by : (b : Bool) → nat_eq x n ≡ b → IsInGraph loop.graph (it.store.scalar x)
    by true e = at-iterator e
    by false e =
        let d = or-false (nat_eq x n || false) (nat_lt x (length c.declarations) && is_global (variable_at c.declarations x)) (ap (λ b. b || false) e) o in
        let t = both-true (nat_lt x (length c.declarations)) (is_global (variable_at c.declarations x)) d in
        q.0.in_graph x e (ltb-true x (length c.declarations) t.0) t.1

  -- a finds-scalar from a finds-node
  node-scalar : (x : ℕ) → finds_node c (n ∷ []) x ≡ true → (it : Iteration) (w : VertexState) → Shows it w → term_value (view s w) (v.scalar x) ≡ Ok (it.store.scalar x)
  node-scalar x o it w q = by (nat_eq x n) refl where
    globals : (b : Bool) → is_register (variable_at c.declarations x) ≡ b → nat_eq x n ≡ false → x < length c.declarations → is_global (variable_at c.declarations x) ≡ true
        → term_value (view s w) (if b then M.Register (c.register x) else phase_scalar c x) ≡ Ok (it.store.scalar x)
    globals true e f lt g = ap Ok (q.0.locals x lt e)
    globals false e f lt g = phase-term c s w x ∙ ap Ok (q.0.phase x f lt e (global-has_value (variable_at c.declarations x) g))

    by : (b : Bool) → nat_eq x n ≡ b → term_value (view s w) (if b then M.Self else vertex_scalar c x) ≡ Ok (it.store.scalar x)
    by true e = ap (λ j. Ok (At (Some j))) q.0.node ∙ ap Ok (sym q.0.at_node) ∙ ap (λ y. Ok (it.store.scalar y)) (sym (eqb-true x n e))
    by false e =
        let d = or-false (nat_eq x n || false) (nat_lt x (length c.declarations) && is_global (variable_at c.declarations x)) (ap (λ b. b || false) e) o in
        let t = both-true (nat_lt x (length c.declarations)) (is_global (variable_at c.declarations x)) d in
        globals (is_register (variable_at c.declarations x)) refl e (ltb-true x (length c.declarations) t.0) t.1

  -- a state tells the leaves of each expression that is found
  pub tells : (it : Iteration) (w : VertexState) (j : Key) (e : Expr) → own_finds c n e ≡ true → Shows it w → Tells v (view_in loop Outermost it j) (view s w) e
  tells it w j (S.Const a) o q = tt
  tells it w j (S.Var x at) o q = scalar-is it w x o q
  tells it w j (S.Property x p at) o q =
      let t = both-true (is_in (n ∷ []) x) (c.is_kept p) o in
      ap Ok (q.0.properties p t.1) ∙ ap (answer_of v) (sym (here it w (view_in loop Outermost it j) x at (it.store.node p) refl refl t.0 q))
  tells it w j (S.EdgeProperty x p at) o q = absurd (both_ways false refl o)
  tells it w j (S.Degree d x at) o q =
      let u = view_in loop Outermost it j in
      degree-is d it w u refl q ∙ ap (answer_of v) (sym (here it w u x at (degree_of u d) refl refl o q))
  tells it w j S.NodeCount o q = q.0.graph
  tells it w j S.EdgeCount o q = q.0.graph
  tells it w j (S.Live x at) o q = (node-scalar x o it w q, live-same v (view_in loop Outermost it j) at (it.store.scalar x) (in-graph it w x o q))
  tells it w j (S.Unary op at a) o q = tells it w j a o q
  tells it w j (S.Binary op at a b) o q = let t = both-true (own_finds c n a) (own_finds c n b) o in (tells it w j a t.0 q, tells it w j b t.1 q)
  tells it w j (S.Both a b) o q = let t = both-true (own_finds c n a) (own_finds c n b) o in (tells it w j a t.0 q, tells it w j b t.1 q)
  tells it w j (S.Either a b) o q = let t = both-true (own_finds c n a) (own_finds c n b) o in (tells it w j a t.0 q, tells it w j b t.1 q)
  tells it w j (S.Choose e a b) o q =
      let t = both-true (own_finds c n e) (own_finds c n a && own_finds c n b) o in
      let u = both-true (own_finds c n a) (own_finds c n b) t.1 in
      (tells it w j e t.0 q, tells it w j a u.0 q, tells it w j b u.1 q)
  tells it w j (S.Folded f h e a) o q = absurd (both_ways false refl o)

  pub all-tell : (it : Iteration) (w : VertexState) (j : Key) (es : List Expr) → list_all (own_finds c n) es ≡ true → Shows it w → AllTell v (view_in loop Outermost it j) (view s w) es
  all-tell it w j [] o q = tt
  all-tell it w j (e ∷ es) o q = let t = both-true (own_finds c n e) (list_all (own_finds c n) es) o in (tells it w j e t.0 q, all-tell it w j es t.1 q)

  -- two variables of which one is a local are not one
  unlike_local : (x y : ℕ) → is_register (variable_at c.declarations x) ≡ true → is_register (variable_at c.declarations y) ≡ false → nat_eq x y ≡ false
  unlike_local x y e f = ne_eqb x y (λ i. both_ways (is_register (variable_at c.declarations y)) f (ap (λ z. is_register (variable_at c.declarations z)) (sym i) ∙ e))

  -- a local that is set
  pub local : (it : Iteration) (w : VertexState) (x : ℕ) (a : Value) → is_local c x ≡ true → Shows it w → Shows (wrote it (Scalar x, a)) (record w { registers = slice_set w.registers (c.register x) a })
  local it w x a o q =
      let t = both-true (nat_lt x (length c.declarations)) (is_register (variable_at c.declarations x)) o in
      let lt = ltb-true x (length c.declarations) t.0 in
      let within = subst (λ j. c.register x < j) (sym q.0.register_count) (apart.register_within x lt t.1) in (
        record {
          fine = q.0.fine;
          node = q.0.node;
          graph = q.0.graph;
          inside = q.0.inside;
          at_node = ap (λ b. if b then a else it.store.scalar n) (unlike_local x n t.1 unlike) ∙ q.0.at_node;
          phase = λ y f l e g. q.0.phase y f l e g ∙ sym (ap (λ b. if b then a else it.store.scalar y) (unlike_local x y t.1 e));
          in_graph = λ y f l e. subst (IsInGraph loop.graph) (sym (ap (λ b. if b then a else it.store.scalar y) (unlike_local x y t.1 (global-no_register (variable_at c.declarations y) e)))) (q.0.in_graph y f l e);
          locals = λ y l e.
              after-set w.registers (c.register x) a (c.register y) within
              ∙ ap (λ b. if b then a else value_at w.registers (c.register y)) (same-register x y lt l t.1 e)
              ∙ ap (λ u. if nat_eq x y then a else u) (q.0.locals y l e);
          properties = q.0.properties;
          register_count = length-set w.registers (c.register x) a ∙ q.0.register_count;
          field_count = q.0.field_count;
        },
        giving.stays it (wrote it (Scalar x, a)) w (record w { registers = slice_set w.registers (c.register x) a }) refl refl refl refl (giving.folds it w q.1) refl q.1,
      ) where
        same-register : (x y : ℕ) → x < length c.declarations → y < length c.declarations → is_register (variable_at c.declarations x) ≡ true → is_register (variable_at c.declarations y) ≡ true
            → nat_eq (c.register x) (c.register y) ≡ nat_eq x y
        same-register x y l m e f = by (nat_eq (c.register x) (c.register y)) refl where
          by : (b : Bool) → nat_eq (c.register x) (c.register y) ≡ b → b ≡ nat_eq x y
          by true i = sym (eq-eqb x y (apart.registers_apart x y l m e f (eqb-true (c.register x) (c.register y) i)))
          by false i = sym (ne_eqb x y (λ j. eqb-false (c.register x) (c.register y) i (ap c.register j)))

  -- a property that is set
  pub field : (it : Iteration) (w : VertexState) (p : ℕ) (a : Value) → c.is_kept p ≡ true → Shows it w → Shows (wrote it (Node p k, a)) (record w { fields = slice_set w.fields (c.field p) a })
  field it w p a o q =
      let within = subst (λ j. c.field p < j) (sym q.0.field_count) (apart.field_within p o) in (
        record {
          fine = q.0.fine;
          node = q.0.node;
          graph = q.0.graph;
          inside = q.0.inside;
          at_node = q.0.at_node;
          phase = q.0.phase;
          in_graph = q.0.in_graph;
          locals = q.0.locals;
          properties = λ r e.
              after-set w.fields (c.field p) a (c.field r) within
              ∙ ap (λ b. if b then a else value_at w.fields (c.field r)) (same-field p r o e)
              ∙ ap (λ u. if nat_eq p r then a else u) (q.0.properties r e)
              ∙ ap (λ b. if b then a else it.store.node r k) (and-same (nat_eq p r));
          register_count = q.0.register_count;
          field_count = length-set w.fields (c.field p) a ∙ q.0.field_count;
        },
        giving.stays it (wrote it (Node p k, a)) w (record w { fields = slice_set w.fields (c.field p) a }) refl refl refl refl (giving.folds it w q.1) refl q.1,
      ) where
        same-field : (x y : ℕ) → c.is_kept x ≡ true → c.is_kept y ≡ true → nat_eq (c.field x) (c.field y) ≡ nat_eq x y
        same-field x y e f = by (nat_eq (c.field x) (c.field y)) refl where
          by : (b : Bool) → nat_eq (c.field x) (c.field y) ≡ b → b ≡ nat_eq x y
          by true i = sym (eq-eqb x y (apart.fields_apart x y e f (eqb-true (c.field x) (c.field y) i)))
          by false i = sym (ne_eqb x y (λ j. eqb-false (c.field x) (c.field y) i (ap c.field j)))

        and-same : (b : Bool) → b ≡ (b && nat_eq k k)
        and-same true = sym (eq-eqb k k refl)
        and-same false = refl

  pub gave-failed : (it : Iteration) (w : VertexState) (f : Fault) → Gave it w → Gave (failed it f) w
  gave-failed it w f g = giving.stays it (failed it f) w w refl refl refl refl (giving.folds it w g) refl g

  with-then : (it : Iteration) (a : Answer) (slot : Slot) (F : Slot × Value → Iteration) → with_ok it (then_with a (λ x. Ok (slot, x))) F ≡ with_ok it a (λ x. F (slot, x))
  with-then it (Ok x) slot F = refl
  with-then it (Err f) slot F = refl

  abbrev Ending' : List Line → List Line → VertexState → Iteration → Option Fault → Type 0
  Ending' = Ending v run Shows Gave

  -- a line that sets a property
  set-field : (it : Iteration) (w : VertexState) (rest : List Line) (p : ℕ) (t : Term) (a : Answer) → c.is_kept p ≡ true → Shows it w
      → term_value (view s w) t ≡ answer_of v a
      → let out = with_ok it a (λ y. wrote it (Node p k, y)) in Ending' (SetField (c.field p) t ∷ []) rest w out out.fault
  set-field it w rest p t (Ok a) o q e =
      subst (Ending' (SetField (c.field p) t ∷ []) rest w (wrote it (Node p k, a))) (sym q.0.fine) (
        record w { fields = slice_set w.fields (c.field p) a },
        field it w p a o q,
        ap (λ u. goes_on (line_ends w u (λ y. leaves (record w { fields = slice_set w.fields (c.field p) y }))) (λ j z. body_after places s rest j z)) e,
      )
  set-field it w rest p t (Err f) o q e = (
    w,
    gave-failed it w f q.1,
    ap (λ u. goes_on (line_ends w u (λ y. leaves (record w { fields = slice_set w.fields (c.field p) y }))) (λ j z. body_after places s rest j z)) e,
  )

  pub property : (j : Key) (x p : ℕ) (at : Place) (e : Expr) (it : Iteration) (w : VertexState) (rest : List Line) → own_sets c n x p ≡ true → own_finds c n e ≡ true → Shows it w
      → let out = does (S.Assign j (T.Property x p at) e) Outermost loop it in Ending' (SetField (c.field p) (term v j e) ∷ []) rest w out out.fault
  property j x p at e it w rest o i q =
      let t = both-true (nat_eq x n) (c.is_kept p) o in
      let u = view_in loop Outermost it j in
      let told = tells it w j e i q in
      let slot : slot_of u (T.Property x p at) ≡ Ok (Node p k) = here-slot it w u x p at refl refl (ap (λ b. b || false) t.0) q in
      let same : assigned u (T.Property x p at) (evaluated e u) ≡ then_with (evaluated e u).rest (λ y. Ok (Node p k, y)) =
      ap (λ f. unless_fault f (then_with (slot_of u (T.Property x p at)) (λ z. then_with (evaluated e u).rest (λ y. Ok (z, y))))) (hoisted-parallel v u (view s w) e refl told)
      ∙ ap (λ r. then_with r (λ z. then_with (evaluated e u).rest (λ y. Ok (z, y)))) slot in
      subst (λ out. Ending' (SetField (c.field p) (term v j e) ∷ []) rest w out out.fault)
      (sym (ap (λ a. with_ok it a (wrote it)) same ∙ with-then it (evaluated e u).rest (Node p k) (wrote it)))
      (set-field it w rest p (term v j e) (evaluated e u).rest t.1 q (rest-term v u (view s w) e told)) where
        here-slot : (it : Iteration) (w : VertexState) (u : View) (x p : ℕ) (at : Place) → u.graph ≡ loop.graph → u.store ≡ it.store → is_in (n ∷ []) x ≡ true → Shows it w
            → slot_of u (T.Property x p at) ≡ Ok (Node p k)
        here-slot it w u x p at g e o q =
            let same : u.store.scalar x ≡ At (Some k) =
            ap (λ r. r.scalar x) e ∙ ap it.store.scalar (eqb-true x n (one-true (nat_eq x n) o)) ∙ q.0.at_node in
            ap (λ a. then_with (node_held u at (node_in u.graph a)) (λ j. Ok (Node p j))) same
            ∙ ap (λ d. then_with (node_held u at (node_in d (At (Some k)))) (λ j. Ok (Node p j))) g
            ∙ ap (λ a. then_with (node_held u at a) (λ j. Ok (Node p j))) (node-in loop.graph k q.0.inside) where
              one-true : (b : Bool) → b || false ≡ true → b ≡ true
              one-true true h = refl
              one-true false h = h

  -- one more contribution, and one more put
  puts : (it : Iteration) (w : VertexState) (a : Contribution) → are_of_scalars a.slots ≡ true → Shows it w → Shows (gave_outermost it a) (record w { puts = w.puts ++ given c v a ∷ [] })
  puts it w a o q = (
    record {
      fine = q.0.fine;
      node = q.0.node;
      graph = q.0.graph;
      inside = q.0.inside;
      at_node = q.0.at_node;
      phase = q.0.phase;
      in_graph = q.0.in_graph;
      locals = q.0.locals;
      properties = q.0.properties;
      register_count = q.0.register_count;
      field_count = q.0.field_count;
    },
    giving.puts it w a o q.1,
  )

  -- a reduction to scalars of the procedure
  pub reduce : (kind : ℕ) (j : Key) (total : TotalKey) (r : Reduce) (ts : List Target) (es : List Expr) (it : Iteration) (w : VertexState) (rest : List Line)
      → puts_to_scalars c (own_finds c n) r ts es ≡ true → Shows it w
      → let out = does (S.Combine j total r ts es) Outermost loop it in
      Ending' (reduce_lines (own_site c seg n) kind (way_of c.declarations n ts) j total r ts (map (term v j) es)) rest w out out.fault
  reduce kind j total r [] es it w rest o q = absurd (both_ways false refl o)
  reduce kind j total r (t ∷ ts) es it w rest o q =
      let x = both-true (are_scalars c (t ∷ ts)) (list_all (is_declared c) (t ∷ ts) && (same_length (t ∷ ts) es && list_all (own_finds c n) es)) o in
      let z = both-true (list_all (is_declared c) (t ∷ ts)) (same_length (t ∷ ts) es && list_all (own_finds c n) es) x.1 in
      let y = both-true (same_length (t ∷ ts) es) (list_all (own_finds c n) es) z.1 in
      let out = does (S.Combine j total r (t ∷ ts) es) Outermost loop it in
      subst (λ way. Ending' (reduce_lines (own_site c seg n) kind way j total r (t ∷ ts) (map (term v j) es)) rest w out out.fault) (sym (puts-way (t ∷ ts) x.0))
      (put-ends c v loop Outermost s run Shows Gave depth_is (λ r' place targets ls z. refl) (λ i z a. a.0.fine) (λ i z f a. gave-failed i z f a.1) puts
      j total r t ts es it w rest q x.0 y.0 (all-tell it w j es y.1 q)) where
        puts-way : (us : List Target) → are_scalars c us ≡ true → way_of c.declarations n us ≡ Puts
        puts-way us e = ap (λ b. if b then Puts else (if list_all (is_property_of n) us then Folds else (if list_any (is_property_off n) us then Sends else Picks))) e
