-- A sequential phase with its accesses as checks and loops goes alike.
use Rattle.std.proofs.Common.{◌≡◌, ◌≤◌, ◌<◌, ℕ, suc, Bool, true, false, cond, List, [], ◌∷◌, ◌++◌, refl, sym, ap, subst, ◌∙◌, arith, Option, Some, None, Result, Ok, Err, IfOk}
use Rattle.std.specs.Prelude.{◌&&◌, length, nat_eq, if◌then◌else◌}
use Rattle.std.proofs.lemmas.Bool.{both_ways, eq-eqb, ne_eqb, lt-ltb}
use Rattle.gm_base.specs.declared.places.Place.{Place}
use Rattle.gm_value.specs.declared.values.VType.{VType}
use Rattle.gm_value.specs.declared.values.VType.TheVariants as V
use Rattle.gm_value.specs.declared.values.Value.{Value}
use Rattle.gm_value.specs.declared.values.Value.TheVariants.{At}
use Rattle.gm_value.specs.Numbers.{IsOf}
use Rattle.gm_value.specs.Operations.{is_true}
use Rattle.gm_model.specs.Graphs.{node_count, edge_count, out_steps, in_steps}
use Rattle.gm_ast.specs.declared.tree.Declaration.{Declaration}
use Rattle.gm_ast.specs.declared.tree.Direction.{Direction}
use Rattle.gm_ast.specs.declared.tree.Direction.TheVariants.{Out, In}
use Rattle.gm_ast.specs.declared.tree.Head.{Head}
use Rattle.gm_ast.specs.declared.tree.Key.{Key}
use Rattle.gm_ast.specs.declared.tree.Target.TheVariants as T
use Rattle.gm_ast.specs.Program.{Expr, Const, Var, Property, Degree, NodeCount, EdgeCount, Live, Unary, Binary, Both, Either, Choose, Stmt, Then, Declare, Assign, For, If, While, Do, sequence}
use Rattle.gm_semantics.specs.declared.faults.Fault.{Fault}
use Rattle.gm_semantics.specs.declared.slots.Slot.TheVariants.{Scalar, Node}
use Rattle.gm_semantics.specs.Levels.{nodes, node_in}
use Rattle.gm_semantics.specs.Stores.{Store, write}
use Rattle.gm_semantics.specs.Faults.{first, then_with, unless_fault}
use Rattle.gm_semantics.specs.Expressions.{Answer, View, Evaluated, entered, settled, early, node_held, node_of, degree_of, evaluated, value}
use Rattle.gm_semantics.specs.Frames.{ReadsBelow, NamesBelow, AlikeStates, AlikeCourses}
use Rattle.gm_semantics.specs.Iterations.{assigned}
use Rattle.gm_semantics.specs.Outcomes.{is_of}
use Rattle.gm_semantics.specs.Statements.{Run, State, Course, Goes, Returns, Faults, Stops, view_of, with_value, with_store, either_way, then_do, writes, sequential}
use Rattle.gm_semantics.proofs.ExpressionFrames.{agree-write, node_of-frame, evaluated-frame}
use Rattle.gm_semantics.proofs.StatementFrames.{sequential-alike}
use Rattle.gm_ast.specs.declared.tree.Sort.TheVariants as Sorts
use Rattle.gm_ast.specs.Ways.{is_in}
use Rattle.gm_forms.specs.Doing.{IsNode, Held}
use Rattle.gm_forms.specs.Forms.{is_told}
use Rattle.gm_forms.specs.Typing.{type_at, type_in, has_type, is_typed_in}
use Rattle.gm_forms.specs.Uses.{Iterates, Owner, Written, owner_role, NodeValue, use_as, uses_in, uses_of_head, uses_of}
use Rattle.gm_forms.proofs.Held.{is-node}
use Rattle.gm_forms.proofs.Named.{both-true}
use Rattle.gm_typed_stores.specs.Values.{IsValue}
use Rattle.gm_typed_stores.specs.Tells.{TypeTable, takes_nodes, tells, tells_in}
use Rattle.gm_typed_stores.specs.Stores.{IsTypedStore, IsGraphBelow, IsTypedCourse}
use Rattle.gm_typed_stores.proofs.Expressions.{is-type, Suit, split, value-gives, suit-role}
use Rattle.gm_typed_stores.proofs.Kept.{nodes-within, node_of-within, out-few, in-few, count-value, enter}
use Rattle.gm_typed_stores.proofs.Phases.{led-weaken, led-with, led-either, sequential-keeps}
use Rattle.gm_desugar.specs.Conditions.{nowhere, set_to}
use Rattle.gm_desugar.specs.Reads.{has_reads_apart}
use Rattle.gm_desugar.proofs.Alike.{then-goes, with-alike, either-alike, value-alike}
use Rattle.gm_desugar.proofs.ConditionsLaws.{written-scalar, set-alike}
use Rattle.gm_reductions.specs.declared.accesses.Fresh.{Fresh}
use Rattle.gm_reductions.specs.Accesses.{holder, all_nodes, element_key, one_node, compared, checks, after_check, write_there, by_loops}
use Rattle.gm_reductions.proofs.Iterators.{Leads, turn-leads, sequential-leads}
use Rattle.gm_reductions.proofs.Known.{AreIterators, one-more, no-scalar, enter-held}
use Rattle.gm_reductions.proofs.OneNode.{one-node}
use Rattle.gm_reductions.proofs.TypedAlike.{Led, then-typed, turn-typed, repeated-typed, in_turns-typed}
use Rattle.gm_reductions.proofs.WriteThere.{write-there}

-- the added variables are none of those below a number, and apart from one another
pub record Beyond (k : ℕ) (f : Fresh) : Type 0 where
  pub checked : k ≤ f.checked
  pub iterator : k ≤ f.iterator
  pub held : (t : VType) → k ≤ holder f t
  pub iterator_checked : nat_eq f.iterator f.checked ≡ false
  pub iterator_held : (t : VType) → nat_eq f.iterator (holder f t) ≡ false
  pub held_checked : (t : VType) → nat_eq (holder f t) f.checked ≡ false

-- nothing is hoisted of what scalars and counts tell
pub told-plain : (e : Expr) (w : View) → is_told e ≡ true → (evaluated e w).hoisted ≡ None
told-plain (Const v) w h = refl
told-plain (Var x at) w h = refl
told-plain NodeCount w h = refl
told-plain EdgeCount w h = refl
told-plain (Unary op at e) w h = told-plain e w h
told-plain (Binary op at a b) w h = let q = both-true (is_told a) (is_told b) h in both-plain (evaluated a w).hoisted (evaluated b w).hoisted (told-plain a w q.0) (told-plain b w q.1)
  where
    both-plain : (a b : Option Fault) → a ≡ None → b ≡ None → first a b ≡ None
    both-plain a b p q = ap (λ o. first o b) p ∙ q
told-plain (Both a b) w h = let q = both-true (is_told a) (is_told b) h in ap (λ o. first o (evaluated b w).hoisted) (told-plain a w q.0) ∙ told-plain b w q.1
told-plain (Either a b) w h = let q = both-true (is_told a) (is_told b) h in ap (λ o. first o (evaluated b w).hoisted) (told-plain a w q.0) ∙ told-plain b w q.1
told-plain (Choose c a b) w h =
    let q = both-true (is_told c) (is_told a && is_told b) h in
    let r = both-true (is_told a) (is_told b) q.1 in
    ap (λ o. first o (first (evaluated a w).hoisted (evaluated b w).hoisted)) (told-plain c w q.0) ∙ ap (λ o. first o (evaluated b w).hoisted) (told-plain a w r.0) ∙ told-plain b w r.1
told-plain (Property x p at) w h = absurd (both_ways false refl h)
told-plain (Degree d x at) w h = absurd (both_ways false refl h)
told-plain (Live x at) w h = absurd (both_ways false refl h)
told-plain _ w h = absurd (both_ways false refl h)

-- a degree is a value
degree-value : (limit : ℕ) (w : View) (d : Direction) (n : ℕ) → IsGraphBelow limit w.graph → IsValue limit V.I32 (degree_of w d n)
degree-value limit w Out n is =
    let few : edge_count w.graph ≤ 2147483647 = is.graph.few_edges in
    let low : length (out_steps w.graph n) ≤ edge_count w.graph = out-few w.graph n in
    count-value limit (length (out_steps w.graph n)) (omega arith)
degree-value limit w In n is =
    let few : edge_count w.graph ≤ 2147483647 = is.graph.few_edges in
    let low : length (in_steps w.graph n) ≤ edge_count w.graph = in-few w.graph n in
    count-value limit (length (in_steps w.graph n)) (omega arith)

module _ (table : TypeTable) (result : Option VType) (k : ℕ) where
  -- what is known of a statement inside some iterators
  pub record Fine (its : List ℕ) (s : Stmt) : Type 0 where
    pub typed : is_typed_in table.declarations result s ≡ true
    pub named : Suit table.declarations (uses_of s)
    pub tells : tells_in table its s ≡ true
    pub apart : has_reads_apart s ≡ true
    pub below : NamesBelow k s
    pub iterators : AreIterators table its

module _ (table : TypeTable) (result : Option VType) (run : Run) (graph : IsGraphBelow table.limit run.graph) (same : run.declarations ≡ table.declarations) (k : ℕ) (ds : List Declaration) (types : (x : ℕ) → x < k → type_at ds x ≡ type_at table.declarations x) (f : Fresh) (beyond : Beyond k f) where
  abbrev es : List Declaration
  es = table.declarations

  -- ---- a check before what follows

  checked-alike : (key : Key) (y : ℕ) (at : Place) (left : Result ℕ Fault → Course) (g : State → Course) (a b : State) → y < k → AlikeStates k a b → ((e : Fault) → left (Err e) ≡ Faults e) →
      ((m : ℕ) (u : State) → m < node_count run.graph → AlikeStates k a u → u.store.scalar f.checked ≡ At (Some m) → AlikeCourses k (left (Ok m)) (g u)) →
      AlikeCourses k (left (node_of (view_of run a key) y at)) (then_do (sequential (set_to f.checked key (Live y at)) run b) g)
  checked-alike key y at left g a b low h strict each =
      subst (λ d. AlikeCourses k (left (node_of (view_of run a key) y at)) (then_do d g)) (sym (written-scalar f.checked b (evaluated (Live y at) (view_of run b key)).hoisted (evaluated (Live y at) (view_of run b key)).rest))
      (subst (λ q. AlikeCourses k (left (node_of (view_of run a key) y at)) (then_do (with_value (settled (early (then_with q (λ n. Ok (At (Some n)))))) put) g)) (sym (node_of-frame k (view_of run a key) b.store y at low h.store))
      (by (node_of (view_of run a key) y at) (node_of-within (view_of run a key) y at)))
    where
      put : Value → Course
      put v = with_store b (write b.store (Scalar f.checked) v)

      by : (q : Result ℕ Fault) → IfOk q (λ n. n < node_count run.graph) → AlikeCourses k (left q) (then_do (with_value (settled (early (then_with q (λ n. Ok (At (Some n)))))) put) g)
      by (Ok m) within =
          let u : State = record b { store = write b.store (Scalar f.checked) (At (Some m)) } in
          each m u within (set-alike k f.checked beyond.checked run a b (At (Some m)) h) (ap (λ c. cond c (At (Some m)) (b.store.scalar f.checked)) (eq-eqb f.checked f.checked refl))
      by (Err e) within = subst (λ c. AlikeCourses k c (Faults e)) (sym (strict e)) refl

  -- ---- the node that a variable holds

  apart : (i : Bool) (y : ℕ) → y < k → nat_eq f.iterator (compared i f y) ≡ false
  apart true y low = let above : k ≤ f.iterator = beyond.iterator in ne_eqb f.iterator y (λ e. omega arith)
  apart false y low = beyond.iterator_checked

  held-apart : (i : Bool) (t : VType) (y : ℕ) → y < k → nat_eq (holder f t) (compared i f y) ≡ false
  held-apart true t y low = let above : k ≤ holder f t = beyond.held t in ne_eqb (holder f t) y (λ e. omega arith)
  held-apart false t y low = beyond.held_checked t

  -- statements go alike behind the check, and without it where the variable is an iterator, which holds a node
  there-alike : (it : Bool) (key : Key) (y : ℕ) (at : Place) (left : Result ℕ Fault → Course) (rest : List Stmt) (a b : State) → y < k → (it ≡ true → IsNode run.graph (a.store.scalar y)) → AlikeStates k a b → ((e : Fault) → left (Err e) ≡ Faults e) →
      ((m : ℕ) (u : State) → m < node_count run.graph → AlikeStates k a u → u.store.scalar (compared it f y) ≡ At (Some m) → AlikeCourses k (left (Ok m)) (sequential (sequence rest) run u)) →
      AlikeCourses k (left (node_of (view_of run a key) y at)) (sequential (sequence (checks it f key y at ++ rest)) run b)
  there-alike true key y at left rest a b low holds h strict each =
      let n = holds refl in
      subst (λ o. AlikeCourses k (left (node_held (view_of run a key) at o)) (sequential (sequence rest) run b)) (sym (is-node run.graph (a.store.scalar y) n)) (each n.0 b n.2 h (h.store.scalar y low ∙ n.1))
  there-alike false key y at left rest a b low holds h strict each = checked-alike key y at left (sequential (sequence rest) run) a b low h strict each

  -- one statement
  one-alike : (it : Bool) (key : Key) (y : ℕ) (at : Place) (s : Stmt) (b : State) → sequential (sequence (checks it f key y at ++ (s ∷ []))) run b ≡ sequential (after_check it f key y at s) run b
  one-alike true key y at s b = then-goes (sequential s run b)
  one-alike false key y at s b = refl

  -- ---- a read at that node

  -- what an expression of the iterator is at each node
  abbrev Reads : Expr → (ℕ → Value) → State → Type 0
  Reads d there u = (key : Key) (j : ℕ) → j < node_count run.graph → value d (entered (view_of run u key) (all_nodes f) (record { node = j; edge = 0 }) element_key) ≡ Ok (there j)

  read-there : (c : ℕ) (x m : ℕ) (t : VType) (d : Expr) (there : ℕ → Value) (key : Key) (v : Value) (a u : State) → nat_eq f.iterator c ≡ false → m < node_count run.graph → AlikeStates k a u → u.store.scalar c ≡ At (Some m) →
      Reads d there u → there m ≡ v → IsOf t v →
      AlikeCourses k (with_store a (write a.store (Scalar x) v)) (with_value (value (one_node f c t d) (view_of run u key)) (λ z. with_store u (write u.store (Scalar x) z)))
  read-there c x m t d there key v a u other low i holds reads is typed =
      subst (λ r. AlikeCourses k (with_store a (write a.store (Scalar x) v)) (with_value r (λ z. with_store u (write u.store (Scalar x) z))))
      (sym (one-node f c other (view_of run u key) m holds t d there (reads key) low (subst (IsOf t) (sym is) typed) ∙ ap (λ z. let r : Answer = Ok z in r) is))
      (record { store = agree-write k a.store u.store (Scalar x) v i.store; turns = i.turns })

  -- a node's own property and degrees
  iterator-node : (u : State) (j : ℕ) → j < node_count run.graph → node_in run.graph (cond (nat_eq f.iterator f.iterator) (At (Some j)) (u.store.scalar f.iterator)) ≡ Some j
  iterator-node u j low = ap (λ b. node_in run.graph (cond b (At (Some j)) (u.store.scalar f.iterator))) (eq-eqb f.iterator f.iterator refl) ∙ ap (λ b. cond b (Some j) None) (lt-ltb j (node_count run.graph) low)

  property-reads : (p : ℕ) (u : State) → Reads (Property f.iterator p nowhere) (u.store.node p) u
  property-reads p u key j low =
      let w = entered (view_of run u key) (all_nodes f) (record { node = j; edge = 0 }) element_key in
      ap (λ o. let r : Answer = then_with (node_held w nowhere o) (λ n. Ok (u.store.node p n)) in r) (iterator-node u j low)

  degree-reads : (d : Direction) (a u : State) (key : Key) → Reads (Degree d f.iterator nowhere) (degree_of (view_of run a key) d) u
  degree-reads Out a u first key j low =
      let w = entered (view_of run u key) (all_nodes f) (record { node = j; edge = 0 }) element_key in
      ap (λ o. let r : Answer = then_with (node_held w nowhere o) (λ n. Ok (degree_of w Out n)) in r) (iterator-node u j low)
  degree-reads In a u first key j low =
      let w = entered (view_of run u key) (all_nodes f) (record { node = j; edge = 0 }) element_key in
      ap (λ o. let r : Answer = then_with (node_held w nowhere o) (λ n. Ok (degree_of w In n)) in r) (iterator-node u j low)

  -- what is set to a value
  abbrev puts : ℕ → State → Value → Course
  puts x s v = with_store s (write s.store (Scalar x) v)

  -- the same of an assignment, whose value is hoisted
  abbrev Sets : Stmt → ℕ → Expr → Type 0
  Sets s x e = (key : Key) (u : State) → sequential s run u ≡ with_value (value e (view_of run u key)) (puts x u)

  property-alike : (it : Bool) (its : List ℕ) (x y p : ℕ) (at : Place) (key : Key) (s : Stmt) (a b : State) → y < k → p < k → is_of es Sorts.NodeProperty p ≡ true → (it ≡ true → IsNode run.graph (a.store.scalar y)) → IsTypedStore table its a.store → AlikeStates k a b →
      ((u : State) → sequential s run u ≡ with_value (value (one_node f (compared it f y) (type_at ds p) (Property f.iterator p nowhere)) (view_of run u key)) (puts x u)) →
      (left : Result ℕ Fault → Course) → ((e : Fault) → left (Err e) ≡ Faults e) → ((m : ℕ) → left (Ok m) ≡ puts x a (a.store.node p m)) →
      AlikeCourses k (left (node_of (view_of run a key) y at)) (sequential (after_check it f key y at s) run b)
  property-alike it its x y p at key s a b low lowp sort node typed h shape left strict goes =
      subst (λ c. AlikeCourses k (left (node_of (view_of run a key) y at)) c) (one-alike it key y at s b)
      (there-alike it key y at left (s ∷ []) a b low node h strict
      (λ m u within i holds.
      subst (λ c. AlikeCourses k (left (Ok m)) c) (sym (then-goes (sequential s run u) ∙ shape u))
      (subst (λ c. AlikeCourses k c (with_value (value (one_node f (compared it f y) (type_at ds p) (Property f.iterator p nowhere)) (view_of run u key)) (puts x u))) (sym (goes m))
      (read-there (compared it f y) x m (type_at ds p) (Property f.iterator p nowhere) (u.store.node p) key (a.store.node p m) a u (apart it y low) within i holds (property-reads p u) (i.store.node p m lowp)
      (subst (λ t. IsOf t (a.store.node p m)) (sym (types p lowp)) ((typed.node p m sort).of_type))))))

  degree-alike : (it : Bool) (x y : ℕ) (d : Direction) (at : Place) (key : Key) (s : Stmt) (a b : State) → y < k → (it ≡ true → IsNode run.graph (a.store.scalar y)) → AlikeStates k a b →
      ((u : State) → sequential s run u ≡ with_value (value (one_node f (compared it f y) V.I32 (Degree d f.iterator nowhere)) (view_of run u key)) (puts x u)) →
      (left : Result ℕ Fault → Course) → ((e : Fault) → left (Err e) ≡ Faults e) → ((m : ℕ) → left (Ok m) ≡ puts x a (degree_of (view_of run a key) d m)) →
      AlikeCourses k (left (node_of (view_of run a key) y at)) (sequential (after_check it f key y at s) run b)
  degree-alike it x y d at key s a b low node h shape left strict goes =
      subst (λ c. AlikeCourses k (left (node_of (view_of run a key) y at)) c) (one-alike it key y at s b)
      (there-alike it key y at left (s ∷ []) a b low node h strict
      (λ m u within i holds.
      subst (λ c. AlikeCourses k (left (Ok m)) c) (sym (then-goes (sequential s run u) ∙ shape u))
      (subst (λ c. AlikeCourses k c (with_value (value (one_node f (compared it f y) V.I32 (Degree d f.iterator nowhere)) (view_of run u key)) (puts x u))) (sym (goes m))
      (read-there (compared it f y) x m V.I32 (Degree d f.iterator nowhere) (degree_of (view_of run a key) d) key (degree_of (view_of run a key) d m) a u (apart it y low) within i holds (degree-reads d a u key) refl
      ((degree-value table.limit (view_of run a key) d m graph).of_type)))))

  -- ---- a write at that node

  abbrev held : ℕ → ℕ
  held p = holder f (type_at ds p)

  -- the loop that writes there, after the value was set
  written-alike : (c p m : ℕ) (v : Value) (a u : State) → nat_eq f.iterator c ≡ false → nat_eq (held p) c ≡ false → m < node_count run.graph → AlikeStates k a u → u.store.scalar c ≡ At (Some m) →
      AlikeCourses k (with_store a (write a.store (Node p m) v)) (sequential (sequence (write_there f c p (held p) ∷ [])) run (record u { store = write u.store (Scalar (held p)) v }))
  written-alike c p m v a u other beside low i holds =
      let x = held p in
      let next : State = record u { store = write u.store (Scalar x) v } in
      let above : k ≤ x = beyond.held (type_at ds p) in
      let here : next.store.scalar x ≡ v = ap (λ b. cond b v (u.store.scalar x)) (eq-eqb x x refl) in
      let still : next.store.scalar c ≡ At (Some m) = ap (λ b. cond b v (u.store.scalar c)) beside ∙ holds in
      let w = write-there run f c other p x (beyond.iterator_held (type_at ds p)) next m low still in
      subst (λ c. AlikeCourses k (with_store a (write a.store (Node p m) v)) (then_do c Goes)) (sym w.1)
      (record {
        store = record {
          scalar = λ z below. let far : x ≡ z → ⊥ = λ e. omega arith in w.2.scalar z ∙ ap (λ b. cond b v (u.store.scalar z)) (ne_eqb x z far) ∙ i.store.scalar z below;
          node = λ q j below. w.2.node q j ∙ ap (λ z. if nat_eq p q && nat_eq m j then z else u.store.node q j) here ∙ ap (λ z. if nat_eq p q && nat_eq m j then v else z) (i.store.node q j below);
          edge = λ q e below. ap (λ (g : ℕ → ℕ → Value). g q e) w.2.edge ∙ i.store.edge q e below;
        };
        turns = i.turns;
      })

  write-alike : (it : Bool) (y p : ℕ) (at : Place) (key : Key) (e : Expr) (a b : State) → y < k → ReadsBelow k e → is_told e ≡ true → (it ≡ true → IsNode run.graph (a.store.scalar y)) → AlikeStates k a b →
      AlikeCourses k (writes a (assigned (view_of run a key) (T.Property y p at) (evaluated e (view_of run a key)))) (sequential (sequence (checks it f key y at ++ set_to (held p) key e ∷ write_there f (compared it f y) p (held p) ∷ [])) run b)
  write-alike it y p at key e a b low below is_told node h =
      there-alike it key y at (at_slot (evaluated e (view_of run a key)).hoisted) (set_to (held p) key e ∷ write_there f c p (held p) ∷ []) a b low node h (λ z. ap (λ o. at_slot o (Err z)) plain_e)
      (λ m u within i holds.
      subst (λ o. AlikeCourses k (at_slot o (Ok m)) (sequential (sequence (set_to (held p) key e ∷ write_there f c p (held p) ∷ [])) run u)) (sym plain_e)
      (subst (λ d. AlikeCourses k (at_slot None (Ok m)) (then_do d (sequential (sequence (write_there f c p (held p) ∷ [])) run))) (sym (written-scalar (held p) u (evaluated e (view_of run u key)).hoisted (evaluated e (view_of run u key)).rest))
      (subst (λ (ev : Evaluated). AlikeCourses k (at_slot None (Ok m)) (then_do (with_value (settled ev) (puts (held p) u)) (sequential (sequence (write_there f c p (held p) ∷ [])) run))) (sym (evaluated-frame k e (view_of run a key) u.store below i.store))
      (subst (λ o. AlikeCourses k (at_slot None (Ok m)) (then_do (with_value (unless_fault o rest_e) (puts (held p) u)) (sequential (sequence (write_there f c p (held p) ∷ [])) run))) (sym plain_e)
      (by m u rest_e within i holds)))))
    where
      c : ℕ
      c = compared it f y

      rest_e : Answer
      rest_e = (evaluated e (view_of run a key)).rest

      plain_e : (evaluated e (view_of run a key)).hoisted ≡ None
      plain_e = told-plain e (view_of run a key) is_told

      at_slot : Option Fault → Result ℕ Fault → Course
      at_slot o q = writes a (unless_fault o (then_with (then_with q (λ n. Ok (Node p n))) (λ s. then_with rest_e (λ v. Ok (s, v)))))

      by : (m : ℕ) (u : State) (r : Answer) → m < node_count run.graph → AlikeStates k a u → u.store.scalar c ≡ At (Some m) →
          AlikeCourses k (writes a (then_with r (λ v. Ok (Node p m, v)))) (then_do (with_value r (puts (held p) u)) (sequential (sequence (write_there f c p (held p) ∷ [])) run))
      by m u (Err z) within i holds = refl
      by m u (Ok v) within i holds = written-alike c p m v a u (apart it y low) (held-apart it (type_at ds p) y low) within i holds

  -- ---- statements

  -- what is known of a store: its values have types, and iterators hold nodes
  pub record Fits (its : List ℕ) (s : Store) : Type 0 where
    pub typed : IsTypedStore table its s
    pub nodes : Held run.graph its s

  abbrev Goes-on : List ℕ → Course → Type 0
  Goes-on its c = Led (Fits its) k c

  both-led : (its : List ℕ) (known : AreIterators table its) (c : Course) → IsTypedCourse table result its c → ((y : ℕ) (i : is_in its y ≡ true) → Leads es y (no-scalar table y (known y i)) run same c) → Goes-on its c
  both-led its known (Goes s) t n = record { typed = t; nodes = n }
  both-led its known (Returns v s) t n = tt
  both-led its known (Faults e) t n = tt
  both-led its known Stops t n = tt

  typed-led : (its : List ℕ) (s : Stmt) (a : State) → Fine table result k its s → IsTypedStore table its a.store → IsTypedCourse table result its (sequential s run a)
  typed-led its s a h t = sequential-keeps table result run graph same s its a h.typed h.named h.tells t

  led : (its : List ℕ) (s : Stmt) (a : State) → Fine table result k its s → Fits its a.store → Goes-on its (sequential s run a)
  led its s a h t = both-led its h.iterators (sequential s run a) (typed-led its s a h t.typed) (λ y i. sequential-leads es y (no-scalar table y (h.iterators y i)) run same s a h.named (t.nodes y i))

  is-property : (x p : ℕ) (at : Place) → Suit es (uses_in (Property x p at)) → is_of es Sorts.NodeProperty p ≡ true
  is-property x p at h = suit-role table (record { variable = p; role = NodeValue }) (split es (use_as Owner x) (use_as NodeValue p) h).1

  -- a turn of a For
  abbrev turn : Key → Head → Expr → Stmt → ℕ → State → Course
  turn key head e s n t =
      let v : State = record t { store = write t.store (Scalar head.iterator) (At (Some n)) } in
      with_value (value e (view_of run v key)) (λ x. either_way (is_true x) (sequential s run) Goes v)

  abbrev GoAlike : Stmt → (List ℕ → Stmt) → Type 0
  GoAlike s t = (its : List ℕ) (a b : State) → Fine table result k its s → Fits its a.store → AlikeStates k a b → AlikeCourses k (sequential s run a) (sequential (t its) run b)

  pub loops-alike : (s : Stmt) → GoAlike s (λ its. by_loops ds f its s)
  loops-alike (Then s t) its a b h fits i =
      let q = both-true (is_typed_in es result s) (is_typed_in es result t) h.typed in
      let r = split es (uses_of s) (uses_of t) h.named in
      let j = both-true (tells_in table its s) (tells_in table its t) h.tells in
      let o = both-true (has_reads_apart s) (has_reads_apart t) h.apart in
      let left : Fine table result k its s = record { typed = q.0; named = r.0; tells = j.0; apart = o.0; below = h.below.0; iterators = h.iterators } in
      let right : Fine table result k its t = record { typed = q.1; named = r.1; tells = j.1; apart = o.1; below = h.below.1; iterators = h.iterators } in
      then-typed (Fits its) k (sequential s run a) (sequential (by_loops ds f its s) run b) _ _ (led its s a left fits) (loops-alike s its a b left fits i) (λ c d p m. loops-alike t its c d right p m)
  loops-alike (Declare key x (Some (Property y p at))) its a b h fits i =
      let r = split es (use_as Written x) (uses_in (Property y p at)) h.named in
      property-alike (is_in its y) its x y p at key (Declare key x (Some (one_node f (compared (is_in its y) f y) (type_at ds p) (Property f.iterator p nowhere)))) a b h.below.1.0 h.below.1.1 (is-property y p at r.1) (fits.nodes y) fits.typed i (λ u. refl)
      (λ q. with_value (settled (early (then_with q (λ n. Ok (a.store.node p n))))) (puts x a)) (λ e. refl) (λ m. refl)
  loops-alike (Declare key x (Some (Degree d y at))) its a b h fits i =
      degree-alike (is_in its y) x y d at key (Declare key x (Some (one_node f (compared (is_in its y) f y) V.I32 (Degree d f.iterator nowhere)))) a b h.below.1 (fits.nodes y) i (λ u. refl)
      (λ q. with_value (settled (early (then_with q (λ n. Ok (degree_of (view_of run a key) d n))))) (puts x a)) (λ e. refl) (λ m. refl)
  loops-alike (Assign key (T.Scalar x g) (Property y p at)) its a b h fits i =
      let r = split es (use_as Written x) (uses_in (Property y p at)) h.named in
      property-alike (is_in its y) its x y p at key (Assign key (T.Scalar x g) (one_node f (compared (is_in its y) f y) (type_at ds p) (Property f.iterator p nowhere))) a b h.below.1.0 h.below.1.1 (is-property y p at r.1) (fits.nodes y) fits.typed i
      (λ u. let e = one_node f (compared (is_in its y) f y) (type_at ds p) (Property f.iterator p nowhere) in written-scalar x u (evaluated e (view_of run u key)).hoisted (evaluated e (view_of run u key)).rest)
      (λ q. writes a (assigned (view_of run a key) (T.Scalar x g) (early (then_with q (λ n. Ok (a.store.node p n)))))) (λ e. refl) (λ m. refl)
  loops-alike (Assign key (T.Scalar x g) (Degree d y at)) its a b h fits i =
      degree-alike (is_in its y) x y d at key (Assign key (T.Scalar x g) (one_node f (compared (is_in its y) f y) V.I32 (Degree d f.iterator nowhere))) a b h.below.1 (fits.nodes y) i
      (λ u. let e = one_node f (compared (is_in its y) f y) V.I32 (Degree d f.iterator nowhere) in written-scalar x u (evaluated e (view_of run u key)).hoisted (evaluated e (view_of run u key)).rest)
      (λ q. writes a (assigned (view_of run a key) (T.Scalar x g) (early (then_with q (λ n. Ok (degree_of (view_of run a key) d n)))))) (λ e. refl) (λ m. refl)
  loops-alike (Assign key (T.Scalar x g) e) its a b h fits i = sequential-alike k (Assign key (T.Scalar x g) e) run a b h.below i
  loops-alike (Assign key (T.Property y p at) e) its a b h fits i = write-alike (is_in its y) y p at key e a b h.below.0.0 h.below.1 h.apart (fits.nodes y) i
  loops-alike (For key at hd e s) its a b h fits i =
      let n = hd.iterator in
      let q = both-true (has_type es V.Flag e) (is_typed_in es result s) h.typed in
      let r = split es (uses_of_head hd) (uses_in e ++ uses_of s) h.named in
      let r' = split es (uses_in e) (uses_of s) r.1 in
      let j = both-true (takes_nodes table n) (tells table (n ∷ its) e && tells_in table (n ∷ its) s) h.tells in
      let j' = both-true (tells table (n ∷ its) e) (tells_in table (n ∷ its) s) j.1 in
      let g = split es (use_as Iterates n) (use_as (owner_role hd.domain) hd.owner) r.0 in
      let more = one-more table n its (record { named = g.0; takes = j.0 }) h.iterators in
      let inside : Fine table result k (n ∷ its) s = record { typed = q.1; named = r'.1; tells = j'.1; apart = h.apart; below = h.below.3; iterators = more } in
      in_turns-typed (Fits its) k (λ m. m < node_count run.graph) run (nodes run.graph) (turn key hd e s) (turn key hd e (by_loops ds f (n ∷ its) s)) a b (nodes-within run.graph) fits i
      (λ m low c d p i.
      let u : State = record c { store = write c.store (Scalar n) (At (Some m)) } in
      let w : State = record d { store = write d.store (Scalar n) (At (Some m)) } in
      let o : AlikeStates k u w = record { store = agree-write k c.store d.store (Scalar n) (At (Some m)) i.store; turns = i.turns } in
      let entered_typed = enter table its n m run.graph c.store graph j.0 low p.typed in
      let entered : Fits (n ∷ its) u.store = record { typed = entered_typed; nodes = enter-held run.graph n m its c.store low p.nodes } in (
        both-led its h.iterators (turn key hd e s m c)
            (led-weaken table result its n (turn key hd e s m c)
            (led-with table result (IsValue table.limit V.Flag) (n ∷ its) (value e (view_of run u key)) (λ x. either_way (is_true x) (sequential s run) Goes u)
            (value-gives table e (n ∷ its) (view_of run u key) V.Flag (record { graph = graph; store = entered_typed }) (is-type V.Flag (type_in es e) q.0) r'.0 j'.0)
            (λ x g. led-either table result (n ∷ its) (is_true x) (sequential s run) Goes u (typed-led (n ∷ its) s u inside entered_typed) entered_typed)))
            (λ y v. turn-leads es y (no-scalar table y (h.iterators y v)) run same n m key e (sequential s run) c low (λ z l. sequential-leads es y (no-scalar table y (h.iterators y v)) run same s z r'.1 l) (p.nodes y v)),
        with-alike k _ _ _ _ (value-alike k e run key u w h.below.2 o) (λ v. either-alike k (is_true v) (sequential s run) Goes (sequential (by_loops ds f (n ∷ its) s) run) Goes u w (loops-alike s (n ∷ its) u w inside entered o) o),
      ))
  loops-alike (If key e s t) its a b h fits i =
      let q = both-true (has_type es V.Flag e) (is_typed_in es result s && is_typed_in es result t) h.typed in
      let q' = both-true (is_typed_in es result s) (is_typed_in es result t) q.1 in
      let r = split es (uses_in e) (uses_of s ++ uses_of t) h.named in
      let r' = split es (uses_of s) (uses_of t) r.1 in
      let j = both-true (tells table its e) (tells_in table its s && tells_in table its t) h.tells in
      let j' = both-true (tells_in table its s) (tells_in table its t) j.1 in
      let o = both-true (has_reads_apart s) (has_reads_apart t) h.apart in
      let left : Fine table result k its s = record { typed = q'.0; named = r'.0; tells = j'.0; apart = o.0; below = h.below.1; iterators = h.iterators } in
      let right : Fine table result k its t = record { typed = q'.1; named = r'.1; tells = j'.1; apart = o.1; below = h.below.2; iterators = h.iterators } in
      with-alike k _ _ _ _ (value-alike k e run key a b h.below.0 i)
      (λ v. either-alike k (is_true v) (sequential s run) (sequential t run) (sequential (by_loops ds f its s) run) (sequential (by_loops ds f its t) run) a b (loops-alike s its a b left fits i) (loops-alike t its a b right fits i))
  loops-alike (While key at e s) its a b h fits i =
      let q = both-true (has_type es V.Flag e) (is_typed_in es result s) h.typed in
      let r = split es (uses_in e) (uses_of s) h.named in
      let j = both-true (tells table its e) (tells_in table its s) h.tells in
      let inside : Fine table result k its s = record { typed = q.1; named = r.1; tells = j.1; apart = h.apart; below = h.below.1; iterators = h.iterators } in
      repeated-typed (Fits its) k (suc run.bound) run (λ u. value e (view_of run u key)) (sequential s run) (sequential (by_loops ds f its s) run) a b fits i
      (λ c d i. value-alike k e run key c d h.below.0 i) (λ c d p i. (led its s c inside p, loops-alike s its c d inside p i))
  loops-alike (Do key at s e) its a b h fits i =
      let q = both-true (is_typed_in es result s) (has_type es V.Flag e) h.typed in
      let r = split es (uses_of s) (uses_in e) h.named in
      let j = both-true (tells_in table its s) (tells table its e) h.tells in
      let inside : Fine table result k its s = record { typed = q.0; named = r.0; tells = j.0; apart = h.apart; below = h.below.0; iterators = h.iterators } in
      turn-typed (Fits its) k run _ _ a b fits i
      (λ c d p m. then-typed (Fits its) k (sequential s run c) (sequential (by_loops ds f its s) run d) _ _ (led its s c inside p) (loops-alike s its c d inside p m)
      (λ u w g o. repeated-typed (Fits its) k (suc run.bound) run (λ u. value e (view_of run u key)) (sequential s run) (sequential (by_loops ds f its s) run) u w g o
      (λ c d i. value-alike k e run key c d h.below.1 i) (λ c d p i. (led its s c inside p, loops-alike s its c d inside p i))))
  loops-alike s its a b h fits i = sequential-alike k s run a b h.below i
