-- A part of a program in place of another: it does the same, and keeps what every pass keeps.
use Rattle.std.proofs.Common.{◌≡◌, suc, ℕ, Bool, true, false, List, [], ◌∷◌, ◌++◌, length, map, refl, sym, ap, subst, ◌∙◌, Option, Some, None}
use Rattle.std.specs.Prelude.{◌+◌, ◌&&◌, ◌||◌, nat_lt, nat_le, reverse}
use Rattle.std.specs.List.{list_all}
use Rattle.std.proofs.lemmas.Bool.{both_ways}
use Rattle.std.proofs.Math.Path.{fun_ext}
use Rattle.gm_base.specs.declared.places.Place.{Place}
use Rattle.gm_value.specs.declared.values.VType.{VType}
use Rattle.gm_value.specs.declared.values.VType.TheVariants.{I32, I64, Flag, Node}
use Rattle.gm_value.specs.declared.values.Value.TheVariants.{At}
use Rattle.gm_value.specs.Operations.{is_true, same_type}
use Rattle.gm_model.specs.Graphs.{NumberedGraph, Step}
use Rattle.gm_value.specs.Bag.{IsIn}
use Rattle.gm_ast.specs.declared.tree.Declaration.{Declaration}
use Rattle.gm_ast.specs.declared.tree.Head.{Head}
use Rattle.gm_ast.specs.declared.tree.Key.{Key}
use Rattle.gm_ast.specs.declared.tree.Search.{Search}
use Rattle.gm_ast.specs.declared.tree.Variable.{Variable}
use Rattle.gm_ast.specs.Loops.{is_nodes}
use Rattle.gm_ast.specs.Program.{Expr, Stmt, Then, Foreach, For, If, While, Do, InBfs, InBfsBoth, Program}
use Rattle.gm_semantics.specs.declared.slots.Slot.TheVariants.{Scalar}
use Rattle.gm_semantics.specs.Levels.{nodes, levels, level_of, no_levels}
use Rattle.gm_semantics.specs.Stores.{Store, write}
use Rattle.gm_semantics.specs.Expressions.{Answer, View, settled, evaluated, value, node_of, steps_in}
use Rattle.gm_semantics.specs.Iterations.{Loop, Mode, Outermost, AtEdge, Iteration, begun, as_it_is, with_ok, one_way, go_on, view_in, inner_done, turn_at, does}
use Rattle.gm_semantics.specs.Loops.{pushes, parallel, loop_done}
use Rattle.gm_semantics.specs.Statements.{Run, State, Goes, view_of, with_value, with_store, either_way, variable_at, loops, repeated, sequential}
use Rattle.gm_semantics.specs.Outcomes.{outcome_of, first_store}
use Rattle.gm_forms.specs.Forms.{depth_at, is_flat, is_inner_head}
use Rattle.gm_forms.specs.Meanings.{SameMeaning}
use Rattle.gm_forms.specs.Order.{lie_before, rest_in, hoisted_in, hoists_in_order, faults_in, in_order, faults_of, body_in_order, loop_in_order, folds_in_order, loops_in_order, fault_of, are_numbered, cannot_fail, leads, begins, search_in_order}
use Rattle.gm_forms.specs.Ready.{is_outer_expr, is_phase_expr, is_inner_code, is_outer_code, is_phase_code, Ready0}
use Rattle.gm_forms.specs.Sharing.{Sights, with_reads, sights_in, sights_of, read_at, read_elsewhere, read_anywhere, written, deferred, reduced, disjoint, all_agree, targets_alike, inner_shares, inners_share, shares, loops_share, reads_in, level_reads_in, level_reads_of, shared_in, kept_in, all_last_one_way, shares_beside, search_shares}
use Rattle.gm_forms.specs.Typing.{type_at, type_in, is_type, has_type, is_typed_in}
use Rattle.gm_forms.specs.Uses.{Role, Use, has_role, suits, use_as, uses_in, uses_of_head, uses_of_search, uses_of}
use Rattle.gm_forms.proofs.Courses.{then_do-both, with_value-each, either_way-each, begin_turn-each, repeated-each, in_turns-each}
use Rattle.gm_forms.proofs.Named.{both-true, all-append}
use Rattle.gm_forms.proofs.Weaker.{and-true}
use Rattle.gm_desugar.proofs.Fewer.{Fewer, FewerSights, same-sights, sights-both, lie-fewer, fewer-both, disjoint-fewer, members-both, anywhere-fewer, elsewhere-fewer, at-fewer, FewerReads, reads-both, at-level-fewer, numbered-fewer}

-- lists of uses suit as their parts do
pub append-true : {A : Type 0} (f : A → Bool) (xs ys : List A) → list_all f xs ≡ true → list_all f ys ≡ true → list_all f (xs ++ ys) ≡ true
append-true f [] ys h k = k
append-true f (x ∷ xs) ys h k = let r = both-true (f x) (list_all f xs) h in and-true (f x) (list_all f (xs ++ ys)) r.0 (append-true f xs ys r.1 k)

-- a use in another role that the variable has
pub use-as : (ds : List Declaration) (a b : Role) (x : ℕ) → ((v : Variable) → has_role v a ≡ true → has_role v b ≡ true) → list_all (suits ds) (use_as a x) ≡ true → list_all (suits ds) (use_as b x) ≡ true
use-as ds a b x f h =
    let s = both-true (suits ds (record { variable = x; role = a })) true h in
    let t = both-true (nat_lt x (length ds)) (has_role (variable_at ds x) a) s.0 in
    and-true (suits ds (record { variable = x; role = b })) true (and-true (nat_lt x (length ds)) (has_role (variable_at ds x) b) t.0 (f (variable_at ds x) t.1)) refl

-- types that pass the test of equality are equal
same-type : (t u : VType) → same_type t u ≡ true → t ≡ u
same-type I32 I32 h = refl
same-type I32 I64 h = absurd (both_ways false refl h)
same-type I32 Flag h = absurd (both_ways false refl h)
same-type I32 Node h = absurd (both_ways false refl h)
same-type I64 I32 h = absurd (both_ways false refl h)
same-type I64 I64 h = refl
same-type I64 Flag h = absurd (both_ways false refl h)
same-type I64 Node h = absurd (both_ways false refl h)
same-type Flag I32 h = absurd (both_ways false refl h)
same-type Flag I64 h = absurd (both_ways false refl h)
same-type Flag Flag h = refl
same-type Flag Node h = absurd (both_ways false refl h)
same-type Node I32 h = absurd (both_ways false refl h)
same-type Node I64 h = absurd (both_ways false refl h)
same-type Node Flag h = absurd (both_ways false refl h)
same-type Node Node h = refl

pub type-itself : (t : VType) → same_type t t ≡ true
type-itself I32 = refl
type-itself I64 = refl
type-itself Flag = refl
type-itself Node = refl

pub is-type : (t : VType) (o : Option VType) → is_type t o ≡ true → o ≡ Some t
is-type t None h = absurd (both_ways false refl h)
is-type t (Some u) h = ap Some (sym (same-type t u h))

-- an expression d in place of e
pub record ForExpr (ds : List Declaration) (e d : Expr) : Type 0 where
  pub same : (w : View) → evaluated d w ≡ evaluated e w
  pub named : list_all (suits ds) (uses_in e) ≡ true → list_all (suits ds) (uses_in d) ≡ true
  pub typed : (t : VType) → type_in ds e ≡ Some t → type_in ds d ≡ Some t
  pub hoisted : Fewer (hoisted_in d) (hoisted_in e)
  pub rest : (k : Key) → Fewer (rest_in d k) (rest_in e k)
  pub hoists : hoists_in_order e ≡ true → hoists_in_order d ≡ true
  pub safe : cannot_fail e ≡ true → cannot_fail d ≡ true
  pub folds : folds_in_order e ≡ true → folds_in_order d ≡ true
  pub seen : FewerSights (sights_in d) (sights_in e)
  pub away : FewerReads (level_reads_in d) (level_reads_in e)
  pub flat : (its : List ℕ) (edge : Bool) → is_flat its edge e ≡ true → is_flat its edge d ≡ true
  pub outer : (levels : Bool) (n : ℕ) → is_outer_expr levels n e ≡ true → is_outer_expr levels n d ≡ true
  pub phase : is_phase_expr e ≡ true → is_phase_expr d ≡ true

pub expr-same : (ds : List Declaration) (e : Expr) → ForExpr ds e e
expr-same ds e = record {
  same = λ w. refl;
  named = λ h. h;
  typed = λ t h. h;
  hoisted = λ f i. i;
  rest = λ k f i. i;
  hoists = λ h. h;
  safe = λ h. h;
  folds = λ h. h;
  seen = same-sights (sights_in e);
  away = λ r i. i;
  flat = λ its edge h. h;
  outer = λ levels n h. h;
  phase = λ h. h;
}

pub expr-trans : (ds : List Declaration) (e d c : Expr) → ForExpr ds e d → ForExpr ds d c → ForExpr ds e c
expr-trans ds e d c p q = record {
  same = λ w. q.same w ∙ p.same w;
  named = λ h. q.named (p.named h);
  typed = λ t h. q.typed t (p.typed t h);
  hoisted = λ f i. p.hoisted f (q.hoisted f i);
  rest = λ k f i. p.rest k f (q.rest k f i);
  hoists = λ h. q.hoists (p.hoists h);
  safe = λ h. q.safe (p.safe h);
  folds = λ h. q.folds (p.folds h);
  seen = record { properties = λ r i. p.seen.properties r (q.seen.properties r i); scalars = λ x i. p.seen.scalars x (q.seen.scalars x i) };
  away = λ r i. p.away r (q.away r i);
  flat = λ its edge h. q.flat its edge (p.flat its edge h);
  outer = λ levels n h. q.outer levels n (p.outer levels n h);
  phase = λ h. q.phase (p.phase h);
}

-- what a body's statement sees of its loop
abbrev pub loop_at : List Declaration → ℕ → NumberedGraph → (ℕ → Option ℕ) → (ℕ → Bool) → Loop
loop_at ds n g ls pushed = record { graph = g; levels = ls; depth = depth_at ds; vtype = type_at ds; outer = n; pushed = pushed }

abbrev pub mode_at : Bool → ℕ → Mode
mode_at false e = Outermost
mode_at true e = AtEdge e

-- a statement t in place of s, in an outer body of a loop with the iterator n, or in an inner one
pub record ForBody (ds : List Declaration) (n : ℕ) (inner : Bool) (s t : Stmt) : Type 0 where
  pub same : (g : NumberedGraph) (ls : ℕ → Option ℕ) (pushed : ℕ → Bool) (e : ℕ) (it : Iteration) → does t (mode_at inner e) (loop_at ds n g ls pushed) it ≡ does s (mode_at inner e) (loop_at ds n g ls pushed) it
  pub pushes_same : (p : ℕ) → pushes t n p ≡ pushes s n p
  pub named : list_all (suits ds) (uses_of s) ≡ true → list_all (suits ds) (uses_of t) ≡ true
  pub typed : (r : Option VType) → is_typed_in ds r s ≡ true → is_typed_in ds r t ≡ true
  pub fewer : (its : List ℕ) → Fewer (faults_of its t) (faults_of its s)
  pub order : (its : List ℕ) → body_in_order its s ≡ true → body_in_order its t ≡ true
  pub seen : FewerSights (sights_of ds n inner t) (sights_of ds n inner s)
  pub away : inner ≡ false → FewerReads (level_reads_of ds n t) (level_reads_of ds n s)
  pub reduced_same : reduced ds n inner t ≡ reduced ds n inner s
  pub written_same : written ds n inner t ≡ written ds n inner s
  pub deferred_same : deferred t ≡ deferred s
  pub alike : targets_alike s ≡ true → targets_alike t ≡ true
  pub inners : inners_share ds n s ≡ true → inners_share ds n t ≡ true
  pub inner_form : inner ≡ true → (its : List ℕ) → is_inner_code ds its s ≡ true → is_inner_code ds its t ≡ true
  pub outer_form : inner ≡ false → (levels : Bool) → is_outer_code ds levels n s ≡ true → is_outer_code ds levels n t ≡ true

-- a statement t in place of s, in a sequential phase
pub record ForPhase (ds : List Declaration) (r : Option VType) (s t : Stmt) : Type 0 where
  pub same : (g : NumberedGraph) (bound : ℕ) (u : State) → sequential t (record { graph = g; declarations = ds; bound = bound }) u ≡ sequential s (record { graph = g; declarations = ds; bound = bound }) u
  pub named : list_all (suits ds) (uses_of s) ≡ true → list_all (suits ds) (uses_of t) ≡ true
  pub typed : is_typed_in ds r s ≡ true → is_typed_in ds r t ≡ true
  pub order : loops_in_order s ≡ true → loops_in_order t ≡ true
  pub share : loops_share ds s ≡ true → loops_share ds t ≡ true
  pub form : is_phase_code ds s ≡ true → is_phase_code ds t ≡ true

module _ (ds : List Declaration) where
  pub value-same : (e d : Expr) → ForExpr ds e d → (w : View) → value d w ≡ value e w
  value-same e d r w = ap settled (r.same w)

  pub typed-same : (e d : Expr) → ForExpr ds e d → (t : VType) → has_type ds t e ≡ true → has_type ds t d ≡ true
  typed-same e d r t h = ap (is_type t) (r.typed t (is-type t (type_in ds e) h)) ∙ type-itself t

  pub order-same : (e d : Expr) → ForExpr ds e d → (k : Key) → in_order e k ≡ true → in_order d k ≡ true
  order-same e d r k h =
      let q = both-true (hoists_in_order e) (lie_before (hoisted_in e) (rest_in e k)) h in
      and-true (hoists_in_order d) (lie_before (hoisted_in d) (rest_in d k)) (r.hoists q.0) (lie-fewer (hoisted_in e) (rest_in e k) (hoisted_in d) (rest_in d k) r.hoisted (r.rest k) q.1)

  pub faults-fewer : (e d : Expr) → ForExpr ds e d → (k : Key) → Fewer (faults_in d k) (faults_in e k)
  faults-fewer e d r k = fewer-both (hoisted_in e) (rest_in e k) (hoisted_in d) (rest_in d k) r.hoisted (r.rest k)

  -- a filter and a body use variables as they did, and are typed
  part-named : (us : List Use) (c d : Expr) (s t : Stmt) → ForExpr ds c d → (list_all (suits ds) (uses_of s) ≡ true → list_all (suits ds) (uses_of t) ≡ true) →
      list_all (suits ds) (us ++ (uses_in c ++ uses_of s)) ≡ true → list_all (suits ds) (us ++ (uses_in d ++ uses_of t)) ≡ true
  part-named us c d s t r named h =
      let u = all-append (suits ds) us (uses_in c ++ uses_of s) h in
      let v = all-append (suits ds) (uses_in c) (uses_of s) u.1 in
      append-true (suits ds) us (uses_in d ++ uses_of t) u.0 (append-true (suits ds) (uses_in d) (uses_of t) (r.named v.0) (named v.1))

  part-typed : (res : Option VType) (c d : Expr) (s t : Stmt) → ForExpr ds c d → (is_typed_in ds res s ≡ true → is_typed_in ds res t ≡ true) → has_type ds Flag c && is_typed_in ds res s ≡ true → has_type ds Flag d && is_typed_in ds res t ≡ true
  part-typed res c d s t r typed h = let u = both-true (has_type ds Flag c) (is_typed_in ds res s) h in and-true (has_type ds Flag d) (is_typed_in ds res t) (typed-same c d r Flag u.0) (typed u.1)

  -- a turn of a loop
  turn-same : (e d : Expr) → ForExpr ds e d → (loop : Loop) (m : Mode) (k : Key) (f h : Iteration → Iteration) → ((i : Iteration) → h i ≡ f i) → (x n : ℕ) (s : Store) → turn_at loop m k d h x n s ≡ turn_at loop m k e f x n s
  turn-same e d r loop m k f h same x n s =
      let start : Iteration = begun (write s (Scalar x) (At (Some n))) in
      ap (λ (a : Answer). with_ok start a (λ v. one_way (is_true v) h as_it_is start)) (value-same e d r (view_in loop m start k))
      ∙ ap (λ (b : Iteration → Iteration). with_ok start (value e (view_in loop m start k)) (λ v. one_way (is_true v) b as_it_is start)) (fun_ext same)

  module _ (n : ℕ) (inner : Bool) where
    pub body-same : (s : Stmt) → ForBody ds n inner s s
    body-same s = record {
      same = λ g ls pushed e it. refl;
      pushes_same = λ p. refl;
      named = λ h. h;
      typed = λ r h. h;
      fewer = λ its f i. i;
      order = λ its h. h;
      seen = same-sights (sights_of ds n inner s);
      away = λ o r i. i;
      reduced_same = refl;
      written_same = refl;
      deferred_same = refl;
      alike = λ h. h;
      inners = λ h. h;
      inner_form = λ i its h. h;
      outer_form = λ o levels h. h;
    }

    pub body-then : (a a' b b' : Stmt) → ForBody ds n inner a a' → ForBody ds n inner b b' → ForBody ds n inner (Then a b) (Then a' b')
    body-then a a' b b' p q = record {
      same = λ g ls pushed e it.
          let m : Mode = mode_at inner e in
          let loop : Loop = loop_at ds n g ls pushed in
          ap (λ (i : Iteration). go_on i (does b' m loop)) (p.same g ls pushed e it) ∙ ap (go_on (does a m loop it)) (fun_ext (λ i. q.same g ls pushed e i));
      pushes_same = λ x. ap (λ z. z || pushes b' n x) (p.pushes_same x) ∙ ap (λ z. pushes a n x || z) (q.pushes_same x);
      named = λ h. let u = all-append (suits ds) (uses_of a) (uses_of b) h in append-true (suits ds) (uses_of a') (uses_of b') (p.named u.0) (q.named u.1);
      typed = λ r h. let u = both-true (is_typed_in ds r a) (is_typed_in ds r b) h in and-true (is_typed_in ds r a') (is_typed_in ds r b') (p.typed r u.0) (q.typed r u.1);
      fewer = λ its. fewer-both (faults_of its a) (faults_of its b) (faults_of its a') (faults_of its b') (p.fewer its) (q.fewer its);
      order = λ its h.
          let u = both-true (body_in_order its a) (body_in_order its b && lie_before (faults_of its a) (faults_of its b)) h in
          let v = both-true (body_in_order its b) (lie_before (faults_of its a) (faults_of its b)) u.1 in
          and-true (body_in_order its a') (body_in_order its b' && lie_before (faults_of its a') (faults_of its b')) (p.order its u.0)
          (and-true (body_in_order its b') (lie_before (faults_of its a') (faults_of its b')) (q.order its v.0) (lie-fewer (faults_of its a) (faults_of its b) (faults_of its a') (faults_of its b') (p.fewer its) (q.fewer its) v.1));
      seen = sights-both (sights_of ds n inner a') (sights_of ds n inner b') (sights_of ds n inner a) (sights_of ds n inner b) p.seen q.seen;
      away = λ o. reads-both (level_reads_of ds n a) (level_reads_of ds n b) (level_reads_of ds n a') (level_reads_of ds n b') (p.away o) (q.away o);
      reduced_same = ap (λ l. l ++ reduced ds n inner b') p.reduced_same ∙ ap (λ l. reduced ds n inner a ++ l) q.reduced_same;
      written_same = ap (λ l. l ++ written ds n inner b') p.written_same ∙ ap (λ l. written ds n inner a ++ l) q.written_same;
      deferred_same = ap (λ l. l ++ deferred b') p.deferred_same ∙ ap (λ l. deferred a ++ l) q.deferred_same;
      alike = λ h. let u = both-true (targets_alike a) (targets_alike b) h in and-true (targets_alike a') (targets_alike b') (p.alike u.0) (q.alike u.1);
      inners = λ h. let u = both-true (inners_share ds n a) (inners_share ds n b) h in and-true (inners_share ds n a') (inners_share ds n b') (p.inners u.0) (q.inners u.1);
      inner_form = λ i its h. let u = both-true (is_inner_code ds its a) (is_inner_code ds its b) h in and-true (is_inner_code ds its a') (is_inner_code ds its b') (p.inner_form i its u.0) (q.inner_form i its u.1);
      outer_form = λ o levels h.
          let u = both-true (is_outer_code ds levels n a) (is_outer_code ds levels n b) h in
          and-true (is_outer_code ds levels n a') (is_outer_code ds levels n b') (p.outer_form o levels u.0) (q.outer_form o levels u.1);
    }

    pub body-if : (k : Key) (c d : Expr) (a a' b b' : Stmt) → ForExpr ds c d → ForBody ds n inner a a' → ForBody ds n inner b b' → ForBody ds n inner (If k c a b) (If k d a' b')
    body-if k c d a a' b b' r p q = record {
      same = λ g ls pushed e it.
          let m : Mode = mode_at inner e in
          let loop : Loop = loop_at ds n g ls pushed in
          ap (λ (x : Answer). with_ok it x (λ v. one_way (is_true v) (does a' m loop) (does b' m loop) it)) (value-same c d r (view_in loop m it k))
          ∙ (ap (λ (f : Iteration → Iteration). with_ok it (value c (view_in loop m it k)) (λ v. one_way (is_true v) f (does b' m loop) it)) (fun_ext (λ i. p.same g ls pushed e i))
          ∙ ap (λ (f : Iteration → Iteration). with_ok it (value c (view_in loop m it k)) (λ v. one_way (is_true v) (does a m loop) f it)) (fun_ext (λ i. q.same g ls pushed e i)));
      pushes_same = λ x. ap (λ z. z || pushes b' n x) (p.pushes_same x) ∙ ap (λ z. pushes a n x || z) (q.pushes_same x);
      named = λ h.
          let u = all-append (suits ds) (uses_in c) (uses_of a ++ uses_of b) h in
          let v = all-append (suits ds) (uses_of a) (uses_of b) u.1 in
          append-true (suits ds) (uses_in d) (uses_of a' ++ uses_of b') (r.named u.0) (append-true (suits ds) (uses_of a') (uses_of b') (p.named v.0) (q.named v.1));
      typed = λ res h.
          let u = both-true (has_type ds Flag c) (is_typed_in ds res a && is_typed_in ds res b) h in
          let v = both-true (is_typed_in ds res a) (is_typed_in ds res b) u.1 in
          and-true (has_type ds Flag d) (is_typed_in ds res a' && is_typed_in ds res b') (typed-same c d r Flag u.0) (and-true (is_typed_in ds res a') (is_typed_in ds res b') (p.typed res v.0) (q.typed res v.1));
      fewer = λ its. fewer-both (faults_in c k) (faults_of its a ++ faults_of its b) (faults_in d k) (faults_of its a' ++ faults_of its b') (faults-fewer c d r k) (fewer-both (faults_of its a) (faults_of its b) (faults_of its a') (faults_of its b') (p.fewer its) (q.fewer its));
      order = λ its h.
          let x = lie_before (faults_in c k) (faults_of its a ++ faults_of its b) in
          let y = lie_before (faults_of its a) (faults_of its b) in
          let x' = lie_before (faults_in d k) (faults_of its a' ++ faults_of its b') in
          let y' = lie_before (faults_of its a') (faults_of its b') in
          let t = both-true (in_order c k) (body_in_order its a && (body_in_order its b && (x && y))) h in
          let u = both-true (body_in_order its a) (body_in_order its b && (x && y)) t.1 in
          let v = both-true (body_in_order its b) (x && y) u.1 in
          let w = both-true x y v.1 in
          and-true (in_order d k) (body_in_order its a' && (body_in_order its b' && (x' && y'))) (order-same c d r k t.0)
          (and-true (body_in_order its a') (body_in_order its b' && (x' && y')) (p.order its u.0)
          (and-true (body_in_order its b') (x' && y') (q.order its v.0)
          (and-true x' y'
          (lie-fewer (faults_in c k) (faults_of its a ++ faults_of its b) (faults_in d k) (faults_of its a' ++ faults_of its b') (faults-fewer c d r k) (fewer-both (faults_of its a) (faults_of its b) (faults_of its a') (faults_of its b') (p.fewer its) (q.fewer its)) w.0)
          (lie-fewer (faults_of its a) (faults_of its b) (faults_of its a') (faults_of its b') (p.fewer its) (q.fewer its) w.1))));
      seen = sights-both (sights_in d) (with_reads (sights_of ds n inner a') (sights_of ds n inner b')) (sights_in c) (with_reads (sights_of ds n inner a) (sights_of ds n inner b)) r.seen
          (sights-both (sights_of ds n inner a') (sights_of ds n inner b') (sights_of ds n inner a) (sights_of ds n inner b) p.seen q.seen);
      away = λ o. reads-both (level_reads_in c) (level_reads_of ds n a ++ level_reads_of ds n b) (level_reads_in d) (level_reads_of ds n a' ++ level_reads_of ds n b') r.away
          (reads-both (level_reads_of ds n a) (level_reads_of ds n b) (level_reads_of ds n a') (level_reads_of ds n b') (p.away o) (q.away o));
      reduced_same = ap (λ l. l ++ reduced ds n inner b') p.reduced_same ∙ ap (λ l. reduced ds n inner a ++ l) q.reduced_same;
      written_same = ap (λ l. l ++ written ds n inner b') p.written_same ∙ ap (λ l. written ds n inner a ++ l) q.written_same;
      deferred_same = ap (λ l. l ++ deferred b') p.deferred_same ∙ ap (λ l. deferred a ++ l) q.deferred_same;
      alike = λ h. let u = both-true (targets_alike a) (targets_alike b) h in and-true (targets_alike a') (targets_alike b') (p.alike u.0) (q.alike u.1);
      inners = λ h. let u = both-true (inners_share ds n a) (inners_share ds n b) h in and-true (inners_share ds n a') (inners_share ds n b') (p.inners u.0) (q.inners u.1);
      inner_form = λ i its h.
          let u = both-true (is_flat its true c) (is_inner_code ds its a && is_inner_code ds its b) h in
          let v = both-true (is_inner_code ds its a) (is_inner_code ds its b) u.1 in
          and-true (is_flat its true d) (is_inner_code ds its a' && is_inner_code ds its b') (r.flat its true u.0) (and-true (is_inner_code ds its a') (is_inner_code ds its b') (p.inner_form i its v.0) (q.inner_form i its v.1));
      outer_form = λ o levels h.
          let u = both-true (is_outer_expr levels n c) (is_outer_code ds levels n a && is_outer_code ds levels n b) h in
          let v = both-true (is_outer_code ds levels n a) (is_outer_code ds levels n b) u.1 in
          and-true (is_outer_expr levels n d) (is_outer_code ds levels n a' && is_outer_code ds levels n b') (r.outer levels n u.0) (and-true (is_outer_code ds levels n a') (is_outer_code ds levels n b') (p.outer_form o levels v.0) (q.outer_form o levels v.1));
    }

  -- an inner loop, of which an inner body has none
  foreach-same : (n : ℕ) (inner : Bool) (k : Key) (at : Place) (hd : Head) (c d : Expr) (s t : Stmt) → ForExpr ds c d → ForBody ds n true s t → (g : NumberedGraph) (ls : ℕ → Option ℕ) (pushed : ℕ → Bool) (e : ℕ) (it : Iteration) →
      does (Foreach k at hd d t) (mode_at inner e) (loop_at ds n g ls pushed) it ≡ does (Foreach k at hd c s) (mode_at inner e) (loop_at ds n g ls pushed) it
  foreach-same n true k at hd c d s t r p g ls pushed e it = refl
  foreach-same n false k at hd c d s t r p g ls pushed e it =
      let loop : Loop = loop_at ds n g ls pushed in
      ap (λ (f : Step → Iteration). inner_done it (map f (steps_in (view_in loop Outermost it k) hd)))
      (fun_ext (λ step. turn-same c d r loop (AtEdge step.edge) k (does s (AtEdge step.edge) loop) (does t (AtEdge step.edge) loop) (λ i. p.same g ls pushed step.edge i) hd.iterator step.node it.store))

  -- a filter and a body stand in order
  loop-order : (its : List ℕ) (n : ℕ) (inner : Bool) (k : Key) (c d : Expr) (s t : Stmt) → ForExpr ds c d → ForBody ds n inner s t → loop_in_order its k c s ≡ true → loop_in_order its k d t ≡ true
  loop-order its n inner k c d s t r p h =
      let u = both-true (in_order c k) (body_in_order its s && lie_before (faults_in c k) (faults_of its s)) h in
      let v = both-true (body_in_order its s) (lie_before (faults_in c k) (faults_of its s)) u.1 in
      and-true (in_order d k) (body_in_order its t && lie_before (faults_in d k) (faults_of its t)) (order-same c d r k u.0)
      (and-true (body_in_order its t) (lie_before (faults_in d k) (faults_of its t)) (p.order its v.0) (lie-fewer (faults_in c k) (faults_of its s) (faults_in d k) (faults_of its t) (faults-fewer c d r k) (p.fewer its) v.1))

  -- a loop comes before its body
  leads-order : (its : List ℕ) (n : ℕ) (inner : Bool) (k : Key) (at : Place) (s t : Stmt) → ForBody ds n inner s t → leads its k at s ≡ true → leads its k at t ≡ true
  leads-order its n inner k at s t p h = lie-fewer (fault_of k at ∷ []) (faults_of its s) (fault_of k at ∷ []) (faults_of its t) (λ f i. i) (p.fewer its) h

  inner-order : (its : List ℕ) (n : ℕ) (k : Key) (at : Place) (c d : Expr) (s t : Stmt) → ForExpr ds c d → ForBody ds n true s t → leads its k at s && loop_in_order its k c s ≡ true → leads its k at t && loop_in_order its k d t ≡ true
  inner-order its n k at c d s t r p h =
      let u = both-true (leads its k at s) (loop_in_order its k c s) h in
      and-true (leads its k at t) (loop_in_order its k d t) (leads-order its n true k at s t p u.0) (loop-order its n true k c d s t r p u.1)

  outer-order : (its : List ℕ) (n : ℕ) (k : Key) (at : Place) (c d : Expr) (s t : Stmt) → ForExpr ds c d → ForBody ds n false s t → begins its k at c s && loop_in_order its k c s ≡ true → begins its k at d t && loop_in_order its k d t ≡ true
  outer-order its n k at c d s t r p h =
      let own = nat_lt 0 k.statement in
      let u = both-true (begins its k at c s) (loop_in_order its k c s) h in
      let v = both-true (leads its k at s) (are_numbered (hoisted_in c ++ faults_of its s) && (own || cannot_fail c)) u.0 in
      let w = both-true (are_numbered (hoisted_in c ++ faults_of its s)) (own || cannot_fail c) v.1 in
      and-true (begins its k at d t) (loop_in_order its k d t)
      (and-true (leads its k at t) (are_numbered (hoisted_in d ++ faults_of its t) && (own || cannot_fail d)) (leads-order its n false k at s t p v.0)
      (and-true (are_numbered (hoisted_in d ++ faults_of its t)) (own || cannot_fail d)
      (numbered-fewer (hoisted_in c ++ faults_of its s) (hoisted_in d ++ faults_of its t) (fewer-both (hoisted_in c) (faults_of its s) (hoisted_in d) (faults_of its t) r.hoisted (p.fewer its)) w.0) (either own w.1)))
      (loop-order its n false k c d s t r p u.1)
    where
      either : (b : Bool) → b || cannot_fail c ≡ true → b || cannot_fail d ≡ true
      either true e = refl
      either false e = r.safe e

  search-order : (its : List ℕ) (n : ℕ) (k : Key) (at : Place) (c d : Expr) (s t : Stmt) → ForExpr ds c d → ForBody ds n false s t → search_in_order its k at c s ≡ true → search_in_order its k at d t ≡ true
  search-order its n k at c d s t r p h =
      let u = both-true (are_numbered (fault_of k at ∷ [])) (begins its k at c s && loop_in_order its k c s) h in
      and-true (are_numbered (fault_of k at ∷ [])) (begins its k at d t && loop_in_order its k d t) u.0 (outer-order its n k at c d s t r p u.1)

  -- an inner loop shares what it did
  inner-shared : (n : ℕ) (c d : Expr) (s t : Stmt) → ForExpr ds c d → ForBody ds n true s t → inner_shares ds n c s ≡ true → inner_shares ds n d t ≡ true
  inner-shared n c d s t r p h =
      let old = with_reads (sights_in c) (sights_of ds n true s) in
      let new = with_reads (sights_in d) (sights_of ds n true t) in
      let seen = sights-both (sights_in d) (sights_of ds n true t) (sights_in c) (sights_of ds n true s) r.seen p.seen in
      let all = reduced ds n true s in
      let q = both-true (disjoint (kept_in all) (read_at n old.properties ++ old.scalars)) (all_last_one_way all) h in
      subst (λ rs. disjoint (kept_in rs) (read_at n new.properties ++ new.scalars) && all_last_one_way rs ≡ true) (sym p.reduced_same)
      (and-true (disjoint (kept_in all) (read_at n new.properties ++ new.scalars)) (all_last_one_way all)
      (disjoint-fewer (kept_in all) (read_at n new.properties ++ new.scalars) (read_at n old.properties ++ old.scalars)
      (members-both (read_at n old.properties) old.scalars (read_at n new.properties) new.scalars (at-fewer n new.properties old.properties seen.properties) seen.scalars) q.0) q.1)

  pub body-foreach : (n : ℕ) (inner : Bool) (k : Key) (at : Place) (hd : Head) (c d : Expr) (s t : Stmt) → ForExpr ds c d → ForBody ds n true s t → ForBody ds n inner (Foreach k at hd c s) (Foreach k at hd d t)
  body-foreach n inner k at hd c d s t r p = record {
    same = foreach-same n inner k at hd c d s t r p;
    pushes_same = p.pushes_same;
    named = part-named (uses_of_head hd) c d s t r p.named;
    typed = λ res. part-typed res c d s t r (p.typed res);
    fewer = λ its.
        let around = hd.iterator ∷ its in
        fewer-both (fault_of k hd.place ∷ []) (faults_in c k ++ faults_of around s) (fault_of k hd.place ∷ []) (faults_in d k ++ faults_of around t) (λ f i. i) (fewer-both (faults_in c k) (faults_of around s) (faults_in d k) (faults_of around t) (faults-fewer c d r k) (p.fewer around));
    order = λ its. inner-order (hd.iterator ∷ its) n k hd.place c d s t r p;
    seen =
        let first : Sights = record { properties = []; scalars = hd.owner ∷ [] } in
        sights-both first (with_reads (sights_in d) (sights_of ds n true t)) first (with_reads (sights_in c) (sights_of ds n true s)) (same-sights first) (sights-both (sights_in d) (sights_of ds n true t) (sights_in c) (sights_of ds n true s) r.seen p.seen);
    away = λ o. at-level-fewer hd (reads_in d ++ (sights_of ds n true t).properties) (reads_in c ++ (sights_of ds n true s).properties)
        (sights-both (sights_in d) (sights_of ds n true t) (sights_in c) (sights_of ds n true s) r.seen p.seen).properties;
    reduced_same = p.reduced_same;
    written_same = p.written_same;
    deferred_same = refl;
    alike = p.alike;
    inners = inner-shared n c d s t r p;
    inner_form = λ i its h. absurd (both_ways false refl h);
    outer_form = λ o levels h.
        let its = n ∷ hd.iterator ∷ [] in
        let u = both-true (is_inner_head levels n hd) (is_flat its true c && is_inner_code ds its s) h in
        let v = both-true (is_flat its true c) (is_inner_code ds its s) u.1 in
        and-true (is_inner_head levels n hd) (is_flat its true d && is_inner_code ds its t) u.0 (and-true (is_flat its true d) (is_inner_code ds its t) (r.flat its true v.0) (p.inner_form refl its v.1));
  }

  -- a parallel loop runs the same
  pub loops-same : (n : ℕ) (k : Key) (c d : Expr) (s t : Stmt) → ForExpr ds c d → ForBody ds n false s t → (g : NumberedGraph) (bound : ℕ) (ls : ℕ → Option ℕ) (ks : List ℕ) (u : State) →
      loops (record { graph = g; declarations = ds; bound = bound }) ls n k d t ks u ≡ loops (record { graph = g; declarations = ds; bound = bound }) ls n k c s ks u
  loops-same n k c d s t r p g bound ls ks u =
      let loop : Loop = loop_at ds n g ls (pushes s n) in
      ap (λ (f : ℕ → Bool). with_value (parallel (record loop { pushed = f }) k d t ks u.store) (with_store u)) (fun_ext p.pushes_same)
      ∙ ap (λ (f : ℕ → Iteration). with_value (loop_done u.store ks (map f ks)) (with_store u))
      (fun_ext (λ x. turn-same c d r loop Outermost k (does s Outermost loop) (does t Outermost loop) (λ i. p.same g ls (pushes s n) 0 i) n x u.store))

  -- a parallel loop shares what it did
  beside-shared : (n : ℕ) (c d : Expr) (s t : Stmt) → ForExpr ds c d → ForBody ds n false s t → (before after : List ℕ) → ((y : ℕ) → IsIn y after → IsIn y before) → shares_beside before ds n c s ≡ true → shares_beside after ds n d t ≡ true
  beside-shared n c d s t r p before after away h =
      let old = with_reads (sights_in c) (sights_of ds n false s) in
      let new = with_reads (sights_in d) (sights_of ds n false t) in
      let seen = sights-both (sights_in d) (sights_of ds n false t) (sights_in c) (sights_of ds n false s) r.seen p.seen in
      let all = reduced ds n false s in
      let own = written ds n false s in
      let gone = deferred s in
      let a1 = disjoint (shared_in all) (read_anywhere old.properties ++ (old.scalars ++ own)) in
      let b1 = disjoint (shared_in all) (read_anywhere new.properties ++ (new.scalars ++ own)) in
      let a2 = disjoint (own ++ kept_in all) before in
      let b2 = disjoint (own ++ kept_in all) after in
      let a3 = disjoint gone (own ++ (shared_in all ++ kept_in all)) in
      let a4 = all_agree all in
      let rest = inners_share ds n s && targets_alike s in
      let new_rest = inners_share ds n t && targets_alike t in
      let q = both-true a1 (a2 && (a3 && (a4 && rest))) h in
      let u = both-true a2 (a3 && (a4 && rest)) q.1 in
      let v = both-true a3 (a4 && rest) u.1 in
      let w = both-true a4 rest v.1 in
      let z = both-true (inners_share ds n s) (targets_alike s) w.1 in
      subst (λ rs. disjoint (shared_in rs) (read_anywhere new.properties ++ (new.scalars ++ written ds n false t)) && (disjoint (written ds n false t ++ kept_in rs) after && (disjoint (deferred t) (written ds n false t ++ (shared_in rs ++ kept_in rs)) && (all_agree rs && new_rest))) ≡ true) (sym p.reduced_same)
      (subst (λ ws. disjoint (shared_in all) (read_anywhere new.properties ++ (new.scalars ++ ws)) && (disjoint (ws ++ kept_in all) after && (disjoint (deferred t) (ws ++ (shared_in all ++ kept_in all)) && (all_agree all && new_rest))) ≡ true) (sym p.written_same)
      (subst (λ gs. b1 && (b2 && (disjoint gs (own ++ (shared_in all ++ kept_in all)) && (all_agree all && new_rest))) ≡ true) (sym p.deferred_same)
      (and-true b1 (b2 && (a3 && (a4 && new_rest)))
      (disjoint-fewer (shared_in all) (read_anywhere new.properties ++ (new.scalars ++ own)) (read_anywhere old.properties ++ (old.scalars ++ own))
      (members-both (read_anywhere old.properties) (old.scalars ++ own) (read_anywhere new.properties) (new.scalars ++ own) (anywhere-fewer new.properties old.properties seen.properties) (members-both old.scalars own new.scalars own seen.scalars (λ y i. i))) q.0)
      (and-true b2 (a3 && (a4 && new_rest))
      (disjoint-fewer (own ++ kept_in all) after before away u.0)
      (and-true a3 (a4 && new_rest) v.0 (and-true a4 new_rest w.0 (and-true (inners_share ds n t) (targets_alike t) (p.inners z.0) (p.alike z.1))))))))

  pub loop-shared : (n : ℕ) (c d : Expr) (s t : Stmt) → ForExpr ds c d → ForBody ds n false s t → shares ds n c s ≡ true → shares ds n d t ≡ true
  loop-shared n c d s t r p =
      let old = reads_in c ++ (sights_of ds n false s).properties in
      let new = reads_in d ++ (sights_of ds n false t).properties in
      let seen = sights-both (sights_in d) (sights_of ds n false t) (sights_in c) (sights_of ds n false s) r.seen p.seen in
      beside-shared n c d s t r p (read_elsewhere n old) (read_elsewhere n new) (elsewhere-fewer n new old seen.properties)

  pub search-shared : (n : ℕ) (c d : Expr) (s t : Stmt) → ForExpr ds c d → ForBody ds n false s t → search_shares ds n c s ≡ true → search_shares ds n d t ≡ true
  search-shared n c d s t r p =
      let old = reads_in c ++ level_reads_of ds n s in
      let new = reads_in d ++ level_reads_of ds n t in
      beside-shared n c d s t r p (read_elsewhere n old) (read_elsewhere n new)
      (elsewhere-fewer n new old (reads-both (reads_in c) (level_reads_of ds n s) (reads_in d) (level_reads_of ds n t) r.seen.properties (p.away refl)))

  -- a loop's filter and its body have the form
  loop-form : (levels : Bool) (n : ℕ) (c d : Expr) (s t : Stmt) → ForExpr ds c d → ForBody ds n false s t → is_outer_expr false n c && is_outer_code ds levels n s ≡ true → is_outer_expr false n d && is_outer_code ds levels n t ≡ true
  loop-form levels n c d s t r p h =
      let u = both-true (is_outer_expr false n c) (is_outer_code ds levels n s) h in and-true (is_outer_expr false n d) (is_outer_code ds levels n t) (r.outer false n u.0) (p.outer_form refl levels u.1)

  module _ (res : Option VType) where
    repeated-same : (k : Key) (c d : Expr) (s t : Stmt) → ForExpr ds c d → ForPhase ds res s t → (g : NumberedGraph) (bound : ℕ) (u : State) →
        repeated (suc bound) (record { graph = g; declarations = ds; bound = bound }) (λ v. value d (view_of (record { graph = g; declarations = ds; bound = bound }) v k)) (sequential t (record { graph = g; declarations = ds; bound = bound })) u
        ≡ repeated (suc bound) (record { graph = g; declarations = ds; bound = bound }) (λ v. value c (view_of (record { graph = g; declarations = ds; bound = bound }) v k)) (sequential s (record { graph = g; declarations = ds; bound = bound })) u
    repeated-same k c d s t r p g bound u =
        let run : Run = record { graph = g; declarations = ds; bound = bound } in
        ap (λ (f : State → Answer). repeated (suc bound) run f (sequential t run) u) (fun_ext (λ v. value-same c d r (view_of run v k)))
        ∙ repeated-each (suc bound) run (λ v. value c (view_of run v k)) (sequential t run) (sequential s run) (p.same g bound) u

    pub phase-same : (s : Stmt) → ForPhase ds res s s
    phase-same s = record { same = λ g bound u. refl; named = λ h. h; typed = λ h. h; order = λ h. h; share = λ h. h; form = λ h. h }

    pub phase-then : (a a' b b' : Stmt) → ForPhase ds res a a' → ForPhase ds res b b' → ForPhase ds res (Then a b) (Then a' b')
    phase-then a a' b b' p q = record {
      same = λ g bound u.
          let run : Run = record { graph = g; declarations = ds; bound = bound } in
          then_do-both (sequential a' run u) (sequential a run u) (sequential b' run) (sequential b run) (p.same g bound u) (q.same g bound);
      named = λ h. let u = all-append (suits ds) (uses_of a) (uses_of b) h in append-true (suits ds) (uses_of a') (uses_of b') (p.named u.0) (q.named u.1);
      typed = λ h. let u = both-true (is_typed_in ds res a) (is_typed_in ds res b) h in and-true (is_typed_in ds res a') (is_typed_in ds res b') (p.typed u.0) (q.typed u.1);
      order = λ h. let u = both-true (loops_in_order a) (loops_in_order b) h in and-true (loops_in_order a') (loops_in_order b') (p.order u.0) (q.order u.1);
      share = λ h. let u = both-true (loops_share ds a) (loops_share ds b) h in and-true (loops_share ds a') (loops_share ds b') (p.share u.0) (q.share u.1);
      form = λ h. let u = both-true (is_phase_code ds a) (is_phase_code ds b) h in and-true (is_phase_code ds a') (is_phase_code ds b') (p.form u.0) (q.form u.1);
    }

    pub phase-foreach : (k : Key) (at : Place) (hd : Head) (c d : Expr) (s t : Stmt) → ForExpr ds c d → ForBody ds hd.iterator false s t → ForPhase ds res (Foreach k at hd c s) (Foreach k at hd d t)
    phase-foreach k at hd c d s t r p = record {
      same = λ g bound u. loops-same hd.iterator k c d s t r p g bound no_levels (nodes g) u;
      named = part-named (uses_of_head hd) c d s t r p.named;
      typed = part-typed res c d s t r (p.typed res);
      order = outer-order (hd.iterator ∷ []) hd.iterator k hd.place c d s t r p;
      share = loop-shared hd.iterator c d s t r p;
      form = λ h.
          let u = both-true (is_nodes hd.domain) (is_outer_expr false hd.iterator c && is_outer_code ds false hd.iterator s) h in
          and-true (is_nodes hd.domain) (is_outer_expr false hd.iterator d && is_outer_code ds false hd.iterator t) u.0 (loop-form false hd.iterator c d s t r p u.1);
    }

    pub phase-for : (k : Key) (at : Place) (hd : Head) (c d : Expr) (s t : Stmt) → ForExpr ds c d → ForPhase ds res s t → ForPhase ds res (For k at hd c s) (For k at hd d t)
    phase-for k at hd c d s t r p = record {
      same = λ g bound u.
          let run : Run = record { graph = g; declarations = ds; bound = bound } in
          in_turns-each run (nodes g) _ _ (λ n v.
          let w : State = record v { store = write v.store (Scalar hd.iterator) (At (Some n)) } in
          ap (λ (x : Answer). with_value x (λ y. either_way (is_true y) (sequential t run) Goes w)) (value-same c d r (view_of run w k))
          ∙ with_value-each (value c (view_of run w k)) _ _ (λ y. either_way-each (is_true y) (sequential t run) (sequential s run) Goes Goes w (p.same g bound) (λ z. refl))) u;
      named = part-named (uses_of_head hd) c d s t r p.named;
      typed = part-typed res c d s t r p.typed;
      order = λ h. let u = both-true (folds_in_order c) (loops_in_order s) h in and-true (folds_in_order d) (loops_in_order t) (r.folds u.0) (p.order u.1);
      share = p.share;
      form = λ h.
          let u = both-true (is_nodes hd.domain) (is_phase_expr c && is_phase_code ds s) h in
          let v = both-true (is_phase_expr c) (is_phase_code ds s) u.1 in
          and-true (is_nodes hd.domain) (is_phase_expr d && is_phase_code ds t) u.0 (and-true (is_phase_expr d) (is_phase_code ds t) (r.phase v.0) (p.form v.1));
    }

    pub phase-if : (k : Key) (c d : Expr) (a a' b b' : Stmt) → ForExpr ds c d → ForPhase ds res a a' → ForPhase ds res b b' → ForPhase ds res (If k c a b) (If k d a' b')
    phase-if k c d a a' b b' r p q = record {
      same = λ g bound u.
          let run : Run = record { graph = g; declarations = ds; bound = bound } in
          ap (λ (x : Answer). with_value x (λ v. either_way (is_true v) (sequential a' run) (sequential b' run) u)) (value-same c d r (view_of run u k))
          ∙ with_value-each (value c (view_of run u k)) _ _ (λ v. either_way-each (is_true v) (sequential a' run) (sequential a run) (sequential b' run) (sequential b run) u (p.same g bound) (q.same g bound));
      named = λ h.
          let u = all-append (suits ds) (uses_in c) (uses_of a ++ uses_of b) h in
          let v = all-append (suits ds) (uses_of a) (uses_of b) u.1 in
          append-true (suits ds) (uses_in d) (uses_of a' ++ uses_of b') (r.named u.0) (append-true (suits ds) (uses_of a') (uses_of b') (p.named v.0) (q.named v.1));
      typed = λ h.
          let u = both-true (has_type ds Flag c) (is_typed_in ds res a && is_typed_in ds res b) h in
          let v = both-true (is_typed_in ds res a) (is_typed_in ds res b) u.1 in
          and-true (has_type ds Flag d) (is_typed_in ds res a' && is_typed_in ds res b') (typed-same c d r Flag u.0) (and-true (is_typed_in ds res a') (is_typed_in ds res b') (p.typed v.0) (q.typed v.1));
      order = λ h.
          let u = both-true (folds_in_order c) (loops_in_order a && loops_in_order b) h in
          let v = both-true (loops_in_order a) (loops_in_order b) u.1 in
          and-true (folds_in_order d) (loops_in_order a' && loops_in_order b') (r.folds u.0) (and-true (loops_in_order a') (loops_in_order b') (p.order v.0) (q.order v.1));
      share = λ h. let u = both-true (loops_share ds a) (loops_share ds b) h in and-true (loops_share ds a') (loops_share ds b') (p.share u.0) (q.share u.1);
      form = λ h.
          let u = both-true (is_phase_expr c) (is_phase_code ds a && is_phase_code ds b) h in
          let v = both-true (is_phase_code ds a) (is_phase_code ds b) u.1 in
          and-true (is_phase_expr d) (is_phase_code ds a' && is_phase_code ds b') (r.phase u.0) (and-true (is_phase_code ds a') (is_phase_code ds b') (p.form v.0) (q.form v.1));
    }

    pub phase-while : (k : Key) (at : Place) (c d : Expr) (s t : Stmt) → ForExpr ds c d → ForPhase ds res s t → ForPhase ds res (While k at c s) (While k at d t)
    phase-while k at c d s t r p = record {
      same = λ g bound u. repeated-same k c d s t r p g bound u;
      named = λ h. let u = all-append (suits ds) (uses_in c) (uses_of s) h in append-true (suits ds) (uses_in d) (uses_of t) (r.named u.0) (p.named u.1);
      typed = part-typed res c d s t r p.typed;
      order = λ h. let u = both-true (folds_in_order c) (loops_in_order s) h in and-true (folds_in_order d) (loops_in_order t) (r.folds u.0) (p.order u.1);
      share = p.share;
      form = λ h. let u = both-true (is_phase_expr c) (is_phase_code ds s) h in and-true (is_phase_expr d) (is_phase_code ds t) (r.phase u.0) (p.form u.1);
    }

    pub phase-do : (k : Key) (at : Place) (c d : Expr) (s t : Stmt) → ForExpr ds c d → ForPhase ds res s t → ForPhase ds res (Do k at s c) (Do k at t d)
    phase-do k at c d s t r p = record {
      same = λ g bound u.
          let run : Run = record { graph = g; declarations = ds; bound = bound } in
          begin_turn-each run _ _ (λ v. then_do-both (sequential t run v) (sequential s run v) _ _ (p.same g bound v) (repeated-same k c d s t r p g bound)) u;
      named = λ h. let u = all-append (suits ds) (uses_of s) (uses_in c) h in append-true (suits ds) (uses_of t) (uses_in d) (p.named u.0) (r.named u.1);
      typed = λ h. let u = both-true (is_typed_in ds res s) (has_type ds Flag c) h in and-true (is_typed_in ds res t) (has_type ds Flag d) (p.typed u.0) (typed-same c d r Flag u.1);
      order = λ h. let u = both-true (loops_in_order s) (folds_in_order c) h in and-true (loops_in_order t) (folds_in_order d) (p.order u.0) (r.folds u.1);
      share = p.share;
      form = λ h. let u = both-true (is_phase_code ds s) (is_phase_expr c) h in and-true (is_phase_code ds t) (is_phase_expr d) (p.form u.0) (r.phase u.1);
    }

    pub phase-search : (k : Key) (at : Place) (hd : Search) (c d : Expr) (s t : Stmt) → ForExpr ds c d → ForBody ds hd.iterator false s t → ForPhase ds res (InBfs k at hd c s) (InBfs k at hd d t)
    phase-search k at hd c d s t r p = record {
      same = λ g bound u.
          let run : Run = record { graph = g; declarations = ds; bound = bound } in
          with_value-each (node_of (view_of run u k) hd.root hd.place) _ _ (λ root.
          in_turns-each run (levels g root) _ _ (loops-same hd.iterator k c d s t r p g bound (level_of g root)) u);
      named = part-named (uses_of_search hd) c d s t r p.named;
      typed = part-typed res c d s t r (p.typed res);
      order = search-order (hd.iterator ∷ []) hd.iterator k hd.place c d s t r p;
      share = search-shared hd.iterator c d s t r p;
      form = loop-form true hd.iterator c d s t r p;
    }

    pub phase-search-both : (k : Key) (at : Place) (hd : Search) (c d : Expr) (s t : Stmt) (k2 : Key) (c2 d2 : Expr) (s2 t2 : Stmt) → ForExpr ds c d → ForBody ds hd.iterator false s t → ForExpr ds c2 d2 → ForBody ds hd.iterator false s2 t2 →
        ForPhase ds res (InBfsBoth k at hd c s k2 c2 s2) (InBfsBoth k at hd d t k2 d2 t2)
    phase-search-both k at hd c d s t k2 c2 d2 s2 t2 r p r2 p2 = record {
      same = λ g bound u.
          let run : Run = record { graph = g; declarations = ds; bound = bound } in
          with_value-each (node_of (view_of run u k) hd.root hd.place) _ _ (λ root.
          then_do-both _ _ _ _ (in_turns-each run (levels g root) _ _ (loops-same hd.iterator k c d s t r p g bound (level_of g root)) u)
          (in_turns-each run (reverse (levels g root)) _ _ (loops-same hd.iterator k2 c2 d2 s2 t2 r2 p2 g bound (level_of g root))));
      named = λ h.
          let u = all-append (suits ds) (uses_of_search hd) (uses_in c ++ (uses_of s ++ (uses_in c2 ++ uses_of s2))) h in
          let v = all-append (suits ds) (uses_in c) (uses_of s ++ (uses_in c2 ++ uses_of s2)) u.1 in
          append-true (suits ds) (uses_of_search hd) (uses_in d ++ (uses_of t ++ (uses_in d2 ++ uses_of t2))) u.0
          (append-true (suits ds) (uses_in d) (uses_of t ++ (uses_in d2 ++ uses_of t2)) (r.named v.0)
          (let w = all-append (suits ds) (uses_of s) (uses_in c2 ++ uses_of s2) v.1 in
          append-true (suits ds) (uses_of t) (uses_in d2 ++ uses_of t2) (p.named w.0) (part-named [] c2 d2 s2 t2 r2 p2.named w.1)));
      typed = λ h.
          let u = both-true (has_type ds Flag c) (is_typed_in ds res s && (has_type ds Flag c2 && is_typed_in ds res s2)) h in
          let v = both-true (is_typed_in ds res s) (has_type ds Flag c2 && is_typed_in ds res s2) u.1 in
          and-true (has_type ds Flag d) (is_typed_in ds res t && (has_type ds Flag d2 && is_typed_in ds res t2)) (typed-same c d r Flag u.0)
          (and-true (is_typed_in ds res t) (has_type ds Flag d2 && is_typed_in ds res t2) (p.typed res v.0) (part-typed res c2 d2 s2 t2 r2 (p2.typed res) v.1));
      order = λ h.
          let its = hd.iterator ∷ [] in
          let u = both-true (search_in_order its k hd.place c s) (search_in_order its k2 hd.place c2 s2) h in
          and-true (search_in_order its k hd.place d t) (search_in_order its k2 hd.place d2 t2) (search-order its hd.iterator k hd.place c d s t r p u.0) (search-order its hd.iterator k2 hd.place c2 d2 s2 t2 r2 p2 u.1);
      share = λ h.
          let u = both-true (search_shares ds hd.iterator c s) (search_shares ds hd.iterator c2 s2) h in
          and-true (search_shares ds hd.iterator d t) (search_shares ds hd.iterator d2 t2) (search-shared hd.iterator c d s t r p u.0) (search-shared hd.iterator c2 d2 s2 t2 r2 p2 u.1);
      form = λ h.
          let n = hd.iterator in
          let u = both-true (is_outer_expr false n c) (is_outer_code ds true n s && (is_outer_expr false n c2 && is_outer_code ds true n s2)) h in
          let v = both-true (is_outer_code ds true n s) (is_outer_expr false n c2 && is_outer_code ds true n s2) u.1 in
          and-true (is_outer_expr false n d) (is_outer_code ds true n t && (is_outer_expr false n d2 && is_outer_code ds true n t2)) (r.outer false n u.0)
          (and-true (is_outer_code ds true n t) (is_outer_expr false n d2 && is_outer_code ds true n t2) (p.outer_form refl true v.0) (loop-form true n c2 d2 s2 t2 r2 p2 v.1));
    }

-- a program with another body means the same
pub means-same : (p : Program) (t : Stmt) → ForPhase p.declarations p.result p.body t → SameMeaning p (record p { body = t })
means-same p t r = record {
  fits = λ g args h. record { graph = h.graph; scalars = h.scalars; nodes = h.nodes; edges = h.edges };
  same = λ g args bound h. ap (outcome_of p g bound) (r.same g bound (record { store = first_store p g args; turns = 0 }));
}

-- it is as ready as it was
pub ready-same : (p : Program) (t : Stmt) → ForPhase p.declarations p.result p.body t → Ready0 p → Ready0 (record p { body = t })
ready-same p t r h =
    let ds = p.declarations in
    let n = both-true (nat_le (p.inputs + p.outputs) (length ds)) (list_all (suits ds) (uses_of p.body)) h.sane.named in
    record {
      sane = record {
        named = and-true (nat_le (p.inputs + p.outputs) (length ds)) (list_all (suits ds) (uses_of t)) n.0 (r.named n.1);
        typed = r.typed h.sane.typed;
        ordered = r.order h.sane.ordered;
        race_free = r.share h.sane.race_free;
      };
      form = r.form h.form;
    }
