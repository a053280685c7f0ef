-- Where totals stand in order, the total of each reduction faults behind its elements.
use Rattle.std.proofs.Common.{◌≡◌, ◌++◌, ℕ, Bool, true, false, List, [], ◌∷◌, map, refl, sym, ap, subst, ⊎_elim, inl, inr, Option, Some, None, Ok, Err}
use Rattle.std.specs.Prelude.{◌⊎◌, ◌&&◌, ◌||◌, not, nat_eq, nat_lt, if◌then◌else◌}
use Rattle.std.specs.List.{list_all}
use Rattle.std.proofs.lemmas.Bool.{both_ways, eq-eqb, eqb-true, ltb-true}
use Rattle.gm_value.specs.declared.values.Value.{Value}
use Rattle.gm_value.specs.declared.values.Value.TheVariants.{I32, I64, Flag, At}
use Rattle.gm_value.specs.Operations.{is_true}
use Rattle.gm_value.specs.Bag.{IsIn}
use Rattle.gm_model.specs.Graphs.{NumberedGraph, Step, IsGraph, node_count}
use Rattle.gm_ast.specs.declared.surface.ReductionWord.{ReductionWord}
use Rattle.gm_ast.specs.declared.tree.Declaration.{Declaration}
use Rattle.gm_ast.specs.declared.tree.Domain.{Domain}
use Rattle.gm_ast.specs.declared.tree.Domain.TheVariants as D
use Rattle.gm_ast.specs.declared.tree.Head.{Head}
use Rattle.gm_ast.specs.declared.tree.Key.{Key}
use Rattle.gm_ast.specs.declared.tree.Target.TheVariants as T
use Rattle.gm_ast.specs.Keys as K
use Rattle.gm_ast.specs.Loops.{is_nodes}
use Rattle.gm_ast.specs.Program.{Expr, Const, Var, Property, EdgeProperty, Degree, NodeCount, EdgeCount, Live, Unary, Binary, Both, Either, Choose, Folded, Stmt, Then, Declare, Assign, Defer, Combine, Foreach, For, If, While, Do, InBfs, InBfsBoth}
use Rattle.gm_semantics.specs.declared.faults.Fault.{Fault}
use Rattle.gm_semantics.specs.declared.slots.Slot.TheVariants.{Scalar}
use Rattle.gm_semantics.specs.Stores.{write}
use Rattle.gm_semantics.specs.Faults.{then_with, total_fault}
use Rattle.gm_semantics.specs.Expressions.{Answer, View, entered, element, members_of, value, steps_of, steps_in}
use Rattle.gm_semantics.specs.Iterations.{Loop, Iteration, Outermost, view_in}
use Rattle.gm_semantics.specs.Levels.{level_of, no_levels, node_in}
use Rattle.gm_semantics.specs.Statements.{Run, loop_of}
use Rattle.gm_forms.specs.Doing.{IsNode, Held, named}
use Rattle.gm_forms.specs.Forms.{depth_at, is_flat, is_range, is_inner_head, is_within}
use Rattle.gm_forms.specs.Order.{lie_before, fault_of, rest_in, hoisted_in, hoists_in_order, in_order, all_in_order, body_in_order, begins, loop_in_order, are_numbered, search_in_order, loops_in_order}
use Rattle.gm_forms.specs.Ready.{is_outer_expr, is_at_depth, is_outer_code, is_outer_loop, is_phase_expr, is_phase_code}
use Rattle.gm_forms.proofs.CutLaws.{fault-order, lies-in}
use Rattle.gm_forms.proofs.CutTests.{not-true, flat, same-list, flat-beside}
use Rattle.gm_forms.proofs.Doings.{in-left, in-right, value-fails}
use Rattle.gm_forms.proofs.Named.{both-true}
use Rattle.gm_forms.proofs.Steps.{step-within}
use Rattle.gm_forms.proofs.Weaker.{and-true}
use Rattle.gm_hoisting.specs.Hoisting.{placed}
use Rattle.gm_hoisting.specs.Totals.{as_sums, body_as_sums, loops_as_sums}
use Rattle.gm_hoisting.proofs.Bodies.{BodyLate}
use Rattle.gm_hoisting.proofs.FoldsAlike.{IsLate, AreLate}
use Rattle.gm_hoisting.proofs.Loops.{LoopLate}
use Rattle.gm_hoisting.proofs.Bare.{placed-same}
use Rattle.gm_hoisting.proofs.Phases.{PhaseLate, outer-again}

-- an element faults in its filter or in its braces
element-fault : (word : ReductionWord) (p q : Answer) (g : Fault) → element word p q ≡ Err g → (p ≡ Err g) ⊎ (q ≡ Err g)
element-fault word (Err x) q g e = inl (let same : x ≡ g = cc in ap Err same)
element-fault word (Ok v) q g e = inr (by (is_true v) q e)
  where
    by : (b : Bool) (q : Answer) → (if b then then_with q (λ v. Ok (members_of word v)) else Ok []) ≡ Err g → q ≡ Err g
    by true (Err x) e = let same : x ≡ g = cc in ap Err same
    by true (Ok v) e = absurd (cc)
    by false q e = absurd (cc)

-- ---- iterators hold nodes where a reduction has elements

node-of : (g : NumberedGraph) (v : Value) (k : ℕ) → node_in g v ≡ Some k → IsNode g v
node-of g (At (Some n)) k e = by (nat_lt n (node_count g)) refl e
  where
    by : (b : Bool) → nat_lt n (node_count g) ≡ b → (if b then Some n else None) ≡ Some k → IsNode g (At (Some n))
    by true lt e = (n, refl, ltb-true n (node_count g) lt)
    by false lt e = absurd (cc)
node-of g (At None) k e = absurd (cc)
node-of g (I32 z) k e = absurd (cc)
node-of g (I64 z) k e = absurd (cc)
node-of g (Flag b) k e = absurd (cc)

-- neighbours are those of a node
some-owner : (levels : Bool) (w : View) (d : Domain) (o : Option ℕ) (s : Step) → is_range levels d ≡ true → IsIn s (steps_of w d o) → (k : ℕ) × (o ≡ Some k)
some-owner levels w D.Nodes o s range i = absurd (both_ways false refl range)
some-owner levels w D.OutNbrs (Some k) s range i = (k, refl)
some-owner levels w D.InNbrs (Some k) s range i = (k, refl)
some-owner levels w D.UpNbrs (Some k) s range i = (k, refl)
some-owner levels w D.DownNbrs (Some k) s range i = (k, refl)
some-owner levels w D.OutNbrs None s range i = absurd i
some-owner levels w D.InNbrs None s range i = absurd i
some-owner levels w D.UpNbrs None s range i = absurd i
some-owner levels w D.DownNbrs None s range i = absurd i

held : (levels : Bool) (n : ℕ) (loop : Loop) (a : Iteration) (key : Key) (h : Head) (s : Step) → IsGraph loop.graph → is_inner_head levels n h ≡ true → IsIn s (steps_in (view_in loop Outermost a key) h) →
    Held loop.graph (n ∷ h.iterator ∷ []) (write a.store (Scalar h.iterator) (At (Some s.node)))
held levels n loop a key h s graph head among y is = by (nat_eq y n) (nat_eq y h.iterator) refl refl is
  where
    p : (is_range levels h.domain ≡ true) × (nat_eq h.owner n && not (nat_eq h.iterator n) ≡ true)
    p = both-true (is_range levels h.domain) (nat_eq h.owner n && not (nat_eq h.iterator n)) head

    q : (nat_eq h.owner n ≡ true) × (not (nat_eq h.iterator n) ≡ true)
    q = both-true (nat_eq h.owner n) (not (nat_eq h.iterator n)) p.1

    outer : IsNode loop.graph (a.store.scalar n)
    outer =
        let o = some-owner levels (view_in loop Outermost a key) h.domain (node_in loop.graph (a.store.scalar h.owner)) s p.0 among in
        subst (λ x. IsNode loop.graph (a.store.scalar x)) (eqb-true h.owner n q.0) (node-of loop.graph (a.store.scalar h.owner) o.0 o.1)

    by : (b c : Bool) → nat_eq y n ≡ b → nat_eq y h.iterator ≡ c → b || (c || false) ≡ true → IsNode loop.graph ((write a.store (Scalar h.iterator) (At (Some s.node))).scalar y)
    by b true e d t =
        let same = eqb-true y h.iterator d in
        subst (IsNode loop.graph) (sym (ap (λ c. if c then At (Some s.node) else a.store.scalar y) (eq-eqb h.iterator y (sym same))))
        (s.node, refl, step-within (view_in loop Outermost a key) graph h.domain (node_in loop.graph (a.store.scalar h.owner)) s among)
    by true false e d t =
        let same = eqb-true y n e in
        subst (λ x. IsNode loop.graph ((write a.store (Scalar h.iterator) (At (Some s.node))).scalar x)) (sym same)
        (subst (IsNode loop.graph) (sym (ap (λ c. if c then At (Some s.node) else a.store.scalar n) (not-true (nat_eq h.iterator n) q.1))) outer)
    by false false e d t = absurd (both_ways false refl t)

-- an expression's reductions
pub late : (levels : Bool) (n : ℕ) (loop : Loop) (a : Iteration) → IsGraph loop.graph → (e : Expr) → is_outer_expr levels n e ≡ true → hoists_in_order (as_sums e) ≡ true → IsLate loop a e
late levels n loop a graph (Const v) form order = tt
late levels n loop a graph (Var x at) form order = tt
late levels n loop a graph (Property x p at) form order = tt
late levels n loop a graph (EdgeProperty x p at) form order = tt
late levels n loop a graph (Degree d x at) form order = tt
late levels n loop a graph NodeCount form order = tt
late levels n loop a graph EdgeCount form order = tt
late levels n loop a graph (Live x at) form order = tt
late levels n loop a graph (Unary op at e) form order = late levels n loop a graph e form order
late levels n loop a graph (Binary op at e d) form order =
    let q = both-true (is_outer_expr levels n e) (is_outer_expr levels n d) form in
    let o = both-true (hoists_in_order (as_sums e)) _ order in
    (late levels n loop a graph e q.0 o.0, late levels n loop a graph d q.1 (both-true (hoists_in_order (as_sums d)) _ o.1).0)
late levels n loop a graph (Both e d) form order =
    let q = both-true (is_outer_expr levels n e) (is_outer_expr levels n d) form in
    let o = both-true (hoists_in_order (as_sums e)) _ order in
    (late levels n loop a graph e q.0 o.0, late levels n loop a graph d q.1 (both-true (hoists_in_order (as_sums d)) _ o.1).0)
late levels n loop a graph (Either e d) form order =
    let q = both-true (is_outer_expr levels n e) (is_outer_expr levels n d) form in
    let o = both-true (hoists_in_order (as_sums e)) _ order in
    (late levels n loop a graph e q.0 o.0, late levels n loop a graph d q.1 (both-true (hoists_in_order (as_sums d)) _ o.1).0)
late levels n loop a graph (Choose c e d) form order =
    let q = both-true (is_outer_expr levels n c) (is_outer_expr levels n e && is_outer_expr levels n d) form in
    let r = both-true (is_outer_expr levels n e) (is_outer_expr levels n d) q.1 in
    let o = both-true (hoists_in_order (as_sums c)) _ order in
    let p = both-true (hoists_in_order (as_sums e)) _ o.1 in
    (late levels n loop a graph c q.0 o.0, late levels n loop a graph e r.0 p.0, late levels n loop a graph d r.1 (both-true (hoists_in_order (as_sums d)) _ p.1).0)
late levels n loop a graph (Folded f0 h test e) form order = λ key. (
  placed-same f0 h test e (view_in loop Outermost a key) graph,
  λ s g among is.
      let f = placed f0 h test e in
      let its = n ∷ h.iterator ∷ [] in
      let head = both-true (is_inner_head levels n h) _ form in
      let flats = both-true (is_flat its false test) (is_flat its false e) head.1 in
      let w : View = view_in loop Outermost a key in
      let w1 : View = entered w h s f.filter in
      let w2 : View = entered w h s f.body in
      let holds : Held loop.graph its w1.store = held levels n loop a key h s graph head.0 among in
      let x = hoisted_in test ++ rest_in test f.filter in
      let y = hoisted_in e ++ rest_in e f.body in
      let totals : List K.Fault = fault_of f.body f.total.place ∷ K.total_fault f.total ∷ [] in
      let o1 = both-true (lie_before (fault_of f.filter h.place ∷ []) (y ++ totals)) _ order in
      let o2 = both-true (hoists_in_order test) _ o1.1 in
      let o3 = both-true (hoists_in_order e) _ o2.1 in
      let o4 = both-true (lie_before (hoisted_in test) (rest_in test f.filter)) _ o3.1 in
      let o5 = both-true (lie_before (hoisted_in e) (rest_in e f.body)) _ o4.1 in
      let last : lie_before (x ++ y) totals ≡ true = (both-true (lie_before x y) _ o5.1).1 in
      fault-order g (total_fault f.total)
      (lies-in (x ++ y) totals (named g) (named (total_fault f.total)) last
      (⊎_elim
      (λ p. in-left (named g) x y (in-right (named g) (hoisted_in test) (rest_in test f.filter) (subst (IsIn (named g)) (flat-beside its its false test f.filter (same-list its) flats.0) (value-fails w1 refl its holds test (flat its false test flats.0) g p))))
      (λ q. in-right (named g) x y (in-right (named g) (hoisted_in e) (rest_in e f.body) (subst (IsIn (named g)) (flat-beside its its false e f.body (same-list its) flats.1) (value-fails w2 refl its holds e (flat its false e flats.1) g q))))
      (element-fault f.word (value test w1) (value e w2) g is))
      (inr (inl refl))),
)

all-late : (levels : Bool) (n : ℕ) (loop : Loop) (a : Iteration) → IsGraph loop.graph → (k : Key) (es : List Expr) → list_all (is_outer_expr levels n) es ≡ true → all_in_order (map as_sums es) k ≡ true → AreLate loop a es
all-late levels n loop a graph k [] form order = tt
all-late levels n loop a graph k (e ∷ es) form order =
    let q = both-true (is_outer_expr levels n e) (list_all (is_outer_expr levels n) es) form in
    let o = both-true (in_order (as_sums e) k) (all_in_order (map as_sums es) k) order in
    (late levels n loop a graph e q.0 (both-true (hoists_in_order (as_sums e)) _ o.0).0, all-late levels n loop a graph k es q.1 o.1)

module _ (k : ℕ) (ds : List Declaration) (loop : Loop) (levels : Bool) (n : ℕ) (graph : IsGraph loop.graph) where
  pub body-late : (s : Stmt) → is_outer_code ds levels n s ≡ true → body_in_order (n ∷ []) (body_as_sums s) ≡ true → BodyLate k ds loop levels n s
  body-late (Then s t) form order =
      let q = both-true (is_outer_code ds levels n s) (is_outer_code ds levels n t) form in
      let o = both-true (body_in_order (n ∷ []) (body_as_sums s)) _ order in
      (body-late s q.0 o.0, body-late t q.1 (both-true (body_in_order (n ∷ []) (body_as_sums t)) _ o.1).0)
  body-late (Declare key x (Some e)) form order =
      λ a. late levels n loop a graph e (both-true (nat_eq (depth_at ds x) 1) (is_outer_expr levels n e) form).1 (both-true (hoists_in_order (as_sums e)) _ order).0
  body-late (Assign key t e) form order =
      λ a. late levels n loop a graph e (both-true (is_at_depth ds 1 n t) (is_outer_expr levels n e) form).1 (both-true (hoists_in_order (as_sums e)) _ (both-true (in_order (as_sums e) key) _ order).0).0
  body-late (Defer key (T.Scalar x at) e) form order = absurd (both_ways false refl form)
  body-late (Defer key (T.Property x p at) e) form order =
      λ a. late levels n loop a graph e (both-true (nat_eq x n) (is_outer_expr levels n e) form).1 (both-true (hoists_in_order (as_sums e)) _ (both-true (in_order (as_sums e) key) _ order).0).0
  body-late (Combine key total r ts es) form order =
      λ a. all-late levels n loop a graph key es (both-true (list_all (is_within ds 1) ts) (list_all (is_outer_expr levels n) es) form).1 (both-true (all_in_order (map as_sums es) key) _ order).0
  body-late (If key c s t) form order =
      let q = both-true (is_outer_expr levels n c) (is_outer_code ds levels n s && is_outer_code ds levels n t) form in
      let r = both-true (is_outer_code ds levels n s) (is_outer_code ds levels n t) q.1 in
      let o = both-true (in_order (as_sums c) key) _ order in
      let p = both-true (body_in_order (n ∷ []) (body_as_sums s)) _ o.1 in
      let z = both-true (body_in_order (n ∷ []) (body_as_sums t)) _ p.1 in
      ((λ a. late levels n loop a graph c q.0 (both-true (hoists_in_order (as_sums c)) _ o.0).0), body-late s r.0 p.0, body-late t r.1 z.0)
  body-late s form order = tt

-- a loop
module _ (k : ℕ) (run : Run) (graph : IsGraph run.graph) where
  loop-late : (ls : ℕ → Option ℕ) (levels : Bool) (x : ℕ) (key : Key) (test : Expr) (body : Stmt) → is_outer_loop run.declarations levels x test body ≡ true → loop_in_order (x ∷ []) key (as_sums test) (body_as_sums body) ≡ true →
      LoopLate k run ls levels x key test body
  loop-late ls levels x key test body form order =
      let q = both-true (is_outer_expr levels x test) (is_outer_code run.declarations levels x body) form in
      let o = both-true (in_order (as_sums test) key) _ order in
      let p = both-true (body_in_order (x ∷ []) (body_as_sums body)) _ o.1 in
      ((λ a. late levels x (loop_of run ls x body) a graph test q.0 (both-true (hoists_in_order (as_sums test)) _ o.0).0), body-late k run.declarations (loop_of run ls x body) levels x graph body q.1 p.0, tt)

  pub phase-late : (s : Stmt) → is_phase_code run.declarations s ≡ true → loops_in_order (loops_as_sums s) ≡ true → PhaseLate k run s
  phase-late (Then s t) form order =
      let q = both-true (is_phase_code run.declarations s) (is_phase_code run.declarations t) form in
      let o = both-true (loops_in_order (loops_as_sums s)) (loops_in_order (loops_as_sums t)) order in
      (phase-late s q.0 o.0, phase-late t q.1 o.1)
  phase-late (Foreach key at h test body) form order =
      loop-late no_levels false h.iterator key test body (both-true (is_nodes h.domain) _ form).1 (both-true (begins (h.iterator ∷ []) key h.place (as_sums test) (body_as_sums body)) _ order).1
  phase-late (For key at h test body) form order = phase-late body (both-true (is_phase_expr test) (is_phase_code run.declarations body) (both-true (is_nodes h.domain) _ form).1).1 (both-true _ (loops_in_order (loops_as_sums body)) order).1
  phase-late (If key c s t) form order =
      let q = both-true (is_phase_code run.declarations s) (is_phase_code run.declarations t) (both-true (is_phase_expr c) _ form).1 in
      let o = both-true (loops_in_order (loops_as_sums s)) (loops_in_order (loops_as_sums t)) (both-true _ (loops_in_order (loops_as_sums s) && loops_in_order (loops_as_sums t)) order).1 in
      (phase-late s q.0 o.0, phase-late t q.1 o.1)
  phase-late (While key at c body) form order = phase-late body (both-true (is_phase_expr c) (is_phase_code run.declarations body) form).1 (both-true _ (loops_in_order (loops_as_sums body)) order).1
  phase-late (Do key at body c) form order = phase-late body (both-true (is_phase_code run.declarations body) (is_phase_expr c) form).0 (both-true (loops_in_order (loops_as_sums body)) _ order).0
  phase-late (InBfs key at s test body) form order =
      λ r. loop-late (level_of run.graph r) true s.iterator key test body (outer-again run.declarations s.iterator test body form) (both-true (begins (s.iterator ∷ []) key s.place (as_sums test) (body_as_sums body)) _ (both-true (are_numbered (fault_of key s.place ∷ [])) _ order).1).1
  phase-late (InBfsBoth key at s test body back_key back_test back) form order =
      let f1 = both-true (is_outer_expr false s.iterator test) _ form in
      let f2 = both-true (is_outer_code run.declarations true s.iterator body) _ f1.1 in
      let front = outer-again run.declarations s.iterator test body (and-true (is_outer_expr false s.iterator test) (is_outer_code run.declarations true s.iterator body) f1.0 f2.0) in
      let o = both-true (search_in_order (s.iterator ∷ []) key s.place (as_sums test) (body_as_sums body)) _ order in
      let one = both-true (are_numbered (fault_of key s.place ∷ [])) _ o.0 in
      let two = both-true (are_numbered (fault_of back_key s.place ∷ [])) _ o.1 in (
        (λ r. loop-late (level_of run.graph r) true s.iterator key test body front (both-true (begins (s.iterator ∷ []) key s.place (as_sums test) (body_as_sums body)) _ one.1).1),
        (λ r. loop-late (level_of run.graph r) true s.iterator back_key back_test back (outer-again run.declarations s.iterator back_test back f2.1) (both-true (begins (s.iterator ∷ []) back_key s.place (as_sums back_test) (body_as_sums back)) _ two.1).1),
      )
  phase-late s form order = tt
