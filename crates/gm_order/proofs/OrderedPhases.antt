-- Faults in the parallel loops of a text stand in order.
use Rattle.std.proofs.Common.{◌≡◌, ◌+◌, ◌<◌, ℕ, Bool, true, false, List, [], ◌∷◌, ◌++◌, inl, map, refl, sym, ap, subst, ◌∙◌, arith, append_assoc, Option, Some, None}
use Rattle.std.specs.Prelude.{◌&&◌, is_none, Ok}
use Rattle.std.specs.Cmp.Derive.{both_true}
use Rattle.std.proofs.lemmas.Bool.{false≢true, or_right}
use Rattle.gm_base.specs.declared.places.Place.{Place}
use Rattle.gm_base.specs.Places.{place_lt}
use Rattle.gm_base.specs.declared.rules.Rule.{Rule}
use Rattle.gm_base.specs.declared.rules.Rule.TheVariants.{T9, T11, T14}
use Rattle.gm_value.specs.declared.values.VType.{VType}
use Rattle.gm_value.specs.declared.values.VType.TheVariants.{I32, I64, Flag, Node}
use Rattle.gm_value.specs.declared.reductions.Reduce.{Reduce}
use Rattle.gm_value.specs.declared.reductions.Reduce.TheVariants as R
use Rattle.gm_ast.specs.declared.tree.Declaration.{Declaration}
use Rattle.gm_ast.specs.declared.tree.Head.{Head}
use Rattle.gm_ast.specs.declared.tree.Key.{Key}
use Rattle.gm_ast.specs.declared.tree.Search.{Search}
use Rattle.gm_ast.specs.declared.tree.Sort.{Sort}
use Rattle.gm_ast.specs.declared.tree.Sort.TheVariants as Sorts
use Rattle.gm_ast.specs.declared.kinds.Goal.{Goal}
use Rattle.gm_ast.specs.declared.kinds.Role.TheVariants.{Local}
use Rattle.gm_ast.specs.declared.surface.LoopWord.TheVariants as Loop
use Rattle.gm_ast.specs.Surface.{SurfaceName, SurfaceType, SurfaceTarget, SurfaceExpr, SurfaceStmt, SurfaceProcedure}
use Rattle.gm_ast.specs.Surface as S
use Rattle.gm_ast.specs.Program as P
use Rattle.gm_ast.specs.Program.{Expr, Stmt, Program}
use Rattle.gm_ast.specs.Canonical as C
use Rattle.gm_ast.specs.Canonical.{within, reads_broken, all_broken, option_broken, forms_broken, assignment_broken, sequential_only, not_inner, range_broken, uncanonical}
use Rattle.gm_ast.specs.Judged.{Judged, Answer, beside, noted, ok_of, refused_unless, then_answer}
use Rattle.gm_ast.specs.Names.{Env, known_as, both, iterated, inside, later, numbered, declared_as, an_iterator}
use Rattle.gm_ast.specs.Kinds.{Part, fitted}
use Rattle.gm_ast.specs.Typing.{typed, start_of, ranged, head_with}
use Rattle.gm_ast.specs.Statements.{group_target, in_group, goal, fits_goal, reduces, first_wanted, total_at, fits_each, all_answers, combined, one_of, incremented, typed_all, goals_together, reduced, names_graph, grouped, assigned, deferred, assignment, returned, type_broken, sort_of, vtype_of, variable_of, declared_all, plain_declarations, declarations_as, edge_declared, edge_owner, declared_value, declared_typed, declared_with, following, loop_of, test, graph_searched, rooted, search_of, searched, checked}
use Rattle.gm_ast.specs.Procedures.{elaborated, all_parameters, env_of_body, head_broken}
use Rattle.gm_forms.proofs.Named.{both-true}
use Rattle.gm_forms.specs.Order.{lie_before, fault_of, are_numbered, rest_in, hoisted_in, hoists_in_order, faults_in, in_order, all_folds, loop_in_order, begins, search_in_order, loops_in_order, is_ordered}
use Rattle.gm_ready.proofs.Judging.{IfPart, if-by, if-both, if-good, if-then, append-empty}
use Rattle.gm_desugar.specs.Literals.{with_literals, each_expr, with_negative_literals}
use Rattle.gm_hoisting.specs.Hoisting.{has_none, search_key}
use Rattle.gm_hoisting.specs.Totals.{as_sums, body_as_sums, values_stand, search_stands, loops_stand}
use Rattle.gm_hoisting.specs.Throughout.{inner_as_sums, all_as_sums, stands_throughout}
use Rattle.gm_order.specs.Places.{is_before, ascend, places_of_each, places_in, places_of_target, place_of_option, places_of}
use Rattle.gm_order.proofs.Parts.{anything, if-with, if-judged}
use Rattle.gm_order.proofs.Befores.{Each, inner, operators, inside-of, inside-across, At, lie-keys, lie-places, ascend-tail, ascend-left, ascend-right}
use Rattle.gm_order.proofs.Keeping.{KeptPart, fitted-kept, condition-kept}
use Rattle.gm_order.proofs.ExpressionFaults.{lie-two-lists}
use Rattle.gm_order.proofs.OrderedExpressions.{Lies, LiesBoth, InParallel, parallel-kept, InSequence, sequence-kept}
use Rattle.gm_order.proofs.OrderedTyping.{not-zero, Parallel, parallel-typed, Sequence, sequence-typed}
use Rattle.gm_order.proofs.OrderedBodies.{numbered-in, Seen, SeenBoth, InBody, literal, Sees, sees-self, sees-sums, sees-literals, sees-both, statement, expr-faults, expr-order, inner-before, loop-order, begins-order, search-order, test-kept, beside-iterator, numbered_env, body-ordered}
use Rattle.gm_order.proofs.Shapes.{shaped}

-- the totals of a sequential phase stand in order throughout
abbrev StandsIn : Stmt → Type 0
StandsIn t = (loops_in_order (all_as_sums t) ≡ true) × (loops_stand t ≡ true)

-- a sequential phase with negative literals
abbrev literal-phase : Stmt → Stmt
literal-phase s = each_expr with_literals s

-- the parallel loops of a statement of a sequential phase stand in order, and its totals do, with negative literals as constants or not
abbrev InPhase : Stmt → Type 0
InPhase s = (ds : List Declaration) → forms_broken s (C.sequential ds) ≡ [] → (loops_in_order s ≡ true) × StandsIn s × StandsIn (literal-phase s)

abbrev IfPhase : Answer Stmt → Type 0
IfPhase a = IfPart InPhase (ok_of a)

-- a statement with a number, in a sequential phase
abbrev Follows : ℕ → Env → Type 0
Follows n env = (env.key ≡ operators n) × (n < env.number) × (env.depth ≡ 0)

test-sequence : (e : SurfaceExpr) → ascend (places_in e) ≡ true → (env : Env) → Sequence env → IfPart (InSequence (places_in e)) (test e env).part
test-sequence e up env d = condition-kept InSequence sequence-kept (places_in e) (start_of e) (typed e env) (sequence-typed e up env d)

fits-goal : (ps : List Place) (w : Option VType) (rule : Rule) (at : Place) (p : Part) → InSequence ps p.core → IfPart (InSequence ps) (ok_of (fits_goal w rule at p))
fits-goal ps None rule at p h = tt
fits-goal ps (Some t) rule at p h = fitted-kept InSequence sequence-kept ps t rule at p h

-- what stands around the statement, and behind the parts of it
around : (n : ℕ) (env : Env) → Follows n env → Sequence env
around n env st = let l = st.1 in (omega (arith, l), st.2)

goes-on : (A : Type 0) (env : Env) (x : Judged A) → Sequence env → Sequence (later env x)
goes-on A env x m = let p = m.0 in (omega (arith, p), m.1)

module _ (n : ℕ) (env : Env) (st : Follows n env) (positive : 0 < n) (e : SurfaceExpr) (up : ascend (places_in e) ≡ true) where
  abbrev Part-kept : Part → Type 0
  Part-kept p = InSequence (places_in e) p.core

  beside-kept : {A : Type 0} (o : Judged A) → IfPart (λ p. Unit {0} × Part-kept p.1) (beside o (typed e (later env o))).part
  beside-kept {A} o = if-both (λ a. Unit {0}) Part-kept o.part (typed e (later env o)).part (anything o.part) (sequence-typed e up (later env o) (goes-on A env o (around n env st)))

  assigned-phase : (t : SurfaceTarget) (at : Place) → IfPart InPhase (assigned t at e env).part
  assigned-phase t at =
      if-by (λ p. Unit {0} × Part-kept p.1) InPhase (both (goal false t) (typed e) env).part (λ p. then_answer (fits_goal p.0.wanted T9 at p.1) (P.Assign env.key p.0.target)) (beside-kept (goal false t env))
      (λ p k. if-then (InSequence (places_in e)) InPhase (fits_goal p.0.wanted T9 at p.1) (P.Assign env.key p.0.target) (fits-goal (places_in e) p.0.wanted T9 at p.1 k.1)
      (λ a m ds r. let k = m ds (append-empty (assignment_broken (C.sequential ds) p.0.target) (reads_broken a (C.sequential ds)) r).1 in (k.0, (k.1, refl), (k.2, refl))))

  group-order : (at : Place) (ps : List Place) (a : Expr) → Lies n ps a → hoists_in_order a ≡ true
      → are_numbered (fault_of env.key at ∷ faults_in a env.key) && (in_order a env.key && lie_before (hoisted_in a) (fault_of env.key at ∷ [])) ≡ true
  group-order at ps a m o =
      let number : env.key.statement ≡ n = statement n env.key st.0 in
      both_true (numbered-in n (n + 1) positive (fault_of env.key at ∷ faults_in a env.key) ((omega (arith, number), omega (arith, number)), expr-faults n env.key st.0 (n + 1) ps a (omega arith) m)) (both_true (expr-order n env.key st.0 ps a m o)
      (lie-keys (inner n) env.key ps (at ∷ []) (hoisted_in a) (fault_of env.key at ∷ []) (inner-before n env.key st.0) m.0 ((refl, inside-of (at ∷ []) at (inl refl)), tt)))

  grouped-phase : (x p : SurfaceName) (at : Place) → IfPart InPhase (grouped x p at e env).part
  grouped-phase x p at =
      let target = group_target x p env in
      let inner' : Env = record (later env target) { group = true; depth = env.depth + 1 } in
      let ps = places_in e in
      if-by (λ xs. Unit {0} × InParallel n ps xs.1.core) InPhase (both (group_target x p) (in_group (typed e)) env).part (λ xs. then_answer (fitted xs.0.1.1 T9 at xs.1) (P.Group env.key x.place xs.0.0 xs.0.1.0))
      (if-both (λ a. Unit {0}) (KeptPart (InParallel n) (parallel-kept n) ps) target.part (typed e inner').part (anything target.part) (parallel-typed n e up inner' (ap (λ (j : Key). j.statement) st.0, not-zero env.depth)))
      (λ xs k. if-then (InParallel n ps) InPhase (fitted xs.0.1.1 T9 at xs.1) (P.Group env.key x.place xs.0.0 xs.0.1.0) (fitted-kept (InParallel n) (parallel-kept n) ps xs.0.1.1 T9 at xs.1 k.1)
      (λ a m ds r.
      let w = C.sequential ds in
      let v = within w C.Group' xs.0.0 in
      let s = append-empty (sequential_only w.loops x.place) (not_inner w.loops x.place ++ reads_broken a v) r in
      let u = append-empty (not_inner w.loops x.place) (reads_broken a v) s.1 in
      let l = with_literals a in (
        group-order x.place ps a m.0.0 (m.0.0.2 v refl u.1),
        (group-order x.place ps (as_sums a) m.0.1 (m.0.1.2 v refl (sees-sums a v u.1)), refl),
        (group-order x.place ps (as_sums l) m.1.1 (m.1.1.2 v refl (sees-sums l v (sees-literals a v u.1))), refl),
      )))

  assignment-phase : (o : Option SurfaceName) (t : SurfaceTarget) (at : Place) → IfPart InPhase (assignment o t at e env).part
  assignment-phase None t at = assigned-phase t at
  assignment-phase (Some p) t at = if-judged InPhase (names_graph (known_as env.known t.owner.text)) (grouped t.owner p at e env) (assigned t at e env) (grouped-phase t.owner p at) (assigned-phase t at)

  value-phase : (s : Sort) (x : SurfaceName) (at : Place) (t : VType) (p : ℕ × Part) → Part-kept p.1 → IfPhase (declared_value env.key x at t s p)
  value-phase Sorts.Scalar x at t p k = if-then (InSequence (places_in e)) InPhase (fitted t T9 at p.1) (λ a. P.Declare env.key p.0 (Some a)) (fitted-kept InSequence sequence-kept (places_in e) t T9 at p.1 k) (λ a m ds r. let k = m ds r in (k.0, (k.1, refl), (k.2, refl)))
  value-phase Sorts.Edge x at t p k = tt
  value-phase Sorts.Graph x at t p k = tt
  value-phase Sorts.Iterator x at t p k = tt
  value-phase Sorts.NodeProperty x at t p k = tt
  value-phase Sorts.EdgeProperty x at t p k = tt

  with-phase : (o : Option SurfaceName) (t : SurfaceType) (x : SurfaceName) (at : Place) → IfPart InPhase (declared_with o t x at e env).part
  with-phase (Some y) t x at =
      let parts = both (declared_typed t x) (edge_owner y) env in
      if-by (λ p. Unit {0}) InPhase parts.part (λ p. Ok (P.DeclareEdge p.0 p.1.index y.place)) (anything parts.part) (λ p _ ds r. (refl, (refl, refl), (refl, refl)))
  with-phase None t x at =
      if-by (λ p. Unit {0} × Part-kept p.1) InPhase (both (declared_typed t x) (typed e) env).part (declared_value env.key x at (vtype_of t) (sort_of t))
      (beside-kept (declared_typed t x env)) (λ p k. value-phase (sort_of t) x at (vtype_of t) p k.1)

plain-phase : (k : Key) (ns : List ℕ) → InPhase (plain_declarations k ns)
plain-phase k [] = λ ds r. (refl, (refl, refl), (refl, refl))
plain-phase k (m ∷ ns) = λ ds r. plain-phase k ns ds r

declarations-phase : (s : Sort) (k : Key) (xs : List SurfaceName) (ns : List ℕ) → IfPhase (declarations_as s k xs ns)
declarations-phase Sorts.Edge k xs ns = tt
declarations-phase Sorts.Graph k xs ns = plain-phase k ns
declarations-phase Sorts.Iterator k xs ns = plain-phase k ns
declarations-phase Sorts.Scalar k xs ns = plain-phase k ns
declarations-phase Sorts.NodeProperty k xs ns = plain-phase k ns
declarations-phase Sorts.EdgeProperty k xs ns = plain-phase k ns

-- ---- reductions

abbrev Somewhere : Expr → Type 0
Somewhere e = (ps : List Place) × InSequence ps e

abbrev AllParts : List Part → Type 0
AllParts [] = Unit {0}
AllParts (p ∷ ps) = Somewhere p.core × AllParts ps

abbrev AllIn : List Expr → Type 0
AllIn [] = Unit {0}
AllIn (e ∷ es) = Somewhere e × AllIn es

all-kept : (es : List SurfaceExpr) → ascend (places_of_each places_in es) ≡ true → (env : Env) → Sequence env → IfPart AllParts (typed_all es env).part
all-kept [] up env d = tt
all-kept (e ∷ es) up env d =
    let ps = places_in e in
    let p = typed e env in
    let rest = typed_all es (later env p) in
    if-by (λ q. InSequence ps q.0.core × AllParts q.1) AllParts (beside p rest).part (λ q. Ok (q.0 ∷ q.1))
    (if-both (KeptPart InSequence sequence-kept ps) AllParts p.part rest.part (sequence-typed e (ascend-left ps (places_of_each places_in es) up) env d) (all-kept es (ascend-right ps (places_of_each places_in es) up) (later env p) (goes-on Part env p d)))
    (λ q k. ((ps, k.0), k.1))

fits-all : (at : Place) (gs : List Goal) (ps : List Part) → AllParts ps → IfPart AllIn (ok_of (all_answers (fits_each at gs ps)))
fits-all at [] [] h = tt
fits-all at [] (p ∷ ps) h = tt
fits-all at (g ∷ gs) [] h = tt
fits-all at (g ∷ gs) (p ∷ ps) h =
    if-with (InSequence h.0.0) AllIn AllIn (λ x xs. x ∷ xs) (fits_goal g.wanted T9 at p) (all_answers (fits_each at gs ps))
    (fits-goal h.0.0 g.wanted T9 at p h.0.1) (fits-all at gs ps h.1) (λ a rest m s. ((h.0.0, m), s))

all-order : (es : List Expr) → AllIn es → (ds : List Declaration) → all_broken es (C.sequential ds) ≡ [] → (all_folds es ≡ true) × (all_folds (map inner_as_sums es) ≡ true) × (all_folds (map inner_as_sums (map with_literals es)) ≡ true)
all-order [] h ds r = (refl, refl, refl)
all-order (e ∷ es) h ds r =
    let s = append-empty (reads_broken e (C.sequential ds)) (all_broken es (C.sequential ds)) r in
    let k = h.0.1 ds s.0 in
    let m = all-order es h.1 ds s.1 in
    (both_true k.0 m.0, both_true k.1 m.1, both_true k.2 m.2)

reduced-phase : (env : Env) → Sequence env → (ts : List SurfaceTarget) (r : Reduce) (at : Place) (es : List SurfaceExpr) → ascend (places_of_each places_in es) ≡ true → IfPart InPhase (reduced ts r at es env).part
reduced-phase env d ts r at es up =
    let together = goals_together ts env in
    let values = typed_all es (later env together) in
    if-by (λ ps. Unit {0} × AllParts ps.1) InPhase (both (goals_together ts) (typed_all es) env).part (combined env.key at r)
    (if-both (λ g. Unit {0}) AllParts together.part values.part (anything together.part) (all-kept es up (later env together) (goes-on (List Goal) env together d)))
    (λ ps k. if-with (λ u. Unit {0}) AllIn InPhase (λ u xs. P.Combine env.key (total_at env.key at) r (map (λ g. g.target) ps.0) xs)
    (refused_unless (reduces r (first_wanted ps.0)) T11 at (tt {0})) (all_answers (fits_each at ps.0 ps.1))
    (anything (ok_of (refused_unless (reduces r (first_wanted ps.0)) T11 at (tt {0})))) (fits-all at ps.0 ps.1 k.1)
    (λ u xs _ m ds q. let k = all-order xs m ds q in (k.0, (k.1, refl), (k.2, refl))))

incremented-phase : (k : Key) (at : Place) (g : Goal) (w : Option VType) → IfPhase (then_answer (one_of w at) (λ e. P.Combine k (total_at k at) R.Sum (g.target ∷ []) (e ∷ [])))
incremented-phase k at g None = tt
incremented-phase k at g (Some I32) = λ ds r. (refl, (refl, refl), (refl, refl))
incremented-phase k at g (Some I64) = λ ds r. (refl, (refl, refl), (refl, refl))
incremented-phase k at g (Some Flag) = tt
incremented-phase k at g (Some Node) = tt

returned-phase : (k : Key) (at : Place) (ps : List Place) (o : Option VType) (p : Part) → InSequence ps p.core → IfPhase (returned k at o p)
returned-phase k at ps None p h = tt
returned-phase k at ps (Some t) p h = if-then (InSequence ps) InPhase (fitted t T14 at p) (λ a. P.Return k at (Some a)) (fitted-kept InSequence sequence-kept ps t T14 at p h)
    (λ a m ds r. let k = m ds (append-empty (not_inner [] at) (reads_broken a (C.sequential ds)) (append-empty (sequential_only [] at) (not_inner [] at ++ reads_broken a (C.sequential ds)) r).1).1 in (k.0, (k.1, refl), (k.2, refl)))

-- ---- parallel loops

-- a filter and a body of parallel code, of which the body's numbers come later
abbrev AreCode : ℕ → List Place → Expr × Stmt → Type 0
AreCode n ps p = InParallel n ps p.0 × ((lo : ℕ) × ((hi : ℕ) × ((n < lo) × InBody lo hi p.1)))

code-kept : (n : ℕ) (filter : SurfaceExpr) (body : SurfaceStmt) → ascend (places_in filter ++ places_of body) ≡ true → shaped false body ≡ true → (env : Env) → Parallel n env.key env.depth → n < env.number
    → IfPart (AreCode n (places_in filter)) (both (test filter) (numbered (checked body)) env).part
code-kept n filter body up sh env m lt =
    let ps = places_in filter in
    let qs = places_of body in
    let c = test filter env in
    let env3 = later env c in
    let lo = env3.number in
    let env4 = numbered_env env3 in
    let hi = env4.number + (checked body env4).numbers in
    if-both (InParallel n ps) (λ s. (lo : ℕ) × ((hi : ℕ) × ((n < lo) × InBody lo hi s))) c.part (numbered (checked body) env3).part
    (test-kept n filter (ascend-left ps qs up) env m)
    (found lo hi (omega (arith, lt)) (numbered (checked body) env3).part (body-ordered false body (ascend-right ps qs up) sh lo env4 (refl, omega arith, m.1)))
  where
    found : (lo hi : ℕ) → n < lo → (o : Option Stmt) → IfPart (InBody lo hi) o → IfPart (λ s. (lo : ℕ) × ((hi : ℕ) × ((n < lo) × InBody lo hi s))) o
    found lo hi lt None h = tt
    found lo hi lt (Some s) h = (lo, (hi, (lt, h)))

-- a filter and a body, each seen as another, in order
abbrev InOrder : List ℕ → ℕ → Key → Place → Expr → Stmt → Type 0
InOrder its n k at d t = (begins its k at d t ≡ true) × (loop_in_order its k d t ≡ true)

module _ (its : List ℕ) (n : ℕ) (k : Key) (key : k ≡ operators n) (positive : 0 < n) (at : Place) (ps : List Place) (p : Expr × Stmt) (c : AreCode n ps p) (v u : C.Around) (pv : C.is_parallel v.loops ≡ true) (pu : C.is_parallel u.loops ≡ true)
    (rc : reads_broken p.0 v ≡ []) (rb : forms_broken p.1 u ≡ []) where
  abbrev Body-seen : Stmt → Type 0
  Body-seen t = Seen c.1.0 c.1.1.0 its p.1 t

  seen-order : (d : Expr) (t : Stmt) → Lies n ps d → Sees p.0 d → Body-seen t → InOrder its n k at d t
  seen-order d t x sees y = (
    begins-order its n k key at t c.1.0 c.1.1.0 c.1.1.1.0 y.0 ps d x positive,
    loop-order its n k key ps p.0 d p.1 t c.1.0 c.1.1.0 c.1.1.1.0 x sees y v u pv pu rc rb,
  )

  both-orders : (d : Expr) (t : Stmt) → LiesBoth n ps d → Sees p.0 d → SeenBoth c.1.0 c.1.1.0 its p.1 t → InOrder its n k at d t × InOrder its n k at (as_sums d) (body_as_sums t)
  both-orders d t x sees y = (seen-order d t x.0 sees y.0, seen-order (as_sums d) (body_as_sums t) x.1 (sees-both p.0 d sees) y.1)

  searched-order : (d : Expr) (t : Stmt) → Lies n ps d → Sees p.0 d → Body-seen t → search_in_order its k at d t ≡ true
  searched-order d t x sees y = search-order its n k key at t c.1.0 c.1.1.0 c.1.1.1.0 y.0 ps d x positive (seen-order d t x sees y).1

loop-views : (n : ℕ) (k : Key) → k ≡ operators n → 0 < n → (at : Place) (h : Head) (ps : List Place) (p : Expr × Stmt) → AreCode n ps p → (v : C.Around) → C.is_parallel v.loops ≡ true → reads_broken p.0 v ≡ [] → forms_broken p.1 v ≡ []
    → (loops_in_order (P.Foreach k at h p.0 p.1) ≡ true) × StandsIn (P.Foreach k at h p.0 p.1) × StandsIn (literal-phase (P.Foreach k at h p.0 p.1))
loop-views n k key positive at h ps p c v pv rc rb =
    let its = h.iterator ∷ [] in
    let y = c.1.1.1.1 its in
    let l = with_literals p.0 in
    let plain = both-orders its n k key positive h.place ps p c v v pv pv rc rb p.0 p.1 c.0.0 (sees-self p.0) y.0 in
    let literals = both-orders its n k key positive h.place ps p c v v pv pv rc rb l (literal p.1) c.0.1 (sees-literals p.0) y.1 in
    (both_true plain.0.0 plain.0.1, (both_true plain.1.0 plain.1.1, y.0.2), (both_true literals.1.0 literals.1.1, y.1.2))

foreach-phase : (n : ℕ) (k : Key) → k ≡ operators n → 0 < n → (at : Place) (h : Head) (ps : List Place) (p : Expr × Stmt) → AreCode n ps p → InPhase (P.Foreach k at h p.0 p.1)
foreach-phase n k key positive at h ps p c ds r =
    let w = C.sequential ds in
    let v = within w C.Body h.iterator in
    let more = C.ways_broken w.loops h p.0 p.1 in
    let s = append-empty (not_inner w.loops at) (range_broken w.loops h ++ (reads_broken p.0 v ++ (forms_broken p.1 v ++ more))) r in
    let u = append-empty (range_broken w.loops h) (reads_broken p.0 v ++ (forms_broken p.1 v ++ more)) s.1 in
    let q = append-empty (reads_broken p.0 v) (forms_broken p.1 v ++ more) u.1 in
    let e = append-empty (forms_broken p.1 v) more q.1 in
    loop-views n k key positive at h ps p c v refl q.0 e.0

-- a search's own fault stands before those of its filter, with its reductions as sums: by its place, or by its key
module _ (n : ℕ) (k : Key) (key : k ≡ operators n) (at : Place) (ps : List Place) (up : ascend (at ∷ ps) ≡ true) (test : Expr) (h : Lies n ps (as_sums test)) where
  searched-before : search_stands k at test ≡ true
  searched-before =
      or_right (has_none test) (lie_before (fault_of (search_key false k) at ∷ []) (faults_in (as_sums test) k))
      (lie-two-lists (fault_of (search_key false k) at ∷ []) (hoisted_in (as_sums test)) (rest_in (as_sums test) k)
      (lie-places (inner n) (at ∷ []) ps (fault_of (search_key false k) at ∷ []) (hoisted_in (as_sums test)) (inside-across (at ∷ []) ps up) root h.0)
      (lie-keys (inner n) k (at ∷ []) ps (fault_of (search_key false k) at ∷ []) (rest_in (as_sums test) k) (inner-before n k key) root (h.1 k)))
    where
      root : Each (At (inner n) (at ∷ [])) (fault_of (search_key false k) at ∷ [])
      root = ((ap inner (statement n k key), inside-of (at ∷ []) at (inl refl)), tt)

-- a search's filter and body in order, and where the search stands before its filter
abbrev SearchStands : Key → Place → List ℕ → Expr → Stmt → Type 0
SearchStands k at its d t = (search_in_order its k at (as_sums d) (body_as_sums t) ≡ true) × (search_stands k at d ≡ true) × (values_stand t ≡ true)

search-views : (its : List ℕ) (n : ℕ) (k : Key) → k ≡ operators n → 0 < n → (at : Place) (ps : List Place) → ascend (at ∷ ps) ≡ true → (p : Expr × Stmt) → AreCode n ps p → (v u : C.Around) → C.is_parallel v.loops ≡ true → C.is_parallel u.loops ≡ true
    → reads_broken p.0 v ≡ [] → forms_broken p.1 u ≡ [] → (search_in_order its k at p.0 p.1 ≡ true) × SearchStands k at its p.0 p.1 × SearchStands k at its (with_literals p.0) (literal p.1)
search-views its n k key positive at ps up p c v u pv pu rc rb =
    (searched-order its n k key positive at ps p c v u pv pu rc rb p.0 p.1 c.0.0.0 (sees-self p.0) y.0.0, views p.0 p.1 c.0.0 (sees-self p.0) y.0, views (with_literals p.0) (literal p.1) c.0.1 (sees-literals p.0) y.1)
  where
    y : SeenBoth c.1.0 c.1.1.0 its p.1 p.1 × SeenBoth c.1.0 c.1.1.0 its p.1 (literal p.1)
    y = c.1.1.1.1 its

    views : (d : Expr) (t : Stmt) → LiesBoth n ps d → Sees p.0 d → SeenBoth c.1.0 c.1.1.0 its p.1 t → SearchStands k at its d t
    views d t x sees z = (searched-order its n k key positive at ps p c v u pv pu rc rb (as_sums d) (body_as_sums t) x.1 (sees-both p.0 d sees) z.1, searched-before n k key at ps up d x.1, z.2)

search-phase : (n : ℕ) (k : Key) → k ≡ operators n → 0 < n → (at : Place) (search : Search) (ps : List Place) → ascend (search.place ∷ ps) ≡ true → (p : Expr × Stmt) → AreCode n ps p → InPhase (P.InBfs k at search p.0 p.1)
search-phase n k key positive at search ps up p c ds r =
    let w = C.sequential ds in
    let v = within w C.Filter search.iterator in
    let x = within w C.Search search.iterator in
    let s = append-empty (sequential_only w.loops at) (not_inner w.loops at ++ (reads_broken p.0 v ++ forms_broken p.1 x)) r in
    let u = append-empty (not_inner w.loops at) (reads_broken p.0 v ++ forms_broken p.1 x) s.1 in
    let q = append-empty (reads_broken p.0 v) (forms_broken p.1 x) u.1 in
    let o = search-views (search.iterator ∷ []) n k key positive search.place ps up p c v x refl refl q.0 q.1 in
    (o.0, (o.1.0, both_true o.1.1 o.1.2), (o.2.0, both_true o.2.1 o.2.2))

both-phase : (n m : ℕ) (k j : Key) → k ≡ operators n → j ≡ operators m → 0 < n → 0 < m → (at : Place) (search : Search) (ps qs : List Place) → ascend (search.place ∷ ps) ≡ true → ascend (search.place ∷ qs) ≡ true → (p q : Expr × Stmt) → AreCode n ps p → AreCode m qs q
    → InPhase (P.InBfsBoth k at search p.0 p.1 j q.0 q.1)
both-phase n m k j key back_key positive later-on at search ps qs up back-up p q c d ds r =
    let w = C.sequential ds in
    let v = within w C.Filter search.iterator in
    let x = within w C.Search search.iterator in
    let back = reads_broken q.0 v ++ forms_broken q.1 x in
    let s = append-empty (sequential_only w.loops at) (not_inner w.loops at ++ (reads_broken p.0 v ++ (forms_broken p.1 x ++ back))) r in
    let u = append-empty (not_inner w.loops at) (reads_broken p.0 v ++ (forms_broken p.1 x ++ back)) s.1 in
    let e = append-empty (reads_broken p.0 v) (forms_broken p.1 x ++ back) u.1 in
    let f = append-empty (forms_broken p.1 x) back e.1 in
    let g = append-empty (reads_broken q.0 v) (forms_broken q.1 x) f.1 in
    let o = search-views (search.iterator ∷ []) n k key positive search.place ps up p c v x refl refl e.0 f.0 in
    let b = search-views (search.iterator ∷ []) m j back_key later-on search.place qs back-up q d v x refl refl g.0 g.1 in (
      both_true o.0 b.0,
      (both_true o.1.0 b.1.0, both_true o.1.1 (both_true o.1.2 (both_true b.1.1 b.1.2))),
      (both_true o.2.0 b.2.0, both_true o.2.1 (both_true o.2.2 (both_true b.2.1 b.2.2))),
    )

-- a place before the middle of others, where several stand before it
is-before-middle : (p : Place) (ps qs rs : List Place) → is_before p (ps ++ (qs ++ rs)) ≡ true → is_before p qs ≡ true
is-before-middle p [] [] rs h = refl
is-before-middle p [] (q ∷ qs) rs h = let s = both-true (place_lt p q) (is_before p (qs ++ rs)) h in both_true s.0 (is-before-middle p [] qs rs s.1)
is-before-middle p (r ∷ ps) qs rs h = is-before-middle p ps qs rs (both-true (place_lt p r) (is_before p (ps ++ (qs ++ rs))) h).1

spread : (ps qs : List Place) (r : Place) (rs : List Place) → ps ++ (qs ++ (r ∷ rs)) ≡ (ps ++ (qs ++ (r ∷ []))) ++ rs
spread ps qs r rs = ap (λ zs. ps ++ zs) (sym (append_assoc qs (r ∷ []) rs)) ∙ sym (append_assoc ps (qs ++ (r ∷ [])) rs)

-- ---- whole statements

numbered-follows : (env : Env) → env.depth ≡ 0 → Follows env.number (numbered_env env)
numbered-follows env d = (refl, omega arith, d)

in-loop : (n : ℕ) (env : Env) → Follows n env → Parallel n env.key (env.depth + 1)
in-loop n env st = (ap (λ (j : Key). j.statement) st.0, not-zero env.depth)

-- a statement of its own has a number of its own: 0 is that of the whole body
abbrev Counted : Bool → ℕ → Type 0
Counted true n = Unit {0}
Counted false n = 0 < n

behind-all : (n : ℕ) (env : Env) → Follows n env → 0 < env.number
behind-all n env st = (around n env st).0

pub phase-ordered : (rest : Bool) (s : SurfaceStmt) → ascend (places_of s) ≡ true → shaped rest s ≡ true → (n : ℕ) → Counted rest n → (env : Env) → Follows n env → IfPart InPhase (checked s env).part
phase-ordered rest S.Skip up sh n c0 env st = λ ds r. (refl, (refl, refl), (refl, refl))
phase-ordered rest (S.Then a b) up sh n c0 env st =
    let ps = places_of a in
    let qs = places_of b in
    let h = both-true (shaped false a) (shaped true b) sh in
    let x = numbered (checked a) env in
    let env2 = following a env x in
    let y = checked b env2 in
    let l = st.1 in
    if-by (λ p. InPhase p.0 × InPhase p.1) InPhase (beside x y).part (λ p. Ok (P.Then p.0 p.1))
    (if-both InPhase InPhase x.part y.part (phase-ordered false a (ascend-left ps qs up) h.0 env.number (behind-all n env st) (numbered_env env) (numbered-follows env st.2))
    (phase-ordered true b (ascend-right ps qs up) h.1 n tt env2 (st.0, omega (arith, l), st.2)))
    (λ p k ds r.
    let s = append-empty (forms_broken p.0 (C.sequential ds)) (forms_broken p.1 (C.sequential ds)) r in
    let x = k.0 ds s.0 in
    let y = k.1 ds s.1 in
    (both_true x.0 y.0, (both_true x.1.0 y.1.0, both_true x.1.1 y.1.1), (both_true x.2.0 y.2.0, both_true x.2.1 y.2.1)))
phase-ordered true _ up sh n c0 env st = absurd (false≢true sh)
phase-ordered false (S.Declare t xs) up sh n c0 env st =
    let parts = beside (noted (tt {0}) (type_broken t Local env)) (declared_all (variable_of t env.depth) xs env) in
    if-by (λ p. Unit {0}) InPhase parts.part (λ p. declarations_as (sort_of t) env.key xs p.1) (anything parts.part) (λ p _. declarations-phase (sort_of t) env.key xs p.1)
phase-ordered false (S.DeclareAs t x at e) up sh n c0 env st = with-phase n env st c0 e (ascend-tail at (places_in e) (ascend-tail x.place (at ∷ places_in e) up)) (edge_declared t e) t x at
phase-ordered false (S.Assign t at e) up sh n c0 env st = assignment-phase n env st c0 e (ascend-tail at (places_in e) (ascend-right (places_of_target t) (at ∷ places_in e) up)) t.property t at
phase-ordered false (S.Defer t at e iterator) up sh n c0 env st =
    let parts = both (goal true t) (typed e) env in
    beside-iterator InPhase (deferred t at e) iterator env
    (if-by (λ p. Unit {0}) InPhase parts.part (λ p. then_answer (fits_goal p.0.wanted T9 at p.1) (P.Defer env.key p.0.target)) (anything parts.part)
    (λ p _. if-then (λ a. Unit {0}) InPhase (fits_goal p.0.wanted T9 at p.1) (P.Defer env.key p.0.target) (anything (ok_of (fits_goal p.0.wanted T9 at p.1))) (λ a _ ds r. (refl, (refl, refl), (refl, refl)))))
phase-ordered false (S.Combine ts r at es iterator) up sh n c0 env st =
    let back = places_of_each places_in es ++ place_of_option iterator in
    beside-iterator InPhase (reduced ts r at es) iterator env (reduced-phase env (around n env st) ts r at es (ascend-left (places_of_each places_in es) (place_of_option iterator) (ascend-tail at back (ascend-right (places_of_each places_of_target ts) (at ∷ back) up))))
phase-ordered false (S.Increment t at) up sh n c0 env st =
    if-by (λ g. Unit {0}) InPhase (goal false t env).part (incremented env.key at) (anything (goal false t env).part) (λ g _. incremented-phase env.key at g g.wanted)
phase-ordered false (S.Call r f es xs) up sh n c0 env st = tt
phase-ordered false (S.Loop at Loop.For head filter body) up sh n c0 env st =
    let ps = places_in filter in
    let qs = places_of body in
    let back = ascend-tail head.owner.place (ps ++ qs) (ascend-tail head.iterator.place (head.owner.place ∷ (ps ++ qs)) (ascend-tail at (head.iterator.place ∷ (head.owner.place ∷ (ps ++ qs))) up)) in
    let inner' = both (test filter) (numbered (checked body)) in
    let x = ranged head env in
    let env1 = later env x in
    let i = declared_as env1 head.iterator (an_iterator (env1.depth + 0)) in
    let env2 = inside env1 head.iterator 0 in
    let d = st.2 in
    let d2 : env.depth + 0 ≡ 0 = omega (arith, d) in
    let c = test filter env2 in
    let env3 = later env2 c in
    let l = behind-all n env st in
    if-by (λ p. Unit {0} × (Unit {0} × (InSequence ps p.1.1.0 × InPhase p.1.1.1))) InPhase (both (ranged head) (iterated head.iterator 0 inner') env).part
    (λ p. Ok (loop_of Loop.For env.key at (head_with head p.0 p.1.0) p.1.1.0 p.1.1.1))
    (if-both (λ o. Unit {0}) (λ p. Unit {0} × (InSequence ps p.1.0 × InPhase p.1.1)) x.part (iterated head.iterator 0 inner' env1).part (anything x.part)
    (if-both (λ j. Unit {0}) (λ p. InSequence ps p.0 × InPhase p.1) i.part (inner' env2).part tt
    (if-both (InSequence ps) InPhase c.part (numbered (checked body) env3).part (test-sequence filter (ascend-left ps qs back) env2 (omega (arith, l), d2))
    (phase-ordered false body (ascend-right ps qs back) sh env3.number (omega (arith, l)) (numbered_env env3) (numbered-follows env3 d2)))))
    (λ p k ds r.
    let w = C.sequential ds in
    let h = head_with head p.0 p.1.0 in
    let both' = reads_broken p.1.1.0 w ++ forms_broken p.1.1.1 w in
    let s = append-empty (sequential_only w.loops at) (not_inner w.loops at ++ (range_broken w.loops h ++ both')) r in
    let u = append-empty (not_inner w.loops at) (range_broken w.loops h ++ both') s.1 in
    let q = append-empty (range_broken w.loops h) both' u.1 in
    let e = append-empty (reads_broken p.1.1.0 w) (forms_broken p.1.1.1 w) q.1 in
    let x = k.1.1.0 ds e.0 in
    let y = k.1.1.1 ds e.1 in
    (both_true x.0 y.0, (both_true x.1 y.1.0, y.1.1), (both_true x.2 y.2.0, y.2.1)))
phase-ordered false (S.Loop at Loop.Foreach head filter body) up sh n c0 env st =
    let l = st.1 in
    let ps = places_in filter in
    let qs = places_of body in
    let back = ascend-tail head.owner.place (ps ++ qs) (ascend-tail head.iterator.place (head.owner.place ∷ (ps ++ qs)) (ascend-tail at (head.iterator.place ∷ (head.owner.place ∷ (ps ++ qs))) up)) in
    let inner' = both (test filter) (numbered (checked body)) in
    let x = ranged head env in
    let env1 = later env x in
    let i = declared_as env1 head.iterator (an_iterator (env1.depth + 1)) in
    let env2 = inside env1 head.iterator 1 in
    if-by (λ p. Unit {0} × (Unit {0} × AreCode n ps p.1.1)) InPhase (both (ranged head) (iterated head.iterator 1 inner') env).part
    (λ p. Ok (loop_of Loop.Foreach env.key at (head_with head p.0 p.1.0) p.1.1.0 p.1.1.1))
    (if-both (λ o. Unit {0}) (λ p. Unit {0} × AreCode n ps p.1) x.part (iterated head.iterator 1 inner' env1).part (anything x.part)
    (if-both (λ j. Unit {0}) (AreCode n ps) i.part (inner' env2).part tt (code-kept n filter body back sh env2 (in-loop n env st) (omega (arith, l)))))
    (λ p k. foreach-phase n env.key st.0 c0 at (head_with head p.0 p.1.0) ps p.1.1 k.1.1)
phase-ordered false (S.If at c a b) up sh n c0 env st =
    let ps = places_in c in
    let qs = places_of a in
    let rs = places_of b in
    let h = both-true (shaped false a) (shaped false b) sh in
    let back = ascend-tail at (ps ++ (qs ++ rs)) up in
    let branches = ascend-right ps (qs ++ rs) back in
    let x = test c env in
    let env1 = later env x in
    let y = numbered (checked a) env1 in
    let env2 = later env1 y in
    let z = numbered (checked b) env2 in
    if-by (λ p. InSequence ps p.0 × (InPhase p.1.0 × InPhase p.1.1)) InPhase (beside x (beside y z)).part (λ p. Ok (P.If env.key p.0 p.1.0 p.1.1))
    (if-both (InSequence ps) (λ p. InPhase p.0 × InPhase p.1) x.part (beside y z).part (test-sequence c (ascend-left ps (qs ++ rs) back) env (around n env st))
    (if-both InPhase InPhase y.part z.part
    (phase-ordered false a (ascend-left qs rs branches) h.0 env1.number (goes-on Expr env x (around n env st)).0 (numbered_env env1) (numbered-follows env1 st.2))
    (phase-ordered false b (ascend-right qs rs branches) h.1 env2.number (goes-on Stmt env1 y (goes-on Expr env x (around n env st))).0 (numbered_env env2) (numbered-follows env2 st.2))))
    (λ p k ds r.
    let w = C.sequential ds in
    let s = append-empty (reads_broken p.0 w) (forms_broken p.1.0 w ++ forms_broken p.1.1 w) r in
    let u = append-empty (forms_broken p.1.0 w) (forms_broken p.1.1 w) s.1 in
    let x = k.0 ds s.0 in
    let y = k.1.0 ds u.0 in
    let z = k.1.1 ds u.1 in
    (both_true x.0 (both_true y.0 z.0), (both_true x.1 (both_true y.1.0 z.1.0), both_true y.1.1 z.1.1), (both_true x.2 (both_true y.2.0 z.2.0), both_true y.2.1 z.2.1)))
phase-ordered false (S.While at c body) up sh n c0 env st =
    let ps = places_in c in
    let qs = places_of body in
    let back = ascend-tail at (ps ++ qs) up in
    let x = test c env in
    let env1 = later env x in
    let y = numbered (checked body) env1 in
    if-by (λ p. InSequence ps p.0 × InPhase p.1) InPhase (beside x y).part (λ p. Ok (P.While env.key at p.0 p.1))
    (if-both (InSequence ps) InPhase x.part y.part (test-sequence c (ascend-left ps qs back) env (around n env st)) (phase-ordered false body (ascend-right ps qs back) sh env1.number (goes-on Expr env x (around n env st)).0 (numbered_env env1) (numbered-follows env1 st.2)))
    (λ p k ds r.
    let w = C.sequential ds in
    let s = append-empty (sequential_only w.loops at) (not_inner w.loops at ++ (reads_broken p.0 w ++ forms_broken p.1 w)) r in
    let u = append-empty (not_inner w.loops at) (reads_broken p.0 w ++ forms_broken p.1 w) s.1 in
    let q = append-empty (reads_broken p.0 w) (forms_broken p.1 w) u.1 in
    let x = k.0 ds q.0 in
    let y = k.1 ds q.1 in
    (both_true x.0 y.0, (both_true x.1 y.1.0, y.1.1), (both_true x.2 y.2.0, y.2.1)))
phase-ordered false (S.Do at body c) up sh n c0 env st =
    let ps = places_of body in
    let qs = places_in c in
    let back = ascend-tail at (ps ++ qs) up in
    let x = numbered (checked body) env in
    let env1 = later env x in
    let y = test c env1 in
    if-by (λ p. InPhase p.0 × InSequence qs p.1) InPhase (beside x y).part (λ p. Ok (P.Do env.key at p.0 p.1))
    (if-both InPhase (InSequence qs) x.part y.part (phase-ordered false body (ascend-left ps qs back) sh env.number (behind-all n env st) (numbered_env env) (numbered-follows env st.2)) (test-sequence c (ascend-right ps qs back) env1 (goes-on Stmt env x (around n env st))))
    (λ p k ds r.
    let w = C.sequential ds in
    let s = append-empty (sequential_only w.loops at) (not_inner w.loops at ++ (forms_broken p.0 w ++ reads_broken p.1 w)) r in
    let u = append-empty (not_inner w.loops at) (forms_broken p.0 w ++ reads_broken p.1 w) s.1 in
    let q = append-empty (forms_broken p.0 w) (reads_broken p.1 w) u.1 in
    let x = k.0 ds q.0 in
    let y = k.1 ds q.1 in
    (both_true x.0 y.0, (both_true x.1.0 y.1, x.1.1), (both_true x.2.0 y.2, x.2.1)))
phase-ordered false (S.InBfs at v g root filter body) up sh n c0 env st =
    let l = st.1 in
    let ps = places_in filter in
    let qs = places_of body in
    let rooted-up = (ascend-tail g.place (root.place ∷ (ps ++ qs)) (ascend-tail v.place (g.place ∷ (root.place ∷ (ps ++ qs))) (ascend-tail at (v.place ∷ (g.place ∷ (root.place ∷ (ps ++ qs)))) up))) in
    let back = ascend-tail root.place (ps ++ qs) rooted-up in
    let inner' = both (test filter) (numbered (checked body)) in
    let x = both (graph_searched g) (rooted root) env in
    let env1 = later env x in
    let i = declared_as env1 v (an_iterator (env1.depth + 1)) in
    let env2 = inside env1 v 1 in
    if-by (λ p. Unit {0} × (Unit {0} × AreCode n ps p.1.1)) InPhase (beside x (iterated v 1 inner' env1)).part (λ p. Ok (P.InBfs env.key at (search_of root p.0 p.1.0) p.1.1.0 p.1.1.1))
    (if-both (λ o. Unit {0}) (λ p. Unit {0} × AreCode n ps p.1) x.part (iterated v 1 inner' env1).part (anything x.part)
    (if-both (λ j. Unit {0}) (AreCode n ps) i.part (inner' env2).part tt (code-kept n filter body back sh env2 (in-loop n env st) (omega (arith, l)))))
    (λ p k. search-phase n env.key st.0 c0 at (search_of root p.0 p.1.0) ps (ascend-left (root.place ∷ ps) qs rooted-up) p.1.1 k.1.1)
phase-ordered false (S.InBfsBoth at v g root filter body reverse back_filter back) up sh n c0 env st =
    let l = st.1 in
    let ps = places_in filter in
    let qs = places_of body in
    let rs = places_in back_filter in
    let os = places_of back in
    let h = both-true (shaped false body) (shaped false back) sh in
    let all = ps ++ (qs ++ (reverse ∷ (rs ++ os))) in
    let rooted-up = (ascend-tail g.place (root.place ∷ all) (ascend-tail v.place (g.place ∷ (root.place ∷ all)) (ascend-tail at (v.place ∷ (g.place ∷ (root.place ∷ all))) up))) in
    let inside-up = ascend-tail root.place all rooted-up in
    let root-back : ascend (root.place ∷ rs) ≡ true =
    both_true (is-before-middle root.place (ps ++ (qs ++ (reverse ∷ []))) rs os (subst (λ zs. is_before root.place zs ≡ true) (spread ps qs reverse (rs ++ os)) (both-true (is_before root.place all) (ascend all) rooted-up).0)) (ascend-left rs os (ascend-tail reverse (rs ++ os) (ascend-right qs (reverse ∷ (rs ++ os)) (ascend-right ps (qs ++ (reverse ∷ (rs ++ os))) inside-up)))) in
    let there-up : ascend (ps ++ qs) ≡ true = ascend-left (ps ++ qs) (reverse ∷ (rs ++ os)) (subst (λ zs. ascend zs ≡ true) (sym (append_assoc ps qs (reverse ∷ (rs ++ os)))) inside-up) in
    let back-up = ascend-tail reverse (rs ++ os) (ascend-right qs (reverse ∷ (rs ++ os)) (ascend-right ps (qs ++ (reverse ∷ (rs ++ os))) inside-up)) in
    let there = both (test filter) (numbered (checked body)) in
    let back_part = searched (test back_filter) (numbered (checked back)) in
    let inner' = both there (numbered back_part) in
    let x = both (graph_searched g) (rooted root) env in
    let env1 = later env x in
    let i = declared_as env1 v (an_iterator (env1.depth + 1)) in
    let env2 = inside env1 v 1 in
    let y = there env2 in
    let env3 = later env2 y in
    let m = env3.number in
    let env4 = numbered_env env3 in
    let code = both (test back_filter) (numbered (checked back)) env4 in
    if-by (λ p. Unit {0} × (Unit {0} × (AreCode n ps p.1.1.0 × ((p.1.1.1.0 ≡ operators m) × AreCode m rs p.1.1.1.1)))) InPhase (beside x (iterated v 1 inner' env1)).part
    (λ p. Ok (P.InBfsBoth env.key at (search_of root p.0 p.1.0) p.1.1.0.0 p.1.1.0.1 p.1.1.1.0 p.1.1.1.1.0 p.1.1.1.1.1))
    (if-both (λ o. Unit {0}) (λ p. Unit {0} × (AreCode n ps p.1.0 × ((p.1.1.0 ≡ operators m) × AreCode m rs p.1.1.1))) x.part (iterated v 1 inner' env1).part (anything x.part)
    (if-both (λ j. Unit {0}) (λ p. AreCode n ps p.0 × ((p.1.0 ≡ operators m) × AreCode m rs p.1.1)) i.part (inner' env2).part tt
    (if-both (AreCode n ps) (λ q. (q.0 ≡ operators m) × AreCode m rs q.1) y.part (numbered back_part env3).part
    (code-kept n filter body there-up h.0 env2 (in-loop n env st) (omega (arith, l)))
    (if-by (AreCode m rs) (λ q. (q.0 ≡ operators m) × AreCode m rs q.1) code.part (λ p. Ok (env4.key, p)) (code-kept m back_filter back back-up h.1 env4 (refl, not-zero env.depth) (omega arith)) (λ p k. (refl, k))))))
    (λ p k. both-phase n m env.key p.1.1.1.0 st.0 k.1.1.1.0 c0 (omega (arith, l)) at (search_of root p.0 p.1.0) ps rs (ascend-left (root.place ∷ ps) (qs ++ (reverse ∷ (rs ++ os))) rooted-up) root-back p.1.1.0 p.1.1.1.1 k.1.1.0 k.1.1.1.1)
phase-ordered false (S.Return at None) up sh n c0 env st = if-good InPhase (is_none env.result) T14 at (P.Return env.key at None) (λ _ ds r. (refl, (refl, refl), (refl, refl)))
phase-ordered false (S.Return at (Some e)) up sh n c0 env st =
    if-by (KeptPart InSequence sequence-kept (places_in e)) InPhase (typed e env).part (returned env.key at env.result) (sequence-typed e (ascend-tail at (places_in e) up) env (around n env st)) (λ p k. returned-phase env.key at (places_in e) env.result p k)

-- the program of a text is ordered, and can be hoisted
abbrev pub Orders : Program → Type 0
Orders q = uncanonical q ≡ [] → (is_ordered q ≡ true) × (stands_throughout q ≡ true) × (stands_throughout (with_negative_literals q) ≡ true)

pub elaborated-ordered : (p : SurfaceProcedure) → ascend (places_of p.body) ≡ true → shaped true p.body ≡ true → (env_of_body p).depth ≡ 0 → IfPart Orders (elaborated p).part
elaborated-ordered p up sh d =
    let params = all_parameters p in
    let env = env_of_body p in
    let note = noted (tt {0}) (head_broken p) in
    let body = numbered (checked p.body) env in
    if-by (λ q. Unit {0} × (Unit {0} × InPhase q.1.1)) Orders (beside params (beside note body)).part _
    (if-both (λ u. Unit {0}) (λ q. Unit {0} × InPhase q.1) params.part (beside note body).part (anything params.part)
    (if-both (λ u. Unit {0}) InPhase note.part body.part tt (phase-ordered true p.body up sh env.number tt (numbered_env env) (numbered-follows env d))))
    (λ q k r. let x = k.1.1 _ r in (x.0, both_true x.1.0 x.1.1, both_true x.2.0 x.2.1))
