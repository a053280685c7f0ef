-- Statements that have types tell values alone.
use Rattle.std.proofs.Common.{◌≡◌, ◌+◌, ℕ, Bool, true, false, List, [], ◌∷◌, map, refl, sym, Option, Some, None}
use Rattle.std.specs.Prelude.{◌&&◌, ◌||◌, nat_eq, is_none, Ok}
use Rattle.std.specs.Cmp.Derive.{both_true}
use Rattle.std.proofs.lemmas.Bool.{both_ways, eq-eqb, or_left}
use Rattle.gm_base.specs.declared.places.Place.{Place}
use Rattle.gm_base.specs.declared.rules.Rule.{Rule}
use Rattle.gm_base.specs.declared.rules.Rule.TheVariants.{T7, T9, T11, T14}
use Rattle.gm_value.specs.declared.values.VType.{VType}
use Rattle.gm_value.specs.declared.values.VType.TheVariants.{I32, I64, Flag, Node}
use Rattle.gm_value.specs.declared.reductions.Reduce.{Reduce}
use Rattle.gm_value.specs.declared.reductions.Reduce.TheVariants.{Sum}
use Rattle.gm_ast.specs.declared.tree.Declaration.{Declaration}
use Rattle.gm_ast.specs.declared.tree.Head.{Head}
use Rattle.gm_ast.specs.declared.tree.Key.{Key}
use Rattle.gm_ast.specs.declared.tree.Sort.{Sort}
use Rattle.gm_ast.specs.declared.tree.Sort.TheVariants as Sorts
use Rattle.gm_ast.specs.declared.kinds.Role.TheVariants.{Local}
use Rattle.gm_ast.specs.declared.kinds.Binding.{Binding}
use Rattle.gm_ast.specs.declared.kinds.Goal.{Goal}
use Rattle.gm_ast.specs.declared.surface.LoopWord.{LoopWord}
use Rattle.gm_ast.specs.declared.surface.LoopWord.TheVariants as Loops
use Rattle.gm_ast.specs.Surface.{SurfaceName, SurfaceType, SurfaceTarget, SurfaceExpr, SurfaceStmt}
use Rattle.gm_ast.specs.Surface as S
use Rattle.gm_ast.specs.Program as P
use Rattle.gm_ast.specs.Program.{Expr, Stmt}
use Rattle.gm_ast.specs.Judged.{Judged, judge, beside, noted, ok_of, refused_unless, then_answer}
use Rattle.gm_ast.specs.Names.{Env, is, known_as, used, both, iterated, numbered}
use Rattle.gm_ast.specs.Kinds.{Part, fitted}
use Rattle.gm_ast.specs.Typing.{typed, start_of, ranged, head_with}
use Rattle.gm_ast.specs.Ways.{is_in}
use Rattle.gm_ast.specs.Statements.{type_broken, sort_of, vtype_of, variable_of, declared_all, following, goal, fits_goal, at_iterator, total_at, reduces, first_wanted, fits_each, all_answers, combined, one_of, incremented, goals_together, typed_all, reduced, plain_declarations, declarations_as, known_after, edge_declared, edge_owner, declared_value, declared_typed, declared_with, names_graph, group_goal, group_target, in_group, grouped, assigned, deferred, assignment, returned, rooted, graph_searched, search_of, loops_of, loop_of, test, searched, checked}
use Rattle.gm_ready.proofs.Tables.{has-append}
use Rattle.gm_ready.proofs.Judging.{IfPart, if-both, if-good, if-then, if-known, append-empty, Gives, gives-judge, gives-if, IsIterator}
use Rattle.gm_ready.proofs.Statements.{if-with}
use Rattle.gm_typed_stores.specs.Tells.{TypeTable, takes_nodes, tells, all_tell, tells_in}
use Rattle.gm_well_typed.proofs.Known.{IsKnown, known-is, Surrounds, after, Told, gives-then, told-both, told-iterated, told-numbered}
use Rattle.gm_well_typed.proofs.Expressions.{nodes-taken, Tells, TellsPart, fitted-tells, condition-tells, ranged-known, iterator-takes, typed-tells}
use Rattle.gm_well_typed.proofs.Declarations.{known-behind}

pub anything : {A : Type 0} (o : Option A) → IfPart (λ a. Unit {0}) o
anything None = tt
anything (Some a) = tt

module _ (table : TypeTable) (g : ℕ) where
  abbrev ds : List Declaration
  ds = table.declarations

  abbrev inputs : ℕ
  inputs = table.inputs

  -- outside of group assignments an expression, and a statement, tell values alone
  abbrev TellsHere : Expr → Type 0
  TellsHere e = Tells table g false e

  abbrev PartHere : Part → Type 0
  PartHere p = TellsPart table g false p

  abbrev pub TellsStmt : Stmt → Type 0
  TellsStmt s = (its : List ℕ) → tells_in table its s ≡ true

  abbrev In : {A : Type 0} → (A → Type 0) → (Env → Judged A) → Type 0
  In P part = Told ds inputs g P false part

  abbrev Nothing : {A : Type 0} → A → Type 0
  Nothing a = Unit {0}

  here : (e : Expr) → TellsHere e → (its : List ℕ) → tells table its e ≡ true
  here e h its = h its (λ q. absurd (both_ways false refl q))

  nothing : {A : Type 0} (part : Env → Judged A) → In Nothing part
  nothing part env e known has clean = anything (part env).part

  fits-here : (w : Option VType) (rule : Rule) (at : Place) (p : Part) → PartHere p → IfPart TellsHere (ok_of (fits_goal w rule at p))
  fits-here None rule at p h = tt
  fits-here (Some t) rule at p h = fitted-tells table g false t rule at p h

  -- ---- reduction assignments

  abbrev AllHere : List Part → Type 0
  AllHere [] = Unit {0}
  AllHere (p ∷ ps) = PartHere p × AllHere ps

  abbrev AllTell : List Expr → Type 0
  AllTell es = (its : List ℕ) → all_tell table its es ≡ true

  typed_all-tell : (es : List SurfaceExpr) → In AllHere (typed_all es)
  typed_all-tell [] env e known = λ has clean. tt
  typed_all-tell (x ∷ es) env e known =
      gives-judge ds (λ p. PartHere p.0 × AllHere p.1) AllHere env.next (both (typed x) (typed_all es) env) (λ p. Ok (p.0 ∷ p.1))
      (told-both ds inputs g PartHere AllHere false (typed x) (typed_all es) (typed-tells table g false x) (typed_all-tell es) env e known) (λ p h. h)

  fits-all : (at : Place) (gs : List Goal) (ps : List Part) → AllHere ps → IfPart AllTell (ok_of (all_answers (fits_each at gs ps)))
  fits-all at [] [] h = λ its. refl
  fits-all at [] (p ∷ ps) h = tt
  fits-all at (x ∷ gs) [] h = tt
  fits-all at (x ∷ gs) (p ∷ ps) h =
      if-with ds TellsHere AllTell AllTell (λ e es. e ∷ es) (fits_goal x.wanted T9 at p) (all_answers (fits_each at gs ps))
      (fits-here x.wanted T9 at p h.0) (fits-all at gs ps h.1) (λ e es n m its. both_true (here e n its) (m its))

  combined-tells : (k : Key) (at : Place) (r : Reduce) (ps : List Goal × List Part) → AllHere ps.1 → IfPart TellsStmt (ok_of (combined k at r ps))
  combined-tells k at r ps h =
      if-with ds Nothing AllTell TellsStmt (λ u es. P.Combine k (total_at k at) r (map (λ x. x.target) ps.0) es)
      (refused_unless (reduces r (first_wanted ps.0)) T11 at (tt {0})) (all_answers (fits_each at ps.0 ps.1))
      (anything (ok_of (refused_unless (reduces r (first_wanted ps.0)) T11 at (tt {0})))) (fits-all at ps.0 ps.1 h) (λ u es a m. m)

  reduced-tells : (ts : List SurfaceTarget) (r : Reduce) (at : Place) (es : List SurfaceExpr) → In TellsStmt (reduced ts r at es)
  reduced-tells ts r at es env e known =
      gives-judge ds (λ p. Unit {0} × AllHere p.1) TellsStmt env.next (both (goals_together ts) (typed_all es) env) (combined env.key at r)
      (told-both ds inputs g Nothing AllHere false (goals_together ts) (typed_all es) (nothing (goals_together ts)) (typed_all-tell es) env e known) (λ p h. combined-tells env.key at r p h.1)

  one-tells : (k : Key) (at : Place) (x : Goal) (w : Option VType) → IfPart TellsStmt (ok_of (then_answer (one_of w at) (λ e. P.Combine k (total_at k at) Sum (x.target ∷ []) (e ∷ []))))
  one-tells k at x None = tt
  one-tells k at x (Some I32) = λ its. refl
  one-tells k at x (Some I64) = λ its. refl
  one-tells k at x (Some Flag) = tt
  one-tells k at x (Some Node) = tt

  -- ---- declarations

  plain-tells : (k : Key) (ns : List ℕ) → TellsStmt (plain_declarations k ns)
  plain-tells k [] its = refl
  plain-tells k (n ∷ ns) its = plain-tells k ns its

  declarations-tell : (s : Sort) (k : Key) (xs : List SurfaceName) (ns : List ℕ) → IfPart TellsStmt (ok_of (declarations_as s k xs ns))
  declarations-tell Sorts.Edge k xs ns = tt
  declarations-tell Sorts.Graph k xs ns = plain-tells k ns
  declarations-tell Sorts.Iterator k xs ns = plain-tells k ns
  declarations-tell Sorts.Scalar k xs ns = plain-tells k ns
  declarations-tell Sorts.NodeProperty k xs ns = plain-tells k ns
  declarations-tell Sorts.EdgeProperty k xs ns = plain-tells k ns

  declared-tells : (k : Key) (x : SurfaceName) (at : Place) (t : VType) (s : Sort) (p : ℕ × Part) → PartHere p.1 → IfPart TellsStmt (ok_of (declared_value k x at t s p))
  declared-tells k x at t Sorts.Scalar p h = if-then TellsHere TellsStmt (fitted t T9 at p.1) (λ e. P.Declare k p.0 (Some e)) (fitted-tells table g false t T9 at p.1 h) (λ e n its. here e n its)
  declared-tells k x at t Sorts.Edge p h = tt
  declared-tells k x at t Sorts.Graph p h = tt
  declared-tells k x at t Sorts.Iterator p h = tt
  declared-tells k x at t Sorts.NodeProperty p h = tt
  declared-tells k x at t Sorts.EdgeProperty p h = tt

  with-tells : (o : Option SurfaceName) (t : SurfaceType) (x : SurfaceName) (at : Place) (a : SurfaceExpr) → In TellsStmt (declared_with o t x at a)
  with-tells (Some y) t x at a env e known =
      gives-judge ds Nothing TellsStmt env.next (both (declared_typed t x) (edge_owner y) env) (λ p. Ok (P.DeclareEdge p.0 p.1.index y.place)) (nothing (both (declared_typed t x) (edge_owner y)) env e known) (λ p u its. refl)
  with-tells None t x at a env e known =
      gives-judge ds (λ p. Unit {0} × PartHere p.1) TellsStmt env.next (both (declared_typed t x) (typed a) env) (declared_value env.key x at (vtype_of t) (sort_of t))
      (told-both ds inputs g Nothing PartHere false (declared_typed t x) (typed a) (nothing (declared_typed t x)) (typed-tells table g false a) env e known)
      (λ p h. declared-tells env.key x at (vtype_of t) (sort_of t) p h.1)

  -- ---- assignments

  assigned-tells : (t : SurfaceTarget) (at : Place) (a : SurfaceExpr) → In TellsStmt (assigned t at a)
  assigned-tells t at a env e known =
      gives-judge ds (λ p. Unit {0} × PartHere p.1) TellsStmt env.next (both (goal false t) (typed a) env) (λ p. then_answer (fits_goal p.0.wanted T9 at p.1) (P.Assign env.key p.0.target))
      (told-both ds inputs g Nothing PartHere false (goal false t) (typed a) (nothing (goal false t)) (typed-tells table g false a) env e known)
      (λ p h. if-then TellsHere TellsStmt (fits_goal p.0.wanted T9 at p.1) (P.Assign env.key p.0.target) (fits-here p.0.wanted T9 at p.1 h.1) (λ x n its. here x n its))

  deferred-tells : (t : SurfaceTarget) (at : Place) (a : SurfaceExpr) → In TellsStmt (deferred t at a)
  deferred-tells t at a env e known =
      gives-judge ds (λ p. Unit {0} × PartHere p.1) TellsStmt env.next (both (goal true t) (typed a) env) (λ p. then_answer (fits_goal p.0.wanted T9 at p.1) (P.Defer env.key p.0.target))
      (told-both ds inputs g Nothing PartHere false (goal true t) (typed a) (nothing (goal true t)) (typed-tells table g false a) env e known)
      (λ p h. if-then TellsHere TellsStmt (fits_goal p.0.wanted T9 at p.1) (P.Defer env.key p.0.target) (fits-here p.0.wanted T9 at p.1 h.1) (λ x n its. here x n its))

  -- the graph of a group assignment
  abbrev IsTheGraph : Binding → Type 0
  IsTheGraph b = IsKnown ds inputs g b × (is Sorts.Graph b.variable ≡ true)

  the-graph : (o : Option Binding) → IfPart (IsKnown ds inputs g) o → names_graph o ≡ true → IfPart IsTheGraph o
  the-graph None h k = tt
  the-graph (Some b) h k = (h, k)

  abbrev IsTheGoal : ℕ × (ℕ × VType) → Type 0
  IsTheGoal x = (takes_nodes table x.0 ≡ true) × (x.0 ≡ g)

  goal-graph : (at : Place) (bs : Binding × Binding) → IsTheGraph bs.0 → IfPart IsTheGoal (ok_of (group_goal at bs))
  goal-graph at bs h =
      if-good IsTheGoal (is Sorts.NodeProperty bs.1.variable) T7 at (bs.0.index, (bs.1.index, bs.1.variable.vtype))
      (λ p. (nodes-taken table bs.0 h.0.bound (iterates (is Sorts.Iterator bs.0.variable) (is Sorts.Graph bs.0.variable) h.1), h.0.graph h.1))
    where
      iterates : (a b : Bool) → b ≡ true → a || b ≡ true
      iterates true b h = refl
      iterates false b h = h

  grouped-tells : (x p : SurfaceName) (at : Place) (a : SurfaceExpr) (env : Env) → env.group ≡ false → Surrounds ds inputs g env → names_graph (known_as env.known x.text) ≡ true → Gives ds TellsStmt env.next (grouped x p at a env)
  grouped-tells x p at a env e known graph =
      let PartThere = TellsPart table g true in
      let ends = both (used x) (used p) env in
      gives-judge ds (λ ps. IsTheGoal ps.0 × PartThere ps.1) TellsStmt env.next (both (group_target x p) (in_group (typed a)) env)
      (λ ps. then_answer (fitted ps.0.1.1 T9 at ps.1) (P.Group env.key x.place ps.0.0 ps.0.1.0))
      (gives-then ds inputs g IsTheGoal PartThere (group_target x p) (in_group (typed a)) false env e known
      (gives-judge ds (λ bs. IsTheGraph bs.0 × Unit {0}) IsTheGoal env.next ends (group_goal x.place)
      (gives-then ds inputs g IsTheGraph Nothing (used x) (used p) false env e known
      (λ has clean. if-known ds IsTheGraph x (known_as env.known x.text) (the-graph (known_as env.known x.text) (known-is ds inputs g env.known x.text known.known) graph)) (nothing (used p)))
      (λ bs h. goal-graph x.place bs h.0))
      (λ env e known. typed-tells table g true a (record env { group = true; depth = env.depth + 1 }) refl (record { known = known.known; behind = known.behind })))
      (λ ps h. if-then (Tells table g true) TellsStmt (fitted ps.0.1.1 T9 at ps.1) (P.Group env.key x.place ps.0.0 ps.0.1.0) (fitted-tells table g true ps.0.1.1 T9 at ps.1 h.1)
      (λ v n its. both_true h.0.0 (n (ps.0.0 ∷ its) (λ q. or_left (nat_eq g ps.0.0) (is_in its g) (eq-eqb g ps.0.0 (sym h.0.1))))))

  assignment-tells : (o : Option SurfaceName) (t : SurfaceTarget) (at : Place) (a : SurfaceExpr) → In TellsStmt (assignment o t at a)
  assignment-tells None t at a env e known = assigned-tells t at a env e known
  assignment-tells (Some p) t at a env e known =
      gives-if ds TellsStmt env.next (names_graph (known_as env.known t.owner.text)) (grouped t.owner p at a env) (assigned t at a env)
      (λ k. grouped-tells t.owner p at a env e known k) (λ _. assigned-tells t at a env e known)

  returned-tells : (k : Key) (at : Place) (o : Option VType) (p : Part) → PartHere p → IfPart TellsStmt (ok_of (returned k at o p))
  returned-tells k at None p h = tt
  returned-tells k at (Some t) p h = if-then TellsHere TellsStmt (fitted t T14 at p) (λ e. P.Return k at (Some e)) (fitted-tells table g false t T14 at p h) (λ e n its. here e n its)

  -- ---- statements

  test-tells : (a : SurfaceExpr) → In TellsHere (test a)
  test-tells a = condition-tells table g false (start_of a) (typed a) (typed-tells table g false a)

  -- a filter, and a body behind it
  abbrev AreTold : Expr × Stmt → Type 0
  AreTold p = TellsHere p.0 × TellsStmt p.1

  code : (p : Expr × Stmt) → AreTold p → (its : List ℕ) → tells table its p.0 && tells_in table its p.1 ≡ true
  code p h its = both_true (here p.0 h.0 its) (h.1 its)

  loop-tells : (word : LoopWord) (k : Key) (at : Place) (h : Head) (e : Expr) (s : Stmt) → takes_nodes table h.iterator ≡ true → AreTold (e, s) → TellsStmt (loop_of word k at h e s)
  loop-tells Loops.Foreach k at h e s takes c its = both_true takes (code (e, s) c (h.iterator ∷ its))
  loop-tells Loops.For k at h e s takes c its = both_true takes (code (e, s) c (h.iterator ∷ its))

  beside-iterator : (part : Env → Judged Stmt) (x : Option SurfaceName) → In TellsStmt part → (env : Env) → env.group ≡ false → Surrounds ds inputs g env
      → Gives ds TellsStmt env.next (judge (both part (at_iterator x) env) (λ p. Ok p.0))
  beside-iterator part x good env e known = gives-judge ds (λ p. TellsStmt p.0 × Unit {0}) TellsStmt env.next (both part (at_iterator x) env) (λ p. Ok p.0)
      (told-both ds inputs g TellsStmt Nothing false part (at_iterator x) good (nothing (at_iterator x)) env e known) (λ p h. h.0)

  pub checked-tells : (s : SurfaceStmt) → Told ds inputs g TellsStmt false (checked s)
  checked-tells S.Skip env e known = λ has clean. λ its. refl
  checked-tells (S.Then a b) env e known =
      let x = numbered (checked a) env in
      let next = following a env x in
      gives-judge ds (λ p. TellsStmt p.0 × TellsStmt p.1) TellsStmt env.next (beside x (checked b next)) (λ p. Ok (P.Then p.0 p.1))
      (λ has clean.
      let parts = has-append ds env.next x.declared (checked b next).declared has in
      let none = append-empty x.broken (checked b next).broken clean in
      let names = known-behind ds inputs g a env known.known parts.0 none.0 in
      let within : Surrounds ds inputs g (record env { known = known_after a env }) = record { known = names; behind = known.behind } in
      if-both TellsStmt TellsStmt x.part (checked b next).part (told-numbered ds inputs g TellsStmt false (checked a) (checked-tells a) env e known parts.0 none.0)
      (checked-tells b next e (after ds inputs g (record env { known = known_after a env }) x within) parts.1 none.1))
      (λ p h its. both_true (h.0 its) (h.1 its))
  checked-tells (S.Declare t xs) env e known =
      let parts = λ (env : Env). beside (noted (tt {0}) (type_broken t Local env)) (declared_all (variable_of t env.depth) xs env) in
      gives-judge ds Nothing TellsStmt env.next (parts env) (λ p. declarations_as (sort_of t) env.key xs p.1) (nothing parts env e known) (λ p u. declarations-tell (sort_of t) env.key xs p.1)
  checked-tells (S.DeclareAs t x at a) env e known = with-tells (edge_declared t a) t x at a env e known
  checked-tells (S.Assign t at a) env e known = assignment-tells t.property t at a env e known
  checked-tells (S.Defer t at a iterator) env e known = beside-iterator (deferred t at a) iterator (deferred-tells t at a) env e known
  checked-tells (S.Combine ts r at es iterator) env e known = beside-iterator (reduced ts r at es) iterator (reduced-tells ts r at es) env e known
  checked-tells (S.Increment t at) env e known =
      gives-judge ds Nothing TellsStmt env.next (goal false t env) (incremented env.key at) (nothing (goal false t) env e known) (λ x u. one-tells env.key at x x.wanted)
  checked-tells (S.Call r f es xs) env e known = λ has clean. tt
  checked-tells (S.Loop at word h filter body) env e known =
      let parts = both (test filter) (numbered (checked body)) in
      let Q = λ (p : ℕ × (Expr × Stmt)). IsIterator ds p.0 × AreTold p.1 in
      gives-judge ds (λ p. Unit {0} × Q p.1) TellsStmt env.next (both (ranged h) (iterated h.iterator (loops_of word) parts) env)
      (λ p. Ok (loop_of word env.key at (head_with h p.0 p.1.0) p.1.1.0 p.1.1.1))
      (told-both ds inputs g Nothing Q false (ranged h) (iterated h.iterator (loops_of word) parts) (ranged-known table g false h)
      (told-iterated ds inputs g AreTold false h.iterator (loops_of word) parts
      (told-both ds inputs g TellsHere TellsStmt false (test filter) (numbered (checked body)) (test-tells filter) (told-numbered ds inputs g TellsStmt false (checked body) (checked-tells body)))) env e known)
      (λ p k. loop-tells word env.key at (head_with h p.0 p.1.0) p.1.1.0 p.1.1.1 (iterator-takes table g false p.1.0 k.1.0) k.1.1)
  checked-tells (S.If at c a b) env e known =
      let first = numbered (checked a) in
      let second = numbered (checked b) in
      let Q = λ (p : Stmt × Stmt). TellsStmt p.0 × TellsStmt p.1 in
      gives-judge ds (λ p. TellsHere p.0 × Q p.1) TellsStmt env.next (both (test c) (both first second) env) (λ p. Ok (P.If env.key p.0 p.1.0 p.1.1))
      (told-both ds inputs g TellsHere Q false (test c) (both first second) (test-tells c)
      (told-both ds inputs g TellsStmt TellsStmt false first second (told-numbered ds inputs g TellsStmt false (checked a) (checked-tells a)) (told-numbered ds inputs g TellsStmt false (checked b) (checked-tells b))) env e known)
      (λ p h its. both_true (here p.0 h.0 its) (both_true (h.1.0 its) (h.1.1 its)))
  checked-tells (S.While at c body) env e known =
      gives-judge ds AreTold TellsStmt env.next (both (test c) (numbered (checked body)) env) (λ p. Ok (P.While env.key at p.0 p.1))
      (told-both ds inputs g TellsHere TellsStmt false (test c) (numbered (checked body)) (test-tells c) (told-numbered ds inputs g TellsStmt false (checked body) (checked-tells body)) env e known)
      (λ p h its. code p h its)
  checked-tells (S.Do at body c) env e known =
      gives-judge ds (λ p. TellsStmt p.0 × TellsHere p.1) TellsStmt env.next (both (numbered (checked body)) (test c) env) (λ p. Ok (P.Do env.key at p.0 p.1))
      (told-both ds inputs g TellsStmt TellsHere false (numbered (checked body)) (test c) (told-numbered ds inputs g TellsStmt false (checked body) (checked-tells body)) (test-tells c) env e known)
      (λ p h its. both_true (h.0 its) (here p.1 h.1 its))
  checked-tells (S.InBfs at v gr root filter body) env e known =
      let parts = both (test filter) (numbered (checked body)) in
      let ends = both (graph_searched gr) (rooted root) in
      let Q = λ (p : ℕ × (Expr × Stmt)). IsIterator ds p.0 × AreTold p.1 in
      gives-judge ds (λ p. Unit {0} × Q p.1) TellsStmt env.next (both ends (iterated v 1 parts) env) (λ p. Ok (P.InBfs env.key at (search_of root p.0 p.1.0) p.1.1.0 p.1.1.1))
      (told-both ds inputs g Nothing Q false ends (iterated v 1 parts) (nothing ends)
      (told-iterated ds inputs g AreTold false v 1 parts
      (told-both ds inputs g TellsHere TellsStmt false (test filter) (numbered (checked body)) (test-tells filter) (told-numbered ds inputs g TellsStmt false (checked body) (checked-tells body)))) env e known)
      (λ p k its. both_true (iterator-takes table g false p.1.0 k.1.0) (code p.1.1 k.1.1 (p.1.0 ∷ its)))
  checked-tells (S.InBfsBoth at v gr root filter body reverse back_filter back) env e known =
      let forth = both (test filter) (numbered (checked body)) in
      let inner = searched (test back_filter) (numbered (checked back)) in
      let parts = both forth (numbered inner) in
      let ends = both (graph_searched gr) (rooted root) in
      let Back = λ (p : Key × (Expr × Stmt)). AreTold p.1 in
      let Both = λ (p : (Expr × Stmt) × (Key × (Expr × Stmt))). AreTold p.0 × AreTold p.1.1 in
      let Q = λ (p : ℕ × ((Expr × Stmt) × (Key × (Expr × Stmt)))). IsIterator ds p.0 × Both p.1 in
      gives-judge ds (λ p. Unit {0} × Q p.1) TellsStmt env.next (both ends (iterated v 1 parts) env)
      (λ p. Ok (P.InBfsBoth env.key at (search_of root p.0 p.1.0) p.1.1.0.0 p.1.1.0.1 p.1.1.1.0 p.1.1.1.1.0 p.1.1.1.1.1))
      (told-both ds inputs g Nothing Q false ends (iterated v 1 parts) (nothing ends)
      (told-iterated ds inputs g Both false v 1 parts
      (told-both ds inputs g AreTold Back false forth (numbered inner)
      (told-both ds inputs g TellsHere TellsStmt false (test filter) (numbered (checked body)) (test-tells filter) (told-numbered ds inputs g TellsStmt false (checked body) (checked-tells body)))
      (told-numbered ds inputs g Back false inner
      (λ env e known. gives-judge ds AreTold Back env.next (both (test back_filter) (numbered (checked back)) env) (λ p. Ok (env.key, p))
      (told-both ds inputs g TellsHere TellsStmt false (test back_filter) (numbered (checked back)) (test-tells back_filter) (told-numbered ds inputs g TellsStmt false (checked back) (checked-tells back)) env e known) (λ p h. h))))) env e known)
      (λ p k its.
      let i = p.1.0 ∷ its in
      both_true (iterator-takes table g false p.1.0 k.1.0)
      (both_true (here p.1.1.0.0 k.1.1.0.0 i) (both_true (k.1.1.0.1 i) (code p.1.1.1.1 k.1.1.1 i))))
  checked-tells (S.Return at None) env e known = λ has clean. if-good TellsStmt (is_none env.result) T14 at (P.Return env.key at None) (λ _ its. refl)
  checked-tells (S.Return at (Some a)) env e known =
      gives-judge ds PartHere TellsStmt env.next (typed a env) (returned env.key at env.result) (typed-tells table g false a env e known) (λ p h. returned-tells env.key at env.result p h)
