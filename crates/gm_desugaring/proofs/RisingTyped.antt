-- The keys of reductions rise in the sequential phase of a program that breaks no rule of types.
use Rattle.std.proofs.Common.{◌≡◌, ◌+◌, ℕ, Bool, true, false, List, [], ◌∷◌, ◌++◌, map, refl, sym, ap, subst, ◌∙◌, arith, Option, Some, None}
use Rattle.std.specs.Prelude.{◌&&◌, ◌||◌, if◌then◌else◌, nat_eq, nat_lt, is_none, Ok, Err}
use Rattle.std.specs.List.{list_all}
use Rattle.std.specs.Cmp.Derive.{both_true}
use Rattle.std.proofs.lemmas.Bool.{eq-eqb, ne_eqb, lt-ltb}
use Rattle.gm_base.specs.declared.places.Place.{Place}
use Rattle.gm_base.specs.declared.rules.Rule.{Rule}
use Rattle.gm_base.specs.declared.rules.Rule.TheVariants.{T8, T9, T10, T11, T14}
use Rattle.gm_value.specs.declared.values.VType.{VType}
use Rattle.gm_value.specs.declared.values.VType.TheVariants.{I32, I64, Flag, Node}
use Rattle.gm_value.specs.declared.reductions.Reduce.{Reduce}
use Rattle.gm_value.specs.declared.reductions.Reduce.TheVariants as R
use Rattle.gm_ast.specs.declared.tree.Head.{Head}
use Rattle.gm_ast.specs.declared.tree.Key.{Key}
use Rattle.gm_ast.specs.declared.tree.Sort.{Sort}
use Rattle.gm_ast.specs.declared.tree.Sort.TheVariants as Sorts
use Rattle.gm_ast.specs.declared.tree.Stage.{Stage}
use Rattle.gm_ast.specs.declared.tree.Stage.TheVariants.{Inner, Operator, Total}
use Rattle.gm_ast.specs.declared.tree.Variable.{Variable}
use Rattle.gm_ast.specs.declared.kinds.Goal.{Goal}
use Rattle.gm_ast.specs.declared.kinds.Kind.{Kind}
use Rattle.gm_ast.specs.declared.kinds.Kind.TheVariants as Kinds
use Rattle.gm_ast.specs.declared.kinds.Reducer.{Reducer}
use Rattle.gm_ast.specs.declared.kinds.Role.TheVariants.{Local}
use Rattle.gm_ast.specs.declared.surface.LoopWord.TheVariants as Loop
use Rattle.gm_ast.specs.declared.surface.ReductionWord.{ReductionWord}
use Rattle.gm_ast.specs.declared.surface.ReductionWord.TheVariants as W
use Rattle.gm_ast.specs.Surface.{SurfaceName, SurfaceType, SurfaceTarget, SurfaceHead, SurfaceExpr, SurfaceStmt, SurfaceGroup, SurfaceProcedure, Reduction}
use Rattle.gm_ast.specs.Surface as S
use Rattle.gm_ast.specs.Keys.{stage_rank}
use Rattle.gm_ast.specs.Program as P
use Rattle.gm_ast.specs.Program.{Expr, Stmt, Program}
use Rattle.gm_ast.specs.Judged.{Judged, Answer, beside, judge, noted, ok_of, refused_unless, then_answer}
use Rattle.gm_ast.specs.Names.{Env, known_as, both, iterated, inside, keyed, counted, later, numbered, declared_as, an_iterator, operators_of, with_name}
use Rattle.gm_ast.specs.Kinds.{Part, narrowed, fitted, settled, is_number, is_flag}
use Rattle.gm_ast.specs.Typing.{typed, condition, start_of, ranged, head_with, fold_of, folded, of_numbers_as, of_conditions, reduction_part, reduction_rule, reducer_at, fold_numbers, is_sequential, inner_key, fold_key}
use Rattle.gm_ast.specs.Statements.{answers_with, group_target, in_group, goal, fits_goal, reduces, first_wanted, total_at, fits_each, all_answers, combined, one_of, incremented, typed_all, goals_together, reduced, names_graph, grouped, assigned, deferred, assignment, at_iterator, returned, type_broken, sort_of, vtype_of, variable_of, with_names, declared_all, plain_declarations, declarations_as, edge_declared, edge_owner, declared_value, declared_typed, declared_with, following, loop_of, test, graph_searched, rooted, search_of, searched, checked}
use Rattle.gm_ast.specs.Procedures.{nothing_known, with_parameters, env_of_outputs, env_of_body, result_of, elaborated, all_parameters, head_broken, IsTyped}
use Rattle.gm_forms.proofs.Weaker.{and-true}
use Rattle.gm_ready.proofs.Judging.{IfPart, if-by, if-both, if-good, if-then}
use Rattle.gm_desugar.proofs.Longer.{two}
use Rattle.gm_desugaring.proofs.Keeping.{anything, IsKept, Keeps, settled-kept, fitted-kept, condition-kept, typed-kept}
use Rattle.gm_reductions.specs.Keys.{key_lt, keys_in, all_under, all_over, rises, all_rise}

-- ---- small steps

if-with : {A B C : Type 0} (P : A → Type 0) (Q : B → Type 0) (R : C → Type 0) (f : A → B → C) (x : Answer A) (y : Answer B)
    → IfPart P (ok_of x) → IfPart Q (ok_of y) → ((a : A) (b : B) → P a → Q b → R (f a b)) → IfPart R (ok_of (answers_with f x y))
if-with P Q R f (Ok a) (Ok b) h k both = both a b h k
if-with P Q R f (Ok a) (Err rs) h k both = tt
if-with P Q R f (Err es) (Ok b) h k both = tt
if-with P Q R f (Err es) (Err rs) h k both = tt

if-judged : {A : Type 0} (P : A → Type 0) (c : Bool) (x y : Judged A) → IfPart P x.part → IfPart P y.part → IfPart P (if c then x else y).part
if-judged P true x y h k = h
if-judged P false x y h k = k

beside-iterator : (Q : Stmt → Type 0) (part : Env → Judged Stmt) (x : Option SurfaceName) (env : Env) → IfPart Q (part env).part → IfPart Q (judge (both part (at_iterator x) env) (λ p. Ok p.0)).part
beside-iterator Q part x env h =
    let o = at_iterator x (later env (part env)) in
    if-by (λ p. Q p.0 × Unit {0}) Q (both part (at_iterator x) env).part (λ p. Ok p.0) (if-both Q (λ n. Unit {0}) (part env).part o.part h (anything o.part)) (λ p k. k.0)

abbrev numbered_env : Env → Env
numbered_env env = record env { number = env.number + 1; key = operators_of env.number }

not-zero : (d : ℕ) → nat_eq (d + 1) 0 ≡ false
not-zero d = ne_eqb (d + 1) 0 (λ e. omega (arith, e))

-- the key of what stands in the reductions of a statement
abbrev inner : ℕ → Key
inner n = record { statement = n; stage = Inner }

-- parallel code under a number
abbrev Parallel : ℕ → Key → ℕ → Type 0
Parallel n k d = (k.statement ≡ n) × (nat_eq d 0 ≡ false)

-- ---- keys that are all one

abbrev AllAre : Key → List Key → Type 0
AllAre k [] = Unit {0}
AllAre k (j ∷ js) = (j ≡ k) × AllAre k js

all-both : (k : Key) (xs ys : List Key) → AllAre k xs → AllAre k ys → AllAre k (xs ++ ys)
all-both k [] ys h g = g
all-both k (x ∷ xs) ys h g = (h.0, all-both k xs ys h.1 g)

-- they come before another key where that one does, and after it likewise
under-one : (k j : Key) (ks : List Key) → key_lt k j ≡ true → AllAre k ks → all_under j ks ≡ true
under-one k j [] h a = refl
under-one k j (x ∷ ks) h a = and-true (key_lt x j) (all_under j ks) (ap (λ y. key_lt y j) a.0 ∙ h) (under-one k j ks h a.1)

over-one : (k j : Key) (ks : List Key) → key_lt j k ≡ true → AllAre k ks → all_over j ks ≡ true
over-one k j [] h a = refl
over-one k j (x ∷ ks) h a = and-true (key_lt j x) (all_over j ks) (ap (key_lt j) a.0 ∙ h) (over-one k j ks h a.1)

-- ---- what typing keeps of them

narrow-keys : (e : Expr) → keys_in (narrowed e) ≡ keys_in e
narrow-keys (P.Unary op at e) = narrow-keys e
narrow-keys (P.Binary op at a b) = two (λ xs ys. xs ++ ys) (keys_in (narrowed a)) (keys_in a) (keys_in (narrowed b)) (keys_in b) (narrow-keys a) (narrow-keys b)
narrow-keys (P.Choose c a b) = ap (λ xs. keys_in c ++ xs) (two (λ xs ys. xs ++ ys) (keys_in (narrowed a)) (keys_in a) (keys_in (narrowed b)) (keys_in b) (narrow-keys a) (narrow-keys b))
narrow-keys _ = refl

narrow-rises : (e : Expr) → rises (narrowed e) ≡ rises e
narrow-rises (P.Unary op at e) = narrow-rises e
narrow-rises (P.Binary op at a b) = two (λ x y. x && y) (rises (narrowed a)) (rises a) (rises (narrowed b)) (rises b) (narrow-rises a) (narrow-rises b)
narrow-rises (P.Choose c a b) = ap (λ x. rises c && x) (two (λ x y. x && y) (rises (narrowed a)) (rises a) (rises (narrowed b)) (rises b) (narrow-rises a) (narrow-rises b))
narrow-rises _ = refl

-- an expression of parallel code, the keys of whose reductions are all one
abbrev Within : Key → Expr → Type 0
Within k e = AllAre k (keys_in e)

within-kept : (k : Key) → IsKept (Within k)
within-kept k = record {
  constant = λ v. tt;
  variable = λ x at. tt;
  property = λ x p at. tt;
  edge = λ x p at. tt;
  degree = λ d x at. tt;
  nodes = tt;
  edges = tt;
  unary = λ op at e h. h;
  binary = λ op at a b h g. all-both k (keys_in a) (keys_in b) h g;
  both = λ a b h g. all-both k (keys_in a) (keys_in b) h g;
  either = λ a b h g. all-both k (keys_in a) (keys_in b) h g;
  choose = λ c a b f h g. all-both k (keys_in c) (keys_in a ++ keys_in b) f (all-both k (keys_in a) (keys_in b) h g);
  narrow = λ e h. subst (AllAre k) (sym (narrow-keys e)) h;
}

-- an expression of a sequential phase, the keys of whose reductions rise
abbrev Rising : Expr → Type 0
Rising e = rises e ≡ true

rising-kept : IsKept Rising
rising-kept = record {
  constant = λ v. refl;
  variable = λ x at. refl;
  property = λ x p at. refl;
  edge = λ x p at. refl;
  degree = λ d x at. refl;
  nodes = refl;
  edges = refl;
  unary = λ op at e h. h;
  binary = λ op at a b h g. and-true (rises a) (rises b) h g;
  both = λ a b h g. and-true (rises a) (rises b) h g;
  either = λ a b h g. and-true (rises a) (rises b) h g;
  choose = λ c a b f h g. and-true (rises c) (rises a && rises b) f (and-true (rises a) (rises b) h g);
  narrow = λ e h. narrow-rises e ∙ h;
}

-- ---- a reduction by its word

module _ (Q1 Q2 Q3 : Expr → Type 0) (r : Reducer) (head : Head) (fold : (t : VType) (c e : Expr) → Q1 c → Q2 e → Q3 (P.Folded (fold_of r t) head c e)) (settle : (p : Part) → Q2 p.core → Q2 (settled p).core) where
  abbrev Is3 : Part → Type 0
  Is3 p = Q3 p.core

  numbers-rise : (k : Kind) (filter e : Expr) → Q1 filter → Q2 e → IfPart Is3 (ok_of (of_numbers_as k r head filter e))
  numbers-rise (Kinds.Of t) filter e f g = if-good Is3 (is_number (Kinds.Of t)) T8 r.place (folded r t head filter e) (λ _. fold t filter e f g)
  numbers-rise Kinds.Flexible filter e f g = tt
  numbers-rise Kinds.Edge filter e f g = tt

  conditions-rise : (start : Place) (t : VType) (filter : Expr) (p : Part) → Q1 filter → Q2 p.core → IfPart Is3 (ok_of (of_conditions start t r head filter p))
  conditions-rise start t filter p f g = if-good Is3 (is_flag p.kind) T10 start (folded r t head filter p.core) (λ _. fold t filter p.core f g)

  reduction-rises : (word : ReductionWord) (start : Place) (filter : Expr) (p : Part) → Q1 filter → Q2 p.core → IfPart Is3 (ok_of (reduction_part word start r head filter p))
  reduction-rises W.Sum start filter p f g = numbers-rise (settled p).kind filter (settled p).core f (settle p g)
  reduction-rises W.Product start filter p f g = numbers-rise (settled p).kind filter (settled p).core f (settle p g)
  reduction-rises W.Min start filter p f g = numbers-rise (settled p).kind filter (settled p).core f (settle p g)
  reduction-rises W.Max start filter p f g = numbers-rise (settled p).kind filter (settled p).core f (settle p g)
  reduction-rises W.Count start filter p f g = conditions-rise start I32 filter p f g
  reduction-rises W.Exist start filter p f g = conditions-rise start Flag filter p f g
  reduction-rises W.All start filter p f g = conditions-rise start Flag filter p f g

-- the parts of a reduction, and what follows from them
module _ (env : Env) (at : Place) (word : ReductionWord) (h : SurfaceHead) (filter body : SurfaceExpr) (close : Place) where
  abbrev reducer : Reducer
  reducer = reducer_at env at word close

  abbrev around : Env
  around = later env (ranged h env)

  abbrev within : Env
  within = inside (record around { number = around.number + fold_numbers env }) h.iterator 1

  abbrev filtered : Judged Expr
  filtered = keyed reducer.filter (condition (start_of filter) (typed filter)) within

  abbrev braced : Judged Part
  braced = keyed reducer.body (typed body) (later within filtered)

  part-rises : (Q1 Q2 Q3 : Expr → Type 0) → IfPart Q1 filtered.part → IfPart (λ p. Q2 p.core) braced.part → ((p : Part) → Q2 p.core → Q2 (settled p).core)
      → ((t : VType) (head : Head) (c e : Expr) → Q1 c → Q2 e → Q3 (P.Folded (fold_of reducer t) head c e)) → IfPart (λ p. Q3 p.core) (typed (Reduction at word h filter body close) env).part
  part-rises Q1 Q2 Q3 f g settle fold =
      let parts = both (keyed reducer.filter (condition (start_of filter) (typed filter))) (keyed reducer.body (typed body)) in
      if-by (λ xs. Unit {0} × (Unit {0} × (Q1 xs.1.1.0 × Q2 xs.1.1.1.core))) (λ p. Q3 p.core) (both (ranged h) (counted (fold_numbers env) (iterated h.iterator 1 parts)) env).part (reduction_rule reducer (start_of body) h)
      (if-both (λ b. Unit {0}) (λ xs. Unit {0} × (Q1 xs.1.0 × Q2 xs.1.1.core)) (ranged h env).part (counted (fold_numbers env) (iterated h.iterator 1 parts) around).part (anything (ranged h env).part)
      (if-both (λ i. Unit {0}) (λ xs. Q1 xs.0 × Q2 xs.1.core) (declared_as (record around { number = around.number + fold_numbers env }) h.iterator (an_iterator (around.depth + 1))).part (parts within).part tt
      (if-both Q1 (λ p. Q2 p.core) filtered.part braced.part f g)))
      (λ xs k. reduction-rises Q1 Q2 Q3 reducer (head_with h xs.0 xs.1.0) (λ t c e. fold t (head_with h xs.0 xs.1.0) c e) settle word (start_of body) xs.1.1.0 xs.1.1.1 k.1.1.0 k.1.1.1)

-- ---- parallel code: all reductions under one key

abbrev Around : ℕ → Env → Type 0
Around n env = Parallel n env.key env.depth

module _ (n : ℕ) where
  fold-within : (at : Place) (word : ReductionWord) (h : SurfaceHead) (filter body : SurfaceExpr) (close : Place) → Keeps (Within (inner n)) (within-kept (inner n)) (Around n) filter → Keeps (Within (inner n)) (within-kept (inner n)) (Around n) body → Keeps (Within (inner n)) (within-kept (inner n)) (Around n) (Reduction at word h filter body close)
  fold-within at word h filter body close kf kb env m =
      let Q : Expr → Type 0 = λ e. AllAre (inner n) (keys_in e) in
      let r = reducer env at word h filter body close in
      let inside' = within env at word h filter body close in
      let key : (k : ℕ) (s : Stage) → fold_key env k s ≡ inner n = λ k s. ap (λ b. if b then record { statement = env.number + k; stage = s } else inner_key env) m.1 ∙ ap inner m.0 in
      part-rises env at word h filter body close Q Q Q
      (condition-kept (Within (inner n)) (within-kept (inner n)) (start_of filter) (typed filter (record inside' { key = r.filter })) (kf (record inside' { key = r.filter }) (ap (λ (j : Key). j.statement) (key 0 Operator), not-zero env.depth)))
      (kb (record (later inside' (filtered env at word h filter body close)) { key = r.body }) (ap (λ (j : Key). j.statement) (key 1 Operator), not-zero env.depth))
      (λ p hp. settled-kept (Within (inner n)) (within-kept (inner n)) p.kind p hp)
      (λ t head c e hc he.
      all-both (inner n) (r.filter ∷ keys_in c) ((r.body ∷ keys_in e) ++ (r.total ∷ [])) (key 0 Operator, hc) (all-both (inner n) (r.body ∷ keys_in e) (r.total ∷ []) (key 1 Operator, he) (key 1 Total, tt)))

  typed-within : (e : SurfaceExpr) → Keeps (Within (inner n)) (within-kept (inner n)) (Around n) e
  typed-within e = typed-kept (Within (inner n)) (within-kept (inner n)) (Around n) (λ A env x m. m) fold-within e

-- ---- a sequential phase

abbrev Level : Env → Type 0
Level env = env.depth ≡ 0

-- keys that a text numbers
same-statement : (n : ℕ) (a b : Stage) → nat_lt (stage_rank a) (stage_rank b) ≡ true → key_lt (record { statement = n; stage = a }) (record { statement = n; stage = b }) ≡ true
same-statement n a b h = by (nat_lt n n) (ap (λ c. c && nat_lt (stage_rank a) (stage_rank b)) (eq-eqb n n refl) ∙ h)
  where
    by : (c : Bool) → nat_eq n n && nat_lt (stage_rank a) (stage_rank b) ≡ true → c || (nat_eq n n && nat_lt (stage_rank a) (stage_rank b)) ≡ true
    by true g = refl
    by false g = g

next-statement : (n : ℕ) (a b : Stage) → key_lt (record { statement = n + 0; stage = a }) (record { statement = n + 1; stage = b }) ≡ true
next-statement n a b = ap (λ c. c || (nat_eq (n + 0) (n + 1) && nat_lt (stage_rank a) (stage_rank b))) (lt-ltb (n + 0) (n + 1) (omega arith))

fold-rises : (at : Place) (word : ReductionWord) (h : SurfaceHead) (filter body : SurfaceExpr) (close : Place) → Keeps Rising rising-kept Level filter → Keeps Rising rising-kept Level body → Keeps Rising rising-kept Level (Reduction at word h filter body close)
fold-rises at word h filter body close kf kb env m =
    let r = reducer env at word h filter body close in
    let inside' = within env at word h filter body close in
    let n0 = env.number + 0 in
    let n1 = env.number + 1 in
    let sequential : is_sequential env ≡ true = eq-eqb env.depth 0 m in
    let key : (k : ℕ) (s : Stage) → fold_key env k s ≡ record { statement = env.number + k; stage = s } = λ k s. ap (λ b. if b then record { statement = env.number + k; stage = s } else inner_key env) sequential in
    part-rises env at word h filter body close (λ e. AllAre (inner n0) (keys_in e)) (λ e. AllAre (inner n1) (keys_in e)) (λ e. rises e ≡ true)
    (condition-kept (Within (inner n0)) (within-kept (inner n0)) (start_of filter) (typed filter (record inside' { key = r.filter })) (typed-within n0 filter (record inside' { key = r.filter }) (ap (λ (j : Key). j.statement) (key 0 Operator), not-zero env.depth)))
    (typed-within n1 body (record (later inside' (filtered env at word h filter body close)) { key = r.body }) (ap (λ (j : Key). j.statement) (key 1 Operator), not-zero env.depth))
    (λ p hp. settled-kept (Within (inner n1)) (within-kept (inner n1)) p.kind p hp)
    (λ t head c e hc he.
    let test' : Key = record { statement = n0; stage = Operator } in
    let braces' : Key = record { statement = n1; stage = Operator } in
    let total' : Key = record { statement = n1; stage = Total } in
    let one : all_under r.filter (keys_in c) ≡ true = under-one (inner n0) r.filter (keys_in c) (ap (key_lt (inner n0)) (key 0 Operator) ∙ same-statement n0 Inner Operator refl) hc in
    let two' : all_over r.filter (keys_in e) ≡ true = over-one (inner n1) r.filter (keys_in e) (ap (λ j. key_lt j (inner n1)) (key 0 Operator) ∙ next-statement env.number Operator Inner) he in
    let three : all_under r.body (keys_in e) ≡ true = under-one (inner n1) r.body (keys_in e) (ap (key_lt (inner n1)) (key 1 Operator) ∙ same-statement n1 Inner Operator refl) he in
    let four : key_lt r.filter r.body ≡ true = two key_lt r.filter test' r.body braces' (key 0 Operator) (key 1 Operator) ∙ next-statement env.number Operator Operator in
    let five : key_lt r.body r.total ≡ true = two key_lt r.body braces' r.total total' (key 1 Operator) (key 1 Total) ∙ same-statement n1 Operator Total refl in
    and-true (all_under r.filter (keys_in c)) (all_over r.filter (keys_in e) && (all_under r.body (keys_in e) && (key_lt r.filter r.body && key_lt r.body r.total))) one
    (and-true (all_over r.filter (keys_in e)) (all_under r.body (keys_in e) && (key_lt r.filter r.body && key_lt r.body r.total)) two'
    (and-true (all_under r.body (keys_in e)) (key_lt r.filter r.body && key_lt r.body r.total) three (and-true (key_lt r.filter r.body) (key_lt r.body r.total) four five))))

typed-rises : (e : SurfaceExpr) → Keeps Rising rising-kept Level e
typed-rises e = typed-kept Rising rising-kept Level (λ A env x m. m) fold-rises e

-- ---- statements of it

abbrev Rise : Stmt → Type 0
Rise s = all_rise s ≡ true

abbrev IfRise : Answer Stmt → Type 0
IfRise a = IfPart Rise (ok_of a)

abbrev PartRises : Part → Type 0
PartRises p = rises p.core ≡ true

test-rises : (e : SurfaceExpr) → (env : Env) → Level env → IfPart (Rising) (test e env).part
test-rises e env d = condition-kept Rising rising-kept (start_of e) (typed e env) (typed-rises e env d)

fits-goal : (w : Option VType) (rule : Rule) (at : Place) (p : Part) → PartRises p → IfPart (Rising) (ok_of (fits_goal w rule at p))
fits-goal None rule at p h = tt
fits-goal (Some t) rule at p h = fitted-kept Rising rising-kept t rule at p h

module _ (env : Env) (d : Level env) (e : SurfaceExpr) where
  beside-rises : {A : Type 0} (o : Judged A) → IfPart (λ p. Unit {0} × PartRises p.1) (beside o (typed e (later env o))).part
  beside-rises {A} o = if-both (λ a. Unit {0}) PartRises o.part (typed e (later env o)).part (anything o.part) (typed-rises e (later env o) d)

  assigned-rises : (t : SurfaceTarget) (at : Place) → IfPart Rise (assigned t at e env).part
  assigned-rises t at =
      if-by (λ p. Unit {0} × PartRises p.1) Rise (both (goal false t) (typed e) env).part (λ p. then_answer (fits_goal p.0.wanted T9 at p.1) (P.Assign env.key p.0.target)) (beside-rises (goal false t env))
      (λ p k. if-then (Rising) Rise (fits_goal p.0.wanted T9 at p.1) (P.Assign env.key p.0.target) (fits-goal p.0.wanted T9 at p.1 k.1) (λ a m. m))

  grouped-rises : (x p : SurfaceName) (at : Place) → IfPart Rise (grouped x p at e env).part
  grouped-rises x p at =
      let parts = both (group_target x p) (in_group (typed e)) env in
      if-by (λ xs. Unit {0}) Rise parts.part (λ xs. then_answer (fitted xs.0.1.1 T9 at xs.1) (P.Group env.key x.place xs.0.0 xs.0.1.0)) (anything parts.part)
      (λ xs _. if-then (λ a. Unit {0}) Rise (fitted xs.0.1.1 T9 at xs.1) (P.Group env.key x.place xs.0.0 xs.0.1.0) (anything (ok_of (fitted xs.0.1.1 T9 at xs.1))) (λ a _. refl))

  assignment-rises : (o : Option SurfaceName) (t : SurfaceTarget) (at : Place) → IfPart Rise (assignment o t at e env).part
  assignment-rises None t at = assigned-rises t at
  assignment-rises (Some p) t at = if-judged Rise (names_graph (known_as env.known t.owner.text)) (grouped t.owner p at e env) (assigned t at e env) (grouped-rises t.owner p at) (assigned-rises t at)

  value-rises : (s : Sort) (x : SurfaceName) (at : Place) (t : VType) (p : ℕ × Part) → PartRises p.1 → IfRise (declared_value env.key x at t s p)
  value-rises Sorts.Scalar x at t p k = if-then (Rising) Rise (fitted t T9 at p.1) (λ a. P.Declare env.key p.0 (Some a)) (fitted-kept Rising rising-kept t T9 at p.1 k) (λ a m. m)
  value-rises Sorts.Edge x at t p k = tt
  value-rises Sorts.Graph x at t p k = tt
  value-rises Sorts.Iterator x at t p k = tt
  value-rises Sorts.NodeProperty x at t p k = tt
  value-rises Sorts.EdgeProperty x at t p k = tt

  with-rises : (o : Option SurfaceName) (t : SurfaceType) (x : SurfaceName) (at : Place) → IfPart Rise (declared_with o t x at e env).part
  with-rises (Some y) t x at =
      let parts = both (declared_typed t x) (edge_owner y) env in
      if-by (λ p. Unit {0}) Rise parts.part (λ p. Ok (P.DeclareEdge p.0 p.1.index y.place)) (anything parts.part) (λ p _. refl)
  with-rises None t x at =
      if-by (λ p. Unit {0} × PartRises p.1) Rise (both (declared_typed t x) (typed e) env).part (declared_value env.key x at (vtype_of t) (sort_of t))
      (beside-rises (declared_typed t x env)) (λ p k. value-rises (sort_of t) x at (vtype_of t) p k.1)

plain-rises : (k : Key) (ns : List ℕ) → Rise (plain_declarations k ns)
plain-rises k [] = refl
plain-rises k (m ∷ ns) = plain-rises k ns

declarations-rise : (s : Sort) (k : Key) (xs : List SurfaceName) (ns : List ℕ) → IfRise (declarations_as s k xs ns)
declarations-rise Sorts.Edge k xs ns = tt
declarations-rise Sorts.Graph k xs ns = plain-rises k ns
declarations-rise Sorts.Iterator k xs ns = plain-rises k ns
declarations-rise Sorts.Scalar k xs ns = plain-rises k ns
declarations-rise Sorts.NodeProperty k xs ns = plain-rises k ns
declarations-rise Sorts.EdgeProperty k xs ns = plain-rises k ns

-- ---- reduction assignments

abbrev AllParts : List Part → Type 0
AllParts [] = Unit {0}
AllParts (p ∷ ps) = PartRises p × AllParts ps

abbrev AllIn : List Expr → Type 0
AllIn es = list_all rises es ≡ true

all-typed : (es : List SurfaceExpr) → (env : Env) → Level env → IfPart AllParts (typed_all es env).part
all-typed [] env d = tt
all-typed (e ∷ es) env d =
    let p = typed e env in
    let rest = typed_all es (later env p) in
    if-by (λ q. PartRises q.0 × AllParts q.1) AllParts (beside p rest).part (λ q. Ok (q.0 ∷ q.1))
    (if-both PartRises AllParts p.part rest.part (typed-rises e env d) (all-typed es (later env p) d))
    (λ q k. k)

fits-all : (at : Place) (gs : List Goal) (ps : List Part) → AllParts ps → IfPart AllIn (ok_of (all_answers (fits_each at gs ps)))
fits-all at [] [] h = refl
fits-all at [] (p ∷ ps) h = tt
fits-all at (g ∷ gs) [] h = tt
fits-all at (g ∷ gs) (p ∷ ps) h =
    if-with (Rising) AllIn AllIn (λ x xs. x ∷ xs) (fits_goal g.wanted T9 at p) (all_answers (fits_each at gs ps))
    (fits-goal g.wanted T9 at p h.0) (fits-all at gs ps h.1) (λ a rest m s. and-true (rises a) (list_all rises rest) m s)

reduced-rises : (env : Env) → Level env → (ts : List SurfaceTarget) (r : Reduce) (at : Place) (es : List SurfaceExpr) → IfPart Rise (reduced ts r at es env).part
reduced-rises env d ts r at es =
    let together = goals_together ts env in
    let values = typed_all es (later env together) in
    if-by (λ ps. Unit {0} × AllParts ps.1) Rise (both (goals_together ts) (typed_all es) env).part (combined env.key at r)
    (if-both (λ g. Unit {0}) AllParts together.part values.part (anything together.part) (all-typed es (later env together) d))
    (λ ps k. if-with (λ u. Unit {0}) AllIn Rise (λ u xs. P.Combine env.key (total_at env.key at) r (map (λ g. g.target) ps.0) xs)
    (refused_unless (reduces r (first_wanted ps.0)) T11 at (tt {0})) (all_answers (fits_each at ps.0 ps.1))
    (anything (ok_of (refused_unless (reduces r (first_wanted ps.0)) T11 at (tt {0})))) (fits-all at ps.0 ps.1 k.1)
    (λ u xs _ m. m))

incremented-rises : (k : Key) (at : Place) (g : Goal) (w : Option VType) → IfRise (then_answer (one_of w at) (λ e. P.Combine k (total_at k at) R.Sum (g.target ∷ []) (e ∷ [])))
incremented-rises k at g None = tt
incremented-rises k at g (Some I32) = refl
incremented-rises k at g (Some I64) = refl
incremented-rises k at g (Some Flag) = tt
incremented-rises k at g (Some Node) = tt

returned-rises : (k : Key) (at : Place) (o : Option VType) (p : Part) → PartRises p → IfRise (returned k at o p)
returned-rises k at None p h = tt
returned-rises k at (Some t) p h = if-then (Rising) Rise (fitted t T14 at p) (λ a. P.Return k at (Some a)) (fitted-kept Rising rising-kept t T14 at p h) (λ a m. m)

-- ---- whole statements

pub statement-rises : (s : SurfaceStmt) (env : Env) → Level env → IfPart Rise (checked s env).part
statement-rises S.Skip env d = refl
statement-rises (S.Then a b) env d =
    let x = numbered (checked a) env in
    let env2 = following a env x in
    let y = checked b env2 in
    if-by (λ p. Rise p.0 × Rise p.1) Rise (beside x y).part (λ p. Ok (P.Then p.0 p.1))
    (if-both Rise Rise x.part y.part (statement-rises a (numbered_env env) d) (statement-rises b env2 d))
    (λ p k. both_true k.0 k.1)
statement-rises (S.Declare t xs) env d =
    let parts = beside (noted (tt {0}) (type_broken t Local env)) (declared_all (variable_of t env.depth) xs env) in
    if-by (λ p. Unit {0}) Rise parts.part (λ p. declarations_as (sort_of t) env.key xs p.1) (anything parts.part) (λ p _. declarations-rise (sort_of t) env.key xs p.1)
statement-rises (S.DeclareAs t x at e) env d = with-rises env d e (edge_declared t e) t x at
statement-rises (S.Assign t at e) env d = assignment-rises env d e t.property t at
statement-rises (S.Defer t at e iterator) env d =
    let parts = both (goal true t) (typed e) env in
    beside-iterator Rise (deferred t at e) iterator env
    (if-by (λ p. Unit {0}) Rise parts.part (λ p. then_answer (fits_goal p.0.wanted T9 at p.1) (P.Defer env.key p.0.target)) (anything parts.part)
    (λ p _. if-then (λ a. Unit {0}) Rise (fits_goal p.0.wanted T9 at p.1) (P.Defer env.key p.0.target) (anything (ok_of (fits_goal p.0.wanted T9 at p.1))) (λ a _. refl)))
statement-rises (S.Combine ts r at es iterator) env d =
    beside-iterator Rise (reduced ts r at es) iterator env (reduced-rises env d ts r at es)
statement-rises (S.Increment t at) env d =
    if-by (λ g. Unit {0}) Rise (goal false t env).part (incremented env.key at) (anything (goal false t env).part) (λ g _. incremented-rises env.key at g g.wanted)
statement-rises (S.Call r f es xs) env d = tt
statement-rises (S.Loop at Loop.For head filter body) env d =
    let inner' = both (test filter) (numbered (checked body)) in
    let x = ranged head env in
    let env1 = later env x in
    let i = declared_as env1 head.iterator (an_iterator (env1.depth + 0)) in
    let env2 = inside env1 head.iterator 0 in
    let d2 : env.depth + 0 ≡ 0 = omega (arith, d) in
    let c = test filter env2 in
    let env3 = later env2 c in
    if-by (λ p. Unit {0} × (Unit {0} × (Rising p.1.1.0 × Rise p.1.1.1))) Rise (both (ranged head) (iterated head.iterator 0 inner') env).part
    (λ p. Ok (loop_of Loop.For env.key at (head_with head p.0 p.1.0) p.1.1.0 p.1.1.1))
    (if-both (λ o. Unit {0}) (λ p. Unit {0} × (Rising p.1.0 × Rise p.1.1)) x.part (iterated head.iterator 0 inner' env1).part (anything x.part)
    (if-both (λ j. Unit {0}) (λ p. Rising p.0 × Rise p.1) i.part (inner' env2).part tt
    (if-both (Rising) Rise c.part (numbered (checked body) env3).part (test-rises filter env2 d2) (statement-rises body (numbered_env env3) d2))))
    (λ p k. both_true k.1.1.0 k.1.1.1)
statement-rises (S.Loop at Loop.Foreach head filter body) env d =
    let parts = both (ranged head) (iterated head.iterator 1 (both (test filter) (numbered (checked body)))) env in
    if-by (λ p. Unit {0}) Rise parts.part (λ p. Ok (loop_of Loop.Foreach env.key at (head_with head p.0 p.1.0) p.1.1.0 p.1.1.1)) (anything parts.part) (λ p _. refl)
statement-rises (S.If at c a b) env d =
    let x = test c env in
    let env1 = later env x in
    let y = numbered (checked a) env1 in
    let env2 = later env1 y in
    let z = numbered (checked b) env2 in
    if-by (λ p. Rising p.0 × (Rise p.1.0 × Rise p.1.1)) Rise (beside x (beside y z)).part (λ p. Ok (P.If env.key p.0 p.1.0 p.1.1))
    (if-both (Rising) (λ p. Rise p.0 × Rise p.1) x.part (beside y z).part (test-rises c env d)
    (if-both Rise Rise y.part z.part (statement-rises a (numbered_env env1) d) (statement-rises b (numbered_env env2) d)))
    (λ p k. both_true k.0 (both_true k.1.0 k.1.1))
statement-rises (S.While at c body) env d =
    let x = test c env in
    let env1 = later env x in
    let y = numbered (checked body) env1 in
    if-by (λ p. Rising p.0 × Rise p.1) Rise (beside x y).part (λ p. Ok (P.While env.key at p.0 p.1))
    (if-both (Rising) Rise x.part y.part (test-rises c env d) (statement-rises body (numbered_env env1) d)) (λ p k. both_true k.0 k.1)
statement-rises (S.Do at body c) env d =
    let x = numbered (checked body) env in
    let env1 = later env x in
    let y = test c env1 in
    if-by (λ p. Rise p.0 × Rising p.1) Rise (beside x y).part (λ p. Ok (P.Do env.key at p.0 p.1))
    (if-both Rise (Rising) x.part y.part (statement-rises body (numbered_env env) d) (test-rises c env1 d)) (λ p k. both_true k.0 k.1)
statement-rises (S.InBfs at v g root filter body) env d =
    let parts = both (both (graph_searched g) (rooted root)) (iterated v 1 (both (test filter) (numbered (checked body)))) env in
    if-by (λ p. Unit {0}) Rise parts.part (λ p. Ok (P.InBfs env.key at (search_of root p.0 p.1.0) p.1.1.0 p.1.1.1)) (anything parts.part) (λ p _. refl)
statement-rises (S.InBfsBoth at v g root filter body reverse back_filter back) env d =
    let parts = both (both (graph_searched g) (rooted root)) (iterated v 1 (both (both (test filter) (numbered (checked body))) (numbered (searched (test back_filter) (numbered (checked back)))))) env in
    if-by (λ p. Unit {0}) Rise parts.part (λ p. Ok (P.InBfsBoth env.key at (search_of root p.0 p.1.0) p.1.1.0.0 p.1.1.0.1 p.1.1.1.0 p.1.1.1.1.0 p.1.1.1.1.1)) (anything parts.part) (λ p _. refl)
statement-rises (S.Return at None) env d = if-good Rise (is_none env.result) T14 at (P.Return env.key at None) (λ _. refl)
statement-rises (S.Return at (Some e)) env d =
    if-by PartRises Rise (typed e env).part (returned env.key at env.result) (typed-rises e env d) (λ p k. returned-rises env.key at env.result p k)

elaborated-rises : (p : SurfaceProcedure) → (env_of_body p).depth ≡ 0 → IfPart (λ q. all_rise q.body ≡ true) (elaborated p).part
elaborated-rises p d =
    let params = all_parameters p in
    let env = env_of_body p in
    let note = noted (tt {0}) (head_broken p) in
    let body = numbered (checked p.body) env in
    if-by (λ q. Unit {0} × (Unit {0} × Rise q.1.1)) (λ (q : Program). all_rise q.body ≡ true) (beside params (beside note body)).part _
    (if-both (λ u. Unit {0}) (λ q. Unit {0} × Rise q.1) params.part (beside note body).part (anything params.part)
    (if-both (λ u. Unit {0}) Rise note.part body.part tt (statement-rises p.body (numbered_env env) d)))
    (λ q k. k.1.1)

-- parameters stand in no loop
names-depth : (v : Variable) (xs : List SurfaceName) (env : Env) → (with_names v xs env).depth ≡ env.depth
names-depth v [] env = refl
names-depth v (x ∷ xs) env = names-depth v xs (with_name env x v)

parameters-depth : (gs : List SurfaceGroup) (env : Env) → (with_parameters gs env).depth ≡ env.depth
parameters-depth [] env = refl
parameters-depth (g ∷ gs) env = parameters-depth gs (with_names (variable_of g.vtype 0) g.names env) ∙ names-depth (variable_of g.vtype 0) g.names env

body-depth : (p : SurfaceProcedure) → (env_of_body p).depth ≡ 0
body-depth p = parameters-depth p.outputs (env_of_outputs p) ∙ parameters-depth p.inputs (nothing_known (result_of p))

pub typed-program-rises : (p : Program) → IsTyped p → all_rise p.body ≡ true
typed-program-rises p typed = subst (IfPart (λ (q : Program). all_rise q.body ≡ true)) typed.is (elaborated-rises typed.source (body-depth typed.source))
