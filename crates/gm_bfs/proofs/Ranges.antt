-- A body does the same by levels that are kept in a property as by those of the search, and the same with copies as without them.
use Rattle.std.proofs.Common.{◌≡◌, ◌<◌, ◌≤◌, ◌+◌, ℕ, suc, Bool, true, false, cond, List, [], ◌∷◌, map, refl, sym, ap, subst, ◌∙◌, arith, Option, Some, None, Ok, Err, ⊎_elim}
use Rattle.std.proofs.Math.Path.{fun_ext}
use Rattle.std.specs.Prelude.{◌≢◌, ◌||◌, filter}
use Rattle.std.proofs.lemmas.Bool.{both_ways, lt-ltb, eqb-true, eq-eqb}
use Rattle.gm_value.specs.declared.operations.Op2.TheVariants.{Eq}
use Rattle.gm_value.specs.declared.reductions.Reduce.{Reduce}
use Rattle.gm_value.specs.declared.values.Value.{Value}
use Rattle.gm_value.specs.declared.values.Value.TheVariants.{I32, I64, Flag, At}
use Rattle.gm_value.specs.Bag.{IsIn}
use Rattle.gm_value.specs.Operations.{is_true, result2}
use Rattle.gm_model.specs.Graphs.{Step, IsGraph, node_count}
use Rattle.gm_ast.specs.declared.tree.Head.{Head}
use Rattle.gm_ast.specs.declared.tree.Key.{Key}
use Rattle.gm_ast.specs.declared.tree.Target.{Target}
use Rattle.gm_ast.specs.declared.tree.Target.TheVariants as T
use Rattle.gm_ast.specs.declared.tree.TotalKey.{TotalKey}
use Rattle.gm_ast.specs.Program.{Expr, Const, Var, Property, EdgeProperty, Degree, NodeCount, EdgeCount, Live, Unary, Binary, Both, Either, Choose, Folded, Stmt, Skip, Then, Declare, DeclareEdge, Assign, Defer, Combine, Group, Foreach, For, If, While, Do, InBfs, InBfsBoth, Return}
use Rattle.gm_semantics.specs.declared.faults.Fault.{Fault}
use Rattle.gm_semantics.specs.declared.slots.Slot.TheVariants.{Scalar, Node}
use Rattle.gm_semantics.specs.Faults.{then_with, unless_fault}
use Rattle.gm_semantics.specs.Levels.{node_in, no_levels, is_next}
use Rattle.gm_semantics.specs.Stores.{Store, write}
use Rattle.gm_semantics.specs.Expressions.{View, Answer, node_held, plain, settled, two_of, both, located, evaluated, value}
use Rattle.gm_semantics.specs.Iterations.{Ends, AtOnce, WithInner, WithOutermost, Loop, Iteration, begun, unless_failed, go_on, with_ok, one_way, as_it_is, Mode, AtEdge, view_in, assigned, assigned_all, ends_of, ends_of_all, later, wrote, wrote_all, contribution, gave_inner, gave_outermost, reduced, inner_done, turn_at, does}
use Rattle.gm_semantics.specs.Frames.{ReadsBelow, AllReadBelow, NamesBelow}
use Rattle.gm_semantics.proofs.TargetLaws.{never}
use Rattle.gm_forms.specs.Doing.{IsFlat, AreFlat}
use Rattle.gm_forms.specs.Forms.{is_range}
use Rattle.gm_forms.proofs.Doings.{fails}
use Rattle.gm_forms.proofs.ReadingFrames.{nat_eq-apart}
use Rattle.gm_bfs.specs.declared.fresh.Fresh.{Fresh}
use Rattle.gm_bfs.specs.Variables.{copy_of}
use Rattle.gm_bfs.specs.Copies.{reading, inner_reading}
use Rattle.gm_bfs.specs.Searches.{is_always, conjunction, is_on}
use Rattle.gm_bfs.proofs.Expressions.{evaluated-levels, assign-levels, assign_all-levels, at_once-levels, Copied, evaluated-reading, all-reading, at_once-reading}
use Rattle.gm_bfs.proofs.Kept.{MayWrite, Kept, kept-begun, kept-holds, keeps}
use Rattle.gm_bfs.proofs.Dropped.{Quiet, drop-inner}

abbrev pub MayFlat : Option Expr → Type 0
MayFlat None = Unit {0}
MayFlat (Some e) = IsFlat e

-- a body without reductions in expressions and without inner loops
abbrev pub Inner : Stmt → Type 0
Inner (Then a b) = Inner a × Inner b
Inner (Declare k y e) = MayFlat e
Inner (Assign k t e) = IsFlat e
Inner (Combine k total r ts es) = AreFlat es
Inner (If k c a b) = IsFlat c × Inner a × Inner b
Inner _ = Unit {0}

-- a body without reductions in expressions, whose inner loops are over neighbours of an iterator
abbrev pub Outer : ℕ → Stmt → Type 0
Outer x (Then a b) = Outer x a × Outer x b
Outer x (Declare k y e) = MayFlat e
Outer x (Assign k t e) = IsFlat e
Outer x (Defer k t e) = IsFlat e
Outer x (Combine k total r ts es) = AreFlat es
Outer x (If k c a b) = IsFlat c × Outer x a × Outer x b
Outer x (Foreach k at h test body) = (is_range true h.domain ≡ true) × (h.owner ≡ x) × IsFlat test × Inner body
Outer x _ = Unit {0}

pub go_on-same : (it : Iteration) (f g : Iteration → Iteration) → f it ≡ g it → go_on it f ≡ go_on it g
go_on-same it f g e = by it.fault
  where
    by : (o : Option Fault) → unless_failed o it f ≡ unless_failed o it g
    by None = e
    by (Some h) = refl

pub one_way-same : (b : Bool) (f g f' g' : Iteration → Iteration) (it : Iteration) → f it ≡ f' it → g it ≡ g' it → one_way b f g it ≡ one_way b f' g' it
one_way-same true f g f' g' it p q = p
one_way-same false f g f' g' it p q = q

pub with_ok-same : (it : Iteration) (r : Answer) (f g : Value → Iteration) → ((v : Value) → f v ≡ g v) → with_ok it r f ≡ with_ok it r g
with_ok-same it (Ok v) f g h = h v
with_ok-same it (Err e) f g h = refl

-- an inner body asks for no levels
module _ (loop : Loop) (levels : ℕ → Option ℕ) where
  abbrev other : Loop
  other = record loop { levels = levels }

  pub value-levels : (m : Mode) (it : Iteration) (key : Key) (e : Expr) → IsFlat e → value e (view_in other m it key) ≡ value e (view_in loop m it key)
  value-levels m it key e g = ap settled (evaluated-levels (view_in loop m it key) levels e g)

  end-levels : (m : Mode) (t : Target) → ends_of m other t ≡ ends_of m loop t
  end-levels m (T.Scalar y at) = refl
  end-levels m (T.Property y p at) = refl

  ends-levels : (m : Mode) (ts : List Target) → ends_of_all m other ts ≡ ends_of_all m loop ts
  ends-levels m [] = refl
  ends-levels m (t ∷ ts) = ap (later (ends_of m other t)) (ends-levels m ts) ∙ ap (λ e. later e (ends_of_all m loop ts)) (end-levels m t)

  reduced-levels : (ends : Ends) (m : Mode) (it : Iteration) (key : Key) (total : TotalKey) (r : Reduce) (ts : List Target) (es : List Expr) → AreFlat es →
      reduced ends (view_in other m it key) it total r ts es ≡ reduced ends (view_in loop m it key) it total r ts es
  reduced-levels AtOnce m it key total r ts es g = ap (λ a. with_ok it a (wrote_all it)) (at_once-levels (view_in loop m it key) levels total.place r ts es g)
  reduced-levels WithInner m it key total r ts es g = ap (λ a. with_ok it a (λ p. gave_inner it (contribution total r p))) (assign_all-levels (view_in loop m it key) levels ts es g)
  reduced-levels WithOutermost m it key total r ts es g = ap (λ a. with_ok it a (λ p. gave_outermost it (contribution total r p))) (assign_all-levels (view_in loop m it key) levels ts es g)

  pub declare-levels : (m : Mode) (it : Iteration) (key : Key) (y : ℕ) (e : Option Expr) → MayFlat e → does (Declare key y e) m other it ≡ does (Declare key y e) m loop it
  declare-levels m it key y None g = refl
  declare-levels m it key y (Some e) g = ap (λ a. with_ok it a (λ v. wrote it (Scalar y, v))) (value-levels m it key e g)

  pub assign-stays : (m : Mode) (it : Iteration) (key : Key) (t : Target) (e : Expr) → IsFlat e → does (Assign key t e) m other it ≡ does (Assign key t e) m loop it
  assign-stays m it key t e g = ap (λ a. with_ok it a (wrote it)) (assign-levels (view_in loop m it key) levels t e g)

  pub combine-levels : (m : Mode) (it : Iteration) (key : Key) (total : TotalKey) (r : Reduce) (ts : List Target) (es : List Expr) → AreFlat es → does (Combine key total r ts es) m other it ≡ does (Combine key total r ts es) m loop it
  combine-levels m it key total r ts es g =
      ap (λ ends. reduced ends (view_in other m it key) it total r ts es) (ends-levels m ts) ∙ reduced-levels (ends_of_all m loop ts) m it key total r ts es g

  pub inner-levels : (s : Stmt) (e : ℕ) (it : Iteration) → Inner s → does s (AtEdge e) other it ≡ does s (AtEdge e) loop it
  inner-levels Skip e it g = refl
  inner-levels (Then a b) e it g = ap (λ i. go_on i (does b (AtEdge e) other)) (inner-levels a e it g.0) ∙ ap (go_on (does a (AtEdge e) loop it)) (fun_ext (λ i. inner-levels b e i g.1))
  inner-levels (Declare key y v) e it g = declare-levels (AtEdge e) it key y v g
  inner-levels (DeclareEdge y z at) e it g = refl
  inner-levels (Assign key t v) e it g = assign-stays (AtEdge e) it key t v g
  inner-levels (Defer key t v) e it g = refl
  inner-levels (Combine key total r ts es) e it g = combine-levels (AtEdge e) it key total r ts es g
  inner-levels (Group key at y p v) e it g = refl
  inner-levels (Foreach key at head test body) e it g = refl
  inner-levels (For key at head test body) e it g = refl
  inner-levels (If key c a b) e it g =
      ap (λ r. with_ok it r (λ v. one_way (is_true v) (does a (AtEdge e) other) (does b (AtEdge e) other) it)) (value-levels (AtEdge e) it key c g.0)
      ∙ with_ok-same it (value c (view_in loop (AtEdge e) it key)) _ _ (λ v. one_way-same (is_true v) (does a (AtEdge e) other) (does b (AtEdge e) other) (does a (AtEdge e) loop) (does b (AtEdge e) loop) it (inner-levels a e it g.1) (inner-levels b e it g.2))
  inner-levels (While key at c body) e it g = refl
  inner-levels (Do key at body c) e it g = refl
  inner-levels (InBfs key at search c body) e it g = refl
  inner-levels (InBfsBoth key at search c body back_key d back) e it g = refl
  inner-levels (Return key at v) e it g = refl

-- the fresh variables are behind the others
pub record High (k : ℕ) (f : Fresh) : Type 0 where
  pub up : k ≤ f.up
  pub down : k ≤ f.down
  pub level : k ≤ f.level
  pub copies : k ≤ f.copies

-- P: the scalars that a body may write, and Q: the properties; n: the node of the loop's iterator
module _ (P Q : ℕ → Type 0) (k : ℕ) (P-below : (y : ℕ) → P y → y < k) (Q-below : (p : ℕ) → Q p → p < k) (f : Fresh) (high : High k f) (marks : List Bool) (n : ℕ) where
  copied-kept : (x m : ℕ) (s : Store) (it : Iteration) → m ≢ n → Kept P Q x n s it → Copied f marks k s m → Copied f marks k it.store m
  copied-kept x m s it apart h c p b e =
      let c-high = high.copies in
      ⊎_elim
      (λ (here : it.store.node (copy_of f p) m ≡ s.node (copy_of f p) m).
      ⊎_elim (λ (there : it.store.node p m ≡ s.node p m). here ∙ c p b e ∙ sym there) (λ may. absurd (apart may.1)) (h.slots (Node p m)))
      (λ may. let l : f.copies + p < k = Q-below (f.copies + p) may.0 in absurd (omega arith))
      (h.slots (Node (copy_of f p) m))

  module _ (loop : Loop) (off : P loop.outer → ⊥) (v m : ℕ) (offv : P v → ⊥) (apart : m ≢ n) (s : Store) (holds : s.scalar loop.outer ≡ At (Some n)) (at : s.scalar v ≡ At (Some m)) (copied : Copied f marks k s m) where
    still : (it : Iteration) → Kept P Q loop.outer n s it → it.store.scalar v ≡ At (Some m)
    still it h = ⊎_elim (λ (e : it.store.scalar v ≡ s.scalar v). e ∙ at) (λ may. absurd (offv may)) (h.slots (Scalar v))

    value-reading : (e : Expr) (mode : Mode) (it : Iteration) (key : Key) → ReadsBelow k e → IsFlat e → Kept P Q loop.outer n s it → evaluated (reading f marks v e) (view_in loop mode it key) ≡ evaluated e (view_in loop mode it key)
    value-reading e mode it key b g h = evaluated-reading f marks k v m (view_in loop mode it key) (still it h) (copied-kept loop.outer m s it apart h copied) e b g

    reduced-reading : (ends : Ends) (mode : Mode) (it : Iteration) (key : Key) (total : TotalKey) (r : Reduce) (ts : List Target) (es : List Expr) → AllReadBelow k es → AreFlat es → Kept P Q loop.outer n s it →
        reduced ends (view_in loop mode it key) it total r ts (map (reading f marks v) es) ≡ reduced ends (view_in loop mode it key) it total r ts es
    reduced-reading AtOnce mode it key total r ts es b g h =
        ap (λ a. with_ok it a (wrote_all it)) (at_once-reading f marks k v m (view_in loop mode it key) (still it h) (copied-kept loop.outer m s it apart h copied) total.place r ts es b g)
    reduced-reading WithInner mode it key total r ts es b g h =
        ap (λ a. with_ok it (assigned_all (view_in loop mode it key) ts a) (λ p. gave_inner it (contribution total r p))) (all-reading f marks k v m (view_in loop mode it key) (still it h) (copied-kept loop.outer m s it apart h copied) es b g)
    reduced-reading WithOutermost mode it key total r ts es b g h =
        ap (λ a. with_ok it (assigned_all (view_in loop mode it key) ts a) (λ p. gave_outermost it (contribution total r p))) (all-reading f marks k v m (view_in loop mode it key) (still it h) (copied-kept loop.outer m s it apart h copied) es b g)

    inner-reading-same : (b : Stmt) (e : ℕ) (it : Iteration) → NamesBelow k b → Inner b → MayWrite P Q loop.outer b → Kept P Q loop.outer n s it → does (inner_reading f marks v b) (AtEdge e) loop it ≡ does b (AtEdge e) loop it
    inner-reading-same Skip e it names g w h = refl
    inner-reading-same (Then a b) e it names g w h =
        ap (λ i. go_on i (does (inner_reading f marks v b) (AtEdge e) loop)) (inner-reading-same a e it names.0 g.0 w.0 h)
        ∙ go_on-same (does a (AtEdge e) loop it) (does (inner_reading f marks v b) (AtEdge e) loop) (does b (AtEdge e) loop)
        (inner-reading-same b e (does a (AtEdge e) loop it) names.1 g.1 w.1 (keeps P Q loop.outer n off loop refl a (AtEdge e) s it holds w.0 h))
    inner-reading-same (Declare key y None) e it names g w h = refl
    inner-reading-same (Declare key y (Some c)) e it names g w h = ap (λ a. with_ok it (settled a) (λ z. wrote it (Scalar y, z))) (value-reading c (AtEdge e) it key names.1 g h)
    inner-reading-same (DeclareEdge y z at) e it names g w h = refl
    inner-reading-same (Assign key t c) e it names g w h = ap (λ a. with_ok it (assigned (view_in loop (AtEdge e) it key) t a) (wrote it)) (value-reading c (AtEdge e) it key names.1 g h)
    inner-reading-same (Defer key t c) e it names g w h = refl
    inner-reading-same (Combine key total r ts es) e it names g w h = reduced-reading (ends_of_all (AtEdge e) loop ts) (AtEdge e) it key total r ts es names.1 g h
    inner-reading-same (Group key at y p c) e it names g w h = refl
    inner-reading-same (Foreach key at head test body) e it names g w h = refl
    inner-reading-same (For key at head test body) e it names g w h = refl
    inner-reading-same (If key c a b) e it names g w h =
        ap (λ r. with_ok it (settled r) (λ z. one_way (is_true z) (does (inner_reading f marks v a) (AtEdge e) loop) (does (inner_reading f marks v b) (AtEdge e) loop) it)) (value-reading c (AtEdge e) it key names.0 g.0 h)
        ∙ with_ok-same it (value c (view_in loop (AtEdge e) it key)) _ _
        (λ z. one_way-same (is_true z) (does (inner_reading f marks v a) (AtEdge e) loop) (does (inner_reading f marks v b) (AtEdge e) loop) (does a (AtEdge e) loop) (does b (AtEdge e) loop) it
        (inner-reading-same a e it names.1 g.1 w.0 h) (inner-reading-same b e it names.2 g.2 w.1 h))
    inner-reading-same (While key at c body) e it names g w h = refl
    inner-reading-same (Do key at body c) e it names g w h = refl
    inner-reading-same (InBfs key at search c body) e it names g w h = refl
    inner-reading-same (InBfsBoth key at search c body back_key d back) e it names g w h = refl
    inner-reading-same (Return key at c) e it names g w h = refl

-- a condition before another one
always-true : (e : Expr) (w : View) → is_always e ≡ true → value e w ≡ Ok (Flag true)
always-true (Const (Flag true)) w h = refl
always-true (Const (Flag false)) w h = never h refl
always-true (Const (I32 z)) w h = never h refl
always-true (Const (I64 z)) w h = never h refl
always-true (Const (At z)) w h = never h refl
always-true (Var x at) w h = never h refl
always-true (Property x p at) w h = never h refl
always-true (EdgeProperty x p at) w h = never h refl
always-true (Degree d x at) w h = never h refl
always-true NodeCount w h = never h refl
always-true EdgeCount w h = never h refl
always-true (Live x at) w h = never h refl
always-true (Unary op at e) w h = never h refl
always-true (Binary op at a b) w h = never h refl
always-true (Both a b) w h = never h refl
always-true (Either a b) w h = never h refl
always-true (Choose c a b) w h = never h refl
always-true (Folded f head test e) w h = never h refl

pub conjunction-true : (a b : Expr) (w : View) → evaluated a w ≡ plain (Ok (Flag true)) → value (conjunction a b) w ≡ value b w
conjunction-true a b w e = by (is_always b) refl
  where
    by : (c : Bool) → is_always b ≡ c → value (cond c a (Both a b)) w ≡ value b w
    by true h = ap settled e ∙ sym (always-true b w h)
    by false h = ap (λ z. settled (both z (evaluated b w))) e

pub conjunction-false : (a b : Expr) (w : View) → evaluated a w ≡ plain (Ok (Flag false)) → (evaluated b w).hoisted ≡ None → value (conjunction a b) w ≡ Ok (Flag false)
conjunction-false a b w e none = by (is_always b)
  where
    by : (c : Bool) → value (cond c a (Both a b)) w ≡ Ok (Flag false)
    by true = ap settled e
    by false =
        ap (λ z. settled (both z (evaluated b w))) e
        ∙ ap (λ o. unless_fault {A = Value} o (Ok (Flag false))) none

-- reading copies makes no reduction
flat-reading : (f : Fresh) (marks : List Bool) (v : ℕ) (e : Expr) → IsFlat e → IsFlat (reading f marks v e)
flat-reading f marks v (Const c) g = tt
flat-reading f marks v (Var x at) g = tt
flat-reading f marks v (Property x p at) g = tt
flat-reading f marks v (EdgeProperty x p at) g = tt
flat-reading f marks v (Degree d x at) g = tt
flat-reading f marks v NodeCount g = tt
flat-reading f marks v EdgeCount g = tt
flat-reading f marks v (Live x at) g = tt
flat-reading f marks v (Unary op at e) g = flat-reading f marks v e g
flat-reading f marks v (Binary op at a b) g = (flat-reading f marks v a g.0, flat-reading f marks v b g.1)
flat-reading f marks v (Both a b) g = (flat-reading f marks v a g.0, flat-reading f marks v b g.1)
flat-reading f marks v (Either a b) g = (flat-reading f marks v a g.0, flat-reading f marks v b g.1)
flat-reading f marks v (Choose c a b) g = (flat-reading f marks v c g.0, flat-reading f marks v a g.1, flat-reading f marks v b g.2)
flat-reading f marks v (Folded fold h test e) g = absurd g

-- whether the end of an edge is on a level
told-on : (h : Head) (x m : ℕ) (f : Fresh) (b : Bool) (loop : Loop) (mode : Mode) (it : Iteration) (key : Key) → it.store.scalar h.iterator ≡ At (Some m) → m < node_count loop.graph → result2 Eq (it.store.node f.level m) (it.store.scalar x) ≡ Ok (Flag b) →
    evaluated (is_on f h x) (view_in loop mode it key) ≡ plain (Ok (Flag b))
told-on h x m f b loop mode it key at within told =
    let w = view_in loop mode it key in
    ap (λ v. two_of (plain (then_with (node_held w h.place (node_in loop.graph v)) (λ i. Ok (it.store.node f.level i)))) (plain (Ok (it.store.scalar x))) (λ a c. located w h.place (result2 Eq a c))) at
    ∙ ap (λ c. two_of (plain (then_with (node_held w h.place (cond c (Some m) None)) (λ i. Ok (it.store.node f.level i)))) (plain (Ok (it.store.scalar x))) (λ a c. located w h.place (result2 Eq a c))) (lt-ltb m (node_count loop.graph) within)
    ∙ ap (λ r. plain (located w h.place r)) told

pub not-next : (o : Option ℕ) → is_next o o ≡ true → ⊥
not-next None e = never e refl
not-next (Some j) e = let same : suc j ≡ j = eqb-true (suc j) j e in omega arith

pub or-left : (a b : Bool) → a ≡ true → a || b ≡ true
or-left a b e = ap (λ c. c || b) e

pub or-right : (a b : Bool) → b ≡ true → a || b ≡ true
or-right true b e = refl
or-right false b e = e

module _ (P Q : ℕ → Type 0) (k : ℕ) (P-below : (y : ℕ) → P y → y < k) (Q-below : (p : ℕ) → Q p → p < k) (f : Fresh) (high : High k f) (marks : List Bool) (n : ℕ)
    (loop : Loop) (off : P loop.outer → ⊥) (ok : IsGraph loop.graph) (within : n < node_count loop.graph) (s : Store) (holds : s.scalar loop.outer ≡ At (Some n)) where
  -- whether a node is on the level above that of the loop's, or below
  abbrev pub upward : ℕ → Bool
  upward m = is_next (loop.levels m) (loop.levels n)

  abbrev pub downward : ℕ → Bool
  downward m = is_next (loop.levels n) (loop.levels m)

  -- the levels that are kept tell
  abbrev pub Tells : ℕ → (ℕ → Bool) → Type 0
  Tells y next = (m : ℕ) → m < node_count loop.graph → result2 Eq (s.node f.level m) (s.scalar y) ≡ Ok (Flag (next m))

  -- the loop without the levels of the search
  abbrev pub bare : Loop
  bare = record loop { levels = no_levels }

  module _ (copied : (m : ℕ) → m < node_count loop.graph → Copied f marks k s m) where
    -- a turn of an inner loop over edges to nodes of a level
    module _ (key : Key) (h : Head) (test : Expr) (body : Stmt) (y : ℕ) (next : ℕ → Bool) (tells : Tells y next) (differs : next n ≡ false) (y-high : k ≤ y)
        (apart : h.iterator ≢ loop.outer) (offi : P h.iterator → ⊥) (below : h.iterator < k) (reads : ReadsBelow k test) (flat : IsFlat test) (names : NamesBelow k body) (inner : Inner body) (may : MayWrite P Q loop.outer body)
        (it : Iteration) (kept : Kept P Q loop.outer n s it) where
      abbrev pub turn : Step → Iteration
      turn step =
          turn_at bare (AtEdge step.edge) key (conjunction (is_on f h y) (reading f marks h.iterator test)) (does (inner_reading f marks h.iterator body) (AtEdge step.edge) bare) h.iterator step.node it.store

      abbrev pub plain_turn : Step → Iteration
      plain_turn step = turn_at loop (AtEdge step.edge) key test (does body (AtEdge step.edge) loop) h.iterator step.node it.store

      module _ (step : Step) (inside : step.node < node_count loop.graph) where
        abbrev entered : Store
        entered = write it.store (Scalar h.iterator) (At (Some step.node))

        abbrev start : Iteration
        start = begun entered

        at-step : entered.scalar h.iterator ≡ At (Some step.node)
        at-step = ap (λ c. cond c (At (Some step.node)) (it.store.scalar h.iterator)) (eq-eqb h.iterator h.iterator refl)

        scalar-stays : (z : ℕ) → k ≤ z → entered.scalar z ≡ s.scalar z
        scalar-stays z b =
            let other : h.iterator ≢ z = λ e. omega arith in
            ap (λ c. cond c (At (Some step.node)) (it.store.scalar z)) (nat_eq-apart h.iterator z other)
            ∙ ⊎_elim (λ (e : it.store.scalar z ≡ s.scalar z). e) (λ p. let l = P-below z p in absurd (omega arith)) (kept.slots (Scalar z))

        level-stays : (m : ℕ) → entered.node f.level m ≡ s.node f.level m
        level-stays m = let b = high.level in ⊎_elim (λ (e : it.store.node f.level m ≡ s.node f.level m). e) (λ p. let l = Q-below f.level p.0 in absurd (omega arith)) (kept.slots (Node f.level m))

        on-told : evaluated (is_on f h y) (view_in bare (AtEdge step.edge) start key) ≡ plain (Ok (Flag (next step.node)))
        on-told =
            told-on h y step.node f (next step.node) bare (AtEdge step.edge) start key at-step inside
            (ap (λ v. result2 Eq v (entered.scalar y)) (level-stays step.node) ∙ ap (result2 Eq (s.node f.level step.node)) (scalar-stays y y-high) ∙ tells step.node inside)

        outer-holds : entered.scalar loop.outer ≡ At (Some n)
        outer-holds = ap (λ c. cond c (At (Some step.node)) (it.store.scalar loop.outer)) (nat_eq-apart h.iterator loop.outer apart) ∙ kept-holds P Q loop.outer n off s holds it kept

        other-node : next step.node ≡ true → step.node ≢ n
        other-node on e = never on (ap next e ∙ differs)

        entered-copied : next step.node ≡ true → Copied f marks k entered step.node
        entered-copied on = copied-kept P Q k P-below Q-below f high marks n loop.outer step.node s it (other-node on) kept (copied step.node inside)

        same-reading : next step.node ≡ true → evaluated (reading f marks h.iterator test) (view_in bare (AtEdge step.edge) start key) ≡ evaluated test (view_in bare (AtEdge step.edge) start key)
        same-reading on = evaluated-reading f marks k h.iterator step.node (view_in bare (AtEdge step.edge) start key) at-step (entered-copied on) test reads flat

        on-turn : next step.node ≡ true → turn step ≡ plain_turn step
        on-turn on =
            ap (λ r. with_ok start r (λ v. one_way (is_true v) (does (inner_reading f marks h.iterator body) (AtEdge step.edge) bare) as_it_is start))
            (conjunction-true (is_on f h y) (reading f marks h.iterator test) (view_in bare (AtEdge step.edge) start key) (on-told ∙ ap (λ b. plain (Ok (Flag b))) on)
            ∙ ap settled (same-reading on)
            ∙ value-levels loop no_levels (AtEdge step.edge) start key test flat)
            ∙ with_ok-same start (value test (view_in loop (AtEdge step.edge) start key)) _ _ (λ v.
            one_way-same (is_true v) (does (inner_reading f marks h.iterator body) (AtEdge step.edge) bare) as_it_is (does body (AtEdge step.edge) loop) as_it_is start
            (inner-reading-same P Q k P-below Q-below f high marks n bare off h.iterator step.node offi (other-node on) entered outer-holds at-step (entered-copied on) body step.edge start names inner may (kept-begun P Q loop.outer n entered)
            ∙ inner-levels loop no_levels body step.edge start inner) refl)

        off-turn : next step.node ≡ false → Quiet (turn step)
        off-turn out = subst (λ r. Quiet (with_ok start r (λ v. one_way (is_true v) (does (inner_reading f marks h.iterator body) (AtEdge step.edge) bare) as_it_is start))) (sym is) (record { inner = refl; outermost = refl; deferred = refl; fault = refl })
          where
            is : value (conjunction (is_on f h y) (reading f marks h.iterator test)) (view_in bare (AtEdge step.edge) start key) ≡ Ok (Flag false)
            is = conjunction-false (is_on f h y) (reading f marks h.iterator test) (view_in bare (AtEdge step.edge) start key) (on-told ∙ ap (λ b. plain (Ok (Flag b))) out)
                (fails (view_in bare (AtEdge step.edge) start key) refl [] (λ y e. absurd (both_ways false refl e)) (reading f marks h.iterator test) (flat-reading f marks h.iterator test flat)).hoisted

      -- the inner loop over the edges whose ends are on the level
      pub level-loop : (steps : List Step) → ((step : Step) → IsIn step steps → step.node < node_count loop.graph) → inner_done it (map turn steps) ≡ inner_done it (map plain_turn (filter (λ step. next step.node) steps))
      level-loop steps inside = drop-inner (λ step. next step.node) turn plain_turn it steps (λ step i on. on-turn step (inside step i) on) (λ step i out. off-turn step (inside step i) out)
