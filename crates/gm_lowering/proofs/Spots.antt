-- The faults of expressions and bodies are among their spots.
use Rattle.std.proofs.Common.{◌≡◌, ◌<◌, inl, inr, ℕ, Bool, true, false, Option, Some, None, Result, Ok, Err, List, [], ◌∷◌, ◌++◌, length, map, refl, ap, ◌∙◌, sym, subst, ⊎_elim}
use Rattle.std.specs.Prelude.{◌&&◌, if◌then◌else◌, nat_lt}
use Rattle.std.specs.List.{list_all}
use Rattle.std.proofs.lemmas.Bool.{both_ways, ne_eqb}
use Rattle.gm_base.specs.declared.places.Place.{Place}
use Rattle.gm_value.specs.declared.values.Value.{Value}
use Rattle.gm_value.specs.declared.values.Value.TheVariants.{At}
use Rattle.gm_value.specs.declared.faults.FaultKind.{FaultKind}
use Rattle.gm_value.specs.declared.operations.Op1.{Op1}
use Rattle.gm_value.specs.declared.operations.Op1.TheVariants.{Neg, Not, ToI32, ToI64}
use Rattle.gm_value.specs.declared.operations.Op2.{Op2}
use Rattle.gm_value.specs.declared.operations.Op2.TheVariants.{Add, Sub, Mul, Div, Rem, Eq, Ne, Lt, Le, Gt, Ge}
use Rattle.gm_value.specs.declared.reductions.Reduce.{Reduce}
use Rattle.gm_value.specs.Operations.{is_true, result1, result2}
use Rattle.gm_model.specs.Graphs.{NumberedGraph, node_count}
use Rattle.gm_ast.specs.declared.tree.Key.{Key}
use Rattle.gm_ast.specs.declared.tree.Target.{Target}
use Rattle.gm_ast.specs.declared.tree.Target.TheVariants as T
use Rattle.gm_ast.specs.declared.tree.TotalKey.{TotalKey}
use Rattle.gm_ast.specs.Program as S
use Rattle.gm_ast.specs.Program.{Expr, Stmt}
use Rattle.gm_ast.specs.Ways.{is_in}
use Rattle.gm_forms.proofs.Named.{both-true}
use Rattle.gm_semantics.specs.declared.faults.Fault.{Fault}
use Rattle.gm_semantics.specs.declared.slots.Slot.{Slot}
use Rattle.gm_semantics.specs.declared.slots.Slot.TheVariants.{Scalar, Node}
use Rattle.gm_semantics.specs.Statements.{variable_at}
use Rattle.gm_semantics.specs.Levels.{node_in}
use Rattle.gm_semantics.specs.Faults.{first, then_with, unless_fault}
use Rattle.gm_semantics.specs.Expressions.{View, Answer, plain, early, node_held, located, at_node, degree_of, evaluated, evaluated_all, value}
use Rattle.gm_semantics.specs.Iterations.{Loop, Mode, Iteration, view_in, unless_failed, with_ok, one_way, wrote, slot_of, assigned, does}
use Rattle.gm_lowering.specs.Layouts.{Layout, is_register}
use Rattle.gm_forms.specs.Order.{can_fail1, can_fail2, fault_if}
use Rattle.gm_lowering.specs.Places.{Spot, spot_of, spot_at, spots_in, spots_in_all}
use Rattle.gm_lowering.specs.Bodies.{spots_of, reduce_spots}
use Rattle.gm_lowering.specs.Plans.{way_of}
use Rattle.gm_lowering.specs.Sites.{finds, is_local, is_body}
use Rattle.gm_lowering.specs.Settles.{HasSpot, spot_of_fault}
use Rattle.gm_lowering.proofs.Givens.{node-in}

-- a spot of one of two lists
pub spot-left : (f : Spot) (xs ys : List Spot) → HasSpot f xs → HasSpot f (xs ++ ys)
spot-left f [] ys h = absurd h
spot-left f (x ∷ xs) ys h = ⊎_elim (λ (e : x ≡ f). inl e) (λ (j : HasSpot f xs). inr (spot-left f xs ys j)) h

pub spot-right : (f : Spot) (xs ys : List Spot) → HasSpot f ys → HasSpot f (xs ++ ys)
spot-right f [] ys h = h
spot-right f (x ∷ xs) ys h = inr (spot-right f xs ys h)

-- the fault of an answer, if it is one, has a spot
abbrev pub Within : {A : Type 0} → Result A Fault → List Spot → Type 0
Within (Ok a) spots = Unit {0}
Within (Err f) spots = HasSpot (spot_of_fault f) spots

abbrev pub Has : Option Fault → List Spot → Type 0
Has None spots = Unit {0}
Has (Some f) spots = HasSpot (spot_of_fault f) spots

pub within-left : {A : Type 0} (r : Result A Fault) (xs ys : List Spot) → Within r xs → Within r (xs ++ ys)
within-left (Ok a) xs ys h = tt
within-left (Err f) xs ys h = spot-left (spot_of_fault f) xs ys h

pub within-right : {A : Type 0} (r : Result A Fault) (xs ys : List Spot) → Within r ys → Within r (xs ++ ys)
within-right (Ok a) xs ys h = tt
within-right (Err f) xs ys h = spot-right (spot_of_fault f) xs ys h

pub has-left : (r : Option Fault) (xs ys : List Spot) → Has r xs → Has r (xs ++ ys)
has-left None xs ys h = tt
has-left (Some f) xs ys h = spot-left (spot_of_fault f) xs ys h

pub has-right : (r : Option Fault) (xs ys : List Spot) → Has r ys → Has r (xs ++ ys)
has-right None xs ys h = tt
has-right (Some f) xs ys h = spot-right (spot_of_fault f) xs ys h

pub then-within : {A B : Type 0} (r : Result A Fault) (next : A → Result B Fault) (spots : List Spot) → Within r spots → ((a : A) → Within (next a) spots) → Within (then_with r next) spots
then-within (Ok a) next spots h k = k a
then-within (Err f) next spots h k = h

if-within : {A : Type 0} (b : Bool) (r q : Result A Fault) (spots : List Spot) → Within r spots → Within q spots → Within (if b then r else q) spots
if-within true r q spots h k = h
if-within false r q spots h k = k

located-within : (w : View) (at : Place) (r : Result Value FaultKind) (rest : List Spot) → Within (located w at r) (spot_at w.key at ∷ rest)
located-within w at (Ok x) rest = tt
located-within w at (Err k) rest = inl refl

-- an expression with no reduction in it reads properties and degrees at nodes alone
abbrev pub Reads : View → Expr → Type 0
Reads w (S.Const v) = Unit {0}
Reads w (S.Var x at) = Unit {0}
Reads w (S.Property x p at) = (n : ℕ) × (node_in w.graph (w.store.scalar x) ≡ Some n)
Reads w (S.EdgeProperty x p at) = Unit {0}
Reads w (S.Degree d x at) = (n : ℕ) × (node_in w.graph (w.store.scalar x) ≡ Some n)
Reads w S.NodeCount = Unit {0}
Reads w S.EdgeCount = Unit {0}
Reads w (S.Live x at) = Unit {0}
Reads w (S.Unary op at a) = Reads w a
Reads w (S.Binary op at a b) = Reads w a × Reads w b
Reads w (S.Both a b) = Reads w a × Reads w b
Reads w (S.Either a b) = Reads w a × Reads w b
Reads w (S.Choose c a b) = Reads w c × Reads w a × Reads w b
Reads w (S.Folded f h c a) = ⊥

rest_either : (b : Bool) (a : Answer) (spots : List Spot) → Within a spots → Within (if b then plain a else early a).rest spots
rest_either true a spots h = h
rest_either false a spots h = h

read-within : (w : View) (x : ℕ) (at : Place) (f : ℕ → Value) (n : ℕ) → node_in w.graph (w.store.scalar x) ≡ Some n → Within (at_node w x at f) []
read-within w x at f n e = subst (λ o. Within (then_with (node_held w at o) (λ j. Ok (f j))) []) (sym e) tt

held-within : (w : View) (at : Place) (o : Option ℕ) (f : ℕ → Value) → Within (then_with (node_held w at o) (λ j. Ok (f j))) (spot_at w.key at ∷ [])
held-within w at None f = inl refl
held-within w at (Some n) f = tt

one-within : (w : View) (at : Place) (op : Op1) (a : Answer) (spots : List Spot) → Within a spots
    → Within (then_with a (λ x. located w at (result1 op x))) (map spot_of (fault_if (can_fail1 op) w.key at) ++ spots)
one-within w at Neg a spots h = then-within a _ _ (within-right a (spot_at w.key at ∷ []) spots h) (λ x. located-within w at (result1 Neg x) spots)
one-within w at Not a spots h = then-within a _ _ h (λ x. tt)
one-within w at ToI32 a spots h = then-within a _ _ (within-right a (spot_at w.key at ∷ []) spots h) (λ x. located-within w at (result1 ToI32 x) spots)
one-within w at ToI64 a spots h = then-within a _ _ h (λ x. tt)

failing : (w : View) (at : Place) (op : Op2) (a b : Answer) (xs ys : List Spot) → Within a xs → Within b ys
    → Within (then_with a (λ x. then_with b (λ y. located w at (result2 op x y)))) (spot_at w.key at ∷ (xs ++ ys))
failing w at op a b xs ys h k =
    then-within a _ _ (within-right a (spot_at w.key at ∷ []) (xs ++ ys) (within-left a xs ys h)) (λ x.
    then-within b _ _ (within-right b (spot_at w.key at ∷ []) (xs ++ ys) (within-right b xs ys k)) (λ y. located-within w at (result2 op x y) (xs ++ ys)))

never : (a b : Answer) (f : Value → Value → Value) (xs ys : List Spot) → Within a xs → Within b ys → Within (then_with a (λ x. then_with b (λ y. Ok (f x y)))) (xs ++ ys)
never a b f xs ys h k = then-within a _ _ (within-left a xs ys h) (λ x. then-within b _ _ (within-right b xs ys k) (λ y. tt))

two-within : (w : View) (at : Place) (op : Op2) (a b : Answer) (xs ys : List Spot) → Within a xs → Within b ys
    → Within (then_with a (λ x. then_with b (λ y. located w at (result2 op x y)))) (map spot_of (fault_if (can_fail2 op) w.key at) ++ (xs ++ ys))
two-within w at Add a b xs ys h k = failing w at Add a b xs ys h k
two-within w at Sub a b xs ys h k = failing w at Sub a b xs ys h k
two-within w at Mul a b xs ys h k = failing w at Mul a b xs ys h k
two-within w at Div a b xs ys h k = failing w at Div a b xs ys h k
two-within w at Rem a b xs ys h k = failing w at Rem a b xs ys h k
two-within w at Eq a b xs ys h k = never a b _ xs ys h k
two-within w at Ne a b xs ys h k = never a b _ xs ys h k
two-within w at Lt a b xs ys h k = never a b _ xs ys h k
two-within w at Le a b xs ys h k = never a b _ xs ys h k
two-within w at Gt a b xs ys h k = never a b _ xs ys h k
two-within w at Ge a b xs ys h k = never a b _ xs ys h k

-- the faults of what is not hoisted
pub rest-within : (w : View) (e : Expr) → Reads w e → Within (evaluated e w).rest (spots_in e w.key)
rest-within w (S.Const v) r = tt
rest-within w (S.Var x at) r = tt
rest-within w (S.Property x p at) r = rest_either w.parallel (at_node w x at (w.store.node p)) [] (read-within w x at (w.store.node p) r.0 r.1)
rest-within w (S.EdgeProperty x p at) r = tt
rest-within w (S.Degree d x at) r = rest_either w.parallel (at_node w x at (degree_of w d)) [] (read-within w x at (degree_of w d) r.0 r.1)
rest-within w S.NodeCount r = tt
rest-within w S.EdgeCount r = tt
rest-within w (S.Live x at) r =
    rest_either w.parallel (at_node w x at (λ n. At (Some n))) (spot_at w.key at ∷ []) (held-within w at (node_in w.graph (w.store.scalar x)) (λ n. At (Some n)))
rest-within w (S.Unary op at a) r = one-within w at op (evaluated a w).rest (spots_in a w.key) (rest-within w a r)
rest-within w (S.Binary op at a b) r = two-within w at op (evaluated a w).rest (evaluated b w).rest (spots_in a w.key) (spots_in b w.key) (rest-within w a r.0) (rest-within w b r.1)
rest-within w (S.Both a b) r =
    let p = spots_in a w.key in
    let q = spots_in b w.key in
    then-within (evaluated a w).rest _ _ (within-left (evaluated a w).rest p q (rest-within w a r.0)) (λ x. if-within (is_true x) _ _ _ (within-right (evaluated b w).rest p q (rest-within w b r.1)) tt)
rest-within w (S.Either a b) r =
    let p = spots_in a w.key in
    let q = spots_in b w.key in
    then-within (evaluated a w).rest _ _ (within-left (evaluated a w).rest p q (rest-within w a r.0)) (λ x. if-within (is_true x) _ _ _ tt (within-right (evaluated b w).rest p q (rest-within w b r.1)))
rest-within w (S.Choose c a b) r =
    let o = spots_in c w.key in
    let p = spots_in a w.key in
    let q = spots_in b w.key in
    then-within (evaluated c w).rest (λ x. if is_true x then (evaluated a w).rest else (evaluated b w).rest) (o ++ (p ++ q)) (within-left (evaluated c w).rest o (p ++ q) (rest-within w c r.0)) (λ x.
    if-within (is_true x) (evaluated a w).rest (evaluated b w).rest (o ++ (p ++ q))
    (within-right (evaluated a w).rest o (p ++ q) (within-left (evaluated a w).rest p q (rest-within w a r.1)))
    (within-right (evaluated b w).rest o (p ++ q) (within-right (evaluated b w).rest p q (rest-within w b r.2))))
rest-within w (S.Folded f h c a) r = absurd r

none-two : (a b : Option Fault) → a ≡ None → b ≡ None → first a b ≡ None
none-two a b e h = ap (λ x. first x b) e ∙ h

hoisted_either : (b : Bool) (a : Answer) → b ≡ true → (if b then plain a else early a).hoisted ≡ None
hoisted_either b a e = ap (λ c. (if c then plain a else early a).hoisted) e

-- nothing is hoisted in parallel code
pub reads-hoist_nothing : (w : View) (e : Expr) → w.parallel ≡ true → Reads w e → (evaluated e w).hoisted ≡ None
reads-hoist_nothing w (S.Const c) p t = refl
reads-hoist_nothing w (S.Var x at) p t = refl
reads-hoist_nothing w (S.Property x q at) p t = hoisted_either w.parallel _ p
reads-hoist_nothing w (S.EdgeProperty x q at) p t = refl
reads-hoist_nothing w (S.Degree d x at) p t = hoisted_either w.parallel _ p
reads-hoist_nothing w S.NodeCount p t = refl
reads-hoist_nothing w S.EdgeCount p t = refl
reads-hoist_nothing w (S.Live x at) p t = hoisted_either w.parallel _ p
reads-hoist_nothing w (S.Unary op at a) p t = reads-hoist_nothing w a p t
reads-hoist_nothing w (S.Binary op at a b) p t = none-two _ _ (reads-hoist_nothing w a p t.0) (reads-hoist_nothing w b p t.1)
reads-hoist_nothing w (S.Both a b) p t = none-two _ _ (reads-hoist_nothing w a p t.0) (reads-hoist_nothing w b p t.1)
reads-hoist_nothing w (S.Either a b) p t = none-two _ _ (reads-hoist_nothing w a p t.0) (reads-hoist_nothing w b p t.1)
reads-hoist_nothing w (S.Choose c a b) p t = none-two _ _ (reads-hoist_nothing w c p t.0) (none-two _ _ (reads-hoist_nothing w a p t.1) (reads-hoist_nothing w b p t.2))
reads-hoist_nothing w (S.Folded f h c a) p t = absurd t

unless-within : {A : Type 0} (h : Option Fault) (r : Result A Fault) (spots : List Spot) → h ≡ None → Within r spots → Within (unless_fault h r) spots
unless-within h r spots e k = subst (λ o. Within (unless_fault o r) spots) (sym e) k

-- the fault of an expression in parallel code
pub value-within : (w : View) (e : Expr) → w.parallel ≡ true → Reads w e → Within (value e w) (spots_in e w.key)
value-within w e p r = unless-within (evaluated e w).hoisted (evaluated e w).rest (spots_in e w.key) (reads-hoist_nothing w e p r) (rest-within w e r)

-- and of several
abbrev pub AllRead : View → List Expr → Type 0
AllRead w [] = Unit {0}
AllRead w (e ∷ es) = Reads w e × AllRead w es

pub all-within : (w : View) (es : List Expr) → AllRead w es → Within (evaluated_all es w).rest (spots_in_all es w.key)
all-within w [] r = tt
all-within w (e ∷ es) r =
    let p = spots_in e w.key in
    let q = spots_in_all es w.key in
    then-within (evaluated e w).rest _ _ (within-left (evaluated e w).rest p q (rest-within w e r.0)) (λ x.
    then-within (evaluated_all es w).rest _ _ (within-right (evaluated_all es w).rest p q (all-within w es r.1)) (λ xs. tt))

pub all-hoist_nothing : (w : View) (es : List Expr) → w.parallel ≡ true → AllRead w es → (evaluated_all es w).hoisted ≡ None
all-hoist_nothing w [] p r = refl
all-hoist_nothing w (e ∷ es) p r = none-two _ _ (reads-hoist_nothing w e p r.0) (all-hoist_nothing w es p r.1)

-- the iterators of a site hold nodes of the graph
abbrev pub HoldNodes : NumberedGraph → List ℕ → (ℕ → ℕ) → Iteration → Type 0
HoldNodes g its at it = (x : ℕ) → is_in its x ≡ true → (it.store.scalar x ≡ At (Some (at x))) × (at x < node_count g)

-- what is asked where a statement of a body begins is so where its parts begin
pub record PartsReady (loop : Loop) (m : Mode) (Ready : S.Stmt → Iteration → Type 0) : Type 0 where
  pub first : (a b : S.Stmt) (it : Iteration) → Ready (S.Then a b) it → Ready a it
  pub second : (a b : S.Stmt) (it : Iteration) → Ready (S.Then a b) it → Ready b (does a m loop it)
  pub yes : (k : Key) (e : Expr) (a b : S.Stmt) (it : Iteration) → Ready (S.If k e a b) it → Ready a it
  pub no : (k : Key) (e : Expr) (a b : S.Stmt) (it : Iteration) → Ready (S.If k e a b) it → Ready b it

-- where nothing is asked
abbrev pub Free : S.Stmt → Iteration → Type 0
Free st it = Unit {0}

pub free : (loop : Loop) (m : Mode) → PartsReady loop m Free
free loop m = record { first = λ a b it h. tt; second = λ a b it h. tt; yes = λ k e a b it h. tt; no = λ k e a b it h. tt }

module _ (c : Layout) (its : List ℕ) (edge : Bool) (loop : Loop) (m : Mode) (home : ℕ → ℕ) where
  node-of : (it : Iteration) (x : ℕ) → HoldNodes loop.graph its home it → is_in its x ≡ true → (n : ℕ) × (node_in loop.graph (it.store.scalar x) ≡ Some n)
  node-of it x h o = let q = h x o in (home x, ap (node_in loop.graph) q.0 ∙ node-in loop.graph (home x) q.1)

  -- what is found reads at nodes alone
  pub reads : (it : Iteration) (k : Key) (e : Expr) → finds c its edge e ≡ true → HoldNodes loop.graph its home it → Reads (view_in loop m it k) e
  reads it k (S.Const v) o h = tt
  reads it k (S.Var x at) o h = tt
  reads it k (S.Property x p at) o h = node-of it x h (both-true (is_in its x) (c.is_kept p) o).0
  reads it k (S.EdgeProperty x p at) o h = tt
  reads it k (S.Degree d x at) o h = node-of it x h o
  reads it k S.NodeCount o h = tt
  reads it k S.EdgeCount o h = tt
  reads it k (S.Live x at) o h = tt
  reads it k (S.Unary op at a) o h = reads it k a o h
  reads it k (S.Binary op at a b) o h = let t = both-true (finds c its edge a) (finds c its edge b) o in (reads it k a t.0 h, reads it k b t.1 h)
  reads it k (S.Both a b) o h = let t = both-true (finds c its edge a) (finds c its edge b) o in (reads it k a t.0 h, reads it k b t.1 h)
  reads it k (S.Either a b) o h = let t = both-true (finds c its edge a) (finds c its edge b) o in (reads it k a t.0 h, reads it k b t.1 h)
  reads it k (S.Choose e a b) o h =
      let t = both-true (finds c its edge e) (finds c its edge a && finds c its edge b) o in
      let u = both-true (finds c its edge a) (finds c its edge b) t.1 in
      (reads it k e t.0 h, reads it k a u.0 h, reads it k b u.1 h)
  reads it k (S.Folded f hd e a) o h = absurd (both_ways false refl o)

  pub all-read : (it : Iteration) (k : Key) (es : List Expr) → list_all (finds c its edge) es ≡ true → HoldNodes loop.graph its home it → AllRead (view_in loop m it k) es
  all-read it k [] o h = tt
  all-read it k (e ∷ es) o h = let t = both-true (finds c its edge e) (list_all (finds c its edge) es) o in (reads it k e t.0 h, all-read it k es t.1 h)

  -- what a statement leaves: its fault has a spot, and the iterators hold nodes
  abbrev pub Left : Iteration → List Spot → Type 0
  Left it spots = Has it.fault spots × HoldNodes loop.graph its home it

  module _ (node : ℕ) (at_once : Bool) (sets : ℕ → ℕ → Bool) (gives : Reduce → List Target → List Expr → Bool) (Ready : S.Stmt → Iteration → Type 0) (parts : PartsReady loop m Ready)
      (no_locals : (x : ℕ) → is_in its x ≡ true → is_register (variable_at c.declarations x) ≡ false)
      (set_at_nodes : (x p : ℕ) → sets x p ≡ true → is_in its x ≡ true)
      (reductions : (k : Key) (total : TotalKey) (r : Reduce) (ts : List Target) (es : List Expr) (it : Iteration) → gives r ts es ≡ true → Ready (S.Combine k total r ts es) it → it.fault ≡ None → HoldNodes loop.graph its home it
      → Left (does (S.Combine k total r ts es) m loop it) (spots_in_all es k ++ reduce_spots at_once its (way_of c.declarations node ts) k total ts)) where
    none-has : (it : Iteration) (spots : List Spot) → it.fault ≡ None → Has it.fault spots
    none-has it spots e = subst (λ o. Has o spots) (sym e) tt

    with-ok-left : {A : Type 0} (it : Iteration) (r : Result A Fault) (next : A → Iteration) (spots : List Spot) → HoldNodes loop.graph its home it → Within r spots
        → ((a : A) → Left (next a) spots) → Left (with_ok it r next) spots
    with-ok-left it (Ok a) next spots h k go = go a
    with-ok-left it (Err f) next spots h k go = (k, h)

    writes : (it : Iteration) (x : ℕ) (a : Value) → is_local c x ≡ true → HoldNodes loop.graph its home it → HoldNodes loop.graph its home (wrote it (Scalar x, a))
    writes it x a o h y e =
        let t = both-true (nat_lt x (length c.declarations)) (is_register (variable_at c.declarations x)) o in
        let q = h y e in
        (ap (λ b. if b then a else it.store.scalar y) (ne_eqb x y (λ i. both_ways (is_register (variable_at c.declarations y)) (no_locals y e) (ap (λ z. is_register (variable_at c.declarations z)) (sym i) ∙ t.1))) ∙ q.0, q.1)

    local-left : (it : Iteration) (x : ℕ) (r : Answer) (spots : List Spot) → is_local c x ≡ true → it.fault ≡ None → HoldNodes loop.graph its home it → Within r spots
        → Left (with_ok it r (λ a. wrote it (Scalar x, a))) spots
    local-left it x r spots o n h k = with-ok-left it r _ spots h k (λ a. (none-has it spots n, writes it x a o h))

    assign-left : (it : Iteration) (r : Result (Slot × Value) Fault) (slot : Slot) (a : Answer) (spots : List Spot) → it.fault ≡ None → HoldNodes loop.graph its home it → Within a spots
        → r ≡ then_with a (λ y. Ok (slot, y)) → ((y : Value) → HoldNodes loop.graph its home (wrote it (slot, y))) → Left (with_ok it r (wrote it)) spots
    assign-left it r slot (Ok y) spots n h k e go = subst (λ q. Left (with_ok it q (wrote it)) spots) (sym e) (none-has it spots n, go y)
    assign-left it r slot (Err f) spots n h k e go = subst (λ q. Left (with_ok it q (wrote it)) spots) (sym e) (k, h)

    then-left : (a b : List Spot) (it : Iteration) (f : Option Fault) (next : Iteration → Iteration) → it.fault ≡ f → Left it a → (it.fault ≡ None → Left (next it) b) → Left (unless_failed f it next) (a ++ b)
    then-left a b it None next e h go = let q = go e in (has-right (next it).fault a b q.0, q.1)
    then-left a b it (Some f) next e h go = (has-left it.fault a b h.0, h.1)

    way-left : (x : Bool) (go other : Iteration → Iteration) (it : Iteration) (spots : List Spot) → Left (go it) spots → Left (other it) spots → Left (one_way x go other it) spots
    way-left true go other it spots h k = h
    way-left false go other it spots h k = k

    left-more : (it : Iteration) (xs ys : List Spot) → Left it ys → Left it (xs ++ ys)
    left-more it xs ys h = (has-right it.fault xs ys h.0, h.1)

    left-less : (it : Iteration) (xs ys : List Spot) → Left it xs → Left it (xs ++ ys)
    left-less it xs ys h = (has-left it.fault xs ys h.0, h.1)

    pub body-left : (st : Stmt) → is_body c (finds c its edge) sets gives st ≡ true → (it : Iteration) → Ready st it → it.fault ≡ None → HoldNodes loop.graph its home it
        → Left (does st m loop it) (spots_of c node its at_once st)
    body-left S.Skip o it y n h = (none-has it [] n, h)
    body-left (S.Then a b) o it y n h =
        let t = both-true (is_body c (finds c its edge) sets gives a) (is_body c (finds c its edge) sets gives b) o in
        let x = body-left a t.0 it (parts.first a b it y) n h in
        then-left (spots_of c node its at_once a) (spots_of c node its at_once b) (does a m loop it) (does a m loop it).fault (does b m loop) refl x (λ e. body-left b t.1 (does a m loop it) (parts.second a b it y) e x.1)
    body-left (S.Declare k x None) o it y n h = (none-has it [] n, writes it x _ (both-true (is_local c x) true o).0 h)
    body-left (S.Declare k x (Some e)) o it y n h =
        let t = both-true (is_local c x) (finds c its edge e) o in
        local-left it x (value e (view_in loop m it k)) (spots_in e k) t.0 n h (value-within (view_in loop m it k) e refl (reads it k e t.1 h))
    body-left (S.DeclareEdge x z at) o it y n h = (none-has it [] n, h)
    body-left (S.Assign k (T.Scalar x at) e) o it y n h =
        let t = both-true (is_local c x) (finds c its edge e) o in
        let w = view_in loop m it k in
        let r = reads it k e t.1 h in
        assign-left it (assigned w (T.Scalar x at) (evaluated e w)) (Scalar x) (evaluated e w).rest (spots_in e k) n h (rest-within w e r)
        (ap (λ f. unless_fault f (then_with (slot_of w (T.Scalar x at)) (λ z. then_with (evaluated e w).rest (λ y. Ok (z, y))))) (reads-hoist_nothing w e refl r))
        (λ a. writes it x a t.0 h)
    body-left (S.Assign k (T.Property x p at) e) o it y n h =
        let t = both-true (sets x p) (finds c its edge e) o in
        let w = view_in loop m it k in
        let r = reads it k e t.1 h in
        let q = node-of it x h (set_at_nodes x p t.0) in
        assign-left it (assigned w (T.Property x p at) (evaluated e w)) (Node p q.0) (evaluated e w).rest (spots_in e k) n h (rest-within w e r)
        (ap (λ f. unless_fault f (then_with (slot_of w (T.Property x p at)) (λ z. then_with (evaluated e w).rest (λ y. Ok (z, y))))) (reads-hoist_nothing w e refl r)
        ∙ ap (λ o. then_with (then_with (node_held w at o) (λ j. Ok (Node p j))) (λ z. then_with (evaluated e w).rest (λ y. Ok (z, y)))) q.1)
        (λ a. h)
    body-left (S.Combine k total r ts es) o it y n h = reductions k total r ts es it o y n h
    body-left (S.If k e a b) o it y n h =
        let t = both-true (finds c its edge e) (is_body c (finds c its edge) sets gives a && is_body c (finds c its edge) sets gives b) o in
        let u = both-true (is_body c (finds c its edge) sets gives a) (is_body c (finds c its edge) sets gives b) t.1 in
        let xs = spots_of c node its at_once a in
        let ys = spots_of c node its at_once b in
        let w = view_in loop m it k in
        with-ok-left it (value e w) (λ z. one_way (is_true z) (does a m loop) (does b m loop) it) (spots_in e k ++ (xs ++ ys)) h (within-left (value e w) (spots_in e k) (xs ++ ys) (value-within w e refl (reads it k e t.0 h))) (λ z.
        way-left (is_true z) (does a m loop) (does b m loop) it (spots_in e k ++ (xs ++ ys))
        (left-more (does a m loop it) (spots_in e k) (xs ++ ys) (left-less (does a m loop it) xs ys (body-left a u.0 it (parts.yes k e a b it y) n h)))
        (left-more (does b m loop it) (spots_in e k) (xs ++ ys) (left-more (does b m loop it) xs ys (body-left b u.1 it (parts.no k e a b it y) n h))))
    body-left (S.Defer k t e) o it y n h = absurd (both_ways false refl o)
    body-left (S.Group k at g p e) o it y n h = absurd (both_ways false refl o)
    body-left (S.Foreach k at hd e a) o it y n h = absurd (both_ways false refl o)
    body-left (S.For k at hd e a) o it y n h = absurd (both_ways false refl o)
    body-left (S.While k at e a) o it y n h = absurd (both_ways false refl o)
    body-left (S.Do k at a e) o it y n h = absurd (both_ways false refl o)
    body-left (S.InBfs k at x e a) o it y n h = absurd (both_ways false refl o)
    body-left (S.InBfsBoth k at x e a j d b) o it y n h = absurd (both_ways false refl o)
    body-left (S.Return k at e) o it y n h = absurd (both_ways false refl o)
