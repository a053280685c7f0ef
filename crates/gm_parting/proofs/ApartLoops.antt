-- A loop whose inner body's statements stand alone goes alike.
use Rattle.std.proofs.Common.{◌≡◌, ◌<◌, ◌≤◌, ◌+◌, arith, ℕ, suc, Bool, true, false, cond, List, [], ◌∷◌, length, map, refl, sym, ap, subst, ◌∙◌, Option, Some, None, Result, Ok, Err, IfOk}
use Rattle.std.proofs.Math.Path.{fun_ext}
use Rattle.std.specs.Prelude.{◌&&◌, ◌||◌, not, nat_eq}
use Rattle.std.specs.List.{list_all}
use Rattle.std.proofs.lemmas.Bool.{eq-eqb, ne_eqb}
use Rattle.gm_base.specs.declared.places.Place.{Place}
use Rattle.gm_value.specs.declared.operations.Op1.TheVariants.{Not}
use Rattle.gm_value.specs.declared.reductions.Reduce.{Reduce}
use Rattle.gm_value.specs.declared.values.Value.{Value}
use Rattle.gm_value.specs.declared.values.Value.TheVariants.{Flag}
use Rattle.gm_value.specs.Operations.{is_true}
use Rattle.gm_model.specs.Graphs.{Step}
use Rattle.gm_ast.specs.declared.tree.Declaration.{Declaration}
use Rattle.gm_ast.specs.declared.tree.Head.{Head}
use Rattle.gm_ast.specs.declared.tree.Key.{Key}
use Rattle.gm_ast.specs.declared.tree.Target.{Target}
use Rattle.gm_ast.specs.declared.tree.Target.TheVariants as T
use Rattle.gm_ast.specs.declared.tree.TotalKey.{TotalKey}
use Rattle.gm_ast.specs.Program.{Expr, Var, Unary, Stmt, Skip, Then, Declare, DeclareEdge, Assign, Defer, Combine, Group, Foreach, For, If, While, Do, InBfs, InBfsBoth, Return, sequence}
use Rattle.gm_semantics.specs.declared.faults.Fault.{Fault}
use Rattle.gm_semantics.specs.declared.slots.Slot.{Slot}
use Rattle.gm_semantics.specs.declared.slots.Slot.TheVariants.{Scalar, Node}
use Rattle.gm_semantics.specs.Stores.{Store, write, write_all}
use Rattle.gm_semantics.specs.Faults.{then_with, unless_fault}
use Rattle.gm_semantics.specs.Levels.{nodes, no_levels}
use Rattle.gm_semantics.specs.Expressions.{Answer, View, Evaluated, AllEvaluated, node_of, evaluated, evaluated_all, value, steps_in}
use Rattle.gm_semantics.specs.Iterations.{Ends, AtOnce, WithInner, WithOutermost, Loop, Iteration, Mode, Outermost, AtEdge, unless_failed, go_on, with_ok, one_way, as_it_is, view_in, slot_of, slots_of, assigned, assigned_all, target_value, combined_by, closed_by, alone, at_once, wrote, wrote_all, contribution, gave_inner, gave_outermost, ends_of_all, reduced, inner_done, turn_at, does}
use Rattle.gm_semantics.specs.Loops.{pushes, iteration}
use Rattle.gm_semantics.specs.Statements.{Run, loop_of, sequential}
use Rattle.gm_semantics.specs.Frames.{ReadsBelow, TargetBelow, TargetsBelow, NamesBelow, Alike, AlikeCourses}
use Rattle.gm_semantics.proofs.ExpressionFrames.{steps_in-frame}
use Rattle.gm_semantics.proofs.BodyFrames.{does-alike, each-mapped}
use Rattle.gm_semantics.proofs.StatementFrames.{sequential-alike}
use Rattle.gm_forms.proofs.Named.{both-true, names-below}
use Rattle.gm_forms.proofs.Weaker.{and-true}
use Rattle.gm_loop_laws.specs.Masks.{Change, looped, SameChange}
use Rattle.gm_loop_laws.specs.Saved.{is_other, never_writes}
use Rattle.gm_loop_laws.proofs.Endings.{done-alike}
use Rattle.gm_loop_laws.proofs.Pieces.{courses-alike}
use Rattle.gm_dissect.proofs.SavedLoops.{or-false}
use Rattle.gm_dissect.proofs.Phases.{Rewrites}
use Rattle.gm_cut.specs.Slices.{goes_one_way}
use Rattle.gm_parting.specs.Nodes.{is_body_local}
use Rattle.gm_parting.specs.Numbers.{count_ifs}
use Rattle.gm_parting.specs.Apart.{under, apart, apart_loop}
use Rattle.gm_parting.proofs.ApartParts.{same-under, same-apart}
use Rattle.gm_parting.proofs.NodesLoops.{inner_done-alike, alike-failed, alike-beside, same-value, turn-reads, local-off}

-- ---- what a body does not write stays

flipped : (b : Bool) → not b ≡ true → b ≡ false
flipped false h = refl
flipped true h = sym h

-- y: a scalar
module _ (y : ℕ) where
  abbrev Off : Slot → Type 0
  Off (Scalar x) = nat_eq x y ≡ false
  Off (Node p n) = Unit {0}

  abbrev AllOff : List Slot → Type 0
  AllOff [] = Unit {0}
  AllOff (x ∷ xs) = Off x × AllOff xs

  write-off : (s : Store) (x : Slot) (v : Value) → Off x → (write s x v).scalar y ≡ s.scalar y
  write-off s (Scalar x) v o = ap (λ c. cond c v (s.scalar y)) o
  write-off s (Node p n) v o = refl

  writes-off : (s : Store) (xs : List Slot) (vs : List Value) → AllOff xs → (write_all s xs vs).scalar y ≡ s.scalar y
  writes-off s [] vs o = refl
  writes-off s (x ∷ xs) [] o = refl
  writes-off s (x ∷ xs) (v ∷ vs) o = writes-off (write s x v) xs vs o.1 ∙ write-off s x v o.0

  slot-off : (w : View) (t : Target) → is_other y t ≡ true → IfOk (slot_of w t) Off
  slot-off w (T.Scalar x at) h = flipped (nat_eq x y) h
  slot-off w (T.Property x p at) h = by (node_of w x at)
    where
      by : (r : Result ℕ Fault) → IfOk (then_with r (λ n. Ok (Node p n))) Off
      by (Ok n) = tt
      by (Err f) = tt

  slots-off : (w : View) (ts : List Target) → list_all (is_other y) ts ≡ true → IfOk (slots_of w ts) AllOff
  slots-off w [] h = tt
  slots-off w (t ∷ ts) h = let r = both-true (is_other y t) (list_all (is_other y) ts) h in by (slot_of w t) (slots_of w ts) (slot-off w t r.0) (slots-off w ts r.1)
    where
      by : (r : Result Slot Fault) (q : Result (List Slot) Fault) → IfOk r Off → IfOk q AllOff → IfOk (then_with r (λ s. then_with q (λ ss. Ok (s ∷ ss)))) AllOff
      by (Ok s) (Ok ss) o p = (o, p)
      by (Ok s) (Err f) o p = tt
      by (Err f) q o p = tt

  assigned-off : (w : View) (t : Target) (v : Evaluated) → is_other y t ≡ true → IfOk (assigned w t v) (λ q. Off q.0)
  assigned-off w t v h = by v.hoisted (slot_of w t) v.rest (slot-off w t h)
    where
      by : (o : Option Fault) (r : Result Slot Fault) (q : Result Value Fault) → IfOk r Off → IfOk {T = Slot × Value} (unless_fault o (then_with r (λ s. then_with q (λ x. Ok (s, x))))) (λ q. Off q.0)
      by (Some f) r q p = tt
      by None (Err f) q p = tt
      by None (Ok s) (Err f) p = tt
      by None (Ok s) (Ok x) p = p

  all-off : (w : View) (ts : List Target) (v : AllEvaluated) → list_all (is_other y) ts ≡ true → IfOk (assigned_all w ts v) (λ q. AllOff q.0)
  all-off w ts v h = by v.hoisted (slots_of w ts) v.rest (slots-off w ts h)
    where
      by : (o : Option Fault) (r : Result (List Slot) Fault) (q : Result (List Value) Fault) → IfOk r AllOff → IfOk {T = List Slot × List Value} (unless_fault o (then_with r (λ s. then_with q (λ x. Ok (s, x))))) (λ q. AllOff q.0)
      by (Some f) r q p = tt
      by None (Err f) q p = tt
      by None (Ok s) (Err f) p = tt
      by None (Ok s) (Ok x) p = p

  alone-off : (r : Result (Slot × Value) Fault) → IfOk r (λ q. Off q.0) → IfOk (alone r) (λ q. AllOff q.0)
  alone-off (Ok q) h = (h, tt)
  alone-off (Err f) h = tt

  once-off : (w : View) (at : Place) (r : Reduce) (ts : List Target) (es : List Expr) → list_all (is_other y) ts ≡ true → IfOk (at_once w at r ts es) (λ q. AllOff q.0)
  once-off w at r [] es h = all-off w [] (closed_by r w at (evaluated_all (map target_value []) w) (evaluated_all es w)) h
  once-off w at r (t ∷ []) [] h = all-off w (t ∷ []) (closed_by r w at (evaluated_all (map target_value (t ∷ [])) w) (evaluated_all [] w)) h
  once-off w at r (t ∷ []) (e ∷ []) h =
      let v = combined_by r w at (evaluated (target_value t) w) (evaluated e w) in alone-off (assigned w t v) (assigned-off w t v (both-true (is_other y t) true h).0)
  once-off w at r (t ∷ []) (e ∷ (d ∷ es)) h = all-off w (t ∷ []) (closed_by r w at (evaluated_all (map target_value (t ∷ [])) w) (evaluated_all (e ∷ (d ∷ es)) w)) h
  once-off w at r (t ∷ (u ∷ ts)) es h = all-off w (t ∷ (u ∷ ts)) (closed_by r w at (evaluated_all (map target_value (t ∷ (u ∷ ts))) w) (evaluated_all es w)) h

  stays-with : {A : Type 0} (it : Iteration) (r : Result A Fault) (f : A → Iteration) (P : A → Type 0) → IfOk r P → ((x : A) → P x → (f x).store.scalar y ≡ it.store.scalar y) → (with_ok it r f).store.scalar y ≡ it.store.scalar y
  stays-with it (Ok x) f P h each = each x h
  stays-with it (Err e) f P h each = refl

  any : {A : Type 0} (r : Result A Fault) → IfOk r (λ x. Unit {0})
  any (Ok x) = tt
  any (Err f) = tt

  module _ (loop : Loop) (edge : ℕ) where
    abbrev m : Mode
    m = AtEdge edge

    stays-reduced : (ends : Ends) (k : Key) (it : Iteration) (total : TotalKey) (r : Reduce) (ts : List Target) (es : List Expr) → list_all (is_other y) ts ≡ true → (reduced ends (view_in loop m it k) it total r ts es).store.scalar y ≡ it.store.scalar y
    stays-reduced AtOnce k it total r ts es h =
        let w = view_in loop m it k in
        stays-with it (at_once w total.place r ts es) (wrote_all it) (λ q. AllOff q.0) (once-off w total.place r ts es h) (λ q o. writes-off it.store q.0 q.1 o)
    stays-reduced WithInner k it total r ts es h =
        let w = view_in loop m it k in
        stays-with it (assigned_all w ts (evaluated_all es w)) (λ p. gave_inner it (contribution total r p)) (λ q. Unit {0}) (any (assigned_all w ts (evaluated_all es w))) (λ q o. refl)
    stays-reduced WithOutermost k it total r ts es h =
        let w = view_in loop m it k in
        stays-with it (assigned_all w ts (evaluated_all es w)) (λ p. gave_outermost it (contribution total r p)) (λ q. Unit {0}) (any (assigned_all w ts (evaluated_all es w))) (λ q o. refl)

    stays : (s : Stmt) (it : Iteration) → never_writes y s ≡ true → (does s m loop it).store.scalar y ≡ it.store.scalar y
    stays Skip it h = refl
    stays (Then a b) it h =
        let r = both-true (never_writes y a) (never_writes y b) h in by (does a m loop it).fault (stays b (does a m loop it) r.1) ∙ stays a it r.0
      where
        by : (o : Option Fault) → (does b m loop (does a m loop it)).store.scalar y ≡ (does a m loop it).store.scalar y → (unless_failed o (does a m loop it) (does b m loop)).store.scalar y ≡ (does a m loop it).store.scalar y
        by (Some f) e = refl
        by None e = e
    stays (Declare k x None) it h = write-off it.store (Scalar x) _ (flipped (nat_eq x y) h)
    stays (Declare k x (Some e)) it h =
        let r = value e (view_in loop m it k) in stays-with it r (λ v. wrote it (Scalar x, v)) (λ v. Unit {0}) (any r) (λ v u. write-off it.store (Scalar x) v (flipped (nat_eq x y) h))
    stays (DeclareEdge x z at) it h = refl
    stays (Assign k t e) it h =
        let w = view_in loop m it k in
        let r = assigned w t (evaluated e w) in
        stays-with it r (wrote it) (λ q. Off q.0) (assigned-off w t (evaluated e w) h) (λ q o. write-off it.store q.0 q.1 o)
    stays (Defer k t e) it h = refl
    stays (Combine k total r ts es) it h = stays-reduced (ends_of_all m loop ts) k it total r ts es h
    stays (Group k at g p e) it h = refl
    stays (Foreach k at hd test body) it h = refl
    stays (For k at hd test body) it h = refl
    stays (If k c a b) it h =
        let r = both-true (never_writes y a) (never_writes y b) h in
        let q = value c (view_in loop m it k) in
        stays-with it q (λ v. one_way (is_true v) (does a m loop) (does b m loop) it) (λ v. Unit {0}) (any q) (λ v u. by (is_true v) (stays a it r.0) (stays b it r.1))
      where
        by : (o : Bool) → (does a m loop it).store.scalar y ≡ it.store.scalar y → (does b m loop it).store.scalar y ≡ it.store.scalar y → (one_way o (does a m loop) (does b m loop) it).store.scalar y ≡ it.store.scalar y
        by true p q = p
        by false p q = q
    stays (While k at c body) it h = refl
    stays (Do k at body c) it h = refl
    stays (InBfs k at hd c body) it h = refl
    stays (InBfsBoth k at hd c body back_key d back) it h = refl
    stays (Return k at e) it h = refl

    -- ---- a part under a condition

    way-same : (o : Bool) (f g : Iteration → Iteration) (it : Iteration) → g it ≡ it → one_way o f g it ≡ one_way o f as_it_is it
    way-same true f g it e = refl
    way-same false f g it e = e

    nothing : (o : Bool) (f : Iteration → Iteration) (it : Iteration) → f it ≡ it → it ≡ one_way o f as_it_is it
    nothing true f it e = sym e
    nothing false f it e = refl

    -- c: a condition that reads y alone
    module _ (c : Expr) (f : Value → Value) (reads : (k : Key) (it : Iteration) → value c (view_in loop m it k) ≡ Ok (f (it.store.scalar y))) where
      abbrev asked : Iteration → Bool
      asked it = is_true (f (it.store.scalar y))

      alone-does : (k : Key) (s : Stmt) (it : Iteration) → does (If k c s Skip) m loop it ≡ one_way (asked it) (does s m loop) as_it_is it
      alone-does k s it = ap (λ r. with_ok it r (λ v. one_way (is_true v) (does s m loop) (does Skip m loop) it)) (reads k it) ∙ way-same (asked it) (does s m loop) (does Skip m loop) it refl

      under-does : (k : Key) (s : Stmt) (it : Iteration) → never_writes y s ≡ true → it.fault ≡ None → does (under k c s) m loop it ≡ one_way (asked it) (does s m loop) as_it_is it
      under-does k Skip it h fine = nothing (asked it) (does Skip m loop) it refl
      under-does k (Then a b) it h fine = ap (λ x. go_on x (does (under k c b) m loop)) (under-does k a it r.0 fine) ∙ by (asked it) refl (λ i d. under-does k b i r.1 d)
        where
          r : (never_writes y a ≡ true) × (never_writes y b ≡ true)
          r = both-true (never_writes y a) (never_writes y b) h

          by : (o : Bool) → asked it ≡ o → ((i : Iteration) → i.fault ≡ None → does (under k c b) m loop i ≡ one_way (asked i) (does b m loop) as_it_is i) →
              go_on (one_way o (does a m loop) as_it_is it) (does (under k c b) m loop) ≡ one_way o (does (Then a b) m loop) as_it_is it
          by true e more = inside (does a m loop it).fault refl
            where
              inside : (g : Option Fault) → (does a m loop it).fault ≡ g → unless_failed g (does a m loop it) (does (under k c b) m loop) ≡ unless_failed g (does a m loop it) (does b m loop)
              inside (Some x) d = refl
              inside None d =
                  more (does a m loop it) d ∙ ap (λ v. one_way (is_true (f v)) (does b m loop) as_it_is (does a m loop it)) (stays a it r.0) ∙ ap (λ o. one_way o (does b m loop) as_it_is (does a m loop it)) e
          by false e more = ap (λ g. unless_failed g it (does (under k c b) m loop)) fine ∙ more it fine ∙ ap (λ o. one_way o (does b m loop) as_it_is it) e
      under-does k s it h fine = alone-does k s it

-- ---- names

and-one : (x : Bool) → x && true ≡ x
and-one true = refl
and-one false = refl

-- a body with all its names below a number does not write what is above
module _ (j y : ℕ) (high : j ≤ y) where
  other : (x : ℕ) → x < j → not (nat_eq x y) ≡ true
  other x l = ap not (ne_eqb x y (λ e. omega (arith, e, l, high)))

  other-target : (t : Target) → TargetBelow j t → is_other y t ≡ true
  other-target (T.Scalar x at) b = other x b
  other-target (T.Property x p at) b = refl

  other-targets : (ts : List Target) → TargetsBelow j ts → list_all (is_other y) ts ≡ true
  other-targets [] b = refl
  other-targets (t ∷ ts) b = and-true (is_other y t) (list_all (is_other y) ts) (other-target t b.0) (other-targets ts b.1)

  below-never : (s : Stmt) → NamesBelow j s → never_writes y s ≡ true
  below-never Skip b = refl
  below-never (Then s r) b = and-true (never_writes y s) (never_writes y r) (below-never s b.0) (below-never r b.1)
  below-never (Declare k x e) b = other x b.0
  below-never (DeclareEdge x z at) b = refl
  below-never (Assign k t e) b = other-target t b.0
  below-never (Defer k t e) b = refl
  below-never (Combine k total r ts es) b = other-targets ts b.0
  below-never (Group k at g p e) b = refl
  below-never (Foreach k at h test body) b = and-true (not (nat_eq h.iterator y)) (never_writes y body) (other h.iterator b.0) (below-never body b.3)
  below-never (For k at h test body) b = refl
  below-never (If k c s r) b = and-true (never_writes y s) (never_writes y r) (below-never s b.1) (below-never r b.2)
  below-never (While k at c body) b = refl
  below-never (Do k at body c) b = refl
  below-never (InBfs k at h c body) b = refl
  below-never (InBfsBoth k at h c body back_key d back) b = refl
  below-never (Return k at e) b = refl

  never-under : (k : Key) (c : Expr) (s : Stmt) → never_writes y (under k c s) ≡ never_writes y s
  never-under k c s = same-under (λ a b. a && b) true (λ x. refl) and-one (never_writes y) refl (λ a b. refl) (λ k c a b. refl) k c s

  -- nor do its statements apart, whose locals are behind it
  apart-never : (at : Place) (z : ℕ) (s : Stmt) → y < z → NamesBelow j s → never_writes y (apart at z s) ≡ true
  apart-never at z (Then a b) l n =
      and-true (never_writes y (apart at z a)) (never_writes y (apart at (z + count_ifs a) b)) (apart-never at z a l n.0) (apart-never at (z + count_ifs a) b (omega (arith, l)) n.1)
  apart-never at z (If k c a b) l n =
      let u = under k (Var z at) (apart at (suc z) a) in
      let v = under k (Unary Not at (Var z at)) (apart at (suc z + count_ifs a) b) in
      and-true (not (nat_eq z y)) (never_writes y u && (never_writes y v && true)) (ap not (ne_eqb z y (λ e. omega (arith, e, l))))
      (and-true (never_writes y u) (never_writes y v && true) (never-under k (Var z at) (apart at (suc z) a) ∙ apart-never at (suc z) a (omega (arith, l)) n.1)
      (and-true (never_writes y v) true (never-under k (Unary Not at (Var z at)) (apart at (suc z + count_ifs a) b) ∙ apart-never at (suc z + count_ifs a) b (omega (arith, l)) n.2) refl))
  apart-never at z s l n = below-never s n

-- ---- bodies

-- j: the number of variables before
module _ (j : ℕ) (ds : List Declaration) (loop : Loop) (outer : loop.outer < j) (off : (x : ℕ) → is_body_local ds x ≡ true → nat_eq x loop.outer ≡ false) where
  last-alone : (s : Stmt) (m : Mode) (it : Iteration) → does (Then s Skip) m loop it ≡ does s m loop it
  last-alone s m it = by (does s m loop it) (does s m loop it).fault
    where
      by : (a : Iteration) (o : Option Fault) → unless_failed o a (λ x. x) ≡ a
      by a None = refl
      by a (Some f) = refl

  module _ (edge : ℕ) (at : Place) where
    abbrev mode : Mode
    mode = AtEdge edge

    -- an If whose condition is saved, with its branches apart
    module _ (k : Key) (c : Expr) (s r s' r' : Stmt) (y : ℕ) (a b : Iteration) (high : j ≤ y) (reads : ReadsBelow j c) (free : never_writes y s' ≡ true) (free' : never_writes y r' ≡ true) (fine : a.fault ≡ None) (h : Alike j a b)
        (first : (d : Iteration) → Alike j a d → Alike j (does s (AtEdge edge) loop a) (does s' (AtEdge edge) loop d)) (second : (d : Iteration) → Alike j a d → Alike j (does r (AtEdge edge) loop a) (does r' (AtEdge edge) loop d)) where
      abbrev under-it : Stmt
      under-it = under k (Var y at) s'

      abbrev under-not : Stmt
      under-not = under k (Unary Not at (Var y at)) r'

      fine' : b.fault ≡ None
      fine' = h.fault ∙ fine

      -- where the condition is known
      module _ (v : Value) where
        abbrev d : Iteration
        d = wrote b (Scalar y, v)

        now : Alike j a d
        now = alike-beside j ds loop outer off a b y v high h

        holds : d.store.scalar y ≡ v
        holds = ap (λ c. cond c v (b.store.scalar y)) (eq-eqb y y refl)

        one : does under-it mode loop d ≡ one_way (is_true v) (does s' mode loop) as_it_is d
        one = under-does y loop edge (Var y at) (λ x. x) (λ k it. refl) k s' d free fine' ∙ ap (λ x. one_way (is_true x) (does s' mode loop) as_it_is d) holds

        two : (e : Iteration) → e.fault ≡ None → e.store.scalar y ≡ v → does (Then under-not Skip) mode loop e ≡ one_way (not (is_true v)) (does r' mode loop) as_it_is e
        two e f g =
            last-alone under-not mode e ∙ under-does y loop edge (Unary Not at (Var y at)) (λ x. Flag (not (is_true x))) (λ k it. refl) k r' e free' f
            ∙ ap (λ x. one_way (is_true (Flag (not (is_true x)))) (does r' mode loop) as_it_is e) g ∙ ap (λ o. one_way o (does r' mode loop) as_it_is e) (flag-is (not (is_true v)))
          where
            flag-is : (o : Bool) → is_true (Flag o) ≡ o
            flag-is true = refl
            flag-is false = refl

        way : (o : Bool) → is_true v ≡ o → Alike j (one_way o (does s mode loop) (does r mode loop) a) (go_on (one_way o (does s' mode loop) as_it_is d) (does (Then under-not Skip) mode loop))
        way true e = inside (does s' mode loop d).fault refl
          where
            inside : (g : Option Fault) → (does s' mode loop d).fault ≡ g → Alike j (does s mode loop a) (unless_failed g (does s' mode loop d) (does (Then under-not Skip) mode loop))
            inside (Some f) q = first d now
            inside None q =
                subst (λ x. Alike j (does s mode loop a) x) (sym (two (does s' mode loop d) q (stays y loop edge s' d free ∙ holds) ∙ ap (λ o. one_way (not o) (does r' mode loop) as_it_is (does s' mode loop d)) e)) (first d now)
        way false e =
            subst (λ x. Alike j (does r mode loop a) x) (sym (ap (λ g. unless_failed g d (does (Then under-not Skip) mode loop)) fine' ∙ two d fine' holds ∙ ap (λ o. one_way (not o) (does r' mode loop) as_it_is d) e)) (second d now)

        both : Alike j (one_way (is_true v) (does s mode loop) (does r mode loop) a) (go_on d (does (Then under-it (Then under-not Skip)) mode loop))
        both =
            subst (λ x. Alike j (one_way (is_true v) (does s mode loop) (does r mode loop) a) x) (sym (ap (λ g. unless_failed g d (does (Then under-it (Then under-not Skip)) mode loop)) fine' ∙ ap (λ x. go_on x (does (Then under-not Skip) mode loop)) one)) (way (is_true v) refl)

      by-value : (z : Answer) → Alike j (with_ok a z (λ v. one_way (is_true v) (does s mode loop) (does r mode loop) a)) (go_on (with_ok b z (λ v. wrote b (Scalar y, v))) (does (Then under-it (Then under-not Skip)) mode loop))
      by-value (Ok v) = both v
      by-value (Err f) = alike-failed j ds loop outer off a b f h

      if-apart : Alike j (does (If k c s r) mode loop a) (does (sequence (Declare k y (Some c) ∷ under-it ∷ under-not ∷ [])) mode loop b)
      if-apart =
          subst (λ z. Alike j (does (If k c s r) mode loop a) (go_on (with_ok b z (λ v. wrote b (Scalar y, v))) (does (Then under-it (Then under-not Skip)) mode loop))) (sym (same-value j ds loop outer off mode a b k c reads h)) (by-value (value c (view_in loop mode a k)))

    goes : (s : Stmt) (y : ℕ) (a b : Iteration) → j ≤ y → NamesBelow j s → a.fault ≡ None → Alike j a b → Alike j (does s mode loop a) (does (apart at y s) mode loop b)
    goes (Then s r) y a b l n fine h =
        let one = goes s y a b l n.0 fine h in
        let s' = apart at y s in
        let r' = apart at (y + count_ifs s) r in
        subst (λ z. Alike j (go_on (does s mode loop a) (does r mode loop)) (unless_failed z (does s' mode loop b) (does r' mode loop))) (sym one.fault)
        (by (does s mode loop a) (does s' mode loop b) (does s mode loop a).fault refl one (λ e. goes r (y + count_ifs s) (does s mode loop a) (does s' mode loop b) (omega (arith, l)) n.1 e one))
      where
        by : (x z : Iteration) (o : Option Fault) → x.fault ≡ o → Alike j x z → (x.fault ≡ None → Alike j (does r mode loop x) (does (apart at (y + count_ifs s) r) mode loop z)) →
            Alike j (unless_failed o x (does r mode loop)) (unless_failed o z (does (apart at (y + count_ifs s) r) mode loop))
        by x z None e one more = more e
        by x z (Some f) e one more = one
    goes (If k c s r) y a b l n fine h =
        if-apart k c s r (apart at (suc y) s) (apart at (suc y + count_ifs s) r) y a b l n.0 (apart-never j y l at (suc y) s (omega arith) n.1) (apart-never j y l at (suc y + count_ifs s) r (omega arith) n.2) fine h
        (λ d g. goes s (suc y) a d (omega (arith, l)) n.1 fine g) (λ d g. goes r (suc y + count_ifs s) a d (omega (arith, l)) n.2 fine g)
    goes Skip y a b l n fine h = h
    goes (Declare k x e) y a b l n fine h = does-alike j (Declare k x e) mode loop a b n h
    goes (DeclareEdge x z here) y a b l n fine h = h
    goes (Assign k o e) y a b l n fine h = does-alike j (Assign k o e) mode loop a b n h
    goes (Defer k o e) y a b l n fine h = h
    goes (Combine k total o ts es) y a b l n fine h = does-alike j (Combine k total o ts es) mode loop a b n h
    goes (Group k here g p e) y a b l n fine h = h
    goes (Foreach k here hd test body) y a b l n fine h = h
    goes (For k here hd test body) y a b l n fine h = h
    goes (While k here c body) y a b l n fine h = h
    goes (Do k here body c) y a b l n fine h = h
    goes (InBfs k here hd c body) y a b l n fine h = h
    goes (InBfsBoth k here hd c body back_key e back) y a b l n fine h = h
    goes (Return k here e) y a b l n fine h = h

  -- an inner loop, and the loop whose body it is
  inner-apart : (at here : Place) (k : Key) (hd : Head) (test : Expr) (body : Stmt) (y : ℕ) (a b : Iteration) → j ≤ y → NamesBelow j (Foreach k here hd test body) → Alike j a b →
      Alike j (does (Foreach k here hd test body) Outermost loop a) (does (Foreach k here hd test (apart at y body)) Outermost loop b)
  inner-apart at here k hd test body y a b l n h =
      let body' = apart at y body in
      let turn : Stmt → Store → Step → Iteration = λ s st step. turn_at loop (AtEdge step.edge) k test (does s (AtEdge step.edge) loop) hd.iterator step.node st in
      subst (λ steps. Alike j (does (Foreach k here hd test body) Outermost loop a) (inner_done b (map (turn body' b.store) steps))) (sym (steps_in-frame j (view_in loop Outermost a k) b.store hd n.1 h.store))
      (inner_done-alike j a b _ _ h (each-mapped j (turn body a.store) (turn body' b.store) (steps_in (view_in loop Outermost a k) hd)
      (λ step. turn-reads j ds loop outer off (AtEdge step.edge) k test (does body (AtEdge step.edge) loop) (does body' (AtEdge step.edge) loop) hd.iterator step.node a.store b.store n.2 h.store
      (λ x z f g. goes step.edge at body y x z l n.3 f g))))

  loop-apart : (at here : Place) (key k : Key) (hd : Head) (mask test : Expr) (body : Stmt) (y : ℕ) → j ≤ y → ReadsBelow j mask → NamesBelow j (Foreach k here hd test body) →
      SameChange j (looped loop key mask (Foreach k here hd test body)) (looped loop key mask (Foreach k here hd test (apart at y body)))
  loop-apart at here key k hd mask test body y l reads names s u agree =
      let whole = Foreach k here hd test body in
      let whole' = Foreach k here hd test (apart at y body) in
      done-alike j (iteration loop key mask whole s) (iteration loop key mask whole' u) (nodes loop.graph) s u
      (λ x i.
      let h : Alike j (iteration loop key mask whole s x) (iteration loop key mask whole' u x) =
      turn-reads j ds loop outer off Outermost key mask (does whole Outermost loop) (does whole' Outermost loop) loop.outer x s u reads agree (λ a b f g. inner-apart at here k hd test body y a b l names g) in
      record { node = λ p y b. h.store.node p y b; with_outermost = h.with_outermost; deferred = h.deferred; fault = h.fault; below = h.outermost_below }) agree

-- ---- what is pushed

apart-pushes : (at : Place) (n p y : ℕ) (s : Stmt) → pushes (apart at y s) n p ≡ pushes s n p
apart-pushes at n p y s = same-apart (λ a b. a || b) false (λ x. refl) or-false (λ s. pushes s n p) refl (λ a b. refl) (λ k c a b. refl) (λ k y c. refl) at y s

-- ---- loops of a phase

module _ (ds : List Declaration) (run : Run) (first : ℕ) (high : length ds ≤ first) where
  pub apart-alike : Rewrites ds run (apart_loop ds first)
  apart-alike key at h mask (Foreach j here inner test body) known u v alike = by (goes_one_way ds h.iterator inner test body)
    where
      n : ℕ
      n = h.iterator

      whole : Stmt
      whole = Foreach j here inner test body

      inside : Stmt
      inside = Foreach j here inner test (apart here first body)

      below : NamesBelow (length ds) (Foreach key at h mask (Foreach j here inner test body))
      below = names-below ds (Foreach key at h mask (Foreach j here inner test body)) known.named

      apart-here : AlikeCourses (length ds) (sequential (Foreach key at h mask whole) run u) (sequential (Foreach key at h mask inside) run v)
      apart-here =
          let loop : Loop = loop_of run no_levels n whole in
          let alone : Change = looped (loop_of run no_levels n inside) key mask inside in
          let law : SameChange (length ds) (looped loop key mask whole) (looped loop key mask inside) =
          loop-apart (length ds) ds loop below.0 (λ x e. local-off ds key at h mask whole known.named x e) here here key j inner mask test body first high below.2 below.3 in
          let within : looped loop key mask inside ≡ alone = ap (λ (f : ℕ → Bool). looped (record loop { pushed = f }) key mask inside) (sym (fun_ext (λ p. apart-pushes here n p first body))) in
          courses-alike (length ds) u v (looped loop key mask whole u.store) (alone v.store) (subst (SameChange (length ds) (looped loop key mask whole)) within law u.store v.store alike.store) alike.turns

      by : (o : Bool) → AlikeCourses (length ds) (sequential (Foreach key at h mask whole) run u) (sequential (Foreach key at h mask (Foreach j here inner test (cond o body (apart here first body)))) run v)
      by true = sequential-alike (length ds) (Foreach key at h mask whole) run u v below alike
      by false = apart-here
  apart-alike key at h mask body known u v alike = sequential-alike (length ds) (Foreach key at h mask body) run u v (names-below ds (Foreach key at h mask body) known.named) alike
