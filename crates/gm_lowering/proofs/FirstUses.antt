-- What a body does is the same for all values of the locals that it sets before it reads them.
use Rattle.std.proofs.Common.{◌≡◌, ◌⊎◌, inl, inr, ℕ, Bool, true, false, Option, Some, None, Result, Ok, Err, List, [], ◌∷◌, ◌++◌, map, refl, ap, ◌∙◌, sym, subst, ⊎_elim}
use Rattle.std.specs.Prelude.{◌&&◌, ◌||◌, nat_eq, nat_lt, if◌then◌else◌, IfOk}
use Rattle.std.specs.List.{list_all, list_any}
use Rattle.std.proofs.lemmas.Bool.{both_ways, eqb-true, eq-eqb}
use Rattle.std.proofs.Math.Path.{fun_ext}
use Rattle.gm_base.specs.declared.places.Place.{Place}
use Rattle.gm_value.specs.declared.values.Value.{Value}
use Rattle.gm_value.specs.declared.values.Value.TheVariants.{At}
use Rattle.gm_value.specs.declared.reductions.Reduce.{Reduce}
use Rattle.gm_value.specs.declared.reductions.Reduce.TheVariants.{Sum, Product, Min, Max, And, Or}
use Rattle.gm_value.specs.Numbers.{zero_of}
use Rattle.gm_value.specs.Operations.{is_true}
use Rattle.gm_value.specs.Reductions.{close}
use Rattle.gm_value.specs.Tuples.{close_slots}
use Rattle.gm_ast.specs.declared.tree.Key.{Key}
use Rattle.gm_ast.specs.declared.tree.Target.{Target}
use Rattle.gm_ast.specs.declared.tree.Target.TheVariants as T
use Rattle.gm_ast.specs.Program as S
use Rattle.gm_ast.specs.Program.{Expr, Stmt}
use Rattle.gm_ast.specs.Ways.{is_in}
use Rattle.gm_forms.specs.Doing.{EachSlot}
use Rattle.gm_forms.specs.Reading.{ReadsGood, Agrees}
use Rattle.gm_forms.proofs.Named.{both-true}
use Rattle.gm_forms.proofs.ReadingFrames.{evaluated-good, once-assigned}
use Rattle.gm_semantics.specs.declared.faults.Fault.{Fault}
use Rattle.gm_semantics.specs.declared.slots.Slot.{Slot}
use Rattle.gm_semantics.specs.declared.slots.Slot.TheVariants.{Scalar, Node}
use Rattle.gm_semantics.specs.Expressions.{View, Answer, Evaluated, AllEvaluated, evaluated, evaluated_all, and_all, node_held, value, settled, plain, two_of}
use Rattle.gm_semantics.specs.Faults.{then_with, unless_fault, first}
use Rattle.gm_semantics.specs.Iterations.{Loop, Mode, Iteration, AtOnce, WithInner, WithOutermost, view_in, failed, unless_failed, with_ok, one_way, wrote, wrote_all, slots_of, assigned, assigned_all, alone, target_value, combined_by, tuple_held, closed_by, together, at_once, contribution, gave_inner, gave_outermost, reduced, ends_of_all, does}
use Rattle.gm_semantics.specs.Levels.{node_in}
use Rattle.gm_semantics.specs.Stores.{read}
use Rattle.gm_semantics.specs.Statements.{variable_at}
use Rattle.gm_semantics.proofs.ExpressionFrames.{held-moved, located-moved}
use Rattle.gm_lowering.specs.Layouts.{Layout}
use Rattle.gm_lowering.specs.Blocks.{FirstUse, Unused, Set, Read, next_use, either_use, use_if, reads_scalar, names_scalar, first_use}
use Rattle.gm_lowering.specs.Sites.{finds, is_local, is_body}
use Rattle.gm_lowering.specs.MessageLoops.{sets_nothing, is_inner_target}

-- first uses are apart
abbrev is_set : FirstUse → Bool
is_set Set = true
is_set u = false

unset : {A : Type 0} (u : FirstUse) → is_set u ≡ false → u ≡ Set → A
unset u f e = absurd (both_ways (is_set u) f (ap is_set e))

next-set : (u w : FirstUse) → next_use u w ≡ Set → (u ≡ Set) ⊎ (w ≡ Set)
next-set Unused w e = inr e
next-set Set w e = inl refl
next-set Read w e = unset Read refl e

set-by : (r b : Bool) → next_use (use_if r Read) (use_if b Set) ≡ Set → b ≡ true
set-by true b e = unset Read refl e
set-by false true e = refl
set-by false false e = unset Unused refl e

only-read : {A : Type 0} (b : Bool) → use_if b Read ≡ Set → A
only-read true e = unset Read refl e
only-read false e = unset Unused refl e

both-set : (r : Bool) (u w : FirstUse) → next_use (use_if r Read) (either_use u w) ≡ Set → (u ≡ Set) × (w ≡ Set)
both-set true u w e = unset Read refl e
both-set false Set Set e = (refl, refl)
both-set false Read w e = unset Read refl e
both-set false Unused Read e = unset Read refl e
both-set false Unused Unused e = unset Unused refl e
both-set false Unused Set e = unset Unused refl e
both-set false Set Read e = unset Read refl e
both-set false Set Unused e = unset Unused refl e

pub read-first : (r : Bool) (u w : FirstUse) → u ≡ Read → next_use (use_if r Read) (either_use u w) ≡ Read
read-first true u w e = refl
read-first false u w e = ap (λ z. either_use z w) e

pub read-second : (r : Bool) (u w : FirstUse) → w ≡ Read → next_use (use_if r Read) (either_use u w) ≡ Read
read-second true u w e = refl
read-second false Unused w e = ap (either_use Unused) e
read-second false Set w e = ap (either_use Set) e
read-second false Read w e = refl

pub or-left : {a : Bool} (b : Bool) → a ≡ true → a || b ≡ true
or-left b e = ap (λ z. z || b) e

pub or-right : (a : Bool) {b : Bool} → b ≡ true → a || b ≡ true
or-right true e = refl
or-right false e = e

abbrev is_none : Option Fault → Bool
is_none None = true
is_none (Some f) = false

some-none : {A : Type 0} (f : Fault) → Some f ≡ None → A
some-none f e = absurd (both_ways false refl (ap is_none e))

none-some : {A : Type 0} (f : Fault) → None ≡ Some f → A
none-some f e = some-none f (sym e)

-- slots that are known: all of nodes, and the scalars of some kind
abbrev pub Good : (ℕ → Type 0) → Slot → Type 0
Good V (Scalar x) = V x
Good V (Node p k) = Unit {0}

-- a reduction of an inner body ends with a loop, or at once in locals
abbrev pub EndsSo : Layout → Loop → Mode → List Target → Type 0
EndsSo c loop m ts = (ends_of_all m loop ts ≡ WithInner) ⊎ ((ends_of_all m loop ts ≡ WithOutermost) ⊎ ((ends_of_all m loop ts ≡ AtOnce) × (list_all (is_inner_target c) ts ≡ true)))

-- the slots of locals
abbrev OfLocals : Layout → Slot → Type 0
OfLocals c (Scalar x) = is_local c x ≡ true
OfLocals c (Node p k) = ⊥

-- two iterations gave the same
pub record SameGiven (a b : Iteration) : Type 0 where
  pub inner : b.with_inner ≡ a.with_inner
  pub outermost : b.with_outermost ≡ a.with_outermost
  pub deferred : b.deferred ≡ a.deferred
  pub fault : b.fault ≡ a.fault

module _ (c : Layout) (its : List ℕ) (n k : ℕ) (loop : Loop) (m : Mode) (found : Expr → Bool) (gives : Reduce → List Target → List Expr → Bool)
    (loosen : (e : Expr) → found e ≡ true → finds c its true e ≡ true)
    (no_local : (x : ℕ) → is_in its x ≡ true → is_local c x ≡ false)
    (apart : (x : ℕ) → is_local c x ≡ true → nat_eq x n ≡ false)
    (late : (r : Reduce) (ts : List Target) (es : List Expr) → gives r ts es ≡ true → EndsSo c loop m ts × (list_all found es ≡ true)) where
  -- two iterations know the same of some scalars
  abbrev pub Near : (ℕ → Type 0) → Iteration → Iteration → Type 0
  Near V a b = Agrees (Good V) a.store b.store × (a.store.scalar n ≡ At (Some k))

  -- they gave the same, and know the same where they did not fault
  abbrev pub Out : (ℕ → Type 0) → Iteration → Iteration → Type 0
  Out V a b = SameGiven a b × (a.fault ≡ None → Near V a b)

  pub weaker : (V W : ℕ → Type 0) (a b : Iteration) → ((x : ℕ) → W x → V x) → Near V a b → Near W a b
  weaker V W a b f h = (record { at = at; edge = h.0.edge }, h.1) where
    at : (slot : Slot) → Good W slot → read b.store slot ≡ read a.store slot
    at (Scalar x) g = h.0.at (Scalar x) (f x g)
    at (Node p j) g = h.0.at (Node p j) tt

  out-weaker : (V W : ℕ → Type 0) (a b : Iteration) → ((x : ℕ) → W x → V x) → Out V a b → Out W a b
  out-weaker V W a b f h = (h.0, λ e. weaker V W a b f (h.1 e))

  same-failed : (a b : Iteration) (f : Fault) → SameGiven a b → SameGiven (failed a f) (failed b f)
  same-failed a b f s = record { inner = s.inner; outermost = s.outermost; deferred = s.deferred; fault = refl }

  pub ok-near : {A : Type 0} (W : ℕ → Type 0) (a b : Iteration) (r t : Result A Fault) (go come : A → Iteration) → t ≡ r → SameGiven a b → ((x : A) → Out W (go x) (come x)) → Out W (with_ok a r go) (with_ok b t come)
  ok-near {A = A} W a b r t go come e s h = subst (λ u. Out W (with_ok a r go) (with_ok b u come)) (sym e) (by r) where
    by : (r : Result A Fault) → Out W (with_ok a r go) (with_ok b r come)
    by (Ok x) = h x
    by (Err f) = (same-failed a b f s, λ z. some-none f z)

  -- what is known after a write of a local
  near-wrote : (V W : ℕ → Type 0) (x : ℕ) (z : Value) (a b : Iteration) → is_local c x ≡ true → ((y : ℕ) → W y → (nat_eq x y ≡ true) ⊎ V y) → Near V a b → Near W (wrote a (Scalar x, z)) (wrote b (Scalar x, z))
  near-wrote V W x z a b o f h = (record { at = at; edge = h.0.edge }, ap (λ t. if t then z else a.store.scalar n) (apart x o) ∙ h.1) where
    at : (slot : Slot) → Good W slot → read (wrote b (Scalar x, z)).store slot ≡ read (wrote a (Scalar x, z)).store slot
    at (Scalar y) g =
        ⊎_elim
        (λ (e : nat_eq x y ≡ true). ap (λ t. if t then z else b.store.scalar y) e ∙ sym (ap (λ t. if t then z else a.store.scalar y) e))
        (λ (v : V y). ap (λ u. if nat_eq x y then z else u) (h.0.at (Scalar y) v))
        (f y g)
    at (Node p j) g = h.0.at (Node p j) tt

  out-wrote : (V W : ℕ → Type 0) (x : ℕ) (z : Value) (a b : Iteration) → is_local c x ≡ true → ((y : ℕ) → W y → (nat_eq x y ≡ true) ⊎ V y) → SameGiven a b → Near V a b → Out W (wrote a (Scalar x, z)) (wrote b (Scalar x, z))
  out-wrote V W x z a b o f s h = (record { inner = s.inner; outermost = s.outermost; deferred = s.deferred; fault = s.fault }, λ e. near-wrote V W x z a b o f h)

  -- an expression that reads what is known
  reads-good : (V : ℕ → Type 0) → ((x : ℕ) → is_local c x ≡ false → V x) → (e : Expr) → finds c its true e ≡ true → ((x : ℕ) → reads_scalar x e ≡ true → V x) → ReadsGood (Good V) n k e
  reads-good V p (S.Const v) f h = tt
  reads-good V p (S.Var x at) f h = h x (eq-eqb x x refl)
  reads-good V p (S.Property x q at) f h = (p x (no_local x (both-true (is_in its x) (c.is_kept q) f).0), λ z o. tt)
  reads-good V p (S.EdgeProperty x q at) f h = tt
  reads-good V p (S.Degree d x at) f h = p x (no_local x f)
  reads-good V p S.NodeCount f h = tt
  reads-good V p S.EdgeCount f h = tt
  reads-good V p (S.Live x at) f h = h x (eq-eqb x x refl)
  reads-good V p (S.Unary op at a) f h = reads-good V p a f h
  reads-good V p (S.Binary op at a b) f h =
      let t = both-true (finds c its true a) (finds c its true b) f in
      (reads-good V p a t.0 (λ x o. h x (or-left (reads_scalar x b) o)), reads-good V p b t.1 (λ x o. h x (or-right (reads_scalar x a) o)))
  reads-good V p (S.Both a b) f h =
      let t = both-true (finds c its true a) (finds c its true b) f in
      (reads-good V p a t.0 (λ x o. h x (or-left (reads_scalar x b) o)), reads-good V p b t.1 (λ x o. h x (or-right (reads_scalar x a) o)))
  reads-good V p (S.Either a b) f h =
      let t = both-true (finds c its true a) (finds c its true b) f in
      (reads-good V p a t.0 (λ x o. h x (or-left (reads_scalar x b) o)), reads-good V p b t.1 (λ x o. h x (or-right (reads_scalar x a) o)))
  reads-good V p (S.Choose e a b) f h =
      let t = both-true (finds c its true e) (finds c its true a && finds c its true b) f in
      let u = both-true (finds c its true a) (finds c its true b) t.1 in (
        reads-good V p e t.0 (λ x o. h x (or-left (reads_scalar x a || reads_scalar x b) o)),
        reads-good V p a u.0 (λ x o. h x (or-right (reads_scalar x e) (or-left (reads_scalar x b) o))),
        reads-good V p b u.1 (λ x o. h x (or-right (reads_scalar x e) (or-right (reads_scalar x a) o))),
      )
  reads-good V p (S.Folded q hd e a) f h = absurd (both_ways false refl f)

  pub eval-near : (V : ℕ → Type 0) → ((x : ℕ) → is_local c x ≡ false → V x) → (e : Expr) (key : Key) (a b : Iteration) → found e ≡ true → ((x : ℕ) → reads_scalar x e ≡ true → V x) → Near V a b
      → evaluated e (view_in loop m b key) ≡ evaluated e (view_in loop m a key)
  eval-near V p e key a b f h q = evaluated-good (Good V) n k (view_in loop m a key) b.store q.0 q.1 e (reads-good V p e (loosen e f) h)

  pub value-near : (V : ℕ → Type 0) → ((x : ℕ) → is_local c x ≡ false → V x) → (e : Expr) (key : Key) (a b : Iteration) → found e ≡ true → ((x : ℕ) → reads_scalar x e ≡ true → V x) → Near V a b
      → value e (view_in loop m b key) ≡ value e (view_in loop m a key)
  value-near V p e key a b f h q = ap settled (eval-near V p e key a b f h q)

  pub all-near : (V : ℕ → Type 0) → ((x : ℕ) → is_local c x ≡ false → V x) → (es : List Expr) (key : Key) (a b : Iteration) → list_all found es ≡ true → ((x : ℕ) → list_any (reads_scalar x) es ≡ true → V x) → Near V a b
      → evaluated_all es (view_in loop m b key) ≡ evaluated_all es (view_in loop m a key)
  all-near V p [] key a b f h q = refl
  all-near V p (e ∷ es) key a b f h q =
      let t = both-true (found e) (list_all found es) f in
      ap (λ u. and_all u (evaluated_all es (view_in loop m b key))) (eval-near V p e key a b t.0 (λ x o. h x (or-left (list_any (reads_scalar x) es) o)) q)
      ∙ ap (and_all (evaluated e (view_in loop m a key))) (all-near V p es key a b t.1 (λ x o. h x (or-right (reads_scalar x e) o)) q)

  slots-near : (V : ℕ → Type 0) (ts : List Target) (key : Key) (a b : Iteration) → ((x : ℕ) → list_any (names_scalar x) ts ≡ true → V x) → Near V a b
      → slots_of (view_in loop m b key) ts ≡ slots_of (view_in loop m a key) ts
  slots-near V [] key a b h q = refl
  slots-near V (T.Scalar x at ∷ ts) key a b h q =
      ap (λ r. then_with r (λ ss. Ok (Scalar x ∷ ss))) (slots-near V ts key a b (λ y o. h y (or-right (nat_eq y x) o)) q)
  slots-near V (T.Property x p at ∷ ts) key a b h q =
      let u = view_in loop m a key in
      let held : V x = h x (or-left (list_any (names_scalar x) ts) (eq-eqb x x refl)) in
      ap (λ o. then_with (then_with o (λ j. Ok (Node p j))) (λ s. then_with (slots_of (view_in loop m b key) ts) (λ ss. Ok (s ∷ ss))))
      (held-moved u b.store at (node_in loop.graph (b.store.scalar x)) ∙ ap (λ z. node_held u at (node_in loop.graph z)) (q.0.at (Scalar x) held))
      ∙ ap (λ r. then_with (then_with (node_held u at (node_in loop.graph (a.store.scalar x))) (λ j. Ok (Node p j))) (λ s. then_with r (λ ss. Ok (s ∷ ss))))
      (slots-near V ts key a b (λ y o. h y (or-right (nat_eq y x) o)) q)

  -- a reduction that is done at once in locals
  module _ (V : ℕ → Type 0) (p : (x : ℕ) → is_local c x ≡ false → V x) (key : Key) (a b : Iteration) (q : Near V a b) where
    abbrev u : View
    u = view_in loop m a key

    abbrev u2 : View
    u2 = view_in loop m b key

    combined-near : (r : Reduce) (at : Place) (x y : Evaluated) → combined_by r u2 at x y ≡ combined_by r u at x y
    combined-near Sum at x y = ap (two_of x y) (fun_ext (λ v. fun_ext (λ w. located-moved u b.store at (close Sum v (w ∷ [])))))
    combined-near Product at x y = ap (two_of x y) (fun_ext (λ v. fun_ext (λ w. located-moved u b.store at (close Product v (w ∷ [])))))
    combined-near Min at x y = ap (two_of x y) (fun_ext (λ v. fun_ext (λ w. located-moved u b.store at (close Min v (w ∷ [])))))
    combined-near Max at x y = ap (two_of x y) (fun_ext (λ v. fun_ext (λ w. located-moved u b.store at (close Max v (w ∷ [])))))
    combined-near And at x y = refl
    combined-near Or at x y = refl

    tuple-near : (at : Place) (o : Option (List Value)) → tuple_held u2 at o ≡ tuple_held u at o
    tuple-near at (Some vs) = refl
    tuple-near at None = refl

    closed-near : (r : Reduce) (at : Place) (x y : AllEvaluated) → closed_by r u2 at x y ≡ closed_by r u at x y
    closed-near r at x y =
        ap (λ f. record { hoisted = first x.hoisted y.hoisted; rest = then_with x.rest (λ held. then_with y.rest (f held)) })
        (fun_ext (λ held. fun_ext (λ vs. tuple-near at (close_slots r held (vs ∷ [])))))

    held-near : (ts : List Target) → list_all (is_inner_target c) ts ≡ true → ((x : ℕ) → list_any (names_scalar x) ts ≡ true → V x) → evaluated_all (map target_value ts) u2 ≡ evaluated_all (map target_value ts) u
    held-near [] o h = refl
    held-near (T.Property x pr at ∷ ts) o h = absurd (both_ways false refl o)
    held-near (T.Scalar x at ∷ ts) o h =
        ap (λ v. and_all (plain (Ok v)) (evaluated_all (map target_value ts) u2)) (q.0.at (Scalar x) (h x (or-left (list_any (names_scalar x) ts) (eq-eqb x x refl))))
        ∙ ap (and_all (plain (Ok (a.store.scalar x)))) (held-near ts (both-true _ (list_all (is_inner_target c) ts) o).1 (λ y f. h y (or-right (nat_eq y x) f)))

    together-near : (at : Place) (r : Reduce) (ts : List Target) (es : List Expr) → list_all (is_inner_target c) ts ≡ true → ((x : ℕ) → list_any (names_scalar x) ts ≡ true → V x)
        → list_all found es ≡ true → ((x : ℕ) → list_any (reads_scalar x) es ≡ true → V x) → together u2 at r ts es ≡ together u at r ts es
    together-near at r ts es o names f reads =
        let z = closed_by r u at (evaluated_all (map target_value ts) u) (evaluated_all es u) in
        ap (λ x. assigned_all u2 ts (closed_by r u2 at x (evaluated_all es u2))) (held-near ts o names)
        ∙ ap (λ y. assigned_all u2 ts (closed_by r u2 at (evaluated_all (map target_value ts) u) y)) (all-near V p es key a b f reads q)
        ∙ ap (assigned_all u2 ts) (closed-near r at (evaluated_all (map target_value ts) u) (evaluated_all es u))
        ∙ ap (λ ss. unless_fault z.hoisted (then_with ss (λ ys. then_with z.rest (λ xs. Ok (ys, xs))))) (slots-near V ts key a b names q)

    single-near : (at : Place) (r : Reduce) (x : ℕ) (pl : Place) (e : Expr) → V x → found e ≡ true → ((y : ℕ) → reads_scalar y e ≡ true → V y)
        → at_once u2 at r (T.Scalar x pl ∷ []) (e ∷ []) ≡ at_once u at r (T.Scalar x pl ∷ []) (e ∷ [])
    single-near at r x pl e here f reads =
        ap (λ v. alone (assigned u (T.Scalar x pl) (combined_by r u2 at (plain (Ok v)) (evaluated e u2)))) (q.0.at (Scalar x) here)
        ∙ ap (λ z. alone (assigned u (T.Scalar x pl) (combined_by r u2 at (plain (Ok (a.store.scalar x))) z))) (eval-near V p e key a b f reads q)
        ∙ ap (λ z. alone (assigned u (T.Scalar x pl) z)) (combined-near r at (plain (Ok (a.store.scalar x))) (evaluated e u))

    once-near : (at : Place) (r : Reduce) (ts : List Target) (es : List Expr) → list_all (is_inner_target c) ts ≡ true → ((x : ℕ) → list_any (names_scalar x) ts ≡ true → V x)
        → list_all found es ≡ true → ((x : ℕ) → list_any (reads_scalar x) es ≡ true → V x) → at_once u2 at r ts es ≡ at_once u at r ts es
    once-near at r [] es o names f reads = together-near at r [] es o names f reads
    once-near at r (t ∷ []) [] o names f reads = together-near at r (t ∷ []) [] o names f reads
    once-near at r (T.Property x pr pl ∷ []) (e ∷ []) o names f reads = absurd (both_ways false refl o)
    once-near at r (T.Scalar x pl ∷ []) (e ∷ []) o names f reads =
        single-near at r x pl e (names x (or-left false (eq-eqb x x refl))) (both-true (found e) true f).0 (λ y g. reads y (or-left false g))
    once-near at r (t ∷ []) (e ∷ (d ∷ es)) o names f reads = together-near at r (t ∷ []) (e ∷ (d ∷ es)) o names f reads
    once-near at r (t ∷ (t2 ∷ ts)) es o names f reads = together-near at r (t ∷ (t2 ∷ ts)) es o names f reads

    -- it writes locals
    local-slots : (ts : List Target) → list_all (is_inner_target c) ts ≡ true → IfOk (slots_of u ts) (EachSlot (OfLocals c))
    local-slots [] o = tt
    local-slots (T.Property x pr at ∷ ts) o = absurd (both_ways false refl o)
    local-slots (T.Scalar x at ∷ ts) o = by (slots_of u ts) (local-slots ts t.1) where
      t : (is_local c x && nat_lt 1 (variable_at c.declarations x).depth ≡ true) × (list_all (is_inner_target c) ts ≡ true)
      t = both-true (is_local c x && nat_lt 1 (variable_at c.declarations x).depth) (list_all (is_inner_target c) ts) o

      by : (r : Result (List Slot) Fault) → IfOk r (EachSlot (OfLocals c)) → IfOk {T = List Slot} (then_with r (λ ss. Ok (Scalar x ∷ ss))) (EachSlot (OfLocals c))
      by (Ok ss) h = ((both-true (is_local c x) (nat_lt 1 (variable_at c.declarations x).depth) t.0).0, h)
      by (Err f) h = tt

    once-locals : (at : Place) (r : Reduce) (ts : List Target) (es : List Expr) → list_all (is_inner_target c) ts ≡ true → IfOk (at_once u at r ts es) (λ z. EachSlot (OfLocals c) z.0)
    once-locals at r ts es o = once-assigned (Good V) n k u b.store q.0 q.1 (OfLocals c) at r ts es (local-slots ts o)

  -- what is known after writes of locals
  near-wrote-all : (V : ℕ → Type 0) (ss : List Slot) (vs : List Value) (a b : Iteration) → EachSlot (OfLocals c) ss → Near V a b → Near V (wrote_all a (ss, vs)) (wrote_all b (ss, vs))
  near-wrote-all V [] vs a b o h = h
  near-wrote-all V (Scalar x ∷ ss) [] a b o h = h
  near-wrote-all V (Node p j ∷ ss) vs a b o h = absurd o.0
  near-wrote-all V (Scalar x ∷ ss) (v ∷ vs) a b o h = near-wrote-all V ss vs (wrote a (Scalar x, v)) (wrote b (Scalar x, v)) o.1 (near-wrote V V x v a b o.0 (λ y g. inr g) h)

  -- an assignment to a local
  assign-near : (V W : ℕ → Type 0) (x : ℕ) (a b : Iteration) (hoisted : Option Fault) (rest : Answer) → is_local c x ≡ true → ((y : ℕ) → W y → (nat_eq x y ≡ true) ⊎ V y) → SameGiven a b → Near V a b
      → let e = unless_fault {A = Slot × Value} hoisted (then_with rest (λ v. Ok (Scalar x, v))) in Out W (with_ok a e (wrote a)) (with_ok b e (wrote b))
  assign-near V W x a b (Some f) rest o g s h = (same-failed a b f s, λ z. some-none f z)
  assign-near V W x a b None (Err f) o g s h = (same-failed a b f s, λ z. some-none f z)
  assign-near V W x a b None (Ok v) o g s h = out-wrote V W x v a b o g s h

  -- statements in order
  then-near : (V W : ℕ → Type 0) (a b : Iteration) (f g : Option Fault) (go : Iteration → Iteration) → a.fault ≡ f → b.fault ≡ g → Out V a b → (a.fault ≡ None → Near V a b → Out W (go a) (go b)) → Out W (unless_failed f a go) (unless_failed g b go)
  then-near V W a b None None go e d h next = next e (h.1 e)
  then-near V W a b (Some f) (Some g) go e d h next = (h.0, λ z. some-none f (sym e ∙ z))
  then-near V W a b None (Some g) go e d h next = none-some g (sym e ∙ sym h.0.fault ∙ d)
  then-near V W a b (Some f) None go e d h next = some-none f (sym e ∙ sym h.0.fault ∙ d)

  way-near : (W : ℕ → Type 0) (t : Bool) (go other : Iteration → Iteration) (a b : Iteration) → Out W (go a) (go b) → Out W (other a) (other b) → Out W (one_way t go other a) (one_way t go other b)
  way-near W true go other a b h q = h
  way-near W false go other a b h q = q

  -- what is known after a statement
  abbrev pub Known : Stmt → (ℕ → Type 0) → ℕ → Type 0
  Known st V x = V x ⊎ (first_use x st ≡ Set)

  known-same : (V W : ℕ → Type 0) (a b : Iteration) → ((x : ℕ) → W x → V x) → SameGiven a b → Near V a b → Out W a b
  known-same V W a b f s h = (s, λ e. weaker V W a b f h)

  pub does-near : (st : Stmt) → is_body c found sets_nothing gives st ≡ true → (V : ℕ → Type 0) → ((x : ℕ) → is_local c x ≡ false → V x) → ((x : ℕ) → first_use x st ≡ Read → V x)
      → (a b : Iteration) → SameGiven a b → Near V a b → Out (Known st V) (does st m loop a) (does st m loop b)
  does-near S.Skip o V p r a b s h = known-same V (Known S.Skip V) a b (λ x w. ⊎_elim (λ (v : V x). v) (λ (e : Unused ≡ Set). unset Unused refl e) w) s h
  does-near (S.DeclareEdge x y at) o V p r a b s h = known-same V (Known (S.DeclareEdge x y at) V) a b (λ x w. ⊎_elim (λ (v : V x). v) (λ (e : Unused ≡ Set). unset Unused refl e) w) s h
  does-near (S.Then d e) o V p r a b s h =
      let t = both-true (is_body c found sets_nothing gives d) (is_body c found sets_nothing gives e) o in
      then-near (Known d V) (Known (S.Then d e) V) (does d m loop a) (does d m loop b) (does d m loop a).fault (does d m loop b).fault (does e m loop) refl refl
      (does-near d t.0 V p (λ x f. r x (ap (λ z. next_use z (first_use x e)) f)) a b s h)
      (λ n' q. out-weaker (Known e (Known d V)) (Known (S.Then d e) V) (does e m loop (does d m loop a)) (does e m loop (does d m loop b))
      (λ x w. ⊎_elim (λ (v : V x). inl (inl v)) (λ (f : next_use (first_use x d) (first_use x e) ≡ Set). ⊎_elim (λ (u : first_use x d ≡ Set). inl (inr u)) (λ (u : first_use x e ≡ Set). inr u) (next-set (first_use x d) (first_use x e) f)) w)
      (does-near e t.1 (Known d V) (λ x f. inl (p x f)) (λ x f. second x (first_use x d) refl f) (does d m loop a) (does d m loop b)
      (does-near d t.0 V p (λ x f. r x (ap (λ z. next_use z (first_use x e)) f)) a b s h).0 q)) where
        second : (x : ℕ) (u : FirstUse) → first_use x d ≡ u → first_use x e ≡ Read → V x ⊎ (first_use x d ≡ Set)
        second x Unused e1 f = inl (r x (ap (λ z. next_use z (first_use x e)) e1 ∙ f))
        second x Set e1 f = inr e1
        second x Read e1 f = inl (r x (ap (λ z. next_use z (first_use x e)) e1))
  does-near (S.Declare key x None) o V p r a b s h =
      out-wrote V (Known (S.Declare key x None) V) x (zero_of (loop.vtype x)) a b (both-true (is_local c x) true o).0
      (λ y w. ⊎_elim (λ (v : V y). inr v) (λ (e : next_use (use_if false Read) (use_if (nat_eq y x) Set) ≡ Set). inl (eq-eqb x y (sym (eqb-true y x (set-by false (nat_eq y x) e))))) w) s h
  does-near (S.Declare key x (Some e)) o V p r a b s h =
      let t = both-true (is_local c x) (found e) o in
      ok-near (Known (S.Declare key x (Some e)) V) a b (value e (view_in loop m a key)) (value e (view_in loop m b key)) (λ v. wrote a (Scalar x, v)) (λ v. wrote b (Scalar x, v))
      (value-near V p e key a b t.1 (λ y f. r y (ap (λ z. next_use (use_if z Read) (use_if (nat_eq y x) Set)) f)) h) s
      (λ v. out-wrote V (Known (S.Declare key x (Some e)) V) x v a b t.0
      (λ y w. ⊎_elim (λ (v : V y). inr v) (λ (f : next_use (use_if (reads_scalar y e) Read) (use_if (nat_eq y x) Set) ≡ Set). inl (eq-eqb x y (sym (eqb-true y x (set-by (reads_scalar y e) (nat_eq y x) f))))) w) s h)
  does-near (S.Assign key (T.Scalar x at) e) o V p r a b s h =
      let t = both-true (is_local c x) (found e) o in
      let W = Known (S.Assign key (T.Scalar x at) e) V in
      let same = eval-near V p e key a b t.1 (λ y f. r y (ap (λ z. next_use (use_if z Read) (use_if (nat_eq y x) Set)) f)) h in
      let left = evaluated e (view_in loop m a key) in
      subst (λ u. Out W (with_ok a (assigned (view_in loop m a key) (T.Scalar x at) left) (wrote a)) (with_ok b (unless_fault u.hoisted (then_with u.rest (λ v. Ok (Scalar x, v)))) (wrote b))) (sym same)
      (assign-near V W x a b left.hoisted left.rest t.0
      (λ y w. ⊎_elim (λ (v : V y). inr v) (λ (f : next_use (use_if (reads_scalar y e) Read) (use_if (nat_eq y x) Set) ≡ Set). inl (eq-eqb x y (sym (eqb-true y x (set-by (reads_scalar y e) (nat_eq y x) f))))) w) s h)
  does-near (S.Assign key (T.Property x q at) e) o V p r a b s h = absurd (both_ways false refl o)
  does-near (S.Combine key total w ts es) o V p r a b s h =
      ⊎_elim (λ (e : ends_of_all m loop ts ≡ WithInner). inner e)
      (λ (e : (ends_of_all m loop ts ≡ WithOutermost) ⊎ ((ends_of_all m loop ts ≡ AtOnce) × (list_all (is_inner_target c) ts ≡ true))).
      ⊎_elim (λ (f : ends_of_all m loop ts ≡ WithOutermost). outermost f) (λ (f : (ends_of_all m loop ts ≡ AtOnce) × (list_all (is_inner_target c) ts ≡ true)). now f) e)
      (late w ts es o).0 where
        W : ℕ → Type 0
        W = Known (S.Combine key total w ts es) V

        u : View
        u = view_in loop m a key

        u2 : View
        u2 = view_in loop m b key

        reads : (x : ℕ) → list_any (reads_scalar x) es ≡ true → V x
        reads x f = r x (ap (λ z. use_if z Read) (or-left (list_any (names_scalar x) ts) f))

        names : (x : ℕ) → list_any (names_scalar x) ts ≡ true → V x
        names x f = r x (ap (λ z. use_if z Read) (or-right (list_any (reads_scalar x) es) f))

        same : assigned_all u2 ts (evaluated_all es u2) ≡ assigned_all u ts (evaluated_all es u)
        same =
            ap (assigned_all u2 ts) (all-near V p es key a b (late w ts es o).1 reads h)
            ∙ ap (λ ss. unless_fault (evaluated_all es u).hoisted (then_with ss (λ ys. then_with (evaluated_all es u).rest (λ xs. Ok (ys, xs)))))
            (slots-near V ts key a b names h)

        back : (x : ℕ) → W x → V x
        back x z = ⊎_elim (λ (v : V x). v) (λ (e : use_if (list_any (reads_scalar x) es || list_any (names_scalar x) ts) Read ≡ Set). only-read (list_any (reads_scalar x) es || list_any (names_scalar x) ts) e) z

        inner : ends_of_all m loop ts ≡ WithInner → Out W (reduced (ends_of_all m loop ts) u a total w ts es) (reduced (ends_of_all m loop ts) u2 b total w ts es)
        inner e = subst (λ z. Out W (reduced z u a total w ts es) (reduced z u2 b total w ts es)) (sym e)
            (ok-near W a b (assigned_all u ts (evaluated_all es u)) (assigned_all u2 ts (evaluated_all es u2)) (λ q. gave_inner a (contribution total w q)) (λ q. gave_inner b (contribution total w q)) same s
            (λ q. (record { inner = ap (λ l. l ++ contribution total w q ∷ []) s.inner; outermost = s.outermost; deferred = s.deferred; fault = s.fault }, λ f. weaker V W a b back h)))

        outermost : ends_of_all m loop ts ≡ WithOutermost → Out W (reduced (ends_of_all m loop ts) u a total w ts es) (reduced (ends_of_all m loop ts) u2 b total w ts es)
        outermost e = subst (λ z. Out W (reduced z u a total w ts es) (reduced z u2 b total w ts es)) (sym e)
            (ok-near W a b (assigned_all u ts (evaluated_all es u)) (assigned_all u2 ts (evaluated_all es u2)) (λ q. gave_outermost a (contribution total w q)) (λ q. gave_outermost b (contribution total w q)) same s
            (λ q. (record { inner = s.inner; outermost = ap (λ l. l ++ contribution total w q ∷ []) s.outermost; deferred = s.deferred; fault = s.fault }, λ f. weaker V W a b back h)))

        written : (z : Result (List Slot × List Value) Fault) → IfOk z (λ y. EachSlot (OfLocals c) y.0) → Out W (with_ok a z (wrote_all a)) (with_ok b z (wrote_all b))
        written (Ok y) l = (record { inner = s.inner; outermost = s.outermost; deferred = s.deferred; fault = s.fault }, λ f. weaker V W (wrote_all a y) (wrote_all b y) back (near-wrote-all V y.0 y.1 a b l h))
        written (Err f) l = (same-failed a b f s, λ z. some-none f z)

        now : (ends_of_all m loop ts ≡ AtOnce) × (list_all (is_inner_target c) ts ≡ true) → Out W (reduced (ends_of_all m loop ts) u a total w ts es) (reduced (ends_of_all m loop ts) u2 b total w ts es)
        now e = subst (λ z. Out W (reduced z u a total w ts es) (reduced z u2 b total w ts es)) (sym e.0)
            (subst (λ z. Out W (with_ok a (at_once u total.place w ts es) (wrote_all a)) (with_ok b z (wrote_all b))) (sym (once-near V p key a b h total.place w ts es e.1 names (late w ts es o).1 reads))
            (written (at_once u total.place w ts es) (once-locals V p key a b h total.place w ts es e.1)))
  does-near (S.If key e d f) o V p r a b s h =
      let t = both-true (found e) (is_body c found sets_nothing gives d && is_body c found sets_nothing gives f) o in
      let u = both-true (is_body c found sets_nothing gives d) (is_body c found sets_nothing gives f) t.1 in
      let W = Known (S.If key e d f) V in
      ok-near W a b (value e (view_in loop m a key)) (value e (view_in loop m b key)) (λ v. one_way (is_true v) (does d m loop) (does f m loop) a) (λ v. one_way (is_true v) (does d m loop) (does f m loop) b)
      (value-near V p e key a b t.0 (λ x z. r x (ap (λ y. next_use (use_if y Read) (either_use (first_use x d) (first_use x f))) z)) h) s
      (λ v. way-near W (is_true v) (does d m loop) (does f m loop) a b
      (out-weaker (Known d V) W (does d m loop a) (does d m loop b)
      (λ x w. ⊎_elim (λ (y : V x). inl y) (λ (g : next_use (use_if (reads_scalar x e) Read) (either_use (first_use x d) (first_use x f)) ≡ Set). inr (both-set (reads_scalar x e) (first_use x d) (first_use x f) g).0) w)
      (does-near d u.0 V p (λ x z. r x (read-first (reads_scalar x e) (first_use x d) (first_use x f) z)) a b s h))
      (out-weaker (Known f V) W (does f m loop a) (does f m loop b)
      (λ x w. ⊎_elim (λ (y : V x). inl y) (λ (g : next_use (use_if (reads_scalar x e) Read) (either_use (first_use x d) (first_use x f)) ≡ Set). inr (both-set (reads_scalar x e) (first_use x d) (first_use x f) g).1) w)
      (does-near f u.1 V p (λ x z. r x (read-second (reads_scalar x e) (first_use x d) (first_use x f) z)) a b s h)))
  does-near (S.Defer key t e) o V p r a b s h = absurd (both_ways false refl o)
  does-near (S.Group key at g q e) o V p r a b s h = absurd (both_ways false refl o)
  does-near (S.Foreach key at hd e d) o V p r a b s h = absurd (both_ways false refl o)
  does-near (S.For key at hd e d) o V p r a b s h = absurd (both_ways false refl o)
  does-near (S.While key at e d) o V p r a b s h = absurd (both_ways false refl o)
  does-near (S.Do key at d e) o V p r a b s h = absurd (both_ways false refl o)
  does-near (S.InBfs key at x e d) o V p r a b s h = absurd (both_ways false refl o)
  does-near (S.InBfsBoth key at x e d j f g) o V p r a b s h = absurd (both_ways false refl o)
  does-near (S.Return key at e) o V p r a b s h = absurd (both_ways false refl o)
