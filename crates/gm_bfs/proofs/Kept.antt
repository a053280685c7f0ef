-- What an iteration leaves as it was: all but the variables that its body may write, and those at its own node alone.
use Rattle.std.proofs.Common.{◌≡◌, ℕ, Bool, true, false, cond, List, [], ◌∷◌, ◌++◌, map, refl, sym, ap, subst, ◌∙◌, Option, Some, None, Result, Ok, Err, ⊎_elim, inl, inr}
use Rattle.std.specs.Prelude.{◌≢◌, ◌⊎◌, IfOk, nat_eq}
use Rattle.std.proofs.lemmas.Bool.{cases_Bool, eqb-true}
use Rattle.gm_base.specs.declared.places.Place.{Place}
use Rattle.gm_value.specs.declared.values.Value.{Value}
use Rattle.gm_value.specs.declared.values.Value.TheVariants.{At}
use Rattle.gm_value.specs.declared.reductions.Reduce.{Reduce}
use Rattle.gm_value.specs.Numbers.{zero_of}
use Rattle.gm_value.specs.Operations.{is_true}
use Rattle.gm_model.specs.Graphs.{Step}
use Rattle.gm_ast.specs.declared.tree.Key.{Key}
use Rattle.gm_ast.specs.declared.tree.TotalKey.{TotalKey}
use Rattle.gm_ast.specs.declared.tree.Target.{Target}
use Rattle.gm_ast.specs.declared.tree.Target.TheVariants as T
use Rattle.gm_ast.specs.Program.{Expr, Stmt, Skip, Then, Declare, DeclareEdge, Assign, Defer, Combine, Group, Foreach, For, If, While, Do, InBfs, InBfsBoth, Return}
use Rattle.gm_semantics.specs.declared.faults.Fault.{Fault}
use Rattle.gm_semantics.specs.declared.slots.Slot.{Slot}
use Rattle.gm_semantics.specs.declared.slots.Slot.TheVariants.{Scalar, Node}
use Rattle.gm_semantics.specs.declared.slots.Write.{Write}
use Rattle.gm_semantics.specs.Stores.{Store, slot_eq, read, write, write_all}
use Rattle.gm_semantics.specs.Faults.{then_with, joined}
use Rattle.gm_semantics.specs.Levels.{node_in}
use Rattle.gm_semantics.specs.Expressions.{View, Evaluated, AllEvaluated, evaluated, evaluated_all, value, steps_in}
use Rattle.gm_semantics.specs.Contributions.{Contribution, settled_store}
use Rattle.gm_semantics.specs.Iterations.{Ends, AtOnce, WithInner, WithOutermost, Loop, Iteration, begun, failed, unless_failed, go_on, with_ok, one_way, as_it_is, Mode, Outermost, AtEdge, view_in, slot_of, slots_of, assigned, assigned_all, at_once, ends_of, ends_of_all, later, own_ends, wrote, wrote_all, contribution, gave_inner, gave_outermost, deferred_to, reduced, inner_done, does}
use Rattle.gm_semantics.specs.Laws.{Away}
use Rattle.gm_semantics.proofs.ContributionLaws.{slot_eq-true}
use Rattle.gm_semantics.proofs.TargetLaws.{Reaches, reaches?, value-away, read-settled}
use Rattle.gm_forms.specs.Doing.{EachGiven, EachSlot}
use Rattle.gm_forms.specs.Reading.{Agrees}
use Rattle.gm_forms.proofs.Doings.{each-append, each-in}
use Rattle.gm_forms.proofs.ReadingFrames.{node_in-held, read-write, nat_eq-apart, assigned-all, property-slot, all-assigned, once-assigned}
use Rattle.gm_forms.proofs.Targets.{each-slot}

-- one of two ends is not the latest
later-first : (e f : Ends) → (later e f ≡ WithOutermost → ⊥) → e ≡ WithOutermost → ⊥
later-first AtOnce f h e = absurd (cc)
later-first WithInner f h e = absurd (cc)
later-first WithOutermost AtOnce h e = h refl
later-first WithOutermost WithInner h e = h refl
later-first WithOutermost WithOutermost h e = h refl

later-second : (e f : Ends) → (later e f ≡ WithOutermost → ⊥) → f ≡ WithOutermost → ⊥
later-second e AtOnce h k = absurd (cc)
later-second e WithInner h k = absurd (cc)
later-second AtOnce WithOutermost h k = h refl
later-second WithInner WithOutermost h k = h refl
later-second WithOutermost WithOutermost h k = h refl

-- a property that is reduced before the loop ends is the outer iterator's
owner-is : (m : Mode) (loop : Loop) (y p : ℕ) (at : Place) → (ends_of m loop (T.Property y p at) ≡ WithOutermost → ⊥) → y ≡ loop.outer
owner-is m loop y p at h = by (nat_eq y loop.outer) refl h
  where
    by : (b : Bool) → nat_eq y loop.outer ≡ b → (cond b (own_ends m (loop.pushed p)) WithOutermost ≡ WithOutermost → ⊥) → y ≡ loop.outer
    by true e h = eqb-true y loop.outer e
    by false e h = absurd (h refl)

-- P: the scalars that may be written; Q: the properties
module _ (P Q : ℕ → Type 0) where
  -- a slot that may be written when the loop ends
  abbrev pub MayLate : Slot → Type 0
  MayLate (Scalar y) = P y
  MayLate (Node p m) = Q p

  abbrev pub EachLate : List Write → Type 0
  EachLate [] = Unit {0}
  EachLate (w ∷ ws) = MayLate w.slot × EachLate ws

  pub late-append : (xs ys : List Write) → EachLate xs → EachLate ys → EachLate (xs ++ ys)
  late-append [] ys h g = g
  late-append (w ∷ ws) ys h g = (h.0, late-append ws ys h.1 g)

  abbrev pub MayTarget : Target → Type 0
  MayTarget (T.Scalar y at) = P y
  MayTarget (T.Property y p at) = Q p

  abbrev pub EachOf : (Target → Type 0) → List Target → Type 0
  EachOf S [] = Unit {0}
  EachOf S (t ∷ ts) = S t × EachOf S ts

-- x: the loop's iterator
module _ (P Q : ℕ → Type 0) (x : ℕ) where
  -- a target at the loop's own node
  abbrev pub IsHome : Target → Type 0
  IsHome (T.Scalar y at) = P y
  IsHome (T.Property y p at) = Q p × (y ≡ x)

  -- a body writes such variables alone, and at once at its own node alone; iterators of inner loops are others
  abbrev pub MayWrite : Stmt → Type 0
  MayWrite (Then a b) = MayWrite a × MayWrite b
  MayWrite (Declare key y e) = P y
  MayWrite (Assign key t e) = IsHome t
  MayWrite (Defer key t e) = MayTarget P Q t
  MayWrite (Combine key total r ts es) = EachOf P Q (MayTarget P Q) ts
  MayWrite (If key c a b) = MayWrite a × MayWrite b
  MayWrite (Foreach key at h test body) = (h.iterator ≢ x) × (P h.iterator → ⊥) × MayWrite body
  MayWrite _ = Unit {0}

-- n: its node
module _ (P Q : ℕ → Type 0) (x n : ℕ) where
  -- a slot that may be written in the iteration
  abbrev pub May : Slot → Type 0
  May (Scalar y) = P y
  May (Node p m) = Q p × (m ≡ n)

  abbrev pub GivesMay : List Contribution → Type 0
  GivesMay cs = EachGiven (λ c. EachSlot May c.slots) cs

  -- what an iteration that began with a store keeps
  pub record Kept (s : Store) (it : Iteration) : Type 0 where
    pub slots : (slot : Slot) → (read it.store slot ≡ read s slot) ⊎ May slot
    pub inner : GivesMay it.with_inner
    pub deferred : EachLate P Q it.deferred

  pub kept-begun : (s : Store) → Kept s (begun s)
  kept-begun s = record { slots = λ slot. inl refl; inner = tt; deferred = tt }

  slots-write : (s t : Store) (at : Slot) (v : Value) → ((slot : Slot) → (read t slot ≡ read s slot) ⊎ May slot) → May at → (slot : Slot) → (read (write t at v) slot ≡ read s slot) ⊎ May slot
  slots-write s t at v h ok slot =
      ⊎_elim
      (λ (hit : slot_eq at slot ≡ true). inr (subst May (slot_eq-true at slot hit) ok))
      (λ (miss : slot_eq at slot ≡ false).
      let same : read (write t at v) slot ≡ read t slot = read-write t at slot v ∙ ap (λ b. cond b v (read t slot)) miss in
      ⊎_elim (λ (k : read t slot ≡ read s slot). inl (same ∙ k)) (λ may. inr may) (h slot))
      (cases_Bool (slot_eq at slot))

  slots-write_all : (s t : Store) (slots : List Slot) (vs : List Value) → ((slot : Slot) → (read t slot ≡ read s slot) ⊎ May slot) → EachSlot May slots → (slot : Slot) → (read (write_all t slots vs) slot ≡ read s slot) ⊎ May slot
  slots-write_all s t [] vs h ok slot = h slot
  slots-write_all s t (at ∷ slots) [] h ok slot = h slot
  slots-write_all s t (at ∷ slots) (v ∷ vs) h ok slot = slots-write_all s (write t at v) slots vs (slots-write s t at v h ok.0) ok.1 slot

  module _ (off : P x → ⊥) (s : Store) (holds : s.scalar x ≡ At (Some n)) where
    kept-wrote : (it : Iteration) (p : Slot × Value) → May p.0 → Kept s it → Kept s (wrote it p)
    kept-wrote it p ok h = record { slots = slots-write s it.store p.0 p.1 h.slots ok; inner = h.inner; deferred = h.deferred }

    kept-wrote_all : (it : Iteration) (p : List Slot × List Value) → EachSlot May p.0 → Kept s it → Kept s (wrote_all it p)
    kept-wrote_all it p ok h = record { slots = slots-write_all s it.store p.0 p.1 h.slots ok; inner = h.inner; deferred = h.deferred }

    kept-failed : (it : Iteration) (f : Fault) → Kept s it → Kept s (failed it f)
    kept-failed it f h = record { slots = h.slots; inner = h.inner; deferred = h.deferred }

    kept-inner : (it : Iteration) (c : Contribution) → EachSlot May c.slots → Kept s it → Kept s (gave_inner it c)
    kept-inner it c ok h = record { slots = h.slots; inner = each-append (λ c. EachSlot May c.slots) it.with_inner (c ∷ []) h.inner (ok, tt); deferred = h.deferred }

    kept-outermost : (it : Iteration) (c : Contribution) → Kept s it → Kept s (gave_outermost it c)
    kept-outermost it c h = record { slots = h.slots; inner = h.inner; deferred = h.deferred }

    kept-deferred : (it : Iteration) (p : Slot × Value) → MayLate P Q p.0 → Kept s it → Kept s (deferred_to it p)
    kept-deferred it p ok h = record { slots = h.slots; inner = h.inner; deferred = late-append P Q it.deferred (record { slot = p.0; value = p.1 } ∷ []) h.deferred (ok, tt) }

    kept-with : {A : Type 0} (R : A → Type 0) (it : Iteration) (r : Result A Fault) (f : A → Iteration) → Kept s it → IfOk r R → ((a : A) → R a → Kept s (f a)) → Kept s (with_ok it r f)
    kept-with R it (Ok a) f h ok each = each a ok
    kept-with R it (Err e) f h ok each = kept-failed it e h

    any-ok : {A : Type 0} (r : Result A Fault) → IfOk r (λ a. Unit {0})
    any-ok (Ok a) = tt
    any-ok (Err e) = tt

    kept-each : {A : Type 0} (it : Iteration) (r : Result A Fault) (f : A → Iteration) → Kept s it → ((a : A) → Kept s (f a)) → Kept s (with_ok it r f)
    kept-each it r f h each = kept-with (λ a. Unit {0}) it r f h (any-ok r) (λ a u. each a)

    kept-go_on : (it : Iteration) (f : Iteration → Iteration) → Kept s it → (Kept s it → Kept s (f it)) → Kept s (go_on it f)
    kept-go_on it f h each = by it.fault
      where
        by : (o : Option Fault) → Kept s (unless_failed o it f)
        by None = each h
        by (Some e) = h

    kept-way : (b : Bool) (f g : Iteration → Iteration) (it : Iteration) → Kept s (f it) → Kept s (g it) → Kept s (one_way b f g it)
    kept-way true f g it h k = h
    kept-way false f g it h k = k

    -- the iterator holds the node throughout
    pub kept-holds : (it : Iteration) → Kept s it → it.store.scalar x ≡ At (Some n)
    kept-holds it h = ⊎_elim (λ (e : it.store.scalar x ≡ s.scalar x). e ∙ holds) (λ may. absurd (off may)) (h.slots (Scalar x))

    module _ (w : View) (here : w.store.scalar x ≡ At (Some n)) where
      -- nothing need agree with anything
      abbrev None' : Slot → Type 0
      None' slot = ⊥

      agree : Agrees None' w.store w.store
      agree = record { at = λ slot g. refl; edge = refl }

      home-slot : (t : Target) → IsHome P Q x t → (slot : Slot) → slot_of w t ≡ Ok slot → May slot
      home-slot (T.Scalar y at) h slot e = let is : Scalar y ≡ slot = cc in subst May is h
      home-slot (T.Property y p at) h slot e =
          property-slot None' x n w w.store agree here May y p at
          (λ k i. (h.0, node_in-held w.graph n k (sym (ap (node_in w.graph) (ap w.store.scalar h.1 ∙ here)) ∙ i))) slot e

      late-slot : (t : Target) → MayTarget P Q t → (slot : Slot) → slot_of w t ≡ Ok slot → MayLate P Q slot
      late-slot (T.Scalar y at) h slot e = let is : Scalar y ≡ slot = cc in subst (MayLate P Q) is h
      late-slot (T.Property y p at) h slot e = property-slot None' x n w w.store agree here (MayLate P Q) y p at (λ k i. h) slot e

      home-assigned : (t : Target) (v : Evaluated) → IsHome P Q x t → IfOk (assigned w t v) (λ q. May q.0)
      home-assigned t v h = assigned-all None' x n w w.store agree here May t v (home-slot t h)

      late-assigned : (t : Target) (v : Evaluated) → MayTarget P Q t → IfOk (assigned w t v) (λ q. MayLate P Q q.0)
      late-assigned t v h = assigned-all None' x n w w.store agree here (MayLate P Q) t v (late-slot t h)

      home-slots : (ts : List Target) → EachOf P Q (IsHome P Q x) ts → IfOk (slots_of w ts) (EachSlot May)
      home-slots [] h = tt
      home-slots (t ∷ ts) h = by (slot_of w t) (slots_of w ts) (home-slot t h.0) (home-slots ts h.1)
        where
          by : (r : Result Slot Fault) (rs : Result (List Slot) Fault) → ((slot : Slot) → r ≡ Ok slot → May slot) → IfOk rs (EachSlot May) → IfOk (then_with r (λ s. then_with rs (λ ss. Ok (s ∷ ss)))) (EachSlot May)
          by (Ok a) (Ok ss) p ps = (p a refl, ps)
          by (Ok a) (Err f) p ps = tt
          by (Err f) rs p ps = tt

      home-all : (ts : List Target) (v : AllEvaluated) → EachOf P Q (IsHome P Q x) ts → IfOk (assigned_all w ts v) (λ q. EachSlot May q.0)
      home-all ts v h = all-assigned None' x n w w.store agree here (EachSlot May) ts v (home-slots ts h)

      home-once : (at : Place) (r : Reduce) (ts : List Target) (es : List Expr) → EachOf P Q (IsHome P Q x) ts → IfOk (at_once w at r ts es) (λ q. EachSlot May q.0)
      home-once at r ts es h = once-assigned None' x n w w.store agree here May at r ts es (home-slots ts h)

    homes : (loop : Loop) → loop.outer ≡ x → (m : Mode) (ts : List Target) → EachOf P Q (MayTarget P Q) ts → (ends_of_all m loop ts ≡ WithOutermost → ⊥) → EachOf P Q (IsHome P Q x) ts
    homes loop out m [] h e = tt
    homes loop out m (t ∷ ts) h e = (home t h.0 (later-first (ends_of m loop t) (ends_of_all m loop ts) e), homes loop out m ts h.1 (later-second (ends_of m loop t) (ends_of_all m loop ts) e))
      where
        home : (t : Target) → MayTarget P Q t → (ends_of m loop t ≡ WithOutermost → ⊥) → IsHome P Q x t
        home (T.Scalar y at) h e = h
        home (T.Property y p at) h e = (h, owner-is m loop y p at e ∙ out)

    kept-reduced : (loop : Loop) → loop.outer ≡ x → (ends : Ends) (m : Mode) (it : Iteration) (key : Key) (total : TotalKey) (r : Reduce) (ts : List Target) (es : List Expr) → ends_of_all m loop ts ≡ ends → EachOf P Q (MayTarget P Q) ts → Kept s it →
        Kept s (reduced ends (view_in loop m it key) it total r ts es)
    kept-reduced loop out AtOnce m it key total r ts es e h k =
        kept-with (λ q. EachSlot May q.0) it _ (wrote_all it) k (home-once (view_in loop m it key) (kept-holds it k) total.place r ts es (homes loop out m ts h (λ late. let no-way : AtOnce ≡ WithOutermost = sym e ∙ late in cc))) (λ p ok. kept-wrote_all it p ok k)
    kept-reduced loop out WithInner m it key total r ts es e h k =
        kept-with (λ q. EachSlot May q.0) it _ (λ p. gave_inner it (contribution total r p)) k
        (home-all (view_in loop m it key) (kept-holds it k) ts (evaluated_all es (view_in loop m it key)) (homes loop out m ts h (λ late. let no-way : WithInner ≡ WithOutermost = sym e ∙ late in cc)))
        (λ p ok. kept-inner it (contribution total r p) ok k)
    kept-reduced loop out WithOutermost m it key total r ts es e h k = kept-each it _ (λ p. gave_outermost it (contribution total r p)) k (λ p. kept-outermost it (contribution total r p) k)

    -- an inner loop leaves what its turns give
    turns-may : (f : Step → Iteration) (steps : List Step) → ((e : Step) → GivesMay (f e).with_inner) → GivesMay (joined (map (λ t. t.with_inner) (map f steps)))
    turns-may f [] h = tt
    turns-may f (e ∷ steps) h = each-append (λ c. EachSlot May c.slots) (f e).with_inner (joined (map (λ t. t.with_inner) (map f steps))) (h e) (turns-may f steps h)

    kept-inner_done : (it : Iteration) (f : Step → Iteration) (steps : List Step) → Kept s it → ((e : Step) → GivesMay (f e).with_inner) → Kept s (inner_done it (map f steps))
    kept-inner_done it f steps h each =
        let cs = joined (map (λ (t : Iteration). t.with_inner) (map f steps)) in
        record {
          slots = λ slot.
              ⊎_elim
              (λ (none : Away slot cs).
              let same : read (settled_store it.store cs) slot ≡ read it.store slot = read-settled it.store cs slot ∙ value-away it.store slot cs none in
              ⊎_elim (λ (k : read it.store slot ≡ read s slot). inl (same ∙ k)) (λ may. inr may) (h.slots slot))
              (λ (r : Reaches slot cs). inr (each-slot May r.by.slots (each-in (λ c. EachSlot May c.slots) cs r.by (turns-may f steps each) r.among) slot r.has))
              (reaches? slot cs);
          inner = h.inner;
          deferred = h.deferred;
        }

  -- a turn of an inner loop keeps what it began with
  module _ (off : P x → ⊥) (loop : Loop) (out : loop.outer ≡ x) where
    pub keeps : (b : Stmt) (m : Mode) (s : Store) (it : Iteration) → s.scalar x ≡ At (Some n) → MayWrite P Q x b → Kept s it → Kept s (does b m loop it)
    keeps Skip m s it holds h k = k
    keeps (Then a b) m s it holds h k = kept-go_on off s holds (does a m loop it) (does b m loop) (keeps a m s it holds h.0 k) (λ k. keeps b m s (does a m loop it) holds h.1 k)
    keeps (Declare key y None) m s it holds h k = kept-wrote off s holds it (Scalar y, zero_of (loop.vtype y)) h k
    keeps (Declare key y (Some e)) m s it holds h k = kept-each off s holds it _ (λ v. wrote it (Scalar y, v)) k (λ v. kept-wrote off s holds it (Scalar y, v) h k)
    keeps (DeclareEdge y z at) m s it holds h k = k
    keeps (Assign key t e) m s it holds h k =
        let w = view_in loop m it key in
        kept-with off s holds (λ q. May q.0) it _ (wrote it) k (home-assigned off s holds w (kept-holds off s holds it k) t (evaluated e w) h) (λ p ok. kept-wrote off s holds it p ok k)
    keeps (Defer key t e) Outermost s it holds h k =
        let w = view_in loop Outermost it key in
        kept-with off s holds (λ q. MayLate P Q q.0) it _ (deferred_to it) k (late-assigned off s holds w (kept-holds off s holds it k) t (evaluated e w) h) (λ p ok. kept-deferred off s holds it p ok k)
    keeps (Defer key t e) (AtEdge i) s it holds h k = k
    keeps (Combine key total r ts es) m s it holds h k = kept-reduced off s holds loop out (ends_of_all m loop ts) m it key total r ts es refl h k
    keeps (Group key at y p e) m s it holds h k = k
    keeps (Foreach key at head test body) Outermost s it holds h k =
        kept-inner_done off s holds it _ (steps_in (view_in loop Outermost it key) head) k (λ step.
        let t = write it.store (Scalar head.iterator) (At (Some step.node)) in
        let still : t.scalar x ≡ At (Some n) =
        ap (λ b. cond b (At (Some step.node)) (it.store.scalar x)) (nat_eq-apart head.iterator x h.0) ∙ kept-holds off s holds it k in
        (kept-each off t still (begun t) (value test (view_in loop (AtEdge step.edge) (begun t) key)) (λ v. one_way (is_true v) (does body (AtEdge step.edge) loop) as_it_is (begun t)) (kept-begun t)
        (λ v. kept-way off t still (is_true v) (does body (AtEdge step.edge) loop) as_it_is (begun t) (keeps body (AtEdge step.edge) t (begun t) still h.2 (kept-begun t)) (kept-begun t))).inner)
    keeps (Foreach key at head test body) (AtEdge i) s it holds h k = k
    keeps (For key at head test body) m s it holds h k = k
    keeps (If key c a b) m s it holds h k =
        kept-each off s holds it (value c (view_in loop m it key)) (λ v. one_way (is_true v) (does a m loop) (does b m loop) it) k (λ v. kept-way off s holds (is_true v) (does a m loop) (does b m loop) it (keeps a m s it holds h.0 k) (keeps b m s it holds h.1 k))
    keeps (While key at c body) m s it holds h k = k
    keeps (Do key at body c) m s it holds h k = k
    keeps (InBfs key at search c body) m s it holds h k = k
    keeps (InBfsBoth key at search c body back_key d back) m s it holds h k = k
    keeps (Return key at e) m s it holds h k = k
