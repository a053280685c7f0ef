-- Bodies do the same without what sets locals that nothing kept reads.
use Rattle.std.proofs.Common.{◌≡◌, ◌≢◌, ◌<◌, ℕ, Bool, true, false, cond, List, [], ◌∷◌, map, filter, refl, sym, ap, subst, ◌∙◌, Option, Some, None, ⊎_elim, inl, inr}
use Rattle.std.specs.Prelude.{◌&&◌, ◌||◌, not, nat_eq}
use Rattle.std.specs.List.{list_all, enumerate_from}
use Rattle.std.proofs.lemmas.Bool.{ne_eqb, both_ways}
use Rattle.gm_value.specs.declared.values.Value.{Value}
use Rattle.gm_value.specs.Bag.{IsIn}
use Rattle.gm_value.specs.Numbers.{zero_of}
use Rattle.gm_value.specs.Operations.{is_true}
use Rattle.gm_model.specs.Graphs.{NumberedGraph, Edge, Step, IsGraph, node_count, out_steps, in_steps}
use Rattle.gm_ast.specs.declared.tree.Domain.{Domain}
use Rattle.gm_ast.specs.declared.tree.Domain.TheVariants as D
use Rattle.gm_ast.specs.declared.tree.Target.{Target}
use Rattle.gm_ast.specs.declared.tree.Target.TheVariants as T
use Rattle.gm_ast.specs.Ways.{is_in}
use Rattle.gm_ast.specs.Program.{Expr, Const, Var, Property, EdgeProperty, Degree, NodeCount, EdgeCount, Live, Unary, Binary, Both, Either, Choose, Folded, Stmt, Skip, Then, Declare, DeclareEdge, Assign, Defer, Combine, Group, Foreach, For, If, While, Do, InBfs, InBfsBoth, Return}
use Rattle.gm_semantics.specs.declared.slots.Slot.{Slot}
use Rattle.gm_semantics.specs.declared.slots.Slot.TheVariants.{Scalar, Node}
use Rattle.gm_semantics.specs.Stores.{Store, slot_eq, read}
use Rattle.gm_semantics.specs.Levels.{nodes}
use Rattle.gm_semantics.specs.Expressions.{View, steps_of, settled}
use Rattle.gm_semantics.specs.Iterations.{Ends, AtOnce, WithInner, WithOutermost, Loop, Mode, AtEdge, Iteration, unless_failed, with_ok, one_way, view_in, assigned, ends_of_all, wrote, does}
use Rattle.gm_forms.specs.Reading.{ReadsGood, TargetGood, HeldGood, OwnerGood, EachTarget, AllReadGood, ReducesGood, StepsGood, Agrees, Follows}
use Rattle.gm_forms.proofs.Named.{both-true}
use Rattle.gm_forms.proofs.CutTests.{found, not-true}
use Rattle.gm_forms.proofs.ReadingFrames.{read-write, does-follows}
use Rattle.gm_loop_laws.specs.Masks.{is_certain, spares}
use Rattle.gm_loop_laws.specs.Slices.{is_gone, is_idle, spares_target, knows_none}
use Rattle.gm_loop_laws.proofs.Kept.{Untouched}
use Rattle.gm_loop_laws.proofs.Masks.{Holds, certain-by, not-in}

module _ (gone : List ℕ) where
  -- all slots but those of the locals
  abbrev pub Kept : Slot → Type 0
  Kept (Scalar y) = IsIn y gone → ⊥
  Kept (Node p k) = Unit {0}

  pub kept-lift : (slot : Slot) → Untouched gone slot → Kept slot
  kept-lift (Scalar y) h = h
  kept-lift (Node p k) h = tt

  -- slots that may be read, all but those of the variables among them
  module _ (Good : Slot → Type 0) (lift : (slot : Slot) → Untouched gone slot → Good slot) (x z : ℕ) where
    pub reads-kept : (e : Expr) → spares gone e ≡ true → ReadsGood Good x z e
    reads-kept (Const v) h = tt
    reads-kept (Var y at) h = lift (Scalar y) (not-in gone y h)
    reads-kept (Property y p at) h = let r = both-true (not (is_in gone y)) (not (is_in gone p)) h in (lift (Scalar y) (not-in gone y r.0), λ k e. lift (Node p k) (not-in gone p r.1))
    reads-kept (EdgeProperty y p at) h = tt
    reads-kept (Degree d y at) h = lift (Scalar y) (not-in gone y h)
    reads-kept NodeCount h = tt
    reads-kept EdgeCount h = tt
    reads-kept (Live y at) h = lift (Scalar y) (not-in gone y h)
    reads-kept (Unary op at e) h = reads-kept e h
    reads-kept (Binary op at a b) h = let r = both-true (spares gone a) (spares gone b) h in (reads-kept a r.0, reads-kept b r.1)
    reads-kept (Both a b) h = let r = both-true (spares gone a) (spares gone b) h in (reads-kept a r.0, reads-kept b r.1)
    reads-kept (Either a b) h = let r = both-true (spares gone a) (spares gone b) h in (reads-kept a r.0, reads-kept b r.1)
    reads-kept (Choose c a b) h =
        let r = both-true (spares gone c) (spares gone a && spares gone b) h in
        let s = both-true (spares gone a) (spares gone b) r.1 in
        (reads-kept c r.0, reads-kept a s.0, reads-kept b s.1)
    reads-kept (Folded f head test e) h = absurd (both_ways false refl h)

    pub all-kept : (es : List Expr) → list_all (spares gone) es ≡ true → AllReadGood Good x z es
    all-kept [] h = tt
    all-kept (e ∷ es) h = let r = both-true (spares gone e) (list_all (spares gone) es) h in (reads-kept e r.0, all-kept es r.1)

    pub off-iterator : (its : List ℕ) (y : ℕ) → is_in its x ≡ true → not (is_in its y) ≡ true → y ≢ x
    off-iterator its y here out e = both_ways (is_in its y) (not-true (is_in its y) out) (ap (is_in its) e ∙ here)

    pub target-kept : (its : List ℕ) (t : Target) → is_in its x ≡ true → spares_target gone its t ≡ true → TargetGood Good x z t
    target-kept its (T.Scalar y at) here h = off-iterator its y here (both-true (not (is_in its y)) (not (is_in gone y)) h).0
    target-kept its (T.Property y p at) here h = lift (Scalar y) (not-in gone y (both-true (not (is_in gone y)) (not (is_in gone p)) h).0)

    pub held-kept : (its : List ℕ) (t : Target) → spares_target gone its t ≡ true → HeldGood Good x z t
    held-kept its (T.Scalar y at) h = lift (Scalar y) (not-in gone y (both-true (not (is_in its y)) (not (is_in gone y)) h).1)
    held-kept its (T.Property y p at) h = let r = both-true (not (is_in gone y)) (not (is_in gone p)) h in (lift (Scalar y) (not-in gone y r.0), λ k e. lift (Node p k) (not-in gone p r.1))

    owner-kept : (its : List ℕ) (t : Target) → spares_target gone its t ≡ true → OwnerGood Good x z t
    owner-kept its (T.Scalar y at) h = tt
    owner-kept its (T.Property y p at) h = lift (Scalar y) (not-in gone y (both-true (not (is_in gone y)) (not (is_in gone p)) h).0)

    pub each-kept : (S : Target → Type 0) (its : List ℕ) (ts : List Target) → ((t : Target) → spares_target gone its t ≡ true → S t) → list_all (spares_target gone its) ts ≡ true → EachTarget Good x z S ts
    each-kept S its [] f h = tt
    each-kept S its (t ∷ ts) f h = let r = both-true (spares_target gone its t) (list_all (spares_target gone its) ts) h in (f t r.0, each-kept S its ts f r.1)

    reduces-kept : (its : List ℕ) (e : Ends) (ts : List Target) (es : List Expr) → is_in its x ≡ true → list_all (spares_target gone its) ts ≡ true → list_all (spares gone) es ≡ true → ReducesGood Good x z e ts es
    reduces-kept its AtOnce ts es here h g = (each-kept (TargetGood Good x z) its ts (λ t k. target-kept its t here k) h, each-kept (HeldGood Good x z) its ts (λ t k. held-kept its t k) h, all-kept es g)
    reduces-kept its WithInner ts es here h g = (each-kept (TargetGood Good x z) its ts (λ t k. target-kept its t here k) h, each-kept (HeldGood Good x z) its ts (λ t k. held-kept its t k) h, all-kept es g)
    reduces-kept its WithOutermost ts es here h g = (each-kept (OwnerGood Good x z) its ts (λ t k. owner-kept its t k) h, all-kept es g)

    -- what knows none of the locals reads others
    pub steps-kept : (s : Stmt) (its : List ℕ) (m : Mode) (loop : Loop) → is_in its x ≡ true → knows_none gone its s ≡ true → StepsGood Good x z s m loop
    steps-kept Skip its m loop here h = tt
    steps-kept (Then a b) its m loop here h = let r = both-true (knows_none gone its a) (knows_none gone its b) h in (steps-kept a its m loop here r.0, steps-kept b its m loop here r.1)
    steps-kept (Declare k y None) its m loop here h = (off-iterator its y here (both-true (not (is_in its y)) true h).0, tt)
    steps-kept (Declare k y (Some e)) its m loop here h = let r = both-true (not (is_in its y)) (spares gone e) h in (off-iterator its y here r.0, reads-kept e r.1)
    steps-kept (DeclareEdge y w at) its m loop here h = tt
    steps-kept (Assign k t e) its m loop here h = let r = both-true (spares_target gone its t) (spares gone e) h in (target-kept its t here r.0, reads-kept e r.1)
    steps-kept (Defer k t e) its m loop here h = let r = both-true (spares_target gone its t) (spares gone e) h in (target-kept its t here r.0, reads-kept e r.1)
    steps-kept (Combine k total r ts es) its m loop here h = let o = both-true (list_all (spares_target gone its) ts) (list_all (spares gone) es) h in reduces-kept its (ends_of_all m loop ts) ts es here o.0 o.1
    steps-kept (Group k at g p e) its m loop here h = tt
    steps-kept (Foreach k at head test body) its m loop here h =
        let o1 = both-true (not (is_in gone head.owner)) (not (is_in its head.iterator) && (spares gone test && knows_none gone (head.iterator ∷ its) body)) h in
        let o2 = both-true (not (is_in its head.iterator)) (spares gone test && knows_none gone (head.iterator ∷ its) body) o1.1 in
        let o3 = both-true (spares gone test) (knows_none gone (head.iterator ∷ its) body) o2.1 in
        (lift (Scalar head.owner) (not-in gone head.owner o1.0), off-iterator its head.iterator here o2.0, reads-kept test o3.0, λ e. steps-kept body (head.iterator ∷ its) (AtEdge e) loop (further (nat_eq x head.iterator)) o3.1)
      where
        further : (b : Bool) → b || is_in its x ≡ true
        further true = refl
        further false = here
    steps-kept (For k at head test body) its m loop here h = tt
    steps-kept (If k c a b) its m loop here h =
        let r = both-true (spares gone c) (knows_none gone its a && knows_none gone its b) h in
        let s = both-true (knows_none gone its a) (knows_none gone its b) r.1 in
        (reads-kept c r.0, steps-kept a its m loop here s.0, steps-kept b its m loop here s.1)
    steps-kept (While k at c body) its m loop here h = tt
    steps-kept (Do k at body c) its m loop here h = tt
    steps-kept (InBfs k at head c body) its m loop here h = tt
    steps-kept (InBfsBoth k at head c body back_key d back) its m loop here h = tt
    steps-kept (Return k at e) its m loop here h = tt

  module _ (loop : Loop) where
    -- two iterations that differ in the locals alone, where the iterators hold nodes
    pub record Alike (its : List ℕ) (i j : Iteration) : Type 0 where
      pub agree : Agrees Kept i.store j.store
      pub with_inner : j.with_inner ≡ i.with_inner
      pub with_outermost : j.with_outermost ≡ i.with_outermost
      pub deferred : j.deferred ≡ i.deferred
      pub fault : j.fault ≡ i.fault
      pub each : (y : ℕ) → is_in its y ≡ true → (z : ℕ) × (z < node_count loop.graph) × Follows Kept y z i.store j.store [] i j

    pub follows-here : (its : List ℕ) (i j : Iteration) (y z : ℕ) (u v : Store) → Follows Kept y z u v [] i j → Follows Kept y z i.store j.store [] i j
    follows-here its i j y z u v f = record { slots = λ slot. inr (refl, refl); edge = f.edge; iterator = f.iterator; with_inner = f.with_inner; with_outermost = f.with_outermost; deferred = f.deferred; fault = f.fault; inner_good = f.inner_good }

    agrees-then : (i j : Iteration) (y z : ℕ) (u v : Store) → Agrees Kept u v → Follows Kept y z u v [] i j → Agrees Kept i.store j.store
    agrees-then i j y z u v a f = record {
      at = λ slot good. ⊎_elim (λ (e : read j.store slot ≡ read i.store slot). e) (λ (p : (read i.store slot ≡ read u slot) × (read j.store slot ≡ read v slot)). p.1 ∙ a.at slot good ∙ sym p.0) (f.slots slot);
      edge = f.edge;
    }

    -- what is kept does the same
    pub kept-does : (s : Stmt) (its : List ℕ) (m : Mode) (i j : Iteration) → is_in its loop.outer ≡ true → knows_none gone its s ≡ true → Alike its i j → Alike its (does s m loop i) (does s m loop j)
    kept-does s its m i j here h l =
        let after : (y : ℕ) (o : is_in its y ≡ true) → let z = (l.each y o).0 in Follows Kept y z i.store j.store [] (does s m loop i) (does s m loop j) =
        λ y o. does-follows Kept y (l.each y o).0 s m loop i.store j.store [] i j (steps-kept Kept kept-lift y (l.each y o).0 s its m loop o h) l.agree (l.each y o).2 in
        let f = after loop.outer here in
        record {
          agree = agrees-then (does s m loop i) (does s m loop j) loop.outer (l.each loop.outer here).0 i.store j.store l.agree f;
          with_inner = f.with_inner;
          with_outermost = sym f.with_outermost;
          deferred = f.deferred;
          fault = f.fault;
          each = λ y o. ((l.each y o).0, (l.each y o).1, follows-here its (does s m loop i) (does s m loop j) y (l.each y o).0 i.store j.store (after y o));
        }

    holds : (its : List ℕ) (i j : Iteration) → Alike its i j → (y : ℕ) → is_in its y ≡ true → Holds loop i y
    holds its i j l y o = ((l.each y o).0, (l.each y o).1, (l.each y o).2.iterator)

    -- a local is set beside
    beside : (its : List ℕ) (i j : Iteration) (y : ℕ) (v : Value) → is_gone gone its y ≡ true → Alike its i j → Alike its (wrote i (Scalar y, v)) j
    beside its i j y v h l =
        let r = both-true (is_in gone y) (not (is_in its y)) h in
        record {
          agree = record { at = λ slot good. l.agree.at slot good ∙ sym (read-write i.store (Scalar y) slot v ∙ ap (λ c. cond c v (read i.store slot)) (other r.0 slot good)); edge = l.agree.edge };
          with_inner = l.with_inner;
          with_outermost = l.with_outermost;
          deferred = l.deferred;
          fault = l.fault;
          each = λ o q. let f = (l.each o q).2 in (
            (l.each o q).0,
            (l.each o q).1,
            record {
              slots = λ slot. inr (refl, refl);
              edge = f.edge;
              iterator = ap (λ c. cond c v (i.store.scalar o)) (ne_eqb y o (λ e. both_ways (is_in its y) (not-true (is_in its y) r.1) (ap (is_in its) e ∙ q))) ∙ f.iterator;
              with_inner = f.with_inner;
              with_outermost = f.with_outermost;
              deferred = f.deferred;
              fault = f.fault;
              inner_good = f.inner_good;
            },
          );
        }
      where
        other : is_in gone y ≡ true → (slot : Slot) → Kept slot → slot_eq (Scalar y) slot ≡ false
        other o (Scalar w) good = ne_eqb y w (λ e. good (subst (λ c. IsIn c gone) e (found gone y o)))
        other o (Node p k) good = refl

    -- an idle statement
    pub idle-does : (s : Stmt) (its : List ℕ) (m : Mode) (i j : Iteration) → i.fault ≡ None → is_idle gone its s ≡ true → Alike its i j → Alike its (does s m loop i) j × ((does s m loop i).fault ≡ None)
    idle-does Skip its m i j fine h l = (l, fine)
    idle-does (Then a b) its m i j fine h l =
        let o = both-true (is_idle gone its a) (is_idle gone its b) h in
        let first = idle-does a its m i j fine o.0 l in
        subst (λ z. Alike its (unless_failed z (does a m loop i) (does b m loop)) j × ((unless_failed z (does a m loop i) (does b m loop)).fault ≡ None)) (sym first.1) (idle-does b its m (does a m loop i) j first.1 o.1 first.0)
    idle-does (Declare k y None) its m i j fine h l = (beside its i j y (zero_of (loop.vtype y)) h l, fine)
    idle-does (Declare k y (Some e)) its m i j fine h l =
        let o = both-true (is_gone gone its y) (is_certain its e) h in
        let v = certain-by loop m i k its (holds its i j l) e o.1 in
        subst (λ z. Alike its (with_ok i (settled z) (λ v. wrote i (Scalar y, v))) j × ((with_ok i (settled z) (λ v. wrote i (Scalar y, v))).fault ≡ None)) (sym v.1) (beside its i j y v.0 o.0 l, fine)
    idle-does (DeclareEdge y w at) its m i j fine h l = (l, fine)
    idle-does (Assign k (T.Scalar y at) e) its m i j fine h l =
        let o = both-true (is_gone gone its y) (is_certain its e) h in
        let v = certain-by loop m i k its (holds its i j l) e o.1 in
        subst (λ z. Alike its (with_ok i (assigned (view_in loop m i k) (T.Scalar y at) z) (wrote i)) j × ((with_ok i (assigned (view_in loop m i k) (T.Scalar y at) z) (wrote i)).fault ≡ None)) (sym v.1) (beside its i j y v.0 o.0 l, fine)
    idle-does (Assign k (T.Property y p at) e) its m i j fine h l = absurd (both_ways false refl h)
    idle-does (Defer k t e) its m i j fine h l = absurd (both_ways false refl h)
    idle-does (Combine k total r ts es) its m i j fine h l = absurd (both_ways false refl h)
    idle-does (Group k at g p e) its m i j fine h l = absurd (both_ways false refl h)
    idle-does (Foreach k at head test body) its m i j fine h l = absurd (both_ways false refl h)
    idle-does (For k at head test body) its m i j fine h l = absurd (both_ways false refl h)
    idle-does (If k c a b) its m i j fine h l =
        let o = both-true (is_certain its c) (is_idle gone its a && is_idle gone its b) h in
        let u = both-true (is_idle gone its a) (is_idle gone its b) o.1 in
        let v = certain-by loop m i k its (holds its i j l) c o.0 in
        subst (λ z. Alike its (with_ok i (settled z) (λ v. one_way (is_true v) (does a m loop) (does b m loop) i)) j × ((with_ok i (settled z) (λ v. one_way (is_true v) (does a m loop) (does b m loop) i)).fault ≡ None)) (sym v.1)
        (by (is_true v.0) (idle-does a its m i j fine u.0 l) (idle-does b its m i j fine u.1 l))
      where
        by : (o : Bool) → Alike its (does a m loop i) j × ((does a m loop i).fault ≡ None) → Alike its (does b m loop i) j × ((does b m loop i).fault ≡ None) →
            Alike its (one_way o (does a m loop) (does b m loop) i) j × ((one_way o (does a m loop) (does b m loop) i).fault ≡ None)
        by true p q = p
        by false p q = q
    idle-does (While k at c body) its m i j fine h l = absurd (both_ways false refl h)
    idle-does (Do k at body c) its m i j fine h l = absurd (both_ways false refl h)
    idle-does (InBfs k at head c body) its m i j fine h l = absurd (both_ways false refl h)
    idle-does (InBfsBoth k at head c body back_key d back) its m i j fine h l = absurd (both_ways false refl h)
    idle-does (Return k at e) its m i j fine h l = absurd (both_ways false refl h)
