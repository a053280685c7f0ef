-- A turn of an inner loop, and one that goes on behind it and evaluates only what it needs.
use Rattle.std.proofs.Common.{◌≡◌, ◌≢◌, ◌<◌, ◌⊎◌, ℕ, Bool, true, false, cond, List, [], ◌∷◌, ◌++◌, refl, sym, ap, subst, ◌∙◌, append-nil, Option, Some, None, Result, Ok, Err, ⊎_elim, inl, inr}
use Rattle.std.specs.Prelude.{◌&&◌, ◌||◌, not, nat_eq}
use Rattle.std.specs.List.{list_all, list_any}
use Rattle.std.proofs.lemmas.Bool.{both_ways, eq-eqb}
use Rattle.gm_value.specs.declared.values.Value.{Value}
use Rattle.gm_value.specs.declared.values.Value.TheVariants.{At}
use Rattle.gm_value.specs.declared.reductions.Reduce.{Reduce}
use Rattle.gm_value.specs.Bag.{IsIn}
use Rattle.gm_value.specs.Numbers.{zero_of}
use Rattle.gm_value.specs.Operations.{is_true}
use Rattle.gm_model.specs.Graphs.{node_count}
use Rattle.gm_ast.specs.declared.tree.Declaration.{Declaration}
use Rattle.gm_ast.specs.declared.tree.Key.{Key}
use Rattle.gm_ast.specs.declared.tree.TotalKey.{TotalKey}
use Rattle.gm_ast.specs.declared.tree.Target.{Target}
use Rattle.gm_ast.specs.declared.tree.Target.TheVariants as T
use Rattle.gm_ast.specs.Ways.{is_in}
use Rattle.gm_ast.specs.Program.{Expr, Const, Var, Property, EdgeProperty, Degree, NodeCount, EdgeCount, Live, Unary, Binary, Both, Either, Choose, Folded, Stmt, Skip, Then, Declare, DeclareEdge, Assign, Defer, Combine, Group, Foreach, For, If, While, Do, InBfs, InBfsBoth, Return}
use Rattle.gm_semantics.specs.declared.faults.Fault.{Fault}
use Rattle.gm_semantics.specs.declared.slots.Slot.{Slot}
use Rattle.gm_semantics.specs.declared.slots.Slot.TheVariants.{Scalar, Node}
use Rattle.gm_semantics.specs.Stores.{read}
use Rattle.gm_semantics.specs.Expressions.{settled, evaluated, evaluated_all, value}
use Rattle.gm_semantics.specs.Contributions.{Contribution}
use Rattle.gm_semantics.specs.Iterations.{Loop, Mode, AtEdge, Iteration, failed, unless_failed, with_ok, one_way, view_in, assigned, assigned_all, at_once, wrote, wrote_all, gave_outermost, contribution, ends_of_all, reduced, does}
use Rattle.gm_forms.specs.Cut.{touched}
use Rattle.gm_forms.specs.Doing.{AreFlat, EachGiven, Gave, EachSlot, slots_at, OffAnd, MayReduce, MayDo, Did}
use Rattle.gm_forms.specs.Forms.{depth_at, is_flat, is_inner_body}
use Rattle.gm_forms.specs.Reading.{GivesGood, ReadsGood, TargetGood, HeldGood, OwnerGood, EachTarget, AllReadGood, ReducesGood, StepsGood, Agrees, Follows}
use Rattle.gm_forms.specs.Sharing.{Read, told_in, reads_in, sights_in_all, sights_of_target, sights_at_target, sights_by, sights_of, is_at_once, are_at_once, variables_of, written}
use Rattle.gm_forms.proofs.Named.{both-true}
use Rattle.gm_forms.proofs.Doings.{in-left, in-right, does-did}
use Rattle.gm_forms.proofs.CutTests.{finds, not-true}
use Rattle.gm_forms.proofs.Held.{in-append, stays}
use Rattle.gm_forms.proofs.ReadingFrames.{evaluated-good, does-follows}
use Rattle.gm_loop_laws.specs.Masks.{is_certain}
use Rattle.gm_loop_laws.specs.Resumed.{is_still, serves, needs, kept, resumed}
use Rattle.gm_loop_laws.specs.Saved.{is_other, never_writes}
use Rattle.gm_loop_laws.proofs.Givens.{flat, all-flat}
use Rattle.gm_loop_laws.proofs.Masks.{Holds, certain-by}
use Rattle.gm_loop_laws.proofs.Quiet.{ends-once}
use Rattle.gm_loop_laws.proofs.Splits.{ends_late, ends_by}

or-false : (a b : Bool) → a || b ≡ false → (a ≡ false) × (b ≡ false)
or-false true b h = absurd (both_ways true h refl)
or-false false b h = (refl, h)

and-false : (b : Bool) → not b ≡ false → b ≡ true
and-false true h = refl
and-false false h = absurd (both_ways true h refl)

-- none of some numbers is in a list
any-none : (xs ys : List ℕ) → list_any (is_in xs) ys ≡ false → (y : ℕ) → IsIn y ys → is_in xs y ≡ false
any-none xs [] h y i = absurd i
any-none xs (z ∷ ys) h y i = let r = or-false (is_in xs z) (list_any (is_in xs) ys) h in ⊎_elim (λ (e : y ≡ z). ap (is_in xs) e ∙ r.0) (λ j. any-none xs ys r.1 y j) i

any-append : (xs ys zs : List ℕ) → list_any (is_in xs) (ys ++ zs) ≡ false → (list_any (is_in xs) ys ≡ false) × (list_any (is_in xs) zs ≡ false)
any-append xs [] zs h = (refl, h)
any-append xs (y ∷ ys) zs h =
    let r = or-false (is_in xs y) (list_any (is_in xs) (ys ++ zs)) h in
    let q = any-append xs ys zs r.1 in
    (ap (λ b. b || list_any (is_in xs) ys) r.0 ∙ q.0, q.1)

-- its: the iterators around, which are the outer one and t. given: the properties that may differ
module _ (ds : List Declaration) (loop : Loop) (depths : (v : ℕ) → loop.depth v ≡ depth_at ds v) (given its : List ℕ) (t z y e : ℕ) (below : z < node_count loop.graph) (below-inner : y < node_count loop.graph)
    (around : (v : ℕ) → is_in its v ≡ true → (v ≡ loop.outer) ⊎ (v ≡ t)) (here : is_in its loop.outer ≡ true) where
  abbrev n : ℕ
  n = loop.outer

  abbrev late : Loop
  late = ends_late loop

  abbrev mode : Mode
  mode = AtEdge e

  -- slots that are needed
  abbrev Good : List ℕ → Slot → Type 0
  Good xs (Scalar v) = IsIn v xs
  Good xs (Node p k) = IsIn p given → ⊥

  once : (ts : List Target) → ends_of_all mode late ts ≡ ends_by (are_at_once ds n true ts) true
  once ts = ends-once ds loop depths given its z e here ts

  -- how both gave: alike behind what was before, or the second one nothing
  abbrev GaveSo : Bool → List Contribution → Iteration → Iteration → Type 0
  GaveSo true before i j = i.with_outermost ≡ before ++ j.with_outermost
  GaveSo false before i j = j.with_outermost ≡ []

  -- two iterations that hold the same where some variables are needed
  pub record Meets (new : Bool) (xs : List ℕ) (before : List Contribution) (i j : Iteration) : Type 0 where
    pub agree : Agrees (Good xs) i.store j.store
    pub outer : i.store.scalar n ≡ At (Some z)
    pub inner : i.store.scalar t ≡ At (Some y)
    pub nothing : i.with_inner ≡ []
    pub nothing_then : j.with_inner ≡ []
    pub gives : GaveSo new before i j
    pub deferred : j.deferred ≡ i.deferred
    pub fault : j.fault ≡ i.fault

  fewer : (new : Bool) (xs ys : List ℕ) (before : List Contribution) (i j : Iteration) → ((v : ℕ) → IsIn v ys → IsIn v xs) → Meets new xs before i j → Meets new ys before i j
  fewer new xs ys before i j sub m = record {
    agree = record { at = λ slot good. m.agree.at slot (lift slot good); edge = m.agree.edge };
    outer = m.outer;
    inner = m.inner;
    nothing = m.nothing;
    nothing_then = m.nothing_then;
    gives = m.gives;
    deferred = m.deferred;
    fault = m.fault;
  }
    where
      lift : (slot : Slot) → Good ys slot → Good xs slot
      lift (Scalar v) i = sub v i
      lift (Node p k) o = o

  more-leaf : (b : Bool) (rs xs : List ℕ) (v : ℕ) → IsIn v xs → IsIn v (cond b (rs ++ xs) xs)
  more-leaf true rs xs v i = in-right v rs xs i
  more-leaf false rs xs v i = i

  -- what is needed behind a part is needed from it on
  more : (new : Bool) (s : Stmt) (xs : List ℕ) (v : ℕ) → IsIn v xs → IsIn v (needs ds its n new s xs)
  more new Skip xs v i = i
  more new (Then a b) xs v i = more new a (needs ds its n new b xs) v (more new b xs v i)
  more new (Declare k x o) xs v i = more-leaf (serves ds its n new xs (Declare k x o)) (sights_of ds n true (Declare k x o)).scalars xs v i
  more new (DeclareEdge x w at) xs v i = i
  more new (Assign k u o) xs v i = more-leaf (serves ds its n new xs (Assign k u o)) (sights_of ds n true (Assign k u o)).scalars xs v i
  more new (Defer k u o) xs v i = more-leaf (serves ds its n new xs (Defer k u o)) (sights_of ds n true (Defer k u o)).scalars xs v i
  more new (Combine k total r ts es) xs v i = more-leaf (serves ds its n new xs (Combine k total r ts es)) (sights_of ds n true (Combine k total r ts es)).scalars xs v i
  more new (Group k at g p o) xs v i = more-leaf (serves ds its n new xs (Group k at g p o)) (sights_of ds n true (Group k at g p o)).scalars xs v i
  more new (Foreach k at h test body) xs v i = more-leaf (serves ds its n new xs (Foreach k at h test body)) (sights_of ds n true (Foreach k at h test body)).scalars xs v i
  more new (For k at h test body) xs v i = more-leaf (serves ds its n new xs (For k at h test body)) (sights_of ds n true (For k at h test body)).scalars xs v i
  more new (If k c a b) xs v i = by (serves ds its n new xs (If k c a b)) (more new a xs v i)
    where
      by : (o : Bool) → IsIn v (needs ds its n new a xs) → IsIn v (cond o (told_in c ++ (needs ds its n new a xs ++ needs ds its n new b xs)) xs)
      by true l = in-right v (told_in c) (needs ds its n new a xs ++ needs ds its n new b xs) (in-left v (needs ds its n new a xs) (needs ds its n new b xs) l)
      by false l = i
  more new (While k at c body) xs v i = more-leaf (serves ds its n new xs (While k at c body)) (sights_of ds n true (While k at c body)).scalars xs v i
  more new (Do k at body c) xs v i = more-leaf (serves ds its n new xs (Do k at body c)) (sights_of ds n true (Do k at body c)).scalars xs v i
  more new (InBfs k at h c body) xs v i = more-leaf (serves ds its n new xs (InBfs k at h c body)) (sights_of ds n true (InBfs k at h c body)).scalars xs v i
  more new (InBfsBoth k at h c body bk d back) xs v i = more-leaf (serves ds its n new xs (InBfsBoth k at h c body bk d back)) (sights_of ds n true (InBfsBoth k at h c body bk d back)).scalars xs v i
  more new (Return k at o) xs v i = more-leaf (serves ds its n new xs (Return k at o)) (sights_of ds n true (Return k at o)).scalars xs v i

  -- ---- what is read

  abbrev Told : List ℕ → List ℕ → Type 0
  Told xs vs = (v : ℕ) → IsIn v vs → IsIn v xs

  abbrev Kept : List Read → Type 0
  Kept rs = (r : Read) → IsIn r rs → IsIn r.property given → ⊥

  told-left : (xs us vs : List ℕ) → Told xs (us ++ vs) → Told xs us
  told-left xs us vs h v i = h v (in-left v us vs i)

  told-right : (xs us vs : List ℕ) → Told xs (us ++ vs) → Told xs vs
  told-right xs us vs h v i = h v (in-right v us vs i)

  kept-left : (us vs : List Read) → Kept (us ++ vs) → Kept us
  kept-left us vs h r i = h r (in-left r us vs i)

  kept-right : (us vs : List Read) → Kept (us ++ vs) → Kept vs
  kept-right us vs h r i = h r (in-right r us vs i)

  module _ (xs : List ℕ) where
    reads-good : (edge : Bool) (c : Expr) → is_flat its edge c ≡ true → Told xs (told_in c) → Kept (reads_in c) → ReadsGood (Good xs) n z c
    reads-good edge (Const v) g h k = tt
    reads-good edge (Var v at) g h k = h v (inl refl)
    reads-good edge (Property v p at) g h k = (h v (inl refl), λ l o. k (record { owner = v; property = p }) (inl refl))
    reads-good edge (EdgeProperty v p at) g h k = tt
    reads-good edge (Degree d v at) g h k = h v (inl refl)
    reads-good edge NodeCount g h k = tt
    reads-good edge EdgeCount g h k = tt
    reads-good edge (Live v at) g h k = h v (inl refl)
    reads-good edge (Unary op at a) g h k = reads-good edge a g h k
    reads-good edge (Binary op at a b) g h k =
        let r = both-true (is_flat its edge a) (is_flat its edge b) g in
        (reads-good edge a r.0 (told-left xs (told_in a) (told_in b) h) (kept-left (reads_in a) (reads_in b) k), reads-good edge b r.1 (told-right xs (told_in a) (told_in b) h) (kept-right (reads_in a) (reads_in b) k))
    reads-good edge (Both a b) g h k =
        let r = both-true (is_flat its edge a) (is_flat its edge b) g in
        (reads-good edge a r.0 (told-left xs (told_in a) (told_in b) h) (kept-left (reads_in a) (reads_in b) k), reads-good edge b r.1 (told-right xs (told_in a) (told_in b) h) (kept-right (reads_in a) (reads_in b) k))
    reads-good edge (Either a b) g h k =
        let r = both-true (is_flat its edge a) (is_flat its edge b) g in
        (reads-good edge a r.0 (told-left xs (told_in a) (told_in b) h) (kept-left (reads_in a) (reads_in b) k), reads-good edge b r.1 (told-right xs (told_in a) (told_in b) h) (kept-right (reads_in a) (reads_in b) k))
    reads-good edge (Choose c a b) g h k =
        let r = both-true (is_flat its edge c) (is_flat its edge a && is_flat its edge b) g in
        let q = both-true (is_flat its edge a) (is_flat its edge b) r.1 in
        let rest = told-right xs (told_in c) (told_in a ++ told_in b) h in
        let last = kept-right (reads_in c) (reads_in a ++ reads_in b) k in (
          reads-good edge c r.0 (told-left xs (told_in c) (told_in a ++ told_in b) h) (kept-left (reads_in c) (reads_in a ++ reads_in b) k),
          reads-good edge a q.0 (told-left xs (told_in a) (told_in b) rest) (kept-left (reads_in a) (reads_in b) last),
          reads-good edge b q.1 (told-right xs (told_in a) (told_in b) rest) (kept-right (reads_in a) (reads_in b) last),
        )
    reads-good edge (Folded f head test c) g h k = absurd (both_ways false refl g)

    all-good : (edge : Bool) (es : List Expr) → list_all (is_flat its edge) es ≡ true → Told xs (sights_in_all es).scalars → Kept (sights_in_all es).properties → AllReadGood (Good xs) n z es
    all-good edge [] g h k = tt
    all-good edge (c ∷ es) g h k =
        let r = both-true (is_flat its edge c) (list_all (is_flat its edge) es) g in (
          reads-good edge c r.0 (told-left xs (told_in c) (sights_in_all es).scalars h) (kept-left (reads_in c) (sights_in_all es).properties k),
          all-good edge es r.1 (told-right xs (told_in c) (sights_in_all es).scalars h) (kept-right (reads_in c) (sights_in_all es).properties k),
        )

    off-outer : (v : ℕ) → not (nat_eq v n) ≡ true → v ≢ n
    off-outer v h o = both_ways (nat_eq v n) (not-true (nat_eq v n) h) (eq-eqb v n o)

    targets-once : (ts : List Target) → are_at_once ds n true ts ≡ true → list_all (is_other n) ts ≡ true → EachTarget (Good xs) n z (TargetGood (Good xs) n z) ts
    targets-once [] o w = tt
    targets-once (T.Scalar v at ∷ ts) o w =
        let r = both-true (is_at_once ds n true (T.Scalar v at)) (are_at_once ds n true ts) o in
        let q = both-true (not (nat_eq v n)) (list_all (is_other n) ts) w in
        (off-outer v q.0, targets-once ts r.1 q.1)
    targets-once (T.Property v p at ∷ ts) o w = absurd (both_ways false refl o)

    held-once : (ts : List Target) → are_at_once ds n true ts ≡ true → Told xs (sights_by sights_at_target ts).scalars → EachTarget (Good xs) n z (HeldGood (Good xs) n z) ts
    held-once [] o h = tt
    held-once (T.Scalar v at ∷ ts) o h =
        let r = both-true (is_at_once ds n true (T.Scalar v at)) (are_at_once ds n true ts) o in (h v (inl refl), held-once ts r.1 (λ w i. h w (inr i)))
    held-once (T.Property v p at ∷ ts) o h = absurd (both_ways false refl o)

    owners-good : (ts : List Target) → Told xs (sights_by sights_of_target ts).scalars → EachTarget (Good xs) n z (OwnerGood (Good xs) n z) ts
    owners-good [] h = tt
    owners-good (T.Scalar v at ∷ ts) h = (tt, owners-good ts h)
    owners-good (T.Property v p at ∷ ts) h = (h v (inl refl), owners-good ts (λ w i. h w (inr i)))

    -- a statement that reads what is needed
    abbrev Reads : Stmt → Type 0
    Reads s = Told xs (sights_of ds n true s).scalars × Kept (sights_of ds n true s).properties

    combine-good : (k : Key) (total : TotalKey) (r : Reduce) (ts : List Target) (es : List Expr) → is_inner_body ds its true (Combine k total r ts es) ≡ true → list_all (is_other n) ts ≡ true → Reads (Combine k total r ts es) → StepsGood (Good xs) n z (Combine k total r ts es) mode late
    combine-good k total r ts es g w h = subst (λ d. ReducesGood (Good xs) n z d ts es) (sym (once ts)) (by (are_at_once ds n true ts) refl h)
      where
        values : list_all (is_flat its true) es ≡ true
        values = (both-true _ (list_all (is_flat its true) es) g).1

        by : (b : Bool) → are_at_once ds n true ts ≡ b → Told xs ((sights_by (cond b sights_at_target sights_of_target) ts).scalars ++ (sights_in_all es).scalars) × Kept ((sights_by (cond b sights_at_target sights_of_target) ts).properties ++ (sights_in_all es).properties) → ReducesGood (Good xs) n z (ends_by b true) ts es
        by true o q = (
          targets-once ts o w,
          held-once ts o (told-left xs (sights_by sights_at_target ts).scalars (sights_in_all es).scalars q.0),
          all-good true es values (told-right xs (sights_by sights_at_target ts).scalars (sights_in_all es).scalars q.0) (kept-right (sights_by sights_at_target ts).properties (sights_in_all es).properties q.1),
        )
        by false o q = (
          owners-good ts (told-left xs (sights_by sights_of_target ts).scalars (sights_in_all es).scalars q.0),
          all-good true es values (told-right xs (sights_by sights_of_target ts).scalars (sights_in_all es).scalars q.0) (kept-right (sights_by sights_of_target ts).properties (sights_in_all es).properties q.1),
        )

  -- ---- what is evaluated in both

  still-inner : {A : Type 0} (it : Iteration) (r : Result A Fault) (f : A → Iteration) → ((v : A) → (f v).with_inner ≡ it.with_inner) → (with_ok it r f).with_inner ≡ it.with_inner
  still-inner it (Ok v) f h = h v
  still-inner it (Err g) f h = refl

  still-outermost : {A : Type 0} (it : Iteration) (r : Result A Fault) (f : A → Iteration) → ((v : A) → (f v).with_outermost ≡ it.with_outermost) → (with_ok it r f).with_outermost ≡ it.with_outermost
  still-outermost it (Ok v) f h = h v
  still-outermost it (Err g) f h = refl

  -- a statement that leaves what ends with the inner loop, and does what it reads alike
  both-do : (new : Bool) (s : Stmt) (xs ys : List ℕ) (before : List Contribution) (i j : Iteration) → StepsGood (Good xs) n z s mode late → is_in (touched s) t ≡ false → ((it : Iteration) → (does s mode late it).with_inner ≡ it.with_inner) →
      ((new ≡ true) ⊎ ((it : Iteration) → (does s mode late it).with_outermost ≡ it.with_outermost)) → ((v : ℕ) → IsIn v ys → IsIn v xs) → Meets new xs before i j → Meets new ys before (does s mode late i) (does s mode late j)
  both-do new s xs ys before i j good off quiet-inner quiet-outer sub m =
      fewer new xs ys before (does s mode late i) (does s mode late j) sub
      (record {
        agree = record {
          at = λ slot g. ⊎_elim (λ (c : read (does s mode late j).store slot ≡ read (does s mode late i).store slot). c)
              (λ (c : (read (does s mode late i).store slot ≡ read i.store slot) × (read (does s mode late j).store slot ≡ read j.store slot)). c.1 ∙ m.agree.at slot g ∙ sym c.0) (f.slots slot);
          edge = f.edge;
        };
        outer = f.iterator;
        inner = stays t y s late e i off m.inner;
        nothing = quiet-inner i ∙ m.nothing;
        nothing_then = quiet-inner j ∙ m.nothing_then;
        gives = gave new quiet-outer m.gives;
        deferred = f.deferred;
        fault = f.fault;
      })
    where
      did : (b : List Contribution) → i.with_outermost ≡ b ++ j.with_outermost → Follows (Good xs) n z i.store j.store b (does s mode late i) (does s mode late j)
      did b h =
          does-follows (Good xs) n z s mode late i.store j.store b i j good m.agree
          (record {
            slots = λ slot. inr (refl, refl);
            edge = m.agree.edge;
            iterator = m.outer;
            with_inner = m.nothing_then ∙ sym m.nothing;
            with_outermost = h;
            deferred = m.deferred;
            fault = m.fault;
            inner_good = subst (GivesGood (Good xs) n z) (sym m.nothing) tt;
          })

      starts : (new : Bool) → GaveSo new before i j → (b : List Contribution) × (i.with_outermost ≡ b ++ j.with_outermost)
      starts true h = (before, h)
      starts false h = (i.with_outermost, sym (ap (λ l. i.with_outermost ++ l) h ∙ append-nil i.with_outermost))

      f : Follows (Good xs) n z i.store j.store (starts new m.gives).0 (does s mode late i) (does s mode late j)
      f = did (starts new m.gives).0 (starts new m.gives).1

      gave : (new : Bool) → ((new ≡ true) ⊎ ((it : Iteration) → (does s mode late it).with_outermost ≡ it.with_outermost)) → GaveSo new before i j → GaveSo new before (does s mode late i) (does s mode late j)
      gave true q h = (did before h).with_outermost
      gave false q h = ⊎_elim (λ (c : false ≡ true). absurd (cc)) (λ o. o j ∙ h) q

  -- ---- what is left out

  abbrev Nothing : Contribution → Type 0
  Nothing c = ⊥

  abbrev Anything : Contribution → Type 0
  Anything c = Unit {0}

  abbrev Free : Fault → Type 0
  Free f = Unit {0}

  -- slots of some locals
  abbrev Among : List ℕ → Slot → Type 0
  Among vs (Scalar v) = IsIn v vs
  Among vs (Node p k) = ⊥

  may-set : (vs : List ℕ) (s : Stmt) → is_inner_body ds its true s ≡ true → never_writes n s ≡ true → Told vs (written ds n true s) → MayDo Nothing Anything Free n z [] s (Among vs) mode late
  may-set vs Skip g w h = tt
  may-set vs (Then a b) g w h =
      let r = both-true (is_inner_body ds its true a) (is_inner_body ds its true b) g in
      let q = both-true (never_writes n a) (never_writes n b) w in
      (may-set vs a r.0 q.0 (told-left vs (written ds n true a) (written ds n true b) h), may-set vs b r.1 q.1 (told-right vs (written ds n true a) (written ds n true b) h))
  may-set vs (Declare k v None) g w h = (h v (inl refl), off-outer vs v w, tt)
  may-set vs (Declare k v (Some c)) g w h = let r = both-true _ _ g in (h v (inl refl), off-outer vs v w, (flat its true c r.1, λ f i. tt))
  may-set vs (DeclareEdge x w at) g o h = tt
  may-set vs (Assign k (T.Scalar v at) c) g w h = let r = both-true _ _ g in (h v (inl refl), off-outer vs v w, flat its true c r.1, λ f i. tt)
  may-set vs (Assign k (T.Property v p at) c) g w h = absurd (both_ways false refl g)
  may-set vs (Defer k u c) g w h = absurd (both_ways false refl g)
  may-set vs (Combine k total r ts es) g w h = subst (λ d. MayReduce Nothing Anything Free n z [] (Among vs) d k total r ts es) (sym (once ts)) (by (are_at_once ds n true ts) refl h)
    where
      flats : AreFlat es
      flats = all-flat its true es (both-true _ (list_all (is_flat its true) es) g).1

      slots : (node : ℕ → ℕ) (us : List Target) → are_at_once ds n true us ≡ true → list_all (is_other n) us ≡ true → Told vs (variables_of us) → EachSlot (OffAnd Nothing Anything Free n z (Among vs)) (slots_at node us)
      slots node [] o q h = tt
      slots node (T.Scalar v at ∷ us) o q h =
          let r = both-true (is_at_once ds n true (T.Scalar v at)) (are_at_once ds n true us) o in
          let p = both-true (not (nat_eq v n)) (list_all (is_other n) us) q in
          ((h v (inl refl), not-true (nat_eq v n) p.0), slots node us r.1 p.1 (λ x i. h x (inr i)))
      slots node (T.Property v p at ∷ us) o q h = absurd (both_ways false refl o)

      by : (b : Bool) → are_at_once ds n true ts ≡ b → Told vs (cond b (variables_of ts) []) → MayReduce Nothing Anything Free n z [] (Among vs) (ends_by b true) k total r ts es
      by true o q = ((λ node a. slots node ts o w q), flats, λ f i. tt)
      by false o q = ((λ node a values. tt), flats, λ f i. tt)
  may-set vs (Group k at u p c) g w h = absurd (both_ways false refl g)
  may-set vs (Foreach k at head test body) g w h = absurd (both_ways false refl g)
  may-set vs (For k at head test body) g w h = absurd (both_ways false refl g)
  may-set vs (If k c a b) g w h =
      let o = both-true _ (is_inner_body ds its true a && is_inner_body ds its true b) g in
      let r = both-true (is_inner_body ds its true a) (is_inner_body ds its true b) o.1 in
      let q = both-true (never_writes n a) (never_writes n b) w in
      ((flat its true c o.0, λ f i. tt), may-set vs a r.0 q.0 (told-left vs (written ds n true a) (written ds n true b) h), may-set vs b r.1 q.1 (told-right vs (written ds n true a) (written ds n true b) h))
  may-set vs (While k at c body) g w h = absurd (both_ways false refl g)
  may-set vs (Do k at body c) g w h = absurd (both_ways false refl g)
  may-set vs (InBfs k at head c body) g w h = absurd (both_ways false refl g)
  may-set vs (InBfsBoth k at head c body bk d back) g w h = absurd (both_ways false refl g)
  may-set vs (Return k at c) g w h = absurd (both_ways false refl g)

  -- what is still does not fault, and gives nothing
  holds : (it : Iteration) → it.store.scalar n ≡ At (Some z) → it.store.scalar t ≡ At (Some y) → (v : ℕ) → is_in its v ≡ true → Holds loop it v
  holds it a b v i = ⊎_elim (λ (e : v ≡ n). (z, below, ap it.store.scalar e ∙ a)) (λ (e : v ≡ t). (y, below-inner, ap it.store.scalar e ∙ b)) (around v i)

  record Quiet (it after : Iteration) : Type 0 where
    fault : after.fault ≡ None
    outermost : after.with_outermost ≡ it.with_outermost
    outer : after.store.scalar n ≡ At (Some z)

  still-does : (s : Stmt) (it : Iteration) → is_still its s ≡ true → never_writes n s ≡ true → is_in (touched s) t ≡ false → it.fault ≡ None → it.store.scalar n ≡ At (Some z) → it.store.scalar t ≡ At (Some y) → Quiet it (does s mode late it)
  still-does Skip it h w off fine a b = record { fault = fine; outermost = refl; outer = a }
  still-does (Then s u) it h w off fine a b =
      let r = both-true (is_still its s) (is_still its u) h in
      let q = both-true (never_writes n s) (never_writes n u) w in
      let p = in-append t (touched s) (touched u) off in
      let first = still-does s it r.0 q.0 p.0 fine a b in
      let next = still-does u (does s mode late it) r.1 q.1 p.1 first.fault first.outer (stays t y s late e it p.0 b) in
      subst (λ x. Quiet it (unless_failed x (does s mode late it) (does u mode late))) (sym first.fault) (record { fault = next.fault; outermost = next.outermost ∙ first.outermost; outer = next.outer })
  still-does (Declare k v None) it h w off fine a b = record { fault = fine; outermost = refl; outer = ap (λ c. cond c (zero_of (loop.vtype v)) (it.store.scalar n)) (not-true (nat_eq v n) w) ∙ a }
  still-does (Declare k v (Some c)) it h w off fine a b =
      let r = certain-by late mode it k its (holds it a b) c h in
      subst (λ x. Quiet it (with_ok it (settled x) (λ u. wrote it (Scalar v, u)))) (sym r.1) (record { fault = fine; outermost = refl; outer = ap (λ c. cond c r.0 (it.store.scalar n)) (not-true (nat_eq v n) w) ∙ a })
  still-does (DeclareEdge x w at) it h o off fine a b = record { fault = fine; outermost = refl; outer = a }
  still-does (Assign k (T.Scalar v at) c) it h w off fine a b =
      let r = certain-by late mode it k its (holds it a b) c h in
      subst (λ x. Quiet it (with_ok it (assigned (view_in late mode it k) (T.Scalar v at) x) (wrote it))) (sym r.1) (record { fault = fine; outermost = refl; outer = ap (λ c. cond c r.0 (it.store.scalar n)) (not-true (nat_eq v n) w) ∙ a })
  still-does (Assign k (T.Property v p at) c) it h w off fine a b = absurd (both_ways false refl h)
  still-does (Defer k u c) it h w off fine a b = absurd (both_ways false refl h)
  still-does (Combine k total r ts es) it h w off fine a b = absurd (both_ways false refl h)
  still-does (Group k at u p c) it h w off fine a b = absurd (both_ways false refl h)
  still-does (Foreach k at head test body) it h w off fine a b = absurd (both_ways false refl h)
  still-does (For k at head test body) it h w off fine a b = absurd (both_ways false refl h)
  still-does (If k c s u) it h w off fine a b =
      let r = both-true (is_certain its c) (is_still its s && is_still its u) h in
      let q = both-true (is_still its s) (is_still its u) r.1 in
      let p = both-true (never_writes n s) (never_writes n u) w in
      let o = in-append t (touched s) (touched u) off in
      let v = certain-by late mode it k its (holds it a b) c r.0 in
      subst (λ x. Quiet it (with_ok it (settled x) (λ v. one_way (is_true v) (does s mode late) (does u mode late) it))) (sym v.1) (by (is_true v.0) (still-does s it q.0 p.0 o.0 fine a b) (still-does u it q.1 p.1 o.1 fine a b))
    where
      by : (d : Bool) → Quiet it (does s mode late it) → Quiet it (does u mode late it) → Quiet it (one_way d (does s mode late) (does u mode late) it)
      by true p q = p
      by false p q = q
  still-does (While k at c body) it h w off fine a b = absurd (both_ways false refl h)
  still-does (Do k at body c) it h w off fine a b = absurd (both_ways false refl h)
  still-does (InBfs k at head c body) it h w off fine a b = absurd (both_ways false refl h)
  still-does (InBfsBoth k at head c body bk d back) it h w off fine a b = absurd (both_ways false refl h)
  still-does (Return k at c) it h w off fine a b = absurd (both_ways false refl h)

  -- a statement that does not serve is left out
  left-out : (new : Bool) (s : Stmt) (xs : List ℕ) (before : List Contribution) (i j : Iteration) → serves ds its n new xs s ≡ false → is_inner_body ds its true s ≡ true → never_writes n s ≡ true → is_in (touched s) t ≡ false → i.fault ≡ None →
      (new ≡ false → (does s mode late i).fault ≡ None) → Meets new xs before i j → Meets new xs before (does s mode late i) j × ((does s mode late i).fault ≡ None)
  left-out new s xs before i j idle g w off fine fault m = (by new refl m.gives, last new refl)
    where
      parts : (list_any (is_in xs) (written ds n true s) ≡ false) × (new && not (is_still its s) ≡ false)
      parts = or-false (list_any (is_in xs) (written ds n true s)) (new && not (is_still its s)) idle

      did : Did (Among (written ds n true s)) Nothing Anything Free n z i (does s mode late i) × ((does s mode late i).store.scalar n ≡ At (Some z))
      did =
          does-did Nothing Anything Free n z (λ c o. absurd o) (λ c o. absurd o) [] s (Among (written ds n true s)) (λ c o. absurd o) mode late i (inl (λ f. tt))
          (may-set (written ds n true s) s g w (λ v i. i)) m.outer fine

      away : (slot : Slot) → Good xs slot → Among (written ds n true s) slot → ⊥
      away (Scalar v) good a = both_ways (is_in xs v) (any-none xs (written ds n true s) parts.0 v a) (finds xs v good)
      away (Node p k) good a = a

      no-more : (is cs : List Contribution) → Gave Nothing is cs → cs ≡ is
      no-more is cs gave = gave.is ∙ by gave.more gave.each
        where
          by : (ms : List Contribution) → EachGiven Nothing ms → is ++ ms ≡ is
          by [] a = append-nil is
          by (c ∷ ms) a = absurd a.0

      still : (b : Bool) → new ≡ b → b ≡ true → is_still its s ≡ true
      still true e o = and-false (is_still its s) (sym (ap (λ b. b && not (is_still its s)) e) ∙ parts.1)
      still false e o = absurd (both_ways false refl o)

      quiet : new ≡ true → Quiet i (does s mode late i)
      quiet o = still-does s i (still new refl o) w off fine m.outer m.inner

      last : (b : Bool) → new ≡ b → (does s mode late i).fault ≡ None
      last true e = (quiet e).fault
      last false e = fault e

      by : (b : Bool) → new ≡ b → GaveSo new before i j → Meets new xs before (does s mode late i) j
      by b is h = record {
        agree = record {
          at = λ slot good. m.agree.at slot good ∙ sym (⊎_elim (λ (c : read (does s mode late i).store slot ≡ read i.store slot). c) (λ a. absurd (away slot good a)) (did.0.slots slot));
          edge = m.agree.edge ∙ sym did.0.edge;
        };
        outer = did.1;
        inner = stays t y s late e i off m.inner;
        nothing = no-more i.with_inner (does s mode late i).with_inner did.0.inner ∙ m.nothing;
        nothing_then = m.nothing_then;
        gives = gave b is h;
        deferred = m.deferred ∙ sym did.0.deferred;
        fault = m.fault ∙ fine ∙ sym (last new refl);
      }
        where
          gave : (b : Bool) → new ≡ b → GaveSo new before i j → GaveSo new before (does s mode late i) j
          gave true o h = subst (λ b. GaveSo b before (does s mode late i) j) (sym o) ((quiet o).outermost ∙ subst (λ b. GaveSo b before i j) o h)
          gave false o h = subst (λ b. GaveSo b before (does s mode late i) j) (sym o) (subst (λ b. GaveSo b before i j) o h)

  -- ---- all of a body

  abbrev Reached : Bool → Stmt → List ℕ → Type 0
  Reached new s xs = Kept (sights_of ds n true (kept ds its n new s xs)).properties

  -- a leaf that serves, and one that does not
  leaf : (new : Bool) (s : Stmt) (xs : List ℕ) (before : List Contribution) (i j : Iteration) (b : Bool) → serves ds its n new xs s ≡ b → is_inner_body ds its true s ≡ true → never_writes n s ≡ true → is_in (touched s) t ≡ false → i.fault ≡ None →
      (new ≡ false → (does s mode late i).fault ≡ None) → Kept (sights_of ds n true (cond b s Skip)).properties → (Reads ((sights_of ds n true s).scalars ++ xs) s → StepsGood (Good ((sights_of ds n true s).scalars ++ xs)) n z s mode late) → ((it : Iteration) → (does s mode late it).with_inner ≡ it.with_inner) →
      ((new ≡ true) ⊎ ((it : Iteration) → (does s mode late it).with_outermost ≡ it.with_outermost)) → Meets new (cond b ((sights_of ds n true s).scalars ++ xs) xs) before i j → Meets new xs before (does s mode late i) (does (cond b s Skip) mode late j)
  leaf new s xs before i j true is g w off fine fault k good inner outer m =
      let rs = (sights_of ds n true s).scalars in
      both-do new s (rs ++ xs) xs before i j (good ((λ v i. in-left v rs xs i), k)) off inner outer (λ v i. in-right v rs xs i) m
  leaf new s xs before i j false is g w off fine fault k good inner outer m = (left-out new s xs before i j is g w off fine fault m).0

  unserved : (xs : List ℕ) (k : Key) (total : TotalKey) (r : Reduce) (ts : List Target) (es : List Expr) → are_at_once ds n true ts ≡ false → serves ds its n false xs (Combine k total r ts es) ≡ false
  unserved xs k total r ts es o = ap (λ b. list_any (is_in xs) (cond b (variables_of ts) []) || false) o

  combine : (new : Bool) (k : Key) (total : TotalKey) (r : Reduce) (ts : List Target) (es : List Expr) (xs : List ℕ) (before : List Contribution) (i j : Iteration) → is_inner_body ds its true (Combine k total r ts es) ≡ true → list_all (is_other n) ts ≡ true → is_in (variables_of ts) t ≡ false → i.fault ≡ None →
      (new ≡ false → (does (Combine k total r ts es) mode late i).fault ≡ None) → Reached new (Combine k total r ts es) xs → Meets new (needs ds its n new (Combine k total r ts es) xs) before i j → Meets new xs before (does (Combine k total r ts es) mode late i) (does (kept ds its n new (Combine k total r ts es) xs) mode late j)
  combine new k total r ts es xs before i j g w off fine fault reached m = by (are_at_once ds n true ts) refl new refl
    where
      s : Stmt
      s = Combine k total r ts es

      rs : List ℕ
      rs = (sights_of ds n true s).scalars

      inner-by : (b : Bool) (it : Iteration) → (reduced (ends_by b true) (view_in late mode it k) it total r ts es).with_inner ≡ it.with_inner
      inner-by true it = still-inner it (at_once (view_in late mode it k) total.place r ts es) (wrote_all it) (λ p. refl)
      inner-by false it = still-inner it (assigned_all (view_in late mode it k) ts (evaluated_all es (view_in late mode it k))) (λ p. gave_outermost it (contribution total r p)) (λ p. refl)

      inner : (it : Iteration) → (does s mode late it).with_inner ≡ it.with_inner
      inner it = ap (λ d. (reduced d (view_in late mode it k) it total r ts es).with_inner) (once ts) ∙ inner-by (are_at_once ds n true ts) it

      outer : are_at_once ds n true ts ≡ true → (it : Iteration) → (does s mode late it).with_outermost ≡ it.with_outermost
      outer o it =
          ap (λ d. (reduced d (view_in late mode it k) it total r ts es).with_outermost) (once ts ∙ ap (λ b. ends_by b true) o)
          ∙ still-outermost it (at_once (view_in late mode it k) total.place r ts es) (wrote_all it) (λ p. refl)

      whole : ((new ≡ true) ⊎ ((it : Iteration) → (does s mode late it).with_outermost ≡ it.with_outermost)) → Meets new xs before (does s mode late i) (does (kept ds its n new s xs) mode late j)
      whole o = leaf new s xs before i j (serves ds its n new xs s) refl g w off fine fault reached (λ q. combine-good (rs ++ xs) k total r ts es g w q) inner o m

      by : (b : Bool) → are_at_once ds n true ts ≡ b → (o : Bool) → new ≡ o → Meets new xs before (does s mode late i) (does (kept ds its n new s xs) mode late j)
      by true e o is = whole (inr (outer e))
      by false e true is = whole (inl is)
      by false e false is =
          let idle : serves ds its n new xs s ≡ false = ap (λ b. serves ds its n b xs s) is ∙ unserved xs k total r ts es e in
          let rest : Meets new xs before i j = subst (λ b. Meets new (cond b (rs ++ xs) xs) before i j) idle m in
          subst (λ b. Meets new xs before (does s mode late i) (does (cond b s Skip) mode late j)) (sym idle) (left-out new s xs before i j idle g w off fine fault rest).0

  -- what both do of a part
  abbrev GoesOn : Bool → Stmt → List ℕ → List Contribution → Iteration → Iteration → Type 0
  GoesOn new s xs before i j = (new ≡ false → (does s mode late i).fault ≡ None) → Reached new s xs → Meets new (needs ds its n new s xs) before i j → Meets new xs before (does s mode late i) (does (kept ds its n new s xs) mode late j)

  -- what both do of a body
  pub resume : (new : Bool) (s : Stmt) (xs : List ℕ) (before : List Contribution) (i j : Iteration) → is_inner_body ds its true s ≡ true → never_writes n s ≡ true → is_in (touched s) t ≡ false → i.fault ≡ None →
      (new ≡ false → (does s mode late i).fault ≡ None) → Reached new s xs → Meets new (needs ds its n new s xs) before i j → Meets new xs before (does s mode late i) (does (kept ds its n new s xs) mode late j)
  resume new Skip xs before i j g w off fine fault k m = m
  resume new (Then a b) xs before i j g w off fine fault k m =
      let o = both-true (is_inner_body ds its true a) (is_inner_body ds its true b) g in
      let q = both-true (never_writes n a) (never_writes n b) w in
      let p = in-append t (touched a) (touched b) off in
      let ys = needs ds its n new b xs in
      let ka = kept ds its n new a ys in
      let kb = kept ds its n new b xs in
      let first = resume new a ys before i j o.0 q.0 p.0 fine (λ d. first-fine (does a mode late i).fault refl (fault d)) (kept-left (sights_of ds n true ka).properties (sights_of ds n true kb).properties k) m in
      subst (λ x. Meets new xs before (unless_failed (does a mode late i).fault (does a mode late i) (does b mode late)) (unless_failed x (does ka mode late j) (does kb mode late))) (sym first.fault)
      (by (does a mode late i).fault refl (λ d. fault d) first (λ d. resume new b xs before (does a mode late i) (does ka mode late j) o.1 q.1 p.1 d (λ e. ap (λ x. (unless_failed x (does a mode late i) (does b mode late)).fault) (sym d) ∙ fault e) (kept-right (sights_of ds n true ka).properties (sights_of ds n true kb).properties k) first))
    where
      first-fine : (x : Option Fault) → (does a mode late i).fault ≡ x → (unless_failed x (does a mode late i) (does b mode late)).fault ≡ None → x ≡ None
      first-fine (Some f) d h = sym d ∙ h
      first-fine None d h = refl

      by : (x : Option Fault) → (does a mode late i).fault ≡ x → (new ≡ false → (unless_failed (does a mode late i).fault (does a mode late i) (does b mode late)).fault ≡ None) → Meets new (needs ds its n new b xs) before (does a mode late i) (does (kept ds its n new a (needs ds its n new b xs)) mode late j) →
          ((does a mode late i).fault ≡ None → Meets new xs before (does b mode late (does a mode late i)) (does (kept ds its n new b xs) mode late (does (kept ds its n new a (needs ds its n new b xs)) mode late j))) →
          Meets new xs before (unless_failed x (does a mode late i) (does b mode late)) (unless_failed x (does (kept ds its n new a (needs ds its n new b xs)) mode late j) (does (kept ds its n new b xs) mode late))
      by (Some f) d h first second = fewer new (needs ds its n new b xs) xs before (does a mode late i) (does (kept ds its n new a (needs ds its n new b xs)) mode late j) (more new b xs) first
      by None d h first second = second d
  resume new (Declare k v None) xs before i j g w off fine fault r m =
      leaf new (Declare k v None) xs before i j (serves ds its n new xs (Declare k v None)) refl g w off fine fault r (λ q. (off-outer xs v w, tt)) (λ it. refl) (inr (λ it. refl)) m
  resume new (Declare k v (Some c)) xs before i j g w off fine fault r m =
      leaf new (Declare k v (Some c)) xs before i j (serves ds its n new xs (Declare k v (Some c))) refl g w off fine fault r
      (λ q. (off-outer xs v w, reads-good (told_in c ++ xs) true c (both-true _ (is_flat its true c) g).1 q.0 q.1)) (λ it. still-inner it (value c (view_in late mode it k)) _ (λ v. refl)) (inr (λ it. still-outermost it (value c (view_in late mode it k)) _ (λ v. refl))) m
  resume new (DeclareEdge x w at) xs before i j g o off fine fault r m = m
  resume new (Assign k (T.Scalar v at) c) xs before i j g w off fine fault r m =
      leaf new (Assign k (T.Scalar v at) c) xs before i j (serves ds its n new xs (Assign k (T.Scalar v at) c)) refl g w off fine fault r
      (λ q. (off-outer xs v w, reads-good (told_in c ++ xs) true c (both-true _ (is_flat its true c) g).1 q.0 q.1)) (λ it. still-inner it (assigned (view_in late mode it k) (T.Scalar v at) (evaluated c (view_in late mode it k))) (wrote it) (λ v. refl))
      (inr (λ it. still-outermost it (assigned (view_in late mode it k) (T.Scalar v at) (evaluated c (view_in late mode it k))) (wrote it) (λ v. refl))) m
  resume new (Assign k (T.Property v p at) c) xs before i j g w off fine fault r m = absurd (both_ways false refl g)
  resume new (Defer k u c) xs before i j g w off fine fault r m = absurd (both_ways false refl g)
  resume new (Combine k total r ts es) xs before i j g w off fine fault q m = combine new k total r ts es xs before i j g w off fine fault q m
  resume new (Group k at u p c) xs before i j g w off fine fault r m = absurd (both_ways false refl g)
  resume new (Foreach k at head test body) xs before i j g w off fine fault r m = absurd (both_ways false refl g)
  resume new (For k at head test body) xs before i j g w off fine fault r m = absurd (both_ways false refl g)
  resume new (If k c a b) xs before i j g w off fine fault r m =
      served (λ h p m. resume new a xs before i j inners.0 writes.0 offs.0 fine h p m) (λ h p m. resume new b xs before i j inners.1 writes.1 offs.1 fine h p m) (serves ds its n new xs (If k c a b)) refl r m
    where
      s : Stmt
      s = If k c a b

      na : List ℕ
      na = needs ds its n new a xs

      nb : List ℕ
      nb = needs ds its n new b xs

      ka : Stmt
      ka = kept ds its n new a xs

      kb : Stmt
      kb = kept ds its n new b xs

      forms : (is_flat its true c ≡ true) × (is_inner_body ds its true a && is_inner_body ds its true b ≡ true)
      forms = both-true (is_flat its true c) (is_inner_body ds its true a && is_inner_body ds its true b) g

      inners : (is_inner_body ds its true a ≡ true) × (is_inner_body ds its true b ≡ true)
      inners = both-true (is_inner_body ds its true a) (is_inner_body ds its true b) forms.1

      writes : (never_writes n a ≡ true) × (never_writes n b ≡ true)
      writes = both-true (never_writes n a) (never_writes n b) w

      offs : (is_in (touched a) t ≡ false) × (is_in (touched b) t ≡ false)
      offs = in-append t (touched a) (touched b) off

      branch : (v : Bool) → GoesOn new a xs before i j → GoesOn new b xs before i j → (new ≡ false → (one_way v (does a mode late) (does b mode late) i).fault ≡ None) → Kept (sights_of ds n true ka).properties → Kept (sights_of ds n true kb).properties → Meets new (told_in c ++ (na ++ nb)) before i j →
          Meets new xs before (one_way v (does a mode late) (does b mode late) i) (one_way v (does ka mode late) (does kb mode late) j)
      branch true go stop h p q m = go h p (fewer new (told_in c ++ (na ++ nb)) na before i j (λ v l. in-right v (told_in c) (na ++ nb) (in-left v na nb l)) m)
      branch false go stop h p q m = stop h q (fewer new (told_in c ++ (na ++ nb)) nb before i j (λ v l. in-right v (told_in c) (na ++ nb) (in-right v na nb l)) m)

      by : GoesOn new a xs before i j → GoesOn new b xs before i j → (x : Result Value Fault) → (new ≡ false → (with_ok i x (λ v. one_way (is_true v) (does a mode late) (does b mode late) i)).fault ≡ None) → Kept (sights_of ds n true ka).properties → Kept (sights_of ds n true kb).properties → Meets new (told_in c ++ (na ++ nb)) before i j →
          Meets new xs before (with_ok i x (λ v. one_way (is_true v) (does a mode late) (does b mode late) i)) (with_ok j x (λ v. one_way (is_true v) (does ka mode late) (does kb mode late) j))
      by go stop (Ok v) h p q m = branch (is_true v) go stop h p q m
      by go stop (Err f) h p q m =
          let l = fewer new (told_in c ++ (na ++ nb)) xs before i j (λ v o. in-right v (told_in c) (na ++ nb) (in-left v na nb (more new a xs v o))) m in
          record { agree = l.agree; outer = l.outer; inner = l.inner; nothing = l.nothing; nothing_then = l.nothing_then; gives = failed-gives new l.gives; deferred = l.deferred; fault = refl }
        where
          failed-gives : (new : Bool) → GaveSo new before i j → GaveSo new before (failed i f) (failed j f)
          failed-gives true h = h
          failed-gives false h = h

      served : GoesOn new a xs before i j → GoesOn new b xs before i j → (d : Bool) → serves ds its n new xs s ≡ d → Kept (sights_of ds n true (cond d (If k c ka kb) Skip)).properties → Meets new (cond d (told_in c ++ (na ++ nb)) xs) before i j → Meets new xs before (does s mode late i) (does (cond d (If k c ka kb) Skip) mode late j)
      served go stop true is p m =
          let rest = kept-right (reads_in c) ((sights_of ds n true ka).properties ++ (sights_of ds n true kb).properties) p in
          let ys = told_in c ++ (na ++ nb) in
          let same : value c (view_in late mode j k) ≡ value c (view_in late mode i k) =
          ap settled (evaluated-good (Good ys) n z (view_in late mode i k) j.store m.agree m.outer c (reads-good ys true c forms.0 (λ v l. in-left v (told_in c) (na ++ nb) l) (kept-left (reads_in c) ((sights_of ds n true ka).properties ++ (sights_of ds n true kb).properties) p))) in
          subst (λ x. Meets new xs before (does s mode late i) (with_ok j x (λ v. one_way (is_true v) (does ka mode late) (does kb mode late) j))) (sym same)
          (by go stop (value c (view_in late mode i k)) fault (kept-left (sights_of ds n true ka).properties (sights_of ds n true kb).properties rest) (kept-right (sights_of ds n true ka).properties (sights_of ds n true kb).properties rest) m)
      served go stop false is p m = (left-out new s xs before i j is g w off fine fault m).0
  resume new (While k at c body) xs before i j g w off fine fault r m = absurd (both_ways false refl g)
  resume new (Do k at body c) xs before i j g w off fine fault r m = absurd (both_ways false refl g)
  resume new (InBfs k at head c body) xs before i j g w off fine fault r m = absurd (both_ways false refl g)
  resume new (InBfsBoth k at head c body bk d back) xs before i j g w off fine fault r m = absurd (both_ways false refl g)
  resume new (Return k at c) xs before i j g w off fine fault r m = absurd (both_ways false refl g)

  -- a body whose second part goes on behind the first one: it has the same fault, and gives what the first part did not
  pub behind-resumed : (a b : Stmt) (i j : Iteration) → is_inner_body ds its true a ≡ true → is_inner_body ds its true b ≡ true → never_writes n a ≡ true → never_writes n b ≡ true → is_in (touched a) t ≡ false → is_in (touched b) t ≡ false →
      Kept (sights_of ds n true (resumed ds its n a b)).properties → (does a mode late i).fault ≡ None → i.fault ≡ None → Meets false (needs ds its n false a (needs ds its n true b [])) [] i j →
      ((does (Then a b) mode late i).fault ≡ (does (resumed ds its n a b) mode late j).fault) × ((does (Then a b) mode late i).with_outermost ≡ (does a mode late i).with_outermost ++ (does (resumed ds its n a b) mode late j).with_outermost)
  behind-resumed a b i j ga gb wa wb oa ob k done fine m =
      let xs = needs ds its n true b [] in
      let ka = kept ds its n false a xs in
      let kb = kept ds its n true b [] in
      let A = does a mode late i in
      let Q = does ka mode late j in
      let first = resume false a xs [] i j ga wa oa fine (λ e. done) (kept-left (sights_of ds n true ka).properties (sights_of ds n true kb).properties k) m in
      let start : Meets true xs A.with_outermost A Q = record {
        agree = first.agree;
        outer = first.outer;
        inner = first.inner;
        nothing = first.nothing;
        nothing_then = first.nothing_then;
        gives = sym (ap (λ l. A.with_outermost ++ l) first.gives ∙ append-nil A.with_outermost);
        deferred = first.deferred;
        fault = first.fault;
      } in
      let next = resume true b [] A.with_outermost A Q gb wb ob done (λ (e : true ≡ false). absurd (cc)) (kept-right (sights_of ds n true ka).properties (sights_of ds n true kb).properties k) start in
      let one : does (Then a b) mode late i ≡ does b mode late A = ap (λ x. unless_failed x A (does b mode late)) done in
      let two : does (resumed ds its n a b) mode late j ≡ does kb mode late Q = ap (λ x. unless_failed x Q (does kb mode late)) (first.fault ∙ done) in (
        ap (λ (x : Iteration). x.fault) one ∙ sym next.fault ∙ sym (ap (λ (x : Iteration). x.fault) two),
        ap (λ (x : Iteration). x.with_outermost) one ∙ next.gives ∙ sym (ap (λ (x : Iteration). A.with_outermost ++ x.with_outermost) two),
      )

  -- a body without what nothing behind it needs has the same fault, and gives the same
  pub kept-alike : (s : Stmt) (i : Iteration) → is_inner_body ds its true s ≡ true → never_writes n s ≡ true → is_in (touched s) t ≡ false → Reached true s [] → i.fault ≡ None → i.with_inner ≡ [] → i.with_outermost ≡ [] → i.store.scalar n ≡ At (Some z) → i.store.scalar t ≡ At (Some y) →
      ((does s mode late i).fault ≡ (does (kept ds its n true s []) mode late i).fault) × ((does s mode late i).with_outermost ≡ (does (kept ds its n true s []) mode late i).with_outermost)
  kept-alike s i g w off k fine inner outermost a b =
      let m = resume true s [] [] i i g w off fine (λ (e : true ≡ false). absurd (cc)) k
      (record { agree = record { at = λ slot good. refl; edge = refl }; outer = a; inner = b; nothing = inner; nothing_then = inner; gives = refl; deferred = refl; fault = refl }) in
      (sym m.fault, m.gives)
