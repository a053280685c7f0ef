-- A filter may be saved first.
use Rattle.std.proofs.lemmas.Bool.Decides.{nat_tests}
use Rattle.std.proofs.Common.{◌≡◌, ◌<◌, ◌≤◌, arith, ℕ, Bool, true, false, cond, List, [], ◌∷◌, ◌++◌, map, refl, sym, ap, subst, ◌∙◌, append_assoc, append-nil, Option, Some, None, Result, Ok, Err, ⊎_elim, inl, inr}
use Rattle.std.specs.Prelude.{◌⊎◌, ◌&&◌, ◌||◌, nat_eq, nat_lt}
use Rattle.std.proofs.lemmas.Bool.{eq-eqb, ne_eqb, lt-ltb}
use Rattle.gm_base.specs.declared.places.Place.{Place}
use Rattle.gm_value.specs.declared.values.Value.{Value}
use Rattle.gm_value.specs.declared.values.Value.TheVariants.{At}
use Rattle.gm_value.specs.Bag.{IsIn, SameBag, same_nil, same_cons, same_trans}
use Rattle.gm_value.proofs.BagLaws.{SameBag-sym, SameBag-middle}
use Rattle.gm_value.specs.Operations.{is_true}
use Rattle.gm_model.specs.Graphs.{IsGraph, node_count}
use Rattle.gm_ast.specs.declared.tree.Declaration.{Declaration}
use Rattle.gm_ast.specs.declared.tree.Key.{Key}
use Rattle.gm_ast.specs.declared.tree.Target.TheVariants as T
use Rattle.gm_ast.specs.Keys as K
use Rattle.gm_ast.specs.Keys.{stage_rank, fault_lt}
use Rattle.gm_ast.specs.Program.{Expr, always, Property, Stmt, Assign}
use Rattle.gm_semantics.specs.declared.faults.Fault.{Fault}
use Rattle.gm_semantics.specs.declared.slots.Slot.{Slot}
use Rattle.gm_semantics.specs.declared.slots.Slot.TheVariants.{Scalar, Node}
use Rattle.gm_semantics.specs.declared.slots.Write.{Write}
use Rattle.gm_semantics.specs.Stores.{Store, write, overlaid}
use Rattle.gm_semantics.specs.Faults.{rank_of, comes_before, lesser, least, then_with, unless_fault, fault_of, somes, joined, total_fault}
use Rattle.gm_semantics.specs.Levels.{nodes, node_in}
use Rattle.gm_semantics.specs.Expressions.{View, evaluated, value, settled, node_held}
use Rattle.gm_semantics.specs.Contributions.{Contribution, settled_store, total_faults}
use Rattle.gm_semantics.specs.Iterations.{Loop, Iteration, begun, with_ok, one_way, as_it_is, Outermost, view_in, wrote, does}
use Rattle.gm_semantics.specs.Loops.{iteration, left_at, own_left, loop_done, parallel}
use Rattle.gm_semantics.specs.Frames.{Agree, ReadsBelow, NamesBelow, AlikeStores}
use Rattle.gm_semantics.proofs.ExpressionFrames.{agree-write, evaluated-frame}
use Rattle.gm_semantics.proofs.StatementFrames.{parallel-alike}
use Rattle.gm_semantics.proofs.LeastLaws.{least-same}
use Rattle.gm_semantics.proofs.Leasts.{AllAfter, least-of_first}
use Rattle.gm_forms.specs.Cut.{keeps_iterators}
use Rattle.gm_forms.specs.Forms.{is_flat, is_outer_body}
use Rattle.gm_forms.specs.Order.{lie_before, rest_in, hoisted_in, faults_in, faults_of}
use Rattle.gm_forms.specs.Sharing.{deferred}
use Rattle.gm_forms.specs.Fission.{is_nil}
use Rattle.gm_forms.specs.Doing.{named, IsFlat, EachGiven, EachSlot, Anywhere}
use Rattle.gm_forms.proofs.Named.{both-true}
use Rattle.gm_forms.proofs.Held.{outer-sure}
use Rattle.gm_forms.proofs.CutTests.{same-list, flat-beside}
use Rattle.gm_forms.proofs.Doings.{in-right, in-either, least-in, value-fails, does-did, each-in, gave-from, total_faults-of}
use Rattle.gm_forms.proofs.CutLaws.{lies-in}
use Rattle.gm_forms.proofs.Cuts.{left_at-in, placed}
use Rattle.gm_loop_laws.specs.Saved.{never_writes, SavingFresh}
use Rattle.gm_loop_laws.proofs.Joins.{map-compose, map-each, joined-none}
use Rattle.gm_loop_laws.proofs.LoopEnds.{in-joined}
use Rattle.gm_loop_laws.proofs.Locals.{least-parts}
use Rattle.gm_loop_laws.proofs.Givens.{flat}
use Rattle.gm_loop_laws.proofs.Alone.{nodes-below, hoists-nothing, settled-nothing}
use Rattle.gm_loop_laws.proofs.Mays.{OffTotal, TotalIn, FaultIn, outer-faults}

-- the first numbers that differ decide
step : (x y : ℕ) (p q : Bool) → nat_lt x y || (nat_eq x y && p) ≡ true → (p ≡ true → q ≡ false) → nat_lt y x || (nat_eq y x && q) ≡ false
step x y true q h k = let z : q ≡ false = k refl in grind (arith, nat_tests)
step x y false q h k = grind (arith, nat_tests)

last : (x y : ℕ) (q : Bool) → nat_lt x y ≡ true → nat_lt y x || (nat_eq y x && q) ≡ false
last x y q h = grind (arith, nat_tests)

-- a fault that stands before another is less
pub fault-order : (f g : Fault) → fault_lt (named f) (named g) ≡ true → comes_before (rank_of g) (rank_of f) ≡ false
fault-order f g h =
    step f.key.statement g.key.statement _ _ h (λ h.
    step (stage_rank f.key.stage) (stage_rank g.key.stage) _ _ h (λ h.
    step f.place.line g.place.line _ _ h (λ h. last f.place.col g.place.col _ h)))

pub all-after : (f : Fault) (fs : List Fault) → ((g : Fault) → IsIn g fs → comes_before (rank_of g) (rank_of f) ≡ false) → AllAfter f fs
all-after f [] h = tt
all-after f (g ∷ gs) h = (h g (inl refl), all-after f gs (λ k i. h k (inr i)))

-- a member of the faults of some parts
some-in : (F : ℕ → Option Fault) (ks : List ℕ) (f : Fault) → IsIn f (somes (map F ks)) → (k : ℕ) × IsIn k ks × (F k ≡ Some f)
some-in F [] f i = absurd i
some-in F (k ∷ ks) f i = by (F k) refl (some-in F ks f) i
  where
    by : (o : Option Fault) → F k ≡ o → (IsIn f (somes (map F ks)) → (z : ℕ) × IsIn z ks × (F z ≡ Some f)) → IsIn f (somes (o ∷ map F ks)) → (z : ℕ) × IsIn z (k ∷ ks) × (F z ≡ Some f)
    by None e rest j = let r = rest j in (r.0, inr r.1, r.2)
    by (Some g) e rest j = ⊎_elim (λ (same : f ≡ g). let r : (z : ℕ) × IsIn z (k ∷ ks) × (F z ≡ Some f) = (k, inl refl, e ∙ ap Some (sym same)) in r) (λ m. let r = rest m in (r.0, inr r.1, r.2)) j

in-some : (F : ℕ → Option Fault) (ks : List ℕ) (k : ℕ) (f : Fault) → IsIn k ks → F k ≡ Some f → IsIn f (somes (map F ks))
in-some F [] k f i e = absurd i
in-some F (z ∷ ks) k f i e =
    ⊎_elim
    (λ (same : k ≡ z). subst (λ o. IsIn f (somes (o ∷ map F ks))) (sym (ap F (sym same) ∙ e)) (inl refl))
    (λ r. behind (F z) (in-some F ks k f r e)) i
  where
    behind : (o : Option Fault) → IsIn f (somes (map F ks)) → IsIn f (somes (o ∷ map F ks))
    behind None i = i
    behind (Some g) i = inr i

none-in : (fs : List Fault) (f : Fault) → least fs ≡ None → IsIn f fs → ⊥
none-in [] f e i = i
none-in (g ∷ gs) f e i = by (least gs) e
  where
    by : (o : Option Fault) → lesser g o ≡ None → ⊥
    by None e = cc
    by (Some k) e = cc

-- faults of parts that have one of two each
two-faults : (F A B : ℕ → Option Fault) (ks : List ℕ) → ((k : ℕ) → IsIn k ks → ((A k ≡ None) × (F k ≡ B k)) ⊎ ((B k ≡ None) × (F k ≡ A k))) → SameBag (somes (map F ks)) (somes (map A ks) ++ somes (map B ks))
two-faults F A B [] h = same_nil
two-faults F A B (k ∷ ks) h =
    ⊎_elim
    (λ (l : (A k ≡ None) × (F k ≡ B k)). left (F k) (A k) (B k) l.0 l.1 (two-faults F A B ks (λ z i. h z (inr i))))
    (λ (r : (B k ≡ None) × (F k ≡ A k)). right (F k) (A k) (B k) r.0 r.1 (two-faults F A B ks (λ z i. h z (inr i))))
    (h k (inl refl))
  where
    behind : (b : Option Fault) → SameBag (somes (map F ks)) (somes (map A ks) ++ somes (map B ks)) → SameBag (somes (b ∷ map F ks)) (somes (map A ks) ++ somes (b ∷ map B ks))
    behind None s = s
    behind (Some g) s = same_trans (same_cons g s) (SameBag-sym (SameBag-middle (somes (map A ks)) g (somes (map B ks))))

    before : (a : Option Fault) → SameBag (somes (map F ks)) (somes (map A ks) ++ somes (map B ks)) → SameBag (somes (a ∷ map F ks)) (somes (a ∷ map A ks) ++ somes (map B ks))
    before None s = s
    before (Some g) s = same_cons g s

    left : (f a b : Option Fault) → a ≡ None → f ≡ b → SameBag (somes (map F ks)) (somes (map A ks) ++ somes (map B ks)) → SameBag (somes (f ∷ map F ks)) (somes (a ∷ map A ks) ++ somes (b ∷ map B ks))
    left f a b x y s =
        subst (λ z. SameBag (somes (f ∷ map F ks)) (somes (z ∷ map A ks) ++ somes (b ∷ map B ks))) (sym x)
        (subst (λ z. SameBag (somes (z ∷ map F ks)) (somes (map A ks) ++ somes (b ∷ map B ks))) (sym y) (behind b s))

    right : (f a b : Option Fault) → b ≡ None → f ≡ a → SameBag (somes (map F ks)) (somes (map A ks) ++ somes (map B ks)) → SameBag (somes (f ∷ map F ks)) (somes (a ∷ map A ks) ++ somes (b ∷ map B ks))
    right f a b x y s =
        subst (λ z. SameBag (somes (f ∷ map F ks)) (somes (a ∷ map A ks) ++ somes (z ∷ map B ks))) (sym x)
        (subst (λ z. SameBag (somes (z ∷ map F ks)) (somes (a ∷ map A ks) ++ somes (map B ks))) (sym y) (before a s))

module _ (j : ℕ) (ds : List Declaration) (loop : Loop) (m : ℕ) (key : Key) (at : Place) (test : Expr) (body : Stmt) (t : Store) (fresh : j ≤ m) (reads : ReadsBelow j test) (flat-test : IsFlat test)
    (flat-body : is_outer_body ds false loop.outer body ≡ true) (none : is_nil (deferred body) ≡ true) (order : lie_before (faults_in test key) (faults_of (loop.outer ∷ []) body) ≡ true) (off : never_writes loop.outer body ≡ true) (keeps : keeps_iterators body ≡ true) (graph : IsGraph loop.graph) (reads-own : is_flat (loop.outer ∷ []) false test ≡ true) where
  abbrev n : ℕ
  n = loop.outer

  abbrev ks : List ℕ
  ks = nodes loop.graph

  abbrev start : Store → ℕ → Store
  start s x = write s (Scalar n) (At (Some x))

  abbrev seen : Store → ℕ → View
  seen s x = view_in loop Outermost (begun (start s x)) key

  held : (s : Store) (x : ℕ) → (start s x).scalar n ≡ At (Some x)
  held s x = ap (λ b. cond b (At (Some x)) (s.scalar n)) (eq-eqb n n refl)

  -- the filter at a node
  abbrev answer : Store → ℕ → Result Value Fault
  answer s x = value test (seen s x)

  abbrev tested : ℕ → Option Fault
  tested x = fault_of (answer t x)

  abbrev saver : ℕ → Iteration
  saver x = iteration loop key always (Assign key (T.Property n m at) test) t x

  abbrev saved_by : ℕ → Result Value Fault → Iteration
  saved_by x r = with_ok (begun (start t x)) r (λ v. wrote (begun (start t x)) (Node m x, v))

  pair-of : (x : ℕ) (r : Result Value Fault) → with_ok (begun (start t x)) (then_with r (λ v. Ok (Node m x, v))) (wrote (begun (start t x))) ≡ saved_by x r
  pair-of x (Ok v) = refl
  pair-of x (Err f) = refl

  saver-is : (x : ℕ) → IsIn x ks → saver x ≡ saved_by x (answer t x)
  saver-is x i =
      let e = evaluated test (seen t x) in
      let slot : (o : Option ℕ) → Result Slot Fault = λ o. then_with (node_held (seen t x) at o) (λ k. Ok (Node m k)) in
      let assigned_at : Option Fault → Option ℕ → Iteration =
      λ h o. with_ok (begun (start t x)) (unless_fault h (then_with (slot o) (λ s. then_with e.rest (λ v. let p : Slot × Value = (s, v) in let r : Result (Slot × Value) Fault = Ok p in r)))) (wrote (begun (start t x))) in
      let hoisted = hoists-nothing loop Outermost (begun (start t x)) key test flat-test in
      ap (assigned_at e.hoisted) (ap (node_in loop.graph) (held t x) ∙ ap (λ c. cond c (Some x) None) (lt-ltb x (node_count loop.graph) (nodes-below loop.graph x i)))
      ∙ ap (λ h. assigned_at h (Some x)) hoisted
      ∙ pair-of x e.rest
      ∙ ap (saved_by x) (sym (ap (λ h. unless_fault h e.rest) hoisted))

  saver-fault : (x : ℕ) → IsIn x ks → (saver x).fault ≡ tested x
  saver-fault x i = ap (λ it. it.fault) (saver-is x i) ∙ by (answer t x)
    where
      by : (r : Result Value Fault) → (saved_by x r).fault ≡ fault_of r
      by (Ok v) = refl
      by (Err f) = refl

  saver-gives : (x : ℕ) → IsIn x ks → (saver x).with_outermost ≡ []
  saver-gives x i = ap (λ it. it.with_outermost) (saver-is x i) ∙ by (answer t x)
    where
      by : (r : Result Value Fault) → (saved_by x r).with_outermost ≡ []
      by (Ok v) = refl
      by (Err f) = refl

  saver-defers : (x : ℕ) → IsIn x ks → (saver x).deferred ≡ []
  saver-defers x i = ap (λ it. it.deferred) (saver-is x i) ∙ by (answer t x)
    where
      by : (r : Result Value Fault) → (saved_by x r).deferred ≡ []
      by (Ok v) = refl
      by (Err f) = refl

  -- the store in which the filter is saved
  abbrev kept : Store
  kept = own_left t ks (map saver ks)

  saving : parallel loop key always (Assign key (T.Property n m at) test) ks t ≡ unless_fault (least (somes (map tested ks))) (Ok kept)
  saving =
      let its = map saver ks in
      let cs : joined (map (λ it. it.with_outermost) its) ≡ [] = ap joined (map-compose (λ it. it.with_outermost) saver ks) ∙ joined-none (λ x. (saver x).with_outermost) ks saver-gives in
      let ws : joined (map (λ it. it.deferred) its) ≡ [] = ap joined (map-compose (λ it. it.deferred) saver ks) ∙ joined-none (λ x. (saver x).deferred) ks saver-defers in
      ap (λ (l : List Contribution). unless_fault (least (somes (map (λ it. it.fault) its) ++ total_faults kept l)) (Ok (overlaid (settled_store kept l) (joined (map (λ it. it.deferred) its))))) cs
      ∙ ap (λ (l : List Write). unless_fault (least (somes (map (λ it. it.fault) its) ++ total_faults kept [])) (Ok (overlaid (settled_store kept []) l))) ws
      ∙ ap (λ l. unless_fault (least l) (Ok (settled_store kept []))) (append-nil (somes (map (λ it. it.fault) its)))
      ∙ ap (λ l. unless_fault (least (somes l)) (Ok (settled_store kept []))) (map-compose (λ it. it.fault) saver ks ∙ map-each (λ x. (saver x).fault) tested ks saver-fault)
      ∙ ap (λ s. unless_fault (least (somes (map tested ks))) (Ok s)) (settled-nothing kept)

  -- which is the same but for that property
  kept-agrees : Agree j t kept
  kept-agrees = record { scalar = λ x b. refl; node = λ p y b. by p y b (placed y ks); edge = λ p e b. refl }
    where
      other : (p y : ℕ) → p < j → (r : Result Value Fault) → (saved_by y r).store.node p y ≡ t.node p y
      other p y b (Err f) = refl
      other p y b (Ok v) = ap (λ c. cond (c && nat_eq y y) v (t.node p y)) (ne_eqb m p (λ e. omega arith))

      by : (p y : ℕ) → p < j → IsIn y ks ⊎ ((F : ℕ → Iteration) (s : Store) (q : ℕ) → left_at ks (map F ks) s q y ≡ s.node q y) → kept.node p y ≡ t.node p y
      by p y b (inl i) = left_at-in saver t p y ks i ∙ ap (λ it. it.store.node p y) (saver-is y i) ∙ other p y b (answer t y)
      by p y b (inr out) = out saver t p

  -- where no filter faults, the saved one is the filter
  module _ (fine : least (somes (map tested ks)) ≡ None) where
    saved-value : (x : ℕ) → IsIn x ks → Ok (kept.node m x) ≡ answer t x
    saved-value x i = ap Ok (left_at-in saver t m x ks i ∙ ap (λ it. it.store.node m x) (saver-is x i)) ∙ by (answer t x) refl
      where
        by : (r : Result Value Fault) → answer t x ≡ r → Ok ((saved_by x r).store.node m x) ≡ r
        by (Ok v) e = ap Ok (ap (λ c. cond (c && nat_eq x x) v (t.node m x)) (eq-eqb m m refl) ∙ ap (λ c. cond c v (t.node m x)) (eq-eqb x x refl))
        by (Err f) e = absurd (none-in (somes (map tested ks)) f fine (in-some tested ks x f i (ap fault_of e)))

    same-answer : (x : ℕ) → answer kept x ≡ answer t x
    same-answer x = ap settled (evaluated-frame j test (seen t x) (start kept x) reads (agree-write j t kept (Scalar n) (At (Some x)) kept-agrees))

    mask-value : (x : ℕ) → IsIn x ks → value (Property n m at) (seen kept x) ≡ Ok (kept.node m x)
    mask-value x i =
        let w = seen kept x in
        ap (λ v. then_with (node_held w at (node_in loop.graph v)) (λ y. Ok (kept.node m y))) (held kept x)
        ∙ ap (λ c. then_with (node_held w at (cond c (Some x) None)) (λ y. Ok (kept.node m y))) (lt-ltb x (node_count loop.graph) (nodes-below loop.graph x i))

    masked : parallel loop key (Property n m at) body ks kept ≡ parallel loop key test body ks kept
    masked =
        ap (loop_done kept ks)
        (map-each (iteration loop key (Property n m at) body kept) (iteration loop key test body kept) ks
        (λ x i. ap (λ r. with_ok (begun (start kept x)) r (λ v. one_way (is_true v) (does body Outermost loop) as_it_is (begun (start kept x)))) (mask-value x i ∙ saved-value x i ∙ sym (same-answer x))))

  -- where a filter faults, the least such fault is the loop's
  module _ (e : Fault) (fails : least (somes (map tested ks)) ≡ Some e) where
    abbrev run : ℕ → Iteration
    run x = iteration loop key test body t x

    abbrev FS : List K.Fault
    FS = faults_of (n ∷ []) body

    abbrev went : ℕ → Value → Iteration
    went x v = one_way (is_true v) (does body Outermost loop) as_it_is (begun (start t x))

    -- the body's fault, where its filter has none
    abbrev body_fault : ℕ → Result Value Fault → Option Fault
    body_fault x (Ok v) = (went x v).fault
    body_fault x (Err f) = None

    each-fault : (x : ℕ) → IsIn x ks → ((tested x ≡ None) × ((run x).fault ≡ body_fault x (answer t x))) ⊎ ((body_fault x (answer t x) ≡ None) × ((run x).fault ≡ tested x))
    each-fault x i = by (answer t x)
      where
        by : (r : Result Value Fault) → ((fault_of r ≡ None) × ((with_ok (begun (start t x)) r (went x)).fault ≡ body_fault x r)) ⊎ ((body_fault x r ≡ None) × ((with_ok (begun (start t x)) r (went x)).fault ≡ fault_of r))
        by (Ok v) = inl (refl, refl)
        by (Err f) = inr (refl, refl)

    -- what the body does
    went-did : (x : ℕ) → IsIn x ks → (v : Value) → ((f : Fault) → (went x v).fault ≡ Some f → FaultIn ds loop x FS f) × EachGiven (TotalIn ds loop x FS) (went x v).with_outermost
    went-did x among v = by (is_true v)
      where
        by : (b : Bool) → ((f : Fault) → (one_way b (does body Outermost loop) as_it_is (begun (start t x))).fault ≡ Some f → FaultIn ds loop x FS f) × EachGiven (TotalIn ds loop x FS) (one_way b (does body Outermost loop) as_it_is (begun (start t x))).with_outermost
        by false = ((λ f e. absurd (cc)), tt)
        by true =
            let d = (does-did (OffTotal ds loop x FS) (TotalIn ds loop x FS) (FaultIn ds loop x FS) n x (λ c o. o.0) (λ c o. o.1) (n ∷ []) body _ (λ c o. anywhere c.slots) Outermost loop (begun (start t x)) (inr (outer-sure loop.graph n body (start t x) x graph (held t x) (nodes-below loop.graph x among) keeps))
            (outer-faults ds loop x FS body flat-body none (λ f i. i) off) (held t x) refl).0 in
            ((λ f e. ⊎_elim (λ (z : None ≡ Some f). absurd (cc)) (λ r. r) (d.fault f e)), gave-from (TotalIn ds loop x FS) _ d.outermost)
          where
            anywhere : (slots : List Slot) → EachSlot (Anywhere (OffTotal ds loop x FS) (TotalIn ds loop x FS) (FaultIn ds loop x FS) n x) slots
            anywhere [] = tt
            anywhere (slot ∷ slots) = (tt, anywhere slots)

    abbrev contributions : List Contribution
    contributions = joined (map (λ it. it.with_outermost) (map run ks))

    abbrev own : Store
    own = own_left t ks (map run ks)

    total-in : (c : Contribution) → IsIn c contributions → IsIn (named (total_fault c.total)) FS
    total-in c i =
        let r = in-joined c (λ x. (run x).with_outermost) ks (subst (λ l. IsIn c (joined l)) (map-compose (λ it. it.with_outermost) run ks) i) in
        by r.0 r.1 (answer t r.0) r.2
      where
        by : (x : ℕ) → IsIn x ks → (r : Result Value Fault) → IsIn c (with_ok (begun (start t x)) r (went x)).with_outermost → IsIn (named (total_fault c.total)) FS
        by x among (Ok v) k = each-in (TotalIn ds loop x FS) (went x v).with_outermost c (went-did x among v).1 k
        by x among (Err f) k = absurd k

    late-in : (g : Fault) → IsIn g (somes (map (λ x. body_fault x (answer t x)) ks) ++ total_faults own contributions) → IsIn (named g) FS
    late-in g i =
        ⊎_elim
        (λ (l : IsIn g (somes (map (λ x. body_fault x (answer t x)) ks))). let r = some-in (λ x. body_fault x (answer t x)) ks g l in by r.0 r.1 (answer t r.0) r.2)
        (λ r. total_faults-of (λ f. IsIn (named f) FS) contributions total-in own g r)
        (in-either g (somes (map (λ x. body_fault x (answer t x)) ks)) (total_faults own contributions) i)
      where
        by : (x : ℕ) → IsIn x ks → (r : Result Value Fault) → body_fault x r ≡ Some g → IsIn (named g) FS
        by x among (Ok v) k = (went-did x among v).0 g k
        by x among (Err f) k = absurd (cc)

    early-in : IsIn (named e) (faults_in test key)
    early-in =
        let r = some-in tested ks e (least-in (somes (map tested ks)) e fails) in
        let sure = outer-sure loop.graph n body (start t r.0) r.0 graph (held t r.0) (nodes-below loop.graph r.0 r.1) keeps in
        in-right (named e) (hoisted_in test) (rest_in test key)
        (subst (IsIn (named e)) (flat-beside (n ∷ []) (n ∷ []) false test key (same-list (n ∷ [])) reads-own) (value-fails (seen t r.0) refl (n ∷ []) sure.held test flat-test e (by (answer t r.0) r.2)))
      where
        by : (r : Result Value Fault) → fault_of r ≡ Some e → r ≡ Err e
        by (Ok v) k = absurd (cc)
        by (Err f) k = let same : f ≡ e = cc in ap Err same

    failed : parallel loop key test body ks t ≡ Err e
    failed =
        let bodies = somes (map (λ x. body_fault x (answer t x)) ks) in
        let totals = total_faults own contributions in
        let after : List Write = joined (map (λ it. it.deferred) (map run ks)) in
        ap (λ o. unless_fault o (Ok (overlaid (settled_store own contributions) after)))
        (least-parts (somes (map (λ it. it.fault) (map run ks))) totals (somes (map tested ks) ++ bodies) totals
        (ap (λ l. least (somes l)) (map-compose (λ it. it.fault) run ks) ∙ least-same (two-faults (λ x. (run x).fault) tested (λ x. body_fault x (answer t x)) ks each-fault)) refl
        ∙ ap least (append_assoc (somes (map tested ks)) bodies totals)
        ∙ least-of_first (somes (map tested ks)) (bodies ++ totals) e fails (all-after e (bodies ++ totals) (λ g i. fault-order e g (lies-in (faults_in test key) FS (named e) (named g) order early-in (late-in g i)))))

-- the law of saved filters
pub saving-holds : SavingFresh
saving-holds = λ j ds loop m key at test body s t graph fresh reads names test_saves agree.
    let n = loop.outer in
    let last = never_writes n body && keeps_iterators body in
    let lies = lie_before (faults_in test key) (faults_of (n ∷ []) body) in
    let a = both-true (is_flat (n ∷ []) false test) (is_outer_body ds false n body && (is_nil (deferred body) && (lies && last))) test_saves in
    let b = both-true (is_outer_body ds false n body) (is_nil (deferred body) && (lies && last)) a.1 in
    let c = both-true (is_nil (deferred body)) (lies && last) b.1 in
    let d = both-true lies last c.1 in
    let e = both-true (never_writes n body) (keeps_iterators body) d.1 in
    saves-same j ds loop m key at test body s t fresh reads names (flat (n ∷ []) false test a.0) b.0 c.0 d.0 e.0 e.1 graph a.0 agree
  where
    saves-same : (j : ℕ) (ds : List Declaration) (loop : Loop) (m : ℕ) (key : Key) (at : Place) (test : Expr) (body : Stmt) (s t : Store) (fresh : j ≤ m) (reads : ReadsBelow j test) (names : NamesBelow j body) (flat-test : IsFlat test)
        (flat-body : is_outer_body ds false loop.outer body ≡ true) (none : is_nil (deferred body) ≡ true) (order : lie_before (faults_in test key) (faults_of (loop.outer ∷ []) body) ≡ true) (off : never_writes loop.outer body ≡ true) (keeps : keeps_iterators body ≡ true) (graph : IsGraph loop.graph) (reads-own : is_flat (loop.outer ∷ []) false test ≡ true) → Agree j s t →
        AlikeStores j (parallel loop key test body (nodes loop.graph) s)
        (then_with (parallel loop key always (Assign key (T.Property loop.outer m at) test) (nodes loop.graph) t) (parallel loop key (Property loop.outer m at) body (nodes loop.graph)))
    saves-same j ds loop m key at test body s t fresh reads names flat-test flat-body none order off keeps graph reads-own agree =
        subst (λ r. AlikeStores j (parallel loop key test body (nodes loop.graph) s) (then_with r (parallel loop key (Property loop.outer m at) body (nodes loop.graph))))
        (sym (saving j ds loop m key at test body t fresh reads flat-test flat-body none order off keeps graph reads-own))
        (by (least (somes (map (tested j ds loop m key at test body t fresh reads flat-test flat-body none order off keeps graph reads-own) (nodes loop.graph)))) refl)
      where
        by : (o : Option Fault) → least (somes (map (tested j ds loop m key at test body t fresh reads flat-test flat-body none order off keeps graph reads-own) (nodes loop.graph))) ≡ o →
            AlikeStores j (parallel loop key test body (nodes loop.graph) s) (then_with (unless_fault o (Ok (kept j ds loop m key at test body t fresh reads flat-test flat-body none order off keeps graph reads-own))) (parallel loop key (Property loop.outer m at) body (nodes loop.graph)))
        by (Some e) is =
            subst (AlikeStores j (parallel loop key test body (nodes loop.graph) s)) (failed j ds loop m key at test body t fresh reads flat-test flat-body none order off keeps graph reads-own e is)
            (parallel-alike j loop key test body (nodes loop.graph) s t reads names agree)
        by None is =
            subst (AlikeStores j (parallel loop key test body (nodes loop.graph) s)) (sym (masked j ds loop m key at test body t fresh reads flat-test flat-body none order off keeps graph reads-own is))
            (parallel-alike j loop key test body (nodes loop.graph) s (kept j ds loop m key at test body t fresh reads flat-test flat-body none order off keeps graph reads-own) reads names
            (both-agree agree (kept-agrees j ds loop m key at test body t fresh reads flat-test flat-body none order off keeps graph reads-own)))
          where
            both-agree : Agree j s t → Agree j t (kept j ds loop m key at test body t fresh reads flat-test flat-body none order off keeps graph reads-own) → Agree j s (kept j ds loop m key at test body t fresh reads flat-test flat-body none order off keeps graph reads-own)
            both-agree a b = record { scalar = λ x l. b.scalar x l ∙ a.scalar x l; node = λ p y l. b.node p y l ∙ a.node p y l; edge = λ p e l. b.edge p e l ∙ a.edge p e l }
