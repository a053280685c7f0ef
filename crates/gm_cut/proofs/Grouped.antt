-- A body with its runs in blocks does what it does, and is as good.
use Rattle.std.proofs.Common.{◌≡◌, ℕ, Bool, true, false, List, [], ◌∷◌, ◌++◌, map, append-nil, refl, sym, ap, ◌∙◌, Option, Some, None, Result, Ok, Err}
use Rattle.std.proofs.Math.Path.{fun_ext}
use Rattle.std.specs.Prelude.{◌&&◌, ◌||◌}
use Rattle.gm_base.specs.declared.places.Place.{Place}
use Rattle.gm_value.specs.declared.values.Value.{Value}
use Rattle.gm_value.specs.declared.values.Value.TheVariants.{At}
use Rattle.gm_value.specs.declared.values.VType.{VType}
use Rattle.gm_value.specs.declared.values.VType.TheVariants.{Flag}
use Rattle.gm_value.specs.Operations.{is_true}
use Rattle.gm_ast.specs.declared.tree.Declaration.{Declaration}
use Rattle.gm_ast.specs.declared.tree.Head.{Head}
use Rattle.gm_ast.specs.declared.tree.Key.{Key}
use Rattle.gm_ast.specs.Keys.{Fault, fault_lt, all_before}
use Rattle.gm_ast.specs.Program.{Expr, Stmt, Skip, Then, Foreach, If}
use Rattle.gm_semantics.specs.declared.faults.Fault as F
use Rattle.gm_semantics.specs.declared.slots.Slot.TheVariants.{Scalar}
use Rattle.gm_semantics.specs.Stores.{Store, write}
use Rattle.gm_semantics.specs.Expressions.{value}
use Rattle.gm_semantics.specs.Levels.{nodes, no_levels}
use Rattle.gm_semantics.specs.Iterations.{Loop, Mode, Outermost, Iteration, begun, unless_failed, go_on, with_ok, one_way, as_it_is, view_in, does}
use Rattle.gm_semantics.specs.Loops.{pushes, iteration, loop_done}
use Rattle.gm_semantics.specs.Statements.{Run, State, loop_of, with_value, with_store, sequential}
use Rattle.gm_forms.specs.Forms.{is_flat, is_outer_body}
use Rattle.gm_forms.specs.Order.{lie_before, faults_in, in_order, faults_of, body_in_order}
use Rattle.gm_forms.specs.Sharing.{Read, Reduced, reads_in, told_in, sights_of, written, reduced, deferred, inners_share, targets_alike, read_anywhere, read_elsewhere, shared_in, kept_in, disjoint, all_agree, shares}
use Rattle.gm_forms.specs.Typing.{has_type, is_typed_in}
use Rattle.gm_forms.specs.Uses.{uses_in, uses_of}
use Rattle.gm_loop_laws.specs.Masks.{looped}
use Rattle.gm_cut.specs.Runs.{grouped}
use Rattle.gm_cut.proofs.Runs.{grouped-same}

-- ---- ways to put together

pub append-assoc : {A : Type 0} (x y z : List A) → (x ++ y) ++ z ≡ x ++ (y ++ z)
append-assoc [] y z = refl
append-assoc (a ∷ x) y z = ap (λ l. a ∷ l) (append-assoc x y z)

pub two-same : {A B C : Type 0} (f : A → B → C) (a c : A) (b d : B) → a ≡ c → b ≡ d → f a b ≡ f c d
two-same f a c b d e h = ap (λ x. f x b) e ∙ ap (f c) h

and-assoc : (x y z : Bool) → (x && y) && z ≡ x && (y && z)
and-assoc true y z = refl
and-assoc false y z = refl

or-assoc : (x y z : Bool) → (x || y) || z ≡ x || (y || z)
or-assoc true y z = refl
or-assoc false y z = refl

pub and-one : (x : Bool) → x && true ≡ x
and-one true = refl
and-one false = refl

or-none : (x : Bool) → x || false ≡ x
or-none true = refl
or-none false = refl

-- ---- faults of parts

before-append : (xs ys : List Fault) (f : Fault) → all_before (xs ++ ys) f ≡ all_before xs f && all_before ys f
before-append [] ys f = refl
before-append (x ∷ xs) ys f = ap (λ b. fault_lt x f && b) (before-append xs ys f) ∙ sym (and-assoc (fault_lt x f) (all_before xs f) (all_before ys f))

pub lie-nothing : (ys : List Fault) → lie_before [] ys ≡ true
lie-nothing [] = refl
lie-nothing (y ∷ ys) = lie-nothing ys

mixed : (a b c d : Bool) → (a && b) && (c && d) ≡ (a && c) && (b && d)
mixed true true c d = refl
mixed true false true d = refl
mixed true false false d = refl
mixed false b c d = refl

pub lie-first : (xs ys zs : List Fault) → lie_before (xs ++ ys) zs ≡ lie_before xs zs && lie_before ys zs
lie-first xs ys [] = refl
lie-first xs ys (z ∷ zs) =
    two-same (λ a b. a && b) (all_before (xs ++ ys) z) (all_before xs z && all_before ys z) (lie_before (xs ++ ys) zs) (lie_before xs zs && lie_before ys zs) (before-append xs ys z) (lie-first xs ys zs)
    ∙ mixed (all_before xs z) (all_before ys z) (lie_before xs zs) (lie_before ys zs)

pub lie-second : (xs ys zs : List Fault) → lie_before xs (ys ++ zs) ≡ lie_before xs ys && lie_before xs zs
lie-second xs [] zs = refl
lie-second xs (y ∷ ys) zs = ap (λ b. all_before xs y && b) (lie-second xs ys zs) ∙ sym (and-assoc (all_before xs y) (lie_before xs ys) (lie_before xs zs))

-- the faults of a part, and whether they stand in order
abbrev Ordered : Type 0
Ordered = List Fault × Bool

abbrev in_turn : Ordered → Ordered → Ordered
in_turn p q = (p.0 ++ q.0, p.1 && (q.1 && lie_before p.0 q.0))

shuffled : (a b c x y z : Bool) → (a && (b && x)) && (c && (y && z)) ≡ a && ((b && (c && z)) && (x && y))
shuffled true true true true y z = by y z
  where
    by : (y z : Bool) → y && z ≡ z && y
    by true true = refl
    by true false = refl
    by false true = refl
    by false false = refl
shuffled true true true false y true = refl
shuffled true true true false y false = refl
shuffled true true false true y z = refl
shuffled true true false false y z = refl
shuffled true false c x y z = refl
shuffled false b c x y z = refl

turn-assoc : (p q r : Ordered) → in_turn (in_turn p q) r ≡ in_turn p (in_turn q r)
turn-assoc p q r =
    two-same (λ x y. (x, y)) ((p.0 ++ q.0) ++ r.0) (p.0 ++ (q.0 ++ r.0)) ((p.1 && (q.1 && lie_before p.0 q.0)) && (r.1 && lie_before (p.0 ++ q.0) r.0)) (p.1 && ((q.1 && (r.1 && lie_before q.0 r.0)) && lie_before p.0 (q.0 ++ r.0)))
    (append-assoc p.0 q.0 r.0)
    (ap (λ b. (p.1 && (q.1 && lie_before p.0 q.0)) && (r.1 && b)) (lie-first p.0 q.0 r.0)
    ∙ shuffled p.1 q.1 r.1 (lie_before p.0 q.0) (lie_before p.0 r.0) (lie_before q.0 r.0)
    ∙ ap (λ b. p.1 && ((q.1 && (r.1 && lie_before q.0 r.0)) && b)) (sym (lie-second p.0 q.0 r.0)))

turn-left : (p : Ordered) → in_turn ([], true) p ≡ p
turn-left p = ap (λ b. (p.0, b)) (ap (λ b. p.1 && b) (lie-nothing p.0) ∙ and-one p.1)

turn-right : (p : Ordered) → in_turn p ([], true) ≡ p
turn-right p = two-same (λ x y. (x, y)) (p.0 ++ []) p.0 (p.1 && true) p.1 (append-nil p.0) (and-one p.1)

module _ (own : Stmt → Bool) (joins : List Stmt → Stmt → Bool) where
  -- ---- what is listed of a body

  lists : {A : Type 0} (f : Stmt → List A) → f Skip ≡ [] → ((a b : Stmt) → f (Then a b) ≡ f a ++ f b) →
      ((k : Key) (c : Expr) (a b a' b' : Stmt) → f a ≡ f a' → f b ≡ f b' → f (If k c a b) ≡ f (If k c a' b')) → (s : Stmt) → f (grouped own joins s) ≡ f s
  lists f e t i s = grouped-same own joins f (λ x y. x ++ y) [] e t append-assoc (λ x. refl) append-nil i s

  behind : {A : Type 0} (xs a b a' b' : List A) → a ≡ a' → b ≡ b' → xs ++ (a ++ b) ≡ xs ++ (a' ++ b')
  behind xs a b a' b' e h = ap (λ l. xs ++ l) (two-same (λ x y. x ++ y) a a' b b' e h)

  pub uses-same : (s : Stmt) → uses_of (grouped own joins s) ≡ uses_of s
  uses-same = lists uses_of refl (λ a b. refl) (λ k c a b a' b' e h. behind (uses_in c) (uses_of a) (uses_of b) (uses_of a') (uses_of b') e h)

  module _ (its : List ℕ) where
    abbrev of : Stmt → Ordered
    of s = (faults_of its s, body_in_order its s)

    abbrev branches : Key → Expr → Ordered → Ordered → Ordered
    branches k c p q = (faults_in c k ++ (p.0 ++ q.0), in_order c k && (p.1 && (q.1 && (lie_before (faults_in c k) (p.0 ++ q.0) && lie_before p.0 q.0))))

    both-same : (s : Stmt) → of (grouped own joins s) ≡ of s
    both-same = grouped-same own joins of in_turn ([], true) refl (λ a b. refl) turn-assoc turn-left turn-right (λ k c a b a' b' e h. two-same (branches k c) (of a) (of a') (of b) (of b') e h)

    pub order-same : (s : Stmt) → (faults_of its (grouped own joins s) ≡ faults_of its s) × (body_in_order its (grouped own joins s) ≡ body_in_order its s)
    order-same s = (ap (λ (p : Ordered). p.0) (both-same s), ap (λ (p : Ordered). p.1) (both-same s))

  tests : (f : Stmt → Bool) → f Skip ≡ true → ((a b : Stmt) → f (Then a b) ≡ f a && f b) →
      ((k : Key) (c : Expr) (a b a' b' : Stmt) → f a ≡ f a' → f b ≡ f b' → f (If k c a b) ≡ f (If k c a' b')) → (s : Stmt) → f (grouped own joins s) ≡ f s
  tests f e t i s = grouped-same own joins f (λ x y. x && y) true e t and-assoc (λ x. refl) and-one i s

  both-tests : (a b a' b' : Bool) → a ≡ a' → b ≡ b' → a && b ≡ a' && b'
  both-tests a b a' b' e h = two-same (λ x y. x && y) a a' b b' e h

  pub typed-same : (ds : List Declaration) (res : Option VType) (s : Stmt) → is_typed_in ds res (grouped own joins s) ≡ is_typed_in ds res s
  typed-same ds res =
      tests (is_typed_in ds res) refl (λ a b. refl) (λ k c a b a' b' e h. ap (λ x. has_type ds Flag c && x) (both-tests (is_typed_in ds res a) (is_typed_in ds res b) (is_typed_in ds res a') (is_typed_in ds res b') e h))

  pub form-same : (ds : List Declaration) (n : ℕ) (s : Stmt) → is_outer_body ds false n (grouped own joins s) ≡ is_outer_body ds false n s
  form-same ds n =
      tests (is_outer_body ds false n) refl (λ a b. refl) (λ k c a b a' b' e h. ap (λ x. is_flat (n ∷ []) false c && x) (both-tests (is_outer_body ds false n a) (is_outer_body ds false n b) (is_outer_body ds false n a') (is_outer_body ds false n b') e h))

  module _ (ds : List Declaration) (n : ℕ) where
    pub properties-same : (s : Stmt) → (sights_of ds n false (grouped own joins s)).properties ≡ (sights_of ds n false s).properties
    properties-same =
        lists (λ s. (sights_of ds n false s).properties) refl (λ a b. refl)
        (λ k c a b a' b' e h. behind (reads_in c) (sights_of ds n false a).properties (sights_of ds n false b).properties (sights_of ds n false a').properties (sights_of ds n false b').properties e h)

    pub scalars-same : (s : Stmt) → (sights_of ds n false (grouped own joins s)).scalars ≡ (sights_of ds n false s).scalars
    scalars-same =
        lists (λ s. (sights_of ds n false s).scalars) refl (λ a b. refl)
        (λ k c a b a' b' e h. behind (told_in c) (sights_of ds n false a).scalars (sights_of ds n false b).scalars (sights_of ds n false a').scalars (sights_of ds n false b').scalars e h)

    pub written-same : (s : Stmt) → written ds n false (grouped own joins s) ≡ written ds n false s
    written-same =
        lists (written ds n false) refl (λ a b. refl) (λ k c a b a' b' e h. two-same (λ x y. x ++ y) (written ds n false a) (written ds n false a') (written ds n false b) (written ds n false b') e h)

    pub reduced-same : (s : Stmt) → reduced ds n false (grouped own joins s) ≡ reduced ds n false s
    reduced-same =
        lists (reduced ds n false) refl (λ a b. refl) (λ k c a b a' b' e h. two-same (λ x y. x ++ y) (reduced ds n false a) (reduced ds n false a') (reduced ds n false b) (reduced ds n false b') e h)

    pub inners-same : (s : Stmt) → inners_share ds n (grouped own joins s) ≡ inners_share ds n s
    inners-same = tests (inners_share ds n) refl (λ a b. refl) (λ k c a b a' b' e h. both-tests (inners_share ds n a) (inners_share ds n b) (inners_share ds n a') (inners_share ds n b') e h)

  pub deferred-same : (s : Stmt) → deferred (grouped own joins s) ≡ deferred s
  deferred-same = lists deferred refl (λ a b. refl) (λ k c a b a' b' e h. two-same (λ x y. x ++ y) (deferred a) (deferred a') (deferred b) (deferred b') e h)

  pub alike-same : (s : Stmt) → targets_alike (grouped own joins s) ≡ targets_alike s
  alike-same = tests targets_alike refl (λ a b. refl) (λ k c a b a' b' e h. both-tests (targets_alike a) (targets_alike b) (targets_alike a') (targets_alike b') e h)

  -- it shares the same
  abbrev sharing : ℕ → Expr → List Read → List ℕ → List ℕ → List Reduced → List ℕ → Bool → Bool → Bool
  sharing n test properties scalars own all delays inners alike =
      disjoint (shared_in all) (read_anywhere (reads_in test ++ properties) ++ ((told_in test ++ scalars) ++ own))
      && (disjoint (own ++ kept_in all) (read_elsewhere n (reads_in test ++ properties))
      && (disjoint delays (own ++ (shared_in all ++ kept_in all)) && (all_agree all && (inners && alike))))

  pub shares-same : (ds : List Declaration) (n : ℕ) (test : Expr) (s : Stmt) → shares ds n test (grouped own joins s) ≡ shares ds n test s
  shares-same ds n test s =
      let t = grouped own joins s in
      ap (λ x. sharing n test x (sights_of ds n false t).scalars (written ds n false t) (reduced ds n false t) (deferred t) (inners_share ds n t) (targets_alike t)) (properties-same ds n s)
      ∙ ap (λ x. sharing n test (sights_of ds n false s).properties x (written ds n false t) (reduced ds n false t) (deferred t) (inners_share ds n t) (targets_alike t)) (scalars-same ds n s)
      ∙ ap (λ x. sharing n test (sights_of ds n false s).properties (sights_of ds n false s).scalars x (reduced ds n false t) (deferred t) (inners_share ds n t) (targets_alike t)) (written-same ds n s)
      ∙ ap (λ x. sharing n test (sights_of ds n false s).properties (sights_of ds n false s).scalars (written ds n false s) x (deferred t) (inners_share ds n t) (targets_alike t)) (reduced-same ds n s)
      ∙ ap (λ x. sharing n test (sights_of ds n false s).properties (sights_of ds n false s).scalars (written ds n false s) (reduced ds n false s) x (inners_share ds n t) (targets_alike t)) (deferred-same s)
      ∙ ap (λ x. sharing n test (sights_of ds n false s).properties (sights_of ds n false s).scalars (written ds n false s) (reduced ds n false s) (deferred s) x (targets_alike t)) (inners-same ds n s)
      ∙ ap (sharing n test (sights_of ds n false s).properties (sights_of ds n false s).scalars (written ds n false s) (reduced ds n false s) (deferred s) (inners_share ds n s)) (alike-same s)

  -- ---- what a body does

  pub pushes-same : (n p : ℕ) (s : Stmt) → pushes (grouped own joins s) n p ≡ pushes s n p
  pushes-same n p =
      grouped-same own joins (λ s. pushes s n p) (λ x y. x || y) false refl (λ a b. refl) or-assoc (λ x. refl) or-none
      (λ k c a b a' b' e h. two-same (λ x y. x || y) (pushes a n p) (pushes a' n p) (pushes b n p) (pushes b' n p) e h)

  module _ (m : Mode) (loop : Loop) where
    -- what a statement does where nothing has failed
    abbrev pub Goes : Stmt → Iteration → Iteration
    Goes s it = go_on it (does s m loop)

    pub skips : Goes Skip ≡ (λ it. it)
    skips = fun_ext (λ it. by it it.fault)
      where
        by : (it : Iteration) (o : Option F.Fault) → unless_failed o it (does Skip m loop) ≡ it
        by it None = refl
        by it (Some f) = refl

    pub thens : (a b : Stmt) → Goes (Then a b) ≡ (λ it. Goes b (Goes a it))
    thens a b = fun_ext (λ it. by it it.fault refl)
      where
        by : (it : Iteration) (o : Option F.Fault) → it.fault ≡ o → unless_failed o it (does (Then a b) m loop) ≡ go_on (unless_failed o it (does a m loop)) (does b m loop)
        by it None e = refl
        by it (Some f) e = sym (ap (λ o. unless_failed o it (does b m loop)) e)

    pub ifs : (k : Key) (c : Expr) (a b a' b' : Stmt) → Goes a ≡ Goes a' → Goes b ≡ Goes b' → Goes (If k c a b) ≡ Goes (If k c a' b')
    ifs k c a b a' b' e h = fun_ext (λ it. by it it.fault refl)
      where
        alone : (it : Iteration) → it.fault ≡ None → (s t : Stmt) → Goes s ≡ Goes t → does s m loop it ≡ does t m loop it
        alone it none s t e = ap (λ o. unless_failed o it (does s m loop)) (sym none) ∙ ap (λ (f : Iteration → Iteration). f it) e ∙ ap (λ o. unless_failed o it (does t m loop)) none

        ways : (it : Iteration) → it.fault ≡ None → (r : Result Value F.Fault) → with_ok it r (λ v. one_way (is_true v) (does a m loop) (does b m loop) it) ≡ with_ok it r (λ v. one_way (is_true v) (does a' m loop) (does b' m loop) it)
        ways it none (Err f) = refl
        ways it none (Ok v) = way (is_true v)
          where
            way : (x : Bool) → one_way x (does a m loop) (does b m loop) it ≡ one_way x (does a' m loop) (does b' m loop) it
            way true = alone it none a a' e
            way false = alone it none b b' h

        by : (it : Iteration) (o : Option F.Fault) → it.fault ≡ o → unless_failed o it (does (If k c a b) m loop) ≡ unless_failed o it (does (If k c a' b') m loop)
        by it None none = ways it none (value c (view_in loop m it k))
        by it (Some f) some = refl

    pub does-same : (s : Stmt) → Goes (grouped own joins s) ≡ Goes s
    does-same = grouped-same own joins Goes (λ x y. λ it. y (x it)) (λ it. it) skips thens (λ x y z. refl) (λ x. refl) (λ x. refl) ifs

  -- a loop does the same
  pub loop-same : (loop : Loop) (key : Key) (test : Expr) (s : Stmt) (u : Store) → looped loop key test (grouped own joins s) u ≡ looped loop key test s u
  loop-same loop key test s u = ap (λ (f : ℕ → Iteration). loop_done u (nodes loop.graph) (map f (nodes loop.graph))) (fun_ext each)
    where
      each : (x : ℕ) → iteration loop key test (grouped own joins s) u x ≡ iteration loop key test s u x
      each x = by (value test (view_in loop Outermost (begun (write u (Scalar loop.outer) (At (Some x)))) key))
        where
          by : (r : Result Value F.Fault) → with_ok (begun (write u (Scalar loop.outer) (At (Some x)))) r (λ v. one_way (is_true v) (does (grouped own joins s) Outermost loop) as_it_is (begun (write u (Scalar loop.outer) (At (Some x)))))
              ≡ with_ok (begun (write u (Scalar loop.outer) (At (Some x)))) r (λ v. one_way (is_true v) (does s Outermost loop) as_it_is (begun (write u (Scalar loop.outer) (At (Some x)))))
          by (Err f) = refl
          by (Ok v) = way (is_true v)
            where
              way : (b : Bool) → one_way b (does (grouped own joins s) Outermost loop) as_it_is (begun (write u (Scalar loop.outer) (At (Some x)))) ≡ one_way b (does s Outermost loop) as_it_is (begun (write u (Scalar loop.outer) (At (Some x))))
              way true = ap (λ (f : Iteration → Iteration). f (begun (write u (Scalar loop.outer) (At (Some x))))) (does-same Outermost loop s)
              way false = refl

  -- as a statement of a sequential phase
  pub runs-same : (run : Run) (k : Key) (at : Place) (h : Head) (test : Expr) (s : Stmt) (u : State) → sequential (Foreach k at h test (grouped own joins s)) run u ≡ sequential (Foreach k at h test s) run u
  runs-same run k at h test s u =
      ap (λ r. with_value r (with_store u)) (loop-same (loop_of run no_levels h.iterator (grouped own joins s)) k test s u.store)
      ∙ ap (λ (f : ℕ → Bool). with_value (looped (record (loop_of run no_levels h.iterator s) { pushed = f }) k test s u.store) (with_store u)) (fun_ext (λ p. pushes-same h.iterator p s))
