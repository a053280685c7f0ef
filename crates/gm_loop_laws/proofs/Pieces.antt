-- What the loops of the pieces of a body rest on.
use Rattle.std.proofs.Common.{◌≡◌, arith, ℕ, Bool, true, false, cond, List, [], ◌∷◌, ◌++◌, map, refl, sym, ap, ◌∙◌, Some, None, Result, Ok, Err, ⊎_elim}
use Rattle.std.proofs.Math.Path.{fun_ext}
use Rattle.std.specs.Prelude.{◌&&◌, ◌||◌, not, nat_eq}
use Rattle.std.specs.List.{list_any}
use Rattle.std.proofs.lemmas.Bool.{both_ways}
use Rattle.std.proofs.lemmas.Bool.Decides.{nat_tests}
use Rattle.gm_value.specs.Operations.{is_true}
use Rattle.gm_ast.specs.declared.tree.Key.{Key}
use Rattle.gm_ast.specs.declared.tree.Target.{Target}
use Rattle.gm_ast.specs.declared.tree.Target.TheVariants as T
use Rattle.gm_ast.specs.Ways.{is_in}
use Rattle.gm_ast.specs.Program.{Expr, Stmt, Skip, Then, Declare, DeclareEdge, Assign, Defer, Combine, Group, Foreach, For, If, While, Do, InBfs, InBfsBoth, Return}
use Rattle.gm_semantics.specs.declared.faults.Fault.{Fault}
use Rattle.gm_semantics.specs.declared.slots.Write.{Write}
use Rattle.gm_semantics.specs.Stores.{Store, overlaid}
use Rattle.gm_semantics.specs.Faults.{least, unless_fault, somes, joined}
use Rattle.gm_semantics.specs.Levels.{nodes}
use Rattle.gm_semantics.specs.Expressions.{value}
use Rattle.gm_semantics.specs.Contributions.{Contribution, settled_store, total_faults}
use Rattle.gm_semantics.specs.Iterations.{Loop, Iteration, begun, go_on, with_ok, one_way, as_it_is, Outermost, view_in, later, ends_of, ends_of_all, reduced, does}
use Rattle.gm_semantics.specs.Loops.{is_elsewhere, pushes, iteration, left_at, own_left, loop_done}
use Rattle.gm_semantics.specs.Statements.{State, with_value, with_store}
use Rattle.gm_semantics.specs.Frames.{AlikeStores, AlikeCourses}
use Rattle.gm_forms.specs.Fission.{elsewhere_of, pushed_properties}
use Rattle.gm_forms.proofs.Named.{both-true}
use Rattle.gm_forms.proofs.Cuts.{left_at-in, placed}
use Rattle.gm_loop_laws.specs.Masks.{Change, looped, in_turn, is_certain}
use Rattle.gm_loop_laws.specs.Pieces.{no_inner}
use Rattle.gm_loop_laws.proofs.Joins.{map-each}
use Rattle.gm_loop_laws.proofs.Alone.{settled-nothing}
use Rattle.gm_loop_laws.proofs.Masks.{start, turn-by, certain-value, value_of}

-- what is pushed is what is listed
is_in-append : (xs ys : List ℕ) (y : ℕ) → is_in (xs ++ ys) y ≡ is_in xs y || is_in ys y
is_in-append [] ys y = refl
is_in-append (x ∷ xs) ys y = ap (λ b. nat_eq y x || b) (is_in-append xs ys y) ∙ by (nat_eq y x) (is_in xs y) (is_in ys y)
  where
    by : (a b c : Bool) → a || (b || c) ≡ (a || b) || c
    by true b c = refl
    by false b c = refl

targets-pushed : (n p : ℕ) (ts : List Target) → list_any (is_elsewhere n p) ts ≡ is_in (elsewhere_of n ts) p
targets-pushed n p [] = refl
targets-pushed n p (T.Scalar x at ∷ ts) = targets-pushed n p ts
targets-pushed n p (T.Property x q at ∷ ts) = ap (λ b. not (nat_eq x n) && b || list_any (is_elsewhere n p) ts) turned ∙ by (nat_eq x n) (targets-pushed n p ts)
  where
    turned : nat_eq q p ≡ nat_eq p q
    turned = grind (arith, nat_tests)

    by : (b : Bool) → list_any (is_elsewhere n p) ts ≡ is_in (elsewhere_of n ts) p → not b && nat_eq p q || list_any (is_elsewhere n p) ts ≡ is_in (cond b (elsewhere_of n ts) (q ∷ elsewhere_of n ts)) p
    by true h = h
    by false h = ap (λ c. nat_eq p q || c) h

pub pushed-listed : (n p : ℕ) (s : Stmt) → pushes s n p ≡ is_in (pushed_properties n s) p
pushed-listed n p Skip = refl
pushed-listed n p (Then a b) = ap (λ c. c || pushes b n p) (pushed-listed n p a) ∙ ap (λ c. is_in (pushed_properties n a) p || c) (pushed-listed n p b) ∙ sym (is_in-append (pushed_properties n a) (pushed_properties n b) p)
pushed-listed n p (Declare k x e) = refl
pushed-listed n p (DeclareEdge x y at) = refl
pushed-listed n p (Assign k t e) = refl
pushed-listed n p (Defer k t e) = refl
pushed-listed n p (Combine k total r ts es) = targets-pushed n p ts
pushed-listed n p (Group k at g q e) = refl
pushed-listed n p (Foreach k at h test body) = pushed-listed n p body
pushed-listed n p (For k at h test body) = refl
pushed-listed n p (If k c a b) = ap (λ c. c || pushes b n p) (pushed-listed n p a) ∙ ap (λ c. is_in (pushed_properties n a) p || c) (pushed-listed n p b) ∙ sym (is_in-append (pushed_properties n a) (pushed_properties n b) p)
pushed-listed n p (While k at c body) = refl
pushed-listed n p (Do k at body c) = refl
pushed-listed n p (InBfs k at h test body) = refl
pushed-listed n p (InBfsBoth k at h test body back_key back_test back) = refl
pushed-listed n p (Return k at e) = refl

-- a body without an inner loop does the same whatever its loop pushes
module _ (loop : Loop) (others : ℕ → Bool) where
  abbrev changed : Loop
  changed = record loop { pushed = others }

  one-end : (t : Target) → ends_of Outermost changed t ≡ ends_of Outermost loop t
  one-end (T.Scalar x at) = refl
  one-end (T.Property x p at) = refl

  all-ends : (ts : List Target) → ends_of_all Outermost changed ts ≡ ends_of_all Outermost loop ts
  all-ends [] = refl
  all-ends (t ∷ ts) = ap (λ e. later e (ends_of_all Outermost changed ts)) (one-end t) ∙ ap (later (ends_of Outermost loop t)) (all-ends ts)

  pub own-does : (s : Stmt) → no_inner s ≡ true → (it : Iteration) → does s Outermost changed it ≡ does s Outermost loop it
  own-does Skip h it = refl
  own-does (Then a b) h it =
      let r = both-true (no_inner a) (no_inner b) h in
      ap (λ j. go_on j (does b Outermost changed)) (own-does a r.0 it) ∙ ap (go_on (does a Outermost loop it)) (fun_ext (own-does b r.1))
  own-does (Declare k x None) h it = refl
  own-does (Declare k x (Some e)) h it = refl
  own-does (DeclareEdge x y at) h it = refl
  own-does (Assign k t e) h it = refl
  own-does (Defer k t e) h it = refl
  own-does (Combine k total r ts es) h it = ap (λ e. reduced e (view_in loop Outermost it k) it total r ts es) (all-ends ts)
  own-does (Group k at g p e) h it = refl
  own-does (Foreach k at head test body) h it = absurd (both_ways false refl h)
  own-does (For k at head test body) h it = refl
  own-does (If k c a b) h it =
      let r = both-true (no_inner a) (no_inner b) h in
      ap (λ (f : Iteration → Iteration). with_ok it (value c (view_in loop Outermost it k)) (λ v. one_way (is_true v) f (does b Outermost changed) it)) (fun_ext (own-does a r.0))
      ∙ ap (λ (f : Iteration → Iteration). with_ok it (value c (view_in loop Outermost it k)) (λ v. one_way (is_true v) (does a Outermost loop) f it)) (fun_ext (own-does b r.1))
  own-does (While k at c body) h it = refl
  own-does (Do k at body c) h it = refl
  own-does (InBfs k at head test body) h it = refl
  own-does (InBfsBoth k at head test body back_key back_test back) h it = refl
  own-does (Return k at e) h it = refl

  pub own-loop : (key : Key) (test : Expr) (s : Stmt) → no_inner s ≡ true → (u : Store) → looped loop key test s u ≡ looped changed key test s u
  own-loop key test s h u =
      ap (loop_done u (nodes loop.graph))
      (map-each (iteration loop key test s u) (iteration changed key test s u) (nodes loop.graph) (λ x i.
      ap (λ (f : Iteration → Iteration). with_ok (begun (start loop key u x)) (value test (view_in loop Outermost (begun (start loop key u x)) key)) (λ v. one_way (is_true v) f as_it_is (begun (start loop key u x)))) (sym (fun_ext (own-does s h)))))

-- an empty body leaves the store
module _ (loop : Loop) (key : Key) (mask : Expr) (sure : is_certain (loop.outer ∷ []) mask ≡ true) (u : Store) where
  abbrev ks : List ℕ
  ks = nodes loop.graph

  abbrev idle : ℕ → Iteration
  idle x = begun (start loop key u x)

  none-left : own_left u ks (map idle ks) ≡ u
  none-left = ap (λ f. record u { node = f }) (fun_ext (λ p. fun_ext (λ y. ⊎_elim (λ i. left_at-in idle u p y ks i) (λ (out : (F : ℕ → Iteration) (s : Store) (q : ℕ) → left_at ks (map F ks) s q y ≡ s.node q y). out idle u p) (placed y ks))))

  faultless : (zs : List ℕ) → somes (map (λ (it : Iteration). it.fault) (map idle zs)) ≡ []
  faultless [] = refl
  faultless (z ∷ zs) = faultless zs

  giftless : (zs : List ℕ) → joined (map (λ (it : Iteration). it.with_outermost) (map idle zs)) ≡ []
  giftless [] = refl
  giftless (z ∷ zs) = giftless zs

  writeless : (zs : List ℕ) → joined (map (λ (it : Iteration). it.deferred) (map idle zs)) ≡ []
  writeless [] = refl
  writeless (z ∷ zs) = writeless zs

  pub empty-loop : looped loop key mask Skip u ≡ Ok u
  empty-loop =
      let own = own_left u ks (map idle ks) in
      ap (loop_done u ks) (map-each (iteration loop key mask Skip u) idle ks (λ x i. turn-by loop key mask Skip u x (value_of (value mask (view_in loop Outermost (idle x) key))) (certain-value loop key mask u x sure i) ∙ way x (is_true (value_of (value mask (view_in loop Outermost (idle x) key))))))
      ∙ ap (λ (cs : List Contribution). unless_fault (least (somes (map (λ it. it.fault) (map idle ks)) ++ total_faults own cs)) (Ok (overlaid (settled_store own cs) (joined (map (λ it. it.deferred) (map idle ks)))))) (giftless ks)
      ∙ ap (λ (ws : List Write). unless_fault (least (somes (map (λ it. it.fault) (map idle ks)) ++ [])) (Ok (overlaid (settled_store own []) ws))) (writeless ks)
      ∙ ap (λ (fs : List Fault). unless_fault (least (fs ++ [])) (Ok (settled_store own []))) (faultless ks)
      ∙ ap Ok (settled-nothing own ∙ none-left)
    where
      way : (x : ℕ) (b : Bool) → one_way b (does Skip Outermost loop) as_it_is (idle x) ≡ idle x
      way x true = refl
      way x false = refl

-- a change after another, and so on
abbrev pub all_in_turn : List Change → Change
all_in_turn [] s = Ok s
all_in_turn (f ∷ fs) s = in_turn f (all_in_turn fs) s

-- and the courses that it leads to
pub courses-alike : (j : ℕ) (s t : State) (a b : Result Store Fault) → AlikeStores j a b → t.turns ≡ s.turns → AlikeCourses j (with_value a (with_store s)) (with_value b (with_store t))
courses-alike j s t (Ok u) (Ok v) h e = record { store = h; turns = e }
courses-alike j s t (Ok u) (Err f) h e = absurd h
courses-alike j s t (Err f) (Ok v) h e = absurd h
courses-alike j s t (Err f) (Err g) h e = h
