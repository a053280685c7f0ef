-- An If is its two branches under masks.
use Rattle.std.proofs.Common.{List, [], ◌∷◌, ◌≡◌, ◌<◌, ◌≤◌, arith, ℕ, Bool, true, false, cond, List, refl, sym, ap, ◌∙◌, Option, Some, None, Result, Ok, Err}
use Rattle.std.specs.Prelude.{◌&&◌, not, nat_eq}
use Rattle.std.proofs.lemmas.Bool.{eq-eqb, ne_eqb}
use Rattle.gm_base.specs.declared.places.Place.{Place}
use Rattle.gm_value.specs.declared.values.Value.{Value}
use Rattle.gm_value.specs.declared.values.Value.TheVariants.{At, Flag}
use Rattle.gm_value.specs.declared.operations.Op1.TheVariants.{Not}
use Rattle.gm_value.specs.Bag.{IsIn}
use Rattle.gm_value.specs.Operations.{is_true}
use Rattle.gm_model.specs.Graphs.{node_count}
use Rattle.gm_ast.specs.declared.tree.Declaration.{Declaration}
use Rattle.gm_ast.specs.declared.tree.Key.{Key}
use Rattle.gm_ast.specs.Ways.{is_in}
use Rattle.gm_ast.specs.Program.{Expr, Property, Unary, Both, Stmt, Skip, Then, If}
use Rattle.gm_semantics.specs.declared.faults.Fault.{Fault}
use Rattle.gm_semantics.specs.Stores.{Store}
use Rattle.gm_semantics.specs.Faults.{then_with}
use Rattle.gm_semantics.specs.Levels.{nodes}
use Rattle.gm_semantics.specs.Expressions.{Answer, settled, plain, both, one_of, evaluated, value}
use Rattle.gm_semantics.specs.Iterations.{Loop, Iteration, begun, unless_failed, go_on, with_ok, one_way, as_it_is, Outermost, view_in, does}
use Rattle.gm_semantics.specs.Loops.{iteration, loop_done}
use Rattle.gm_semantics.specs.Frames.{Agree, ReadsBelow, NamesBelow}
use Rattle.gm_forms.specs.Cut.{touched}
use Rattle.gm_forms.specs.Fission.{Knows, can_cut}
use Rattle.gm_forms.proofs.Named.{both-true}
use Rattle.gm_forms.proofs.Weaker.{and-true}
use Rattle.gm_forms.proofs.CutLaws.{fission-holds}
use Rattle.gm_loop_laws.specs.Masks.{looped, in_turn, is_certain, spares, is_stable, ConditionsPart}
use Rattle.gm_loop_laws.proofs.Joins.{map-each}
use Rattle.gm_loop_laws.proofs.Alone.{nodes-below}
use Rattle.gm_loop_laws.proofs.Kept.{touched-below, body-did}
use Rattle.gm_loop_laws.proofs.Masks.{outer-holds, same-turns, same-by, loop-same, certain, certain-keys, not-in, value_of, start, seen, start-held, turn-by, saved-value, certain-value, cut-form, stays, slot-stays}
use Rattle.gm_loop_laws.proofs.Chosen.{chosen-value, when_first, when_second, when-cut}

module _ (j : ℕ) (ds : List Declaration) (pushed : List ℕ) (loop : Loop) (m : ℕ) (key k : Key) (at place : Place) (mask c : Expr) (a b : Stmt) (knows : Knows ds pushed loop) (fresh : j ≤ m) (reads-mask : ReadsBelow j mask) (reads-c : ReadsBelow j c) (names : NamesBelow j a)
    (test : can_cut ds loop.outer m key at pushed a b ≡ true) (stable-mask : is_stable loop.outer a mask ≡ true) (stable-c : is_stable loop.outer a c ≡ true) (t : Store) where
  abbrev n : ℕ
  n = loop.outer

  abbrev ks : List ℕ
  ks = nodes loop.graph

  sure-mask : is_certain (n ∷ []) mask ≡ true
  sure-mask = (both-true (is_certain (n ∷ []) mask) (not (is_in (touched a) n) && spares (touched a) mask) stable-mask).0

  sure-c : is_certain (n ∷ []) c ≡ true
  sure-c = (both-true (is_certain (n ∷ []) c) (not (is_in (touched a) n) && spares (touched a) c) stable-c).0

  off : not (is_in (touched a) n) ≡ true
  off = (both-true (not (is_in (touched a) n)) (spares (touched a) mask) (both-true (is_certain (n ∷ []) mask) (not (is_in (touched a) n) && spares (touched a) mask) stable-mask).1).0

  -- the store in which a fresh property is True everywhere
  abbrev marked : Store
  marked = record t { node = λ p x. cond (nat_eq m p) (Flag true) (t.node p x) }

  marked-agrees : Agree j t marked
  marked-agrees = record { scalar = λ x l. refl; node = λ p x l. ap (λ b. cond b (Flag true) (t.node p x)) (ne_eqb m p (λ e. omega arith)); edge = λ p e l. refl }

  abbrev yes : Expr
  yes = Both mask c

  abbrev other : Expr
  other = Both mask (Unary Not place c)

  abbrev first_value : ℕ → Value
  first_value x = value_of (value yes (seen loop key marked x))

  abbrev second_value : ℕ → Value
  second_value x = value_of (value other (seen loop key marked x))

  abbrev first : Stmt
  first = when_first ds n m key at pushed k place first_value second_value ks a b

  abbrev second : Stmt
  second = when_second ds n m key at pushed k place first_value second_value ks a b

  abbrev turn : Store → ℕ → Iteration
  turn s x = begun (start loop key s x)

  less : (x : ℕ) → IsIn x ks → x < node_count loop.graph
  less x i = nodes-below loop.graph x i

  -- what each half does where the iterator holds the node
  first-does : (it : Iteration) (x : ℕ) → IsIn x ks → it.store.scalar n ≡ At (Some x) → does first Outermost loop it ≡ one_way (is_true (first_value x)) (does a Outermost loop) as_it_is it
  first-does it x i holds =
      ap (λ r. with_ok it r (λ v. one_way (is_true v) (does a Outermost loop) (does Skip Outermost loop) it)) (chosen-value loop Outermost it k x (less x i) holds place first_value ks i)
      ∙ by (is_true (first_value x))
    where
      by : (b : Bool) → one_way b (does a Outermost loop) (does Skip Outermost loop) it ≡ one_way b (does a Outermost loop) as_it_is it
      by true = refl
      by false = refl

  second-does : (it : Iteration) (x : ℕ) → IsIn x ks → it.store.scalar n ≡ At (Some x) → does second Outermost loop it ≡ one_way (is_true (second_value x)) (does b Outermost loop) as_it_is it
  second-does it x i holds =
      ap (λ r. with_ok it r (λ v. one_way (is_true v) (does b Outermost loop) (does Skip Outermost loop) it)) (chosen-value loop Outermost it k x (less x i) holds place second_value ks i)
      ∙ by (is_true (second_value x))
    where
      by : (o : Bool) → one_way o (does b Outermost loop) (does Skip Outermost loop) it ≡ one_way o (does b Outermost loop) as_it_is it
      by true = refl
      by false = refl

  -- the values of both conditions at a node
  module _ (x : ℕ) (i : IsIn x ks) where
    abbrev begin : Iteration
    begin = turn marked x

    abbrev M : (v : Value) × (evaluated mask (seen loop key marked x) ≡ plain (Ok v))
    M = certain loop Outermost begin key x (less x i) (start-held loop key marked x) mask sure-mask

    abbrev C : (v : Value) × (evaluated c (seen loop key marked x) ≡ plain (Ok v))
    C = certain loop Outermost begin key x (less x i) (start-held loop key marked x) c sure-c

    c-value : value c (view_in loop Outermost begin k) ≡ Ok C.0
    c-value = ap settled (certain-keys loop Outermost begin k key (n ∷ []) (outer-holds loop begin x (less x i) (start-held loop key marked x)) c sure-c ∙ C.1)

    mask-value : value mask (seen loop key marked x) ≡ Ok M.0
    mask-value = ap settled M.1

    first-is : first_value x ≡ cond (is_true M.0) C.0 M.0
    first-is =
        ap (λ a. value_of (settled (both a (evaluated c (seen loop key marked x))))) M.1 ∙ ap (λ a. value_of (settled (both (plain (Ok M.0)) a))) C.1 ∙ by (is_true M.0)
      where
        by : (o : Bool) → value_of (cond {A = Answer} o (Ok C.0) (Ok M.0)) ≡ cond o C.0 M.0
        by true = refl
        by false = refl

    second-is : second_value x ≡ cond (is_true M.0) (Flag (not (is_true C.0))) M.0
    second-is =
        ap (λ a. value_of (settled (both a (one_of (evaluated c (seen loop key marked x)) (λ v. Ok (Flag (not (is_true v)))))))) M.1
        ∙ ap (λ a. value_of (settled (both (plain (Ok M.0)) (one_of a (λ v. Ok (Flag (not (is_true v)))))))) C.1 ∙ by (is_true M.0)
      where
        by : (o : Bool) → value_of (cond {A = Answer} o (Ok (Flag (not (is_true C.0)))) (Ok M.0)) ≡ cond o (Flag (not (is_true C.0))) M.0
        by true = refl
        by false = refl

    flag-is : (o : Bool) → is_true (Flag o) ≡ o
    flag-is true = refl
    flag-is false = refl

    abbrev three : Bool → Bool → Iteration
    three p q = one_way p (one_way q (does a Outermost loop) (does b Outermost loop)) as_it_is begin

    whole : iteration loop key mask (If k c a b) marked x ≡ three (is_true M.0) (is_true C.0)
    whole = turn-by loop key mask (If k c a b) marked x M.0 mask-value ∙ by (is_true M.0)
      where
        by : (o : Bool) → one_way o (does (If k c a b) Outermost loop) as_it_is begin ≡ three o (is_true C.0)
        by true = ap (λ r. with_ok begin r (λ v. one_way (is_true v) (does a Outermost loop) (does b Outermost loop) begin)) c-value
        by false = refl

    -- the first branch leaves the node in the iterator
    after-held : (does a Outermost loop begin).store.scalar n ≡ At (Some x)
    after-held =
        let form = cut-form ds n m key at pushed a b test in
        (body-did ds loop x (touched a) (not-in (touched a) n off) a begin form.0 form.1 (λ y i. i) (start-held loop key marked x) refl).1

    halves : (p q : Bool) → is_true (first_value x) ≡ p && q → is_true (second_value x) ≡ p && not q → go_on (one_way (is_true (first_value x)) (does a Outermost loop) as_it_is begin) (does second Outermost loop) ≡ three p q
    halves true true d e = ap (λ o. go_on (one_way o (does a Outermost loop) as_it_is begin) (does second Outermost loop)) d ∙ by (does a Outermost loop begin).fault
      where
        by : (o : Option Fault) → unless_failed o (does a Outermost loop begin) (does second Outermost loop) ≡ does a Outermost loop begin
        by (Some f) = refl
        by None = second-does (does a Outermost loop begin) x i after-held ∙ ap (λ o. one_way o (does b Outermost loop) as_it_is (does a Outermost loop begin)) e
    halves true false d e =
        ap (λ o. go_on (one_way o (does a Outermost loop) as_it_is begin) (does second Outermost loop)) d
        ∙ second-does begin x i (start-held loop key marked x) ∙ ap (λ o. one_way o (does b Outermost loop) as_it_is begin) e
    halves false q d e =
        ap (λ o. go_on (one_way o (does a Outermost loop) as_it_is begin) (does second Outermost loop)) d
        ∙ second-does begin x i (start-held loop key marked x) ∙ ap (λ o. one_way o (does b Outermost loop) as_it_is begin) e

    first-way : (p : Bool) → is_true M.0 ≡ p → is_true (first_value x) ≡ p && is_true C.0
    first-way true e = ap is_true (first-is ∙ ap (λ o. cond o C.0 M.0) e)
    first-way false e = ap is_true (first-is ∙ ap (λ o. cond o C.0 M.0) e) ∙ e

    second-way : (p : Bool) → is_true M.0 ≡ p → is_true (second_value x) ≡ p && not (is_true C.0)
    second-way true e = ap is_true (second-is ∙ ap (λ o. cond o (Flag (not (is_true C.0))) M.0) e) ∙ flag-is (not (is_true C.0))
    second-way false e = ap is_true (second-is ∙ ap (λ o. cond o (Flag (not (is_true C.0))) M.0) e) ∙ e

    mark-value : value (Property n m at) (seen loop key marked x) ≡ Ok (Flag true)
    mark-value = saved-value loop key m at marked x i ∙ ap (λ o. Ok (cond o (Flag true) (t.node m x))) (eq-eqb m m refl)

    parted : iteration loop key mask (If k c a b) marked x ≡ iteration loop key (Property n m at) (Then first second) marked x
    parted =
        whole
        ∙ sym (turn-by loop key (Property n m at) (Then first second) marked x (Flag true) mark-value
        ∙ ap (λ it. go_on it (does second Outermost loop)) (first-does begin x i (start-held loop key marked x))
        ∙ halves (is_true M.0) (is_true C.0) (first-way (is_true M.0) refl) (second-way (is_true M.0) refl))

    first-same : iteration loop key (Property n m at) first marked x ≡ iteration loop key yes a marked x
    first-same =
        turn-by loop key (Property n m at) first marked x (Flag true) mark-value
        ∙ first-does begin x i (start-held loop key marked x)
        ∙ sym (turn-by loop key yes a marked x (first_value x) (certain-value loop key yes marked x (and-true (is_certain (n ∷ []) mask) (is_certain (n ∷ []) c) sure-mask sure-c) i))

  abbrev Same : Expr → Stmt → Expr → Stmt → Store → Type 0
  Same e p d q s = looped loop key e p s ≡ looped loop key d q s

  by-turns : (e d : Expr) (p q : Stmt) (s : Store) → ((x : ℕ) → IsIn x ks → iteration loop key e p s x ≡ iteration loop key d q s x) → Same e p d q s
  by-turns e d p q s h = ap (loop_done s ks) (map-each (iteration loop key e p s) (iteration loop key d q s) ks h)

  stable-other : is_stable n a other ≡ true
  stable-other =
      let p = both-true (is_certain (n ∷ []) mask) (not (is_in (touched a) n) && spares (touched a) mask) stable-mask in
      let q = both-true (not (is_in (touched a) n)) (spares (touched a) mask) p.1 in
      let u = both-true (is_certain (n ∷ []) c) (not (is_in (touched a) n) && spares (touched a) c) stable-c in
      let v = both-true (not (is_in (touched a) n)) (spares (touched a) c) u.1 in
      and-true _ _ (and-true (is_certain (n ∷ []) mask) (is_certain (n ∷ []) c) p.0 u.0) (and-true _ _ q.0 (and-true (spares (touched a) mask) (spares (touched a) c) q.1 v.1))

  behind : (r : Result Store Fault) → looped loop key yes a marked ≡ r → then_with r (looped loop key (Property n m at) second) ≡ then_with r (looped loop key other b)
  behind (Err f) e = refl
  behind (Ok v) e =
      let form = cut-form ds n m key at pushed a b test in
      by-turns (Property n m at) other second b v (λ x i.
      turn-by loop key (Property n m at) second v x (Flag true)
      (saved-value loop key m at v x i
      ∙ ap Ok (slot-stays ds loop key yes a form.0 form.1 marked v e m x off (λ k. let l = touched-below j a names m k in omega arith) ∙ ap (λ o. cond o (Flag true) (t.node m x)) (eq-eqb m m refl)))
      ∙ second-does (begun (start loop key v x)) x i (start-held loop key v x)
      ∙ sym (turn-by loop key other b v x (second_value x)
      (stays ds loop key yes a form.0 form.1 marked v e other x stable-other
      ∙ certain-value loop key other marked x (and-true (is_certain (n ∷ []) mask) (is_certain (n ∷ []) c) sure-mask sure-c) i)))

  parts : looped loop key mask (If k c a b) marked ≡ in_turn (looped loop key yes a) (looped loop key other b) marked
  parts =
      by-turns mask (Property n m at) (If k c a b) (Then first second) marked parted
      ∙ fission-holds ds pushed loop m key at first second marked knows (when-cut ds n m key at pushed k place first_value second_value ks a b test)
      ∙ ap (λ r. then_with r (looped loop key (Property n m at) second)) (by-turns (Property n m at) yes first a marked first-same)
      ∙ behind (looped loop key yes a marked) refl

-- the law of conditions
pub conditions-part : ConditionsPart
conditions-part = λ j ds pushed loop m key k at place mask c a b knows fresh reads-mask reads-c names-a names-b test stable-mask stable-c.
    same-by j (looped loop key mask (If k c a b)) (in_turn (looped loop key (Both mask c) a) (looped loop key (Both mask (Unary Not place c)) b))
    (loop-same j loop key mask (If k c a b) reads-mask (reads-c, names-a, names-b))
    (same-turns j (looped loop key (Both mask c) a) (looped loop key (Both mask c) a) (looped loop key (Both mask (Unary Not place c)) b) (looped loop key (Both mask (Unary Not place c)) b)
    (loop-same j loop key (Both mask c) a (reads-mask, reads-c) names-a) (loop-same j loop key (Both mask (Unary Not place c)) b (reads-mask, reads-c) names-b))
    (λ t. (
      marked j ds pushed loop m key k at place mask c a b knows fresh reads-mask reads-c names-a test stable-mask stable-c t,
      marked-agrees j ds pushed loop m key k at place mask c a b knows fresh reads-mask reads-c names-a test stable-mask stable-c t,
      parts j ds pushed loop m key k at place mask c a b knows fresh reads-mask reads-c names-a test stable-mask stable-c t,
    ))
