-- The loop of an inner loop that stands alone, under a filter that cannot fault, is what all its edges give.
use Rattle.std.proofs.Common.{◌≡◌, ◌≢◌, ℕ, Bool, true, false, cond, List, [], ◌∷◌, ◌++◌, map, filter, refl, sym, ap, ◌∙◌, Some, Result, Ok, Err, ⊎_elim, inl}
use Rattle.std.specs.Prelude.{◌||◌, not, nat_eq}
use Rattle.std.specs.List.{list_all, list_any}
use Rattle.std.proofs.lemmas.Bool.{cases_Bool, eq-eqb, both_ways}
use Rattle.gm_base.specs.declared.places.Place.{Place}
use Rattle.gm_value.specs.declared.values.Value.{Value}
use Rattle.gm_value.specs.declared.values.Value.TheVariants.{At}
use Rattle.gm_value.specs.Bag.{IsIn}
use Rattle.gm_value.specs.Operations.{is_true}
use Rattle.gm_model.specs.Graphs.{Step, node_count}
use Rattle.gm_ast.specs.declared.tree.Declaration.{Declaration}
use Rattle.gm_ast.specs.declared.tree.Head.{Head}
use Rattle.gm_ast.specs.declared.tree.Key.{Key}
use Rattle.gm_ast.specs.declared.tree.Target.{Target}
use Rattle.gm_ast.specs.declared.tree.Target.TheVariants as T
use Rattle.gm_ast.specs.Program.{Expr, Both, Stmt, Then, Combine, Foreach, If}
use Rattle.gm_ast.specs.Ways.{is_in}
use Rattle.gm_semantics.specs.declared.faults.Fault.{Fault}
use Rattle.gm_semantics.specs.declared.slots.Slot.{Slot}
use Rattle.gm_semantics.specs.declared.slots.Slot.TheVariants.{Scalar, Node}
use Rattle.gm_semantics.specs.Stores.{Store, has_slot, write}
use Rattle.gm_semantics.specs.Levels.{nodes}
use Rattle.gm_semantics.specs.Faults.{least, somes, joined, unless_fault}
use Rattle.gm_semantics.specs.Expressions.{View, evaluated, value, settled, plain, both}
use Rattle.gm_semantics.specs.Contributions.{Contribution, settled_store, total_faults}
use Rattle.gm_semantics.specs.Iterations.{Loop, Iteration, begun, with_ok, one_way, as_it_is, Mode, Outermost, AtEdge, view_in, own_ends, WithOutermost, inner_done, turn_at, does}
use Rattle.gm_semantics.specs.Loops.{iteration, parallel}
use Rattle.gm_semantics.proofs.ContributionLaws.{IsIn-filter}
use Rattle.gm_semantics.proofs.TargetLaws.{never}
use Rattle.gm_forms.specs.Cut.{spares_locals}
use Rattle.gm_forms.specs.Forms.{depth_at, is_range, is_inner_body}
use Rattle.gm_forms.specs.Sharing.{Reduced, written, reduced}
use Rattle.gm_forms.specs.Fission.{elsewhere_of, pushed_properties}
use Rattle.gm_forms.specs.Doing.{EachGiven, IsFlat}
use Rattle.gm_forms.proofs.Named.{both-true, all-append}
use Rattle.gm_forms.proofs.CutTests.{finds}
use Rattle.gm_forms.proofs.Doings.{does-did, each-append, each-in, gave-from}
use Rattle.gm_loop_laws.proofs.Joins.{map-each}
use Rattle.gm_loop_laws.proofs.LoopEnds.{in-joined, loop-ends}
use Rattle.gm_loop_laws.proofs.Locals.{without-locals}
use Rattle.gm_loop_laws.proofs.Splits.{ends_late, is_top, is_late_slot, end_by, compared, split, AllEndSo, BodyEndsSo, split-ok, split-one_way, split-does}
use Rattle.gm_loop_laws.proofs.Givens.{GivenBy, one-given, Free, body-may}
use Rattle.gm_loop_laws.proofs.Alone.{hoists-nothing, settled-nothing, along, steps-at, nodes-below, gives, faults, ended, idle, ended-store, ended-outermost, ended-fault, Stands}

-- the reductions of an inner body to the outer node end with the inner loop, unless the loop pushes the property
own-ends-so : (loop : Loop) (some : List ℕ) → ((p : ℕ) → is_in some p ≡ true → loop.pushed p ≡ true) → (s : Stmt) → list_all (is_in some) (pushed_properties loop.outer s) ≡ true → BodyEndsSo loop loop.outer loop.pushed loop.pushed s
own-ends-so loop some known (Then a b) p = let q = all-append (is_in some) (pushed_properties loop.outer a) (pushed_properties loop.outer b) p in (own-ends-so loop some known a q.0, own-ends-so loop some known b q.1)
own-ends-so loop some known (If k c a b) p = let q = all-append (is_in some) (pushed_properties loop.outer a) (pushed_properties loop.outer b) p in (own-ends-so loop some known a q.0, own-ends-so loop some known b q.1)
own-ends-so loop some known (Combine k total r ts es) p = each ts p
  where
    one : (y q e : ℕ) (b c : Bool) → (b ≡ false → c ≡ true) → cond b (own_ends (AtEdge e) c) WithOutermost ≡ end_by c
    one y q e true true h = refl
    one y q e true false h = refl
    one y q e false true h = refl
    one y q e false false h = never (h refl) refl

    each : (ts : List Target) → list_all (is_in some) (elsewhere_of loop.outer ts) ≡ true → AllEndSo loop loop.outer loop.pushed loop.pushed ts
    each [] p = tt
    each (T.Scalar y at ∷ ts) p = (tt, each ts p)
    each (T.Property y q at ∷ ts) p = by (nat_eq y loop.outer) refl (each ts) p
      where
        by : (b : Bool) → nat_eq y loop.outer ≡ b → (list_all (is_in some) (elsewhere_of loop.outer ts) ≡ true → AllEndSo loop loop.outer loop.pushed loop.pushed ts) → list_all (is_in some) (cond b (elsewhere_of loop.outer ts) (q ∷ elsewhere_of loop.outer ts)) ≡ true → AllEndSo loop loop.outer loop.pushed loop.pushed (T.Property y q at ∷ ts)
        by true is rest p = ((λ e. one y q e (nat_eq y loop.outer) (loop.pushed q) (λ f. never is f)), rest p)
        by false is rest p = let r = both-true _ _ p in ((λ e. one y q e (nat_eq y loop.outer) (loop.pushed q) (λ f. known q r.0)), rest r.1)
own-ends-so loop some known _ p = tt

-- a loop with the inner loop alone in it, which pushes what is in a list
module _ (loop : Loop) (mask : Expr) (held : ℕ → Value) (key k : Key) (h : Head) (test : Expr) (body : Stmt) (s : Store) (saved : (x : ℕ) → IsIn x (nodes loop.graph) → (mode : Mode) (it : Iteration) (j : Key) → it.store.scalar loop.outer ≡ At (Some x) → it.store.node ≡ s.node → ((y : ℕ) → nat_eq loop.outer y ≡ false → nat_eq h.iterator y ≡ false → it.store.scalar y ≡ s.scalar y) → evaluated mask (view_in loop mode it j) ≡ plain (Ok (held x))) (apart : nat_eq h.iterator loop.outer ≡ false) where
  abbrev n : ℕ
  n = loop.outer

  abbrev t : ℕ
  t = h.iterator

  abbrev ks : List ℕ
  ks = nodes loop.graph

  abbrev pub at_outer : ℕ → Store
  at_outer x = write s (Scalar n) (At (Some x))

  abbrev pub at_both : ℕ → ℕ → Store
  at_both x y = write (at_outer x) (Scalar t) (At (Some y))

  abbrev seen : ℕ → ℕ → ℕ → View
  seen x y e = view_in loop (AtEdge e) (begun (at_both x y)) k

  -- what is done where the filters let it pass, with all reductions late
  abbrev passed : ℕ → ℕ → ℕ → Value → Iteration
  passed x y e v = one_way (is_true v) (does body (AtEdge e) (ends_late loop)) as_it_is (begun (at_both x y))

  -- the turn along an edge from x to y, under the saved filter and the loop's own
  abbrev pub turn : ℕ → ℕ → ℕ → Iteration
  turn x y e = with_ok (begun (at_both x y)) (value (Both mask test) (seen x y e)) (passed x y e)

  pub outer-held : (x : ℕ) → (at_outer x).scalar n ≡ At (Some x)
  outer-held x = ap (λ b. cond b (At (Some x)) (s.scalar n)) (eq-eqb n n refl)

  outer-rest : (x z : ℕ) → nat_eq n z ≡ false → (at_outer x).scalar z ≡ s.scalar z
  outer-rest x z e = ap (λ b. cond b (At (Some x)) (s.scalar z)) e

  both-rest : (x y z : ℕ) → nat_eq n z ≡ false → nat_eq t z ≡ false → (at_both x y).scalar z ≡ s.scalar z
  both-rest x y z e f = ap (λ b. cond b (At (Some y)) ((at_outer x).scalar z)) f ∙ outer-rest x z e

  both-held : (x y : ℕ) → (at_both x y).scalar n ≡ At (Some x)
  both-held x y = ap (λ b. cond b (At (Some y)) ((at_outer x).scalar n)) apart ∙ outer-held x

  module _ (flat-test : IsFlat test) where
    both-values : (x y e : ℕ) → IsIn x ks → value (Both mask test) (seen x y e) ≡ cond (is_true (held x)) (evaluated test (seen x y e)).rest (Ok (held x))
    both-values x y e i =
        ap (λ a. settled (both a (evaluated test (seen x y e)))) (saved x i (AtEdge e) (begun (at_both x y)) k (both-held x y) refl (both-rest x y))
        ∙ ap (λ o. unless_fault o (cond (is_true (held x)) (evaluated test (seen x y e)).rest (Ok (held x)))) (hoists-nothing loop (AtEdge e) (begun (at_both x y)) k test flat-test)

    own-value : (x y e : ℕ) → value test (seen x y e) ≡ (evaluated test (seen x y e)).rest
    own-value x y e = ap (λ o. unless_fault o (evaluated test (seen x y e)).rest) (hoists-nothing loop (AtEdge e) (begun (at_both x y)) k test flat-test)

    turn-passed : (x y e : ℕ) → IsIn x ks → is_true (held x) ≡ true → turn x y e ≡ with_ok (begun (at_both x y)) (value test (seen x y e)) (passed x y e)
    turn-passed x y e i is =
        ap (λ r. with_ok (begun (at_both x y)) r (passed x y e))
        (both-values x y e i ∙ ap (λ b. cond b (evaluated test (seen x y e)).rest (Ok (held x))) is ∙ sym (own-value x y e))

    turn-blocked : (x y e : ℕ) → IsIn x ks → is_true (held x) ≡ false → turn x y e ≡ begun (at_both x y)
    turn-blocked x y e i is =
        ap (λ r. with_ok (begun (at_both x y)) r (passed x y e)) (both-values x y e i ∙ ap (λ b. cond b (evaluated test (seen x y e)).rest (Ok (held x))) is)
        ∙ ap (λ b. one_way b (does body (AtEdge e) (ends_late loop)) as_it_is (begun (at_both x y))) is

  -- a turn of a loop with other ends
  pub turn-split : (outer : ℕ) (pushed pp : ℕ → Bool) → BodyEndsSo loop outer pushed pp body → (st : Store) (e : ℕ) (r : Result Value Fault) →
      with_ok (begun st) r (λ v. one_way (is_true v) (does body (AtEdge e) (compared loop outer pushed pp)) as_it_is (begun st))
      ≡ split loop outer pushed pp (with_ok (begun st) r (λ v. one_way (is_true v) (does body (AtEdge e) (ends_late loop)) as_it_is (begun st)))
  turn-split outer pushed pp so st e r =
      split-ok loop outer pushed pp (begun st) r _ (λ v. one_way (is_true v) (does body (AtEdge e) (ends_late loop)) as_it_is (begun st))
      (λ v. split-one_way loop outer pushed pp (is_true v) (does body (AtEdge e) (compared loop outer pushed pp)) as_it_is (does body (AtEdge e) (ends_late loop)) as_it_is (begun st) (split-does loop outer pushed pp body e (begun st) so) refl)

module _ (ds : List Declaration) (some : List ℕ) (loop : Loop) (depths : (y : ℕ) → loop.depth y ≡ depth_at ds y) (known : (p : ℕ) → is_in some p ≡ true → loop.pushed p ≡ true)
    (mask : Expr) (held : ℕ → Value) (key k : Key) (here : Place) (h : Head) (test : Expr) (body : Stmt) (s : Store) (saved : (x : ℕ) → IsIn x (nodes loop.graph) → (mode : Mode) (it : Iteration) (j : Key) → it.store.scalar loop.outer ≡ At (Some x) → it.store.node ≡ s.node → ((y : ℕ) → nat_eq loop.outer y ≡ false → nat_eq h.iterator y ≡ false → it.store.scalar y ≡ s.scalar y) → evaluated mask (view_in loop mode it j) ≡ plain (Ok (held x))) (apart : nat_eq h.iterator loop.outer ≡ false) (owner : h.owner ≡ loop.outer) (range : is_range false h.domain ≡ true)
    (flat-test : IsFlat test) (its : List ℕ) (inner-body : is_inner_body ds its true body ≡ true) (alone : Stands ds some loop.outer body) where
  abbrev n' : ℕ
  n' = loop.outer

  abbrev ks' : List ℕ
  ks' = nodes loop.graph

  abbrev pub RD : List Reduced
  RD = reduced ds n' true body

  abbrev pub turn_at_edge : ℕ → ℕ → ℕ → Iteration
  turn_at_edge x y e = turn loop mask held key k h test body s saved apart x y e

  abbrev pub Spares : Type 0
  Spares = spares_locals ds body ≡ true

  abbrev pub By : ℕ → Contribution → Type 0
  By x c = GivenBy ds loop depths some loop.pushed known RD Spares x c

  -- a turn gives what its body may give
  pub turn-given : (x y e : ℕ) → EachGiven (By x) (turn_at_edge x y e).with_outermost
  turn-given x y e = by (value (Both mask test) (view_in loop (AtEdge e) (begun (at_both loop mask held key k h test body s saved apart x y)) k))
    where
      one : (b : Bool) → EachGiven (By x) (one_way b (does body (AtEdge e) (ends_late loop)) as_it_is (begun (at_both loop mask held key k h test body s saved apart x y))).with_outermost
      one true =
          gave-from (By x) _
          (does-did (λ c. ⊥) (By x) (Free ds loop depths some loop.pushed known RD Spares x) n' x (λ c a. absurd a) (λ c a. absurd a) [] body _ (λ c a. absurd a) (AtEdge e) (ends_late loop) (begun (at_both loop mask held key k h test body s saved apart x y)) (inl (λ f. tt))
          (body-may ds loop depths some loop.pushed known RD Spares x body e its inner-body off (λ r i. i) alone.pushes alone.alike (λ u. u)) (both-held loop mask held key k h test body s saved apart x y) refl).0.outermost
        where
          off : (y : ℕ) → IsIn y (written ds n' true body) → y ≢ n'
          off y i e = both_ways (is_in (written ds n' true body) n') alone.iterator (ap (is_in (written ds n' true body)) (sym e) ∙ finds (written ds n' true body) y i)
      one false = tt

      by : (r : Result Value Fault) → EachGiven (By x) (with_ok (begun (at_both loop mask held key k h test body s saved apart x y)) r (λ v. one_way (is_true v) (does body (AtEdge e) (ends_late loop)) as_it_is (begun (at_both loop mask held key k h test body s saved apart x y)))).with_outermost
      by (Ok v) = one (is_true v)
      by (Err f) = tt

  pub each-gives : (Q : Contribution → Type 0) (f : Step → Iteration) (steps : List Step) → ((e : Step) → EachGiven Q (f e).with_outermost) → EachGiven Q (gives f steps)
  each-gives Q f [] g = tt
  each-gives Q f (e ∷ steps) g = each-append Q (f e).with_outermost (gives f steps) (g e) (each-gives Q f steps g)

  -- what an iteration gives, and how it faults
  abbrev pub out_turn : ℕ → Step → Iteration
  out_turn x e = turn_at_edge x e.node e.edge

  abbrev pub out_gives : ℕ → List Contribution
  out_gives x = gives (out_turn x) (along h.domain loop.graph x)

  abbrev pub out_faults : ℕ → List Fault
  out_faults x = faults (out_turn x) (along h.domain loop.graph x)

  pub out-by : (x : ℕ) (c : Contribution) → IsIn c (out_gives x) → By x c
  out-by x c i = each-in (By x) (out_gives x) c (each-gives (By x) (out_turn x) (along h.domain loop.graph x) (λ e. turn-given x e.node e.edge)) i

  abbrev stmt : Stmt
  stmt = Foreach k here h test body

  abbrev run : ℕ → Iteration
  run x = iteration loop key mask stmt s x

  -- the loop's iteration ends its inner loop by those turns
  run-ended : (x : ℕ) → IsIn x ks' → run x ≡ ended loop n' loop.pushed loop.pushed (at_outer loop mask held key k h test body s saved apart x) (out_turn x) (along h.domain loop.graph x)
  run-ended x i =
      ap (λ v. with_ok (begun (at_outer loop mask held key k h test body s saved apart x)) (settled v) (λ v. one_way (is_true v) (does stmt Outermost loop) as_it_is (begun (at_outer loop mask held key k h test body s saved apart x))))
      (saved x i Outermost (begun (at_outer loop mask held key k h test body s saved apart x)) key (outer-held loop mask held key k h test body s saved apart x) refl (λ z e f. outer-rest loop mask held key k h test body s saved apart x z e))
      ∙ by (is_true (held x)) refl
    where
      so : BodyEndsSo loop n' loop.pushed loop.pushed body
      so = own-ends-so loop some known body alone.pushes

      passes : is_true (held x) ≡ true → (e : Step) → turn_at loop (AtEdge e.edge) k test (does body (AtEdge e.edge) loop) h.iterator e.node (at_outer loop mask held key k h test body s saved apart x) ≡ split loop n' loop.pushed loop.pushed (out_turn x e)
      passes is e =
          turn-split loop mask held key k h test body s saved apart n' loop.pushed loop.pushed so (at_both loop mask held key k h test body s saved apart x e.node) e.edge (value test (view_in loop (AtEdge e.edge) (begun (at_both loop mask held key k h test body s saved apart x e.node)) k))
          ∙ ap (split loop n' loop.pushed loop.pushed) (sym (turn-passed loop mask held key k h test body s saved apart flat-test x e.node e.edge i is))

      by : (b : Bool) → is_true (held x) ≡ b → one_way b (does stmt Outermost loop) as_it_is (begun (at_outer loop mask held key k h test body s saved apart x)) ≡ ended loop n' loop.pushed loop.pushed (at_outer loop mask held key k h test body s saved apart x) (out_turn x) (along h.domain loop.graph x)
      by true is =
          ap (λ l. inner_done (begun (at_outer loop mask held key k h test body s saved apart x)) (map (λ step. turn_at loop (AtEdge step.edge) k test (does body (AtEdge step.edge) loop) h.iterator step.node (at_outer loop mask held key k h test body s saved apart x)) l))
          (steps-at h (view_in loop Outermost (begun (at_outer loop mask held key k h test body s saved apart x)) k) n' x owner (outer-held loop mask held key k h test body s saved apart x) (nodes-below loop.graph x i) range)
          ∙ ap (inner_done (begun (at_outer loop mask held key k h test body s saved apart x))) (map-each _ (λ e. split loop n' loop.pushed loop.pushed (out_turn x e)) (along h.domain loop.graph x) (λ e j. passes is e))
      by false is =
          sym
          (ap (inner_done (begun (at_outer loop mask held key k h test body s saved apart x)))
          (map-each (λ e. split loop n' loop.pushed loop.pushed (out_turn x e)) (λ e. begun (at_both loop mask held key k h test body s saved apart x e.node)) (along h.domain loop.graph x)
          (λ e j. ap (split loop n' loop.pushed loop.pushed) (turn-blocked loop mask held key k h test body s saved apart flat-test x e.node e.edge i is)))
          ∙ idle (at_outer loop mask held key k h test body s saved apart x) (λ e. at_both loop mask held key k h test body s saved apart x e.node) (along h.domain loop.graph x))

  pub out-one : (c d : Contribution) (x z : ℕ) → IsIn c (out_gives x) → IsIn d (out_gives z) → (slot : Slot) → has_slot slot c.slots ≡ true → has_slot slot d.slots ≡ true → (c.reduce ≡ d.reduce) × (c.slots ≡ d.slots)
  out-one c d x z i j slot a b = one-given ds loop depths some loop.pushed known RD Spares alone.one x z c d slot (out-by x c i) (out-by z d j) a b

  -- what does not go to locals of the outer body
  abbrev pub keep : Slot → Bool
  keep slot = is_late_slot loop.depth (λ p. true) slot

  abbrev pub is_kept : Contribution → Bool
  is_kept c = list_any keep c.slots

  abbrev pub out_kept : ℕ → List Contribution
  out_kept x = filter is_kept (out_gives x)

  -- what does, of which the faults of its totals are left
  abbrev pub out_locals : ℕ → List Contribution
  out_locals x = filter (λ c. not (is_kept c)) (out_gives x)

  abbrev pub out_kept_faults : ℕ → List Fault
  out_kept_faults x = out_faults x ++ total_faults (at_outer loop mask held key k h test body s saved apart x) (out_locals x)

  late-kept : (slots : List Slot) → list_any (is_late_slot loop.depth loop.pushed) slots ≡ true → list_any keep slots ≡ true
  late-kept [] f = f
  late-kept (Scalar y ∷ slots) f = by (is_top (loop.depth y)) (late-kept slots) f
    where
      by : (b : Bool) → (list_any (is_late_slot loop.depth loop.pushed) slots ≡ true → list_any keep slots ≡ true) → b || list_any (is_late_slot loop.depth loop.pushed) slots ≡ true → b || list_any keep slots ≡ true
      by true rest f = refl
      by false rest f = rest f
  late-kept (Node p l ∷ slots) f = refl

  node-kept : (p l : ℕ) (slots : List Slot) → has_slot (Node p l) slots ≡ true → list_any keep slots ≡ true
  node-kept p l [] f = f
  node-kept p l (Scalar y ∷ slots) f = by (is_top (loop.depth y)) (node-kept p l slots f)
    where
      by : (b : Bool) → list_any keep slots ≡ true → b || list_any keep slots ≡ true
      by true e = refl
      by false e = e
  node-kept p l (Node q j ∷ slots) f = refl

  -- the loop is what all its edges give
  pub pulled : parallel loop key mask stmt ks' s ≡ unless_fault (least (joined (map out_kept_faults ks') ++ total_faults s (joined (map out_kept ks')))) (Ok (settled_store s (joined (map out_kept ks'))))
  pulled =
      loop-ends s (node_count loop.graph) (is_late_slot loop.depth loop.pushed) (at_outer loop mask held key k h test body s saved apart) out_kept out_kept_faults
      (record {
        owns = λ x c i f. let r = IsIn-filter is_kept c (out_gives x) i in (out-by x c r.0).own r.1 f;
        one = λ c d slot i j a b.
            let p = in-joined c out_kept ks' i in
            let q = in-joined d out_kept ks' j in
            out-one c d p.0 q.0 (IsIn-filter is_kept c (out_gives p.0) p.2).0 (IsIn-filter is_kept d (out_gives q.0) q.2).0 slot a b;
        begins = λ x. refl;
      })
      run
      (without-locals s (node_count loop.graph) (is_late_slot loop.depth loop.pushed) keep (at_outer loop mask held key k h test body s saved apart) out_gives out_faults
      (λ c f. late-kept c.slots f)
      (λ x c d slot i j a b. out-one c d x x i j slot a b)
      (λ x c i f p l. ⊎_elim (λ (has : has_slot (Node p l) c.slots ≡ true). never (node-kept p l c.slots has) f) (λ e. e) (cases_Bool (has_slot (Node p l) c.slots)))
      run
      (record {
        node = λ x i p. ap (λ it. it.store.node p x) (run-ended x i) ∙ ap (λ t. t.node p x) (ended-store loop n' loop.pushed loop.pushed (at_outer loop mask held key k h test body s saved apart x) (out_turn x) (along h.domain loop.graph x));
        outermost = λ x i. ap (λ it. it.with_outermost) (run-ended x i) ∙ ended-outermost loop n' loop.pushed loop.pushed (at_outer loop mask held key k h test body s saved apart x) (out_turn x) (along h.domain loop.graph x);
        deferred = λ x i. ap (λ it. it.deferred) (run-ended x i);
        fault = λ x i. ap (λ it. it.fault) (run-ended x i) ∙ ended-fault loop n' loop.pushed loop.pushed (at_outer loop mask held key k h test body s saved apart x) (out_turn x) (along h.domain loop.graph x);
      }))
