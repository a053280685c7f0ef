-- What reductions to properties of a receiver leave.
use Rattle.std.proofs.Common.{◌≡◌, inl, inr, ℕ, Bool, true, false, Some, None, Result, Ok, Err, List, [], ◌∷◌, ◌++◌, refl, ap, ◌∙◌, sym, subst, ⊎_elim}
use Rattle.std.specs.Prelude.{◌&&◌, nat_eq}
use Rattle.std.specs.List.{list_all}
use Rattle.std.proofs.lemmas.Bool.{both_ways, eq-eqb}
use Rattle.gm_value.specs.declared.values.Value.{Value}
use Rattle.gm_value.specs.declared.reductions.Reduce.{Reduce}
use Rattle.gm_value.specs.Bag.{IsIn}
use Rattle.gm_ast.specs.declared.tree.Key.{Key}
use Rattle.gm_ast.specs.declared.tree.Target.{Target}
use Rattle.gm_ast.specs.declared.tree.Target.TheVariants as T
use Rattle.gm_ast.specs.declared.tree.TotalKey.{TotalKey}
use Rattle.gm_ast.specs.Program as S
use Rattle.gm_ast.specs.Program.{Expr, Stmt}
use Rattle.gm_forms.proofs.Named.{both-true}
use Rattle.gm_semantics.specs.declared.faults.Fault.{Fault}
use Rattle.gm_semantics.specs.declared.slots.Slot.{Slot}
use Rattle.gm_semantics.specs.declared.slots.Slot.TheVariants as slots
use Rattle.gm_semantics.specs.Contributions.{Contribution}
use Rattle.gm_semantics.specs.Expressions.{evaluated_all}
use Rattle.gm_semantics.specs.Faults.{then_with}
use Rattle.gm_semantics.specs.Iterations.{Loop, Mode, Iteration, view_in, with_ok, contribution, gave_outermost, reduced, does}
use Rattle.gm_semantics.specs.Levels.{node_in}
use Rattle.gm_lowering.specs.Layouts.{Layout}
use Rattle.gm_lowering.specs.Places.{Spot, spots_in_all, spot_of_total}
use Rattle.gm_lowering.specs.Plans.{way_of}
use Rattle.gm_lowering.specs.Bodies.{reduce_spots}
use Rattle.gm_lowering.specs.MessageLoops.{is_to_scalars}
use Rattle.gm_lowering.specs.OwnLoops.{folds_to}
use Rattle.gm_lowering.specs.Settles.{HasSpot, is_some_list}
use Rattle.gm_lowering.specs.Sites.{are_of_scalars, finds, same_length, is_local, is_body}
use Rattle.gm_lowering.proofs.Givens.{assigned-is, node_slots, are_kept, node-slots, folds-way, here_at}
use Rattle.gm_lowering.proofs.Kept.{Gives}
use Rattle.gm_lowering.proofs.PutFacts.{here, IsPut}
use Rattle.gm_lowering.proofs.Receivers.{nodes-end}
use Rattle.gm_lowering.proofs.Spots.{Within, Has, HoldNodes, Left, AllRead, all-read, all-within, all-hoist_nothing, within-left}

-- a contribution in a handler at a node: to scalars of the procedure, or to properties of the node
pub record IsReceived (c : Layout) (j : ℕ) (spots : List Spot) (x : Contribution) : Type 0 where
  pub scalars : is_to_scalars x ≡ true → list_all (here c) x.slots ≡ true
  pub nodes : is_to_scalars x ≡ false → list_all (here_at c j) x.slots ≡ true
  pub not_empty : is_some_list x.slots ≡ true
  pub spotted : HasSpot (spot_of_total x.total) spots

-- what is put is received
pub put-received : (c : Layout) (j : ℕ) (spots : List Spot) (x : Contribution) → IsPut c spots x → IsReceived c j spots x
put-received c j spots x h = record {
  scalars = λ e. h.here_all;
  nodes = λ e. absurd (scalar-first x.slots h.here_all h.not_empty e);
  not_empty = h.not_empty;
  spotted = h.spotted;
} where
  scalar-first : (xs : List Slot) → list_all (here c) xs ≡ true → is_some_list xs ≡ true → are_of_scalars xs ≡ false → ⊥
  scalar-first [] o s e = both_ways false refl s
  scalar-first (slots.Scalar y ∷ ys) o s e = both_ways false refl (sym e)
  scalar-first (slots.Node y z ∷ ys) o s e = both_ways false refl o

pub kept-here : (c : Layout) (i j : ℕ) (ts : List Target) → are_kept c i ts ≡ true → list_all (here_at c j) (node_slots j ts) ≡ true
kept-here c i j [] h = refl
kept-here c i j (T.Scalar x at ∷ ts) h = absurd (both_ways false refl h)
kept-here c i j (T.Property x p at ∷ ts) h =
    let q = both-true (nat_eq x i && c.is_kept p) (are_kept c i ts) h in
    ap (λ b. (b && c.is_kept p) && list_all (here_at c j) (node_slots j ts)) (eq-eqb j j refl)
    ∙ ap (λ b. b && list_all (here_at c j) (node_slots j ts)) (both-true (nat_eq x i) (c.is_kept p) q.0).1
    ∙ kept-here c i j ts q.1

-- a weaker test of a body
pub body-weaker : (c : Layout) (found other : Expr → Bool) (sets : ℕ → ℕ → Bool) (gives more : Reduce → List Target → List Expr → Bool) → ((e : Expr) → found e ≡ true → other e ≡ true)
    → ((r : Reduce) (ts : List Target) (es : List Expr) → gives r ts es ≡ true → more r ts es ≡ true) → (st : Stmt) → is_body c found sets gives st ≡ true → is_body c other sets more st ≡ true
body-weaker c found other sets gives more f g S.Skip h = h
body-weaker c found other sets gives more f g (S.Then a b) h =
    let q = both-true (is_body c found sets gives a) (is_body c found sets gives b) h in
    ap (λ x. x && is_body c other sets more b) (body-weaker c found other sets gives more f g a q.0) ∙ body-weaker c found other sets gives more f g b q.1
body-weaker c found other sets gives more f g (S.Declare k x None) h = h
body-weaker c found other sets gives more f g (S.Declare k x (Some e)) h =
    let q = both-true (is_local c x) (found e) h in ap (λ b. b && other e) q.0 ∙ f e q.1
body-weaker c found other sets gives more f g (S.DeclareEdge x y at) h = h
body-weaker c found other sets gives more f g (S.Assign k (T.Scalar x at) e) h =
    let q = both-true (is_local c x) (found e) h in ap (λ b. b && other e) q.0 ∙ f e q.1
body-weaker c found other sets gives more f g (S.Assign k (T.Property x p at) e) h =
    let q = both-true (sets x p) (found e) h in ap (λ b. b && other e) q.0 ∙ f e q.1
body-weaker c found other sets gives more f g (S.Combine k total r ts es) h = g r ts es h
body-weaker c found other sets gives more f g (S.If k e a b) h =
    let q = both-true (found e) (is_body c found sets gives a && is_body c found sets gives b) h in
    let u = both-true (is_body c found sets gives a) (is_body c found sets gives b) q.1 in
    ap (λ x. x && (is_body c other sets more a && is_body c other sets more b)) (f e q.0)
    ∙ ap (λ x. x && is_body c other sets more b) (body-weaker c found other sets gives more f g a u.0)
    ∙ body-weaker c found other sets gives more f g b u.1
body-weaker c found other sets gives more f g (S.Defer k t e) h = absurd (both_ways false refl h)
body-weaker c found other sets gives more f g (S.Group k at x p e) h = absurd (both_ways false refl h)
body-weaker c found other sets gives more f g (S.Foreach k at hd e a) h = absurd (both_ways false refl h)
body-weaker c found other sets gives more f g (S.For k at hd e a) h = absurd (both_ways false refl h)
body-weaker c found other sets gives more f g (S.While k at e a) h = absurd (both_ways false refl h)
body-weaker c found other sets gives more f g (S.Do k at a e) h = absurd (both_ways false refl h)
body-weaker c found other sets gives more f g (S.InBfs k at x e a) h = absurd (both_ways false refl h)
body-weaker c found other sets gives more f g (S.InBfsBoth k at x e a j d b) h = absurd (both_ways false refl h)
body-weaker c found other sets gives more f g (S.Return k at e) h = absurd (both_ways false refl h)

module _ (c : Layout) (its : List ℕ) (edge : Bool) (i j : ℕ) (loop : Loop) (m : Mode) (home : ℕ → ℕ) (apart : nat_eq i loop.outer ≡ false) where
  -- a reduction that folds gives its values
  does-fold : (k : Key) (total : TotalKey) (r : Reduce) (t : Target) (ts : List Target) (es : List Expr) (it : Iteration) → are_kept c i (t ∷ ts) ≡ true → AllRead (view_in loop m it k) es
      → node_in loop.graph (it.store.scalar i) ≡ Some j
      → does (S.Combine k total r (t ∷ ts) es) m loop it ≡ with_ok it (then_with (evaluated_all es (view_in loop m it k)).rest (λ xs. Ok (node_slots j (t ∷ ts), xs))) (λ p. gave_outermost it (contribution total r p))
  does-fold k total r t ts es it o a e =
      let u = view_in loop m it k in
      ap (λ z. reduced z u it total r (t ∷ ts) es) (nodes-end c loop m i t ts apart o)
      ∙ ap (λ z. with_ok it z (λ p. gave_outermost it (contribution total r p))) (assigned-is u (t ∷ ts) (evaluated_all es u) (node_slots j (t ∷ ts)) (all-hoist_nothing u es refl a) (node-slots c i j u (t ∷ ts) o e))

  fold-left-by : (total : TotalKey) (r : Reduce) (ss : List Slot) (answer : Result (List Value) Fault) (it : Iteration) (xs ys : List Spot) → it.fault ≡ None → HoldNodes loop.graph its home it → Within answer xs
      → Left c its edge loop m home (with_ok it (then_with answer (λ vs. Ok (ss, vs))) (λ p. gave_outermost it (contribution total r p))) (xs ++ ys)
  fold-left-by total r ss (Ok vs) it xs ys n h a = (subst (λ o. Has o (xs ++ ys)) (sym n) tt, h)
  fold-left-by total r ss (Err f) it xs ys n h a = (within-left {A = List Value} (Err f) xs ys a, h)

  pub fold-left : (k : Key) (total : TotalKey) (r : Reduce) (ts : List Target) (es : List Expr) (it : Iteration) → folds_to c i (finds c its edge) r ts es ≡ true → it.fault ≡ None → HoldNodes loop.graph its home it
      → node_in loop.graph (it.store.scalar i) ≡ Some j
      → Left c its edge loop m home (does (S.Combine k total r ts es) m loop it) (spots_in_all es k ++ reduce_spots false its (way_of c.declarations i ts) k total ts)
  fold-left k total r [] es it o n h e = absurd (both_ways false refl o)
  fold-left k total r (t ∷ ts) es it o n h e =
      let x = both-true (are_kept c i (t ∷ ts)) (same_length (t ∷ ts) es && list_all (finds c its edge) es) o in
      let y = both-true (same_length (t ∷ ts) es) (list_all (finds c its edge) es) x.1 in
      let a = all-read c its edge loop m home it k es y.1 h in
      subst (λ out. Left c its edge loop m home out (spots_in_all es k ++ reduce_spots false its (way_of c.declarations i (t ∷ ts)) k total (t ∷ ts))) (sym (does-fold k total r t ts es it x.0 a e))
      (fold-left-by total r (node_slots j (t ∷ ts)) (evaluated_all es (view_in loop m it k)).rest it (spots_in_all es k) (reduce_spots false its (way_of c.declarations i (t ∷ ts)) k total (t ∷ ts)) n h (all-within (view_in loop m it k) es a))

  fold-gives-by : (Good : Contribution → Type 0) (total : TotalKey) (r : Reduce) (ss : List Slot) (answer : Result (List Value) Fault) (it : Iteration)
      → ((vs : List Value) → Good (contribution total r (ss, vs))) → Gives Good it
      → Gives Good (with_ok it (then_with answer (λ vs. Ok (ss, vs))) (λ p. gave_outermost it (contribution total r p)))
  fold-gives-by Good total r ss (Ok vs) it good h = record { outermost = λ x z. last it.with_outermost x h.outermost z; inner = h.inner } where
    last : (xs : List Contribution) (x : Contribution) → ((y : Contribution) → IsIn y xs → Good y) → IsIn x (xs ++ contribution total r (ss, vs) ∷ []) → Good x
    last [] x g z = ⊎_elim (λ (e : x ≡ contribution total r (ss, vs)). subst Good (sym e) (good vs)) (λ (w : ⊥). absurd w) z
    last (y ∷ xs) x g z = ⊎_elim (λ (e : x ≡ y). g x (inl e)) (λ (w : IsIn x (xs ++ contribution total r (ss, vs) ∷ [])). last xs x (λ a b. g a (inr b)) w) z
  fold-gives-by Good total r ss (Err f) it good h = record { outermost = h.outermost; inner = h.inner }

  pub fold-gives : (all : List Spot) (Good : Contribution → Type 0) → ((y : Contribution) → IsReceived c j all y → Good y) → (k : Key) (total : TotalKey) (r : Reduce) (ts : List Target) (es : List Expr) (it : Iteration) → folds_to c i (finds c its edge) r ts es ≡ true → HoldNodes loop.graph its home it
      → node_in loop.graph (it.store.scalar i) ≡ Some j
      → ((f : Spot) → HasSpot f (reduce_spots false its (way_of c.declarations i ts) k total ts) → HasSpot f all)
      → Gives Good it → Gives Good (does (S.Combine k total r ts es) m loop it)
  fold-gives all Good of k total r [] es it o n e z h = absurd (both_ways false refl o)
  fold-gives all Good of k total r (t ∷ ts) es it o n e z h =
      let x = both-true (are_kept c i (t ∷ ts)) (same_length (t ∷ ts) es && list_all (finds c its edge) es) o in
      let y = both-true (same_length (t ∷ ts) es) (list_all (finds c its edge) es) x.1 in
      let a = all-read c its edge loop m home it k es y.1 n in
      let spot : HasSpot (spot_of_total total) all = z (spot_of_total total) (subst (λ w. HasSpot (spot_of_total total) (reduce_spots false its w k total (t ∷ ts))) (sym (folds-way c i t ts x.0)) (inl refl)) in
      subst (Gives Good) (sym (does-fold k total r t ts es it x.0 a e))
      (fold-gives-by Good total r (node_slots j (t ∷ ts)) (evaluated_all es (view_in loop m it k)).rest it
      (λ vs. of (contribution total r (node_slots j (t ∷ ts), vs)) (record { scalars = λ b. absurd (both_ways (are_of_scalars (node_slots j (t ∷ ts))) (not-scalars t ts x.0) b); nodes = λ b. kept-here c i j (t ∷ ts) x.0; not_empty = some-slots t ts x.0; spotted = spot })) h) where
        not-scalars : (t : Target) (ts : List Target) → are_kept c i (t ∷ ts) ≡ true → are_of_scalars (node_slots j (t ∷ ts)) ≡ false
        not-scalars (T.Property x p at) ts h = refl
        not-scalars (T.Scalar x at) ts h = absurd (both_ways false refl h)

        some-slots : (t : Target) (ts : List Target) → are_kept c i (t ∷ ts) ≡ true → is_some_list (node_slots j (t ∷ ts)) ≡ true
        some-slots (T.Property x p at) ts h = refl
        some-slots (T.Scalar x at) ts h = absurd (both_ways false refl h)
