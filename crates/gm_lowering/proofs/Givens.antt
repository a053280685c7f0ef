-- What reductions give: values of several expressions, and the slots of targets.
use Rattle.std.proofs.Common.{◌≡◌, ℕ, Bool, true, false, None, Result, Ok, Err, List, [], ◌∷◌, ◌++◌, map, refl, ap, ◌∙◌, sym, subst, Some, ◌<◌}
use Rattle.std.specs.Prelude.{◌||◌, nat_eq, ◌&&◌, if◌then◌else◌}
use Rattle.std.specs.List.{list_all, list_any}
use Rattle.std.proofs.lemmas.Bool.{both_ways, eqb-true, lt-ltb}
use Rattle.gm_value.specs.declared.values.Value.{Value}
use Rattle.gm_value.specs.declared.reductions.Reduce.{Reduce}
use Rattle.gm_ast.specs.declared.tree.Key.{Key}
use Rattle.gm_ast.specs.declared.tree.Sort.TheVariants as Sorts
use Rattle.gm_ast.specs.declared.tree.Target.{Target}
use Rattle.gm_ast.specs.declared.tree.Target.TheVariants as T
use Rattle.gm_ast.specs.declared.tree.TotalKey.{TotalKey}
use Rattle.gm_ast.specs.declared.tree.Variable.{Variable}
use Rattle.gm_ast.specs.Names.{is}
use Rattle.gm_ast.specs.Program as S
use Rattle.gm_ast.specs.Program.{Expr}
use Rattle.gm_forms.proofs.Named.{both-true}
use Rattle.gm_semantics.specs.Statements.{variable_at}
use Rattle.gm_semantics.specs.declared.faults.Fault.{Fault}
use Rattle.gm_semantics.specs.declared.slots.Slot.{Slot}
use Rattle.gm_semantics.specs.declared.slots.Slot.TheVariants.{Scalar, Node}
use Rattle.gm_semantics.specs.Contributions.{Contribution}
use Rattle.gm_semantics.specs.Faults.{first, then_with, unless_fault}
use Rattle.gm_semantics.specs.Expressions.{View, AllEvaluated, evaluated, evaluated_all, node_held}
use Rattle.gm_semantics.specs.Iterations.{Loop, Mode, Iteration, Ends, AtOnce, WithOutermost, view_in, failed, with_ok, slots_of, scalar_ends, ends_of_all, later, assigned_all, contribution, gave_outermost, reduced, does}
use Rattle.gm_image.specs.Term.{Term}
use Rattle.gm_image.specs.Parts as parts
use Rattle.gm_image.specs.Program as image
use Rattle.gm_image.specs.Program.{Line, Put}
use Rattle.gm_machine.specs.Faults.{then_go}
use Rattle.gm_machine.specs.Expressions.{View as VertexView, values}
use Rattle.gm_machine.specs.Taking.{Contribution as Given, contributed}
use Rattle.gm_machine.specs.Vertex.{VertexContext, VertexState, After, view, gives, line_after, line_ends, leaves, goes_on}
use Rattle.gm_lowering.specs.Layouts.{Layout, is_global, is_scalar_of}
use Rattle.gm_lowering.specs.Terms.{Env, term}
use Rattle.gm_lowering.specs.Bodies.{slot_number, image_targets}
use Rattle.gm_lowering.specs.Showing.{answer_of, Tells}
use Rattle.gm_lowering.specs.Sites.{are_of_scalars, same_length, slot_at, given}
use Rattle.gm_lowering.proofs.Terms.{then-same, rest-term, hoisted-parallel}
use Rattle.gm_lowering.proofs.Bodies.{Ends as Ending}
use Rattle.gm_semantics.specs.Levels.{node_in}
use Rattle.gm_lowering.specs.OwnLoops.{is_kept_property}
use Rattle.gm_lowering.specs.Plans.{Folds, Sends, Picks, is_property_of, is_property_off, way_of}
use Rattle.gm_value.specs.declared.values.Value.TheVariants.{At}
use Rattle.gm_model.specs.Graphs.{NumberedGraph, node_count}

-- all leaves of several expressions are told
abbrev pub AllTell : Env → View → VertexView → List Expr → Type 0
AllTell v w m [] = Unit {0}
AllTell v w m (e ∷ es) = Tells v w m e × AllTell v w m es

-- the values of several expressions are those of their terms
pub values-all : (v : Env) (w : View) (m : VertexView) (es : List Expr) → AllTell v w m es
    → values m (map (term v w.key) es) ≡ answer_of v (evaluated_all es w).rest
values-all v w m [] t = refl
values-all v w m (e ∷ es) t =
    then-same v (evaluated e w).rest _ _ _ (rest-term v w m e t.0) (λ x. then-same v (evaluated_all es w).rest _ _ _ (values-all v w m es t.1) (λ xs. refl))

-- nothing of them is hoisted in parallel code
pub none-hoisted : (v : Env) (w : View) (m : VertexView) (es : List Expr) → w.parallel ≡ true → AllTell v w m es → (evaluated_all es w).hoisted ≡ None
none-hoisted v w m [] p t = refl
none-hoisted v w m (e ∷ es) p t =
    ap (λ x. first x (evaluated_all es w).hoisted) (hoisted-parallel v w m e p t.0) ∙ none-hoisted v w m es p t.1

-- the values and the slots of a reduction's targets
pub terms-of : (c : Layout) (ts : List Target) (terms : List Term) → same_length ts terms ≡ true → parts.terms_of (image_targets c ts terms) ≡ terms
terms-of c [] [] e = refl
terms-of c [] (a ∷ more) e = absurd (both_ways false refl e)
terms-of c (t ∷ ts) [] e = absurd (both_ways false refl e)
terms-of c (t ∷ ts) (a ∷ more) e = ap (λ xs. a ∷ xs) (terms-of c ts more e)

pub slots-of : (c : Layout) (ts : List Target) (terms : List Term) → same_length ts terms ≡ true → parts.slots_of (image_targets c ts terms) ≡ map (slot_number c) ts
slots-of c [] [] e = refl
slots-of c [] (a ∷ more) e = absurd (both_ways false refl e)
slots-of c (t ∷ ts) [] e = absurd (both_ways false refl e)
slots-of c (t ∷ ts) (a ∷ more) e = ap (λ xs. slot_number c t ∷ xs) (slots-of c ts more e)

pub same-map : {A B C : Type 0} (ts : List A) (es : List B) (f : B → C) → same_length ts es ≡ true → same_length ts (map f es) ≡ true
same-map [] [] f h = h
same-map [] (e ∷ es) f h = h
same-map (t ∷ ts) [] f h = h
same-map (t ∷ ts) (e ∷ es) f h = same-map ts es f h

-- the slots of targets that are scalars
abbrev pub scalar_slots : List Target → List Slot
scalar_slots [] = []
scalar_slots (T.Scalar x at ∷ ts) = Scalar x ∷ scalar_slots ts
scalar_slots (T.Property x p at ∷ ts) = scalar_slots ts

abbrev pub are_scalars : Layout → List Target → Bool
are_scalars c ts = list_all (is_scalar_of is_global c.declarations) ts

pub scalar-slots : (c : Layout) (w : View) (ts : List Target) → are_scalars c ts ≡ true → slots_of w ts ≡ Ok (scalar_slots ts)
scalar-slots c w [] h = refl
scalar-slots c w (T.Scalar x at ∷ ts) h =
    let q = both-true (is_global (variable_at c.declarations x)) (are_scalars c ts) h in
    ap (λ r. then_with r (λ ss. Ok (Scalar x ∷ ss))) (scalar-slots c w ts q.1)
scalar-slots c w (T.Property x p at ∷ ts) h = absurd (both_ways false refl h)

pub scalar-numbers : (c : Layout) (ts : List Target) → are_scalars c ts ≡ true → map (slot_at c) (scalar_slots ts) ≡ map (slot_number c) ts
scalar-numbers c [] h = refl
scalar-numbers c (T.Scalar x at ∷ ts) h =
    let q = both-true (is_global (variable_at c.declarations x)) (are_scalars c ts) h in ap (λ xs. c.global x ∷ xs) (scalar-numbers c ts q.1)
scalar-numbers c (T.Property x p at ∷ ts) h = absurd (both_ways false refl h)

-- a node of the graph is found there
pub node-in : (g : NumberedGraph) (k : ℕ) → k < node_count g → node_in g (At (Some k)) ≡ Some k
node-in g k lt = ap (λ b. if b then Some k else None) (lt-ltb k (node_count g) lt)

-- slots at a node
abbrev pub node_slots : ℕ → List Target → List Slot
node_slots j [] = []
node_slots j (T.Scalar x at ∷ ts) = node_slots j ts
node_slots j (T.Property x p at ∷ ts) = Node p j ∷ node_slots j ts

abbrev pub are_kept : Layout → ℕ → List Target → Bool
are_kept c i ts = list_all (is_kept_property c i) ts

pub node-numbers : (c : Layout) (i j : ℕ) (ts : List Target) → are_kept c i ts ≡ true → map (slot_at c) (node_slots j ts) ≡ map (slot_number c) ts
node-numbers c i j [] h = refl
node-numbers c i j (T.Scalar x at ∷ ts) h = absurd (both_ways false refl h)
node-numbers c i j (T.Property x p at ∷ ts) h = let q = both-true (nat_eq x i && c.is_kept p) (are_kept c i ts) h in ap (λ l. c.field p ∷ l) (node-numbers c i j ts q.1)

pub node-slots : (c : Layout) (i j : ℕ) (w : View) (ts : List Target) → are_kept c i ts ≡ true → node_in w.graph (w.store.scalar i) ≡ Some j → slots_of w ts ≡ Ok (node_slots j ts)
node-slots c i j w [] h e = refl
node-slots c i j w (T.Scalar x at ∷ ts) h e = absurd (both_ways false refl h)
node-slots c i j w (T.Property x p at ∷ ts) h e =
    let q = both-true (nat_eq x i && c.is_kept p) (are_kept c i ts) h in
    let r = both-true (nat_eq x i) (c.is_kept p) q.0 in
    ap (λ z. then_with (then_with (node_held w at (node_in w.graph (w.store.scalar z))) (λ n. Ok (Node p n))) (λ s. then_with (slots_of w ts) (λ ss. Ok (s ∷ ss)))) (eqb-true x i r.0)
    ∙ ap (λ o. then_with (then_with (node_held w at o) (λ n. Ok (Node p n))) (λ s. then_with (slots_of w ts) (λ ss. Ok (s ∷ ss)))) e
    ∙ ap (λ a. then_with a (λ ss. Ok (Node p j ∷ ss))) (node-slots c i j w ts q.1 e)

-- reductions to these fold
pub all-own : (c : Layout) (i : ℕ) (us : List Target) → are_kept c i us ≡ true → list_all (is_property_of i) us ≡ true
all-own c i [] e = refl
all-own c i (T.Scalar y a ∷ us) e = absurd (both_ways false refl e)
all-own c i (T.Property y q a ∷ us) e =
    let z = both-true (nat_eq y i && c.is_kept q) (are_kept c i us) e in
    ap (λ b. b && list_all (is_property_of i) us) (both-true (nat_eq y i) (c.is_kept q) z.0).0 ∙ all-own c i us z.1

pub folds-way : (c : Layout) (i : ℕ) (t : Target) (ts : List Target) → are_kept c i (t ∷ ts) ≡ true → way_of c.declarations i (t ∷ ts) ≡ Folds
folds-way c i (T.Scalar x at) ts h = absurd (both_ways false refl h)
folds-way c i (T.Property x p at) ts h =
    ap (λ b. if b then Folds else (if list_any (is_property_off i) (T.Property x p at ∷ ts) then Sends else Picks)) (all-own c i (T.Property x p at ∷ ts) h)

-- the properties of a node that have fields
abbrev pub here_at : Layout → ℕ → Slot → Bool
here_at c j (Scalar x) = false
here_at c j (Node p k) = nat_eq k j && c.is_kept p

-- a reduction to scalars of the procedure ends with the outermost loop
global-depth : (v : Variable) → is_global v ≡ true → v.depth ≡ 0
global-depth v h = eqb-true v.depth 0 (both-true (nat_eq v.depth 0) (is Sorts.Scalar v || is Sorts.Iterator v) h).0

scalar-late : (m : Mode) (d : ℕ) → d ≡ 0 → scalar_ends m d ≡ WithOutermost
scalar-late m d e = ap (scalar_ends m) e

late-later : (e : Ends) → e ≡ AtOnce → later WithOutermost e ≡ WithOutermost
late-later e h = ap (later WithOutermost) h

pub scalars-end : (c : Layout) (loop : Loop) (m : Mode) (t : Target) (ts : List Target) → ((x : ℕ) → loop.depth x ≡ (variable_at c.declarations x).depth)
    → are_scalars c (t ∷ ts) ≡ true → ends_of_all m loop (t ∷ ts) ≡ WithOutermost
scalars-end c loop m (T.Scalar x at) [] d h =
    let q = both-true (is_global (variable_at c.declarations x)) true h in
    ap (λ e. later e AtOnce) (scalar-late m (loop.depth x) (d x ∙ global-depth (variable_at c.declarations x) q.0))
scalars-end c loop m (T.Scalar x at) (u ∷ ts) d h =
    let q = both-true (is_global (variable_at c.declarations x)) (are_scalars c (u ∷ ts)) h in
    ap (λ e. later e (ends_of_all m loop (u ∷ ts))) (scalar-late m (loop.depth x) (d x ∙ global-depth (variable_at c.declarations x) q.0))
    ∙ ap (later WithOutermost) (scalars-end c loop m u ts d q.1)
scalars-end c loop m (T.Property x p at) ts d h = absurd (both_ways false refl h)

-- what an assignment to several slots has
pub assigned-is : (w : View) (ts : List Target) (a : AllEvaluated) (ss : List Slot) → a.hoisted ≡ None → slots_of w ts ≡ Ok ss
    → assigned_all w ts a ≡ then_with a.rest (λ xs. Ok (ss, xs))
assigned-is w ts a ss h e =
    ap (λ f. unless_fault f (then_with (slots_of w ts) (λ us. then_with a.rest (λ xs. Ok (us, xs))))) h
    ∙ ap (λ r. then_with r (λ us. then_with a.rest (λ xs. Ok (us, xs)))) e

-- a line that gives contributions, by the values of its expressions
module _ (c : Layout) (v : Env) (loop : Loop) (m : Mode) (s : VertexContext) (run : List Line → ℕ → VertexState → After) (Shows Gave : Iteration → VertexState → Type 0)
    (depth_is : (x : ℕ) → loop.depth x ≡ (variable_at c.declarations x).depth)
    (put_runs : (r : Reduce) (place : ℕ) (ts : List image.Target) (ls : List Line) (w : VertexState) → run (Put r place ts ∷ ls) 0 w ≡ goes_on (line_after s (Put r place ts) w) (λ k u. run ls k u))
    (fine : (it : Iteration) (w : VertexState) → Shows it w → it.fault ≡ None)
    (gave_failed : (it : Iteration) (w : VertexState) (f : Fault) → Shows it w → Gave (failed it f) w)
    (puts : (it : Iteration) (w : VertexState) (a : Contribution) → are_of_scalars a.slots ≡ true → Shows it w → Shows (gave_outermost it a) (record w { puts = w.puts ++ given c v a ∷ [] })) where
  put-by : (total : TotalKey) (r : Reduce) (t : Target) (ts : List Target) (terms : List Term) (answer : Result (List Value) Fault) (it : Iteration) (w : VertexState) (rest : List Line) → Shows it w
      → are_scalars c (t ∷ ts) ≡ true → same_length (t ∷ ts) terms ≡ true
      → values (view s w) terms ≡ answer_of v answer
      → let out = with_ok it (then_with answer (λ xs. Ok (scalar_slots (t ∷ ts), xs))) (λ p. gave_outermost it (contribution total r p)) in
      Ending v run Shows Gave (Put r (v.place total.key total.place) (image_targets c (t ∷ ts) terms) ∷ []) rest w out out.fault
  put-by total r t ts terms (Ok xs) it w rest q o n e =
      let a = contribution total r (scalar_slots (t ∷ ts), xs) in
      let place = v.place total.key total.place in
      let targets = image_targets c (t ∷ ts) terms in
      let go = λ (g : List Given). leaves (record w { puts = w.puts ++ g }) in
      let same : gives (view s w) r place targets ≡ Ok (given c v a ∷ []) =
      ap (λ as'. then_go (values (view s w) as') (λ vs. Ok (contributed place r (parts.slots_of targets) vs))) (terms-of c (t ∷ ts) terms n)
      ∙ ap (λ u. then_go u (λ vs. Ok (contributed place r (parts.slots_of targets) vs))) e
      ∙ ap (λ ss. Ok (contributed place r ss xs)) (slots-of c (t ∷ ts) terms n ∙ sym (scalar-numbers c (t ∷ ts) o))
      ∙ ap Ok (one-given t ts o) in
      subst (Ending v run Shows Gave (Put r place targets ∷ []) rest w (gave_outermost it a)) (sym (fine it w q)) (
        record w { puts = w.puts ++ given c v a ∷ [] },
        puts it w a (of-scalars t ts o) q,
        put_runs r place targets rest w ∙ ap (λ u. goes_on (line_ends w u go) (λ k u. run rest k u)) same,
      ) where
        one-given : (t : Target) (ts : List Target) → are_scalars c (t ∷ ts) ≡ true
            → contributed (v.place total.key total.place) r (map (slot_at c) (scalar_slots (t ∷ ts))) xs ≡ given c v (contribution total r (scalar_slots (t ∷ ts), xs)) ∷ []
        one-given (T.Scalar x at) ts h = refl
        one-given (T.Property x p at) ts h = absurd (both_ways false refl h)

        of-scalars : (t : Target) (ts : List Target) → are_scalars c (t ∷ ts) ≡ true → are_of_scalars (scalar_slots (t ∷ ts)) ≡ true
        of-scalars (T.Scalar x at) ts h = refl
        of-scalars (T.Property x p at) ts h = absurd (both_ways false refl h)
  put-by total r t ts terms (Err f) it w rest q o n e =
      let place = v.place total.key total.place in
      let targets = image_targets c (t ∷ ts) terms in
      let go = λ (g : List Given). leaves (record w { puts = w.puts ++ g }) in (
        w,
        gave_failed it w f q,
        put_runs r place targets rest w
            ∙ ap (λ as'. goes_on (line_ends w (then_go (values (view s w) as') (λ vs. Ok (contributed place r (parts.slots_of targets) vs))) go) (λ k u. run rest k u)) (terms-of c (t ∷ ts) terms n)
            ∙ ap (λ u. goes_on (line_ends w (then_go u (λ vs. Ok (contributed place r (parts.slots_of targets) vs))) go) (λ k u. run rest k u)) e,
      )

  -- a reduction to scalars of the procedure is what its put gives
  pub put-ends : (k : Key) (total : TotalKey) (r : Reduce) (t : Target) (ts : List Target) (es : List Expr) (it : Iteration) (w : VertexState) (rest : List Line) → Shows it w
      → are_scalars c (t ∷ ts) ≡ true → same_length (t ∷ ts) es ≡ true
      → AllTell v (view_in loop m it k) (view s w) es
      → let out = does (S.Combine k total r (t ∷ ts) es) m loop it in
      Ending v run Shows Gave (Put r (v.place total.key total.place) (image_targets c (t ∷ ts) (map (term v k) es)) ∷ []) rest w out out.fault
  put-ends k total r t ts es it w rest q o n tell =
      let u = view_in loop m it k in
      let same : does (S.Combine k total r (t ∷ ts) es) m loop it ≡ with_ok it (then_with (evaluated_all es u).rest (λ xs. Ok (scalar_slots (t ∷ ts), xs))) (λ p. gave_outermost it (contribution total r p)) =
      ap (λ e. reduced e u it total r (t ∷ ts) es) (scalars-end c loop m t ts depth_is o)
      ∙ ap (λ a. with_ok it a (λ p. gave_outermost it (contribution total r p))) (assigned-is u (t ∷ ts) (evaluated_all es u) (scalar_slots (t ∷ ts)) (none-hoisted v u (view s w) es refl tell) (scalar-slots c u (t ∷ ts) o)) in
      subst (λ out. Ending v run Shows Gave (Put r (v.place total.key total.place) (image_targets c (t ∷ ts) (map (term v k) es)) ∷ []) rest w out out.fault) (sym same)
      (put-by total r t ts (map (term v k) es) (evaluated_all es u).rest it w rest q o (same-map (t ∷ ts) es (term v k) n) (values-all v u (view s w) es tell))
