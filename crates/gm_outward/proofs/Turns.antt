-- A loop that asks at its node first what it can runs as the loop.
use Rattle.std.proofs.Common.{◌≡◌, ◌<◌, ℕ, Bool, true, false, cond, List, [], ◌∷◌, ◌++◌, map, refl, sym, ap, subst, ◌∙◌, Option, Some, None, Result, Ok, Err, ⊎_elim, inl, inr}
use Rattle.std.specs.Prelude.{◌&&◌, ◌||◌, not, nat_eq}
use Rattle.std.proofs.lemmas.Bool.{both_ways, eqb-true, eq-eqb}
use Rattle.gm_base.specs.declared.places.Place.{Place}
use Rattle.gm_value.specs.Bag.{IsIn}
use Rattle.gm_value.specs.Operations.{is_true}
use Rattle.gm_value.specs.declared.values.Value.{Value}
use Rattle.gm_value.specs.declared.values.Value.TheVariants.{At}
use Rattle.gm_model.specs.Graphs.{IsGraph, Step, node_count}
use Rattle.gm_ast.specs.declared.tree.Declaration.{Declaration}
use Rattle.gm_ast.specs.declared.tree.Head.{Head}
use Rattle.gm_ast.specs.declared.tree.Key.{Key}
use Rattle.gm_ast.specs.Ways.{is_in}
use Rattle.gm_ast.specs.Program.{Expr, Both, Stmt, Foreach}
use Rattle.gm_semantics.specs.declared.faults.Fault.{Fault}
use Rattle.gm_semantics.specs.declared.slots.Slot.TheVariants.{Scalar}
use Rattle.gm_semantics.specs.Stores.{Store, write}
use Rattle.gm_semantics.specs.Levels.{nodes, node_in, no_levels}
use Rattle.gm_semantics.specs.Faults.{then_with}
use Rattle.gm_semantics.specs.Expressions.{View, Answer, evaluated, settled, plain, value, steps_in}
use Rattle.gm_semantics.specs.Iterations.{Loop, Mode, Outermost, AtEdge, Iteration, begun, with_ok, one_way, as_it_is, view_in, turn_at, inner_done, does}
use Rattle.gm_semantics.specs.Loops.{iteration, loop_done, parallel}
use Rattle.gm_semantics.specs.Statements.{Run, State, with_value, with_store, loop_of, sequential}
use Rattle.gm_forms.specs.Cut.{is_mask, mask_stays, touched}
use Rattle.gm_forms.specs.Forms.{is_flat}
use Rattle.gm_forms.specs.Order.{cannot_fail}
use Rattle.gm_forms.specs.Sharing.{told_in}
use Rattle.gm_forms.proofs.CutTests.{flat}
use Rattle.gm_forms.proofs.Named.{both-true}
use Rattle.gm_forms.proofs.Steps.{step-within}
use Rattle.gm_loop_laws.specs.Masks.{spares}
use Rattle.gm_loop_laws.proofs.Alone.{nodes-below, hoists-nothing, idle}
use Rattle.gm_loop_laws.proofs.Joins.{map-each}
use Rattle.gm_loop_laws.proofs.Masks.{Holds, certain-by, start, start-held, seen}
use Rattle.gm_loop_laws.proofs.MaskValues.{mask_value, mask-held}
use Rattle.gm_outward.specs.Gathered.{together}
use Rattle.gm_outward.specs.Outward.{is_outer, chosen, left, asked_mask, asked_body}
use Rattle.gm_outward.proofs.Masks.{certain-of, mask-chosen, Stays, stays-from, stays-outer, stays-chosen}
use Rattle.gm_outward.proofs.Values.{Passing, passed, also, P, Known, Parted, parted, together-is}

-- where a filter passes decides what follows
abbrev pub follows : Iteration → Passing → (Iteration → Iteration) → Iteration
follows it p f = with_ok it p (λ b. one_way b f as_it_is it)

pub follows-by : (it : Iteration) (a : Answer) (f : Iteration → Iteration) → with_ok it a (λ v. one_way (is_true v) f as_it_is it) ≡ follows it (passed a) f
follows-by it (Ok v) f = refl
follows-by it (Err e) f = refl

-- a loop of which this is asked may ask first what is its node's
pub record Askable (ds : List Declaration) (n : ℕ) (mask : Expr) (i : Head) (test : Expr) (body : Stmt) : Type 0 where
  pub apart : nat_eq i.iterator n ≡ false
  pub test_flat : is_flat (n ∷ i.iterator ∷ []) true test ≡ true
  pub mask_is : is_mask n mask ≡ true
  pub stays : mask_stays n mask i body ≡ true

module _ (ds : List Declaration) (loop : Loop) (k j : Key) (here : Place) (i : Head) (test : Expr) (body : Stmt) (is : IsGraph loop.graph) (mask : Expr) (a : Askable ds loop.outer mask i test body) (s : Store) (x : ℕ) (among : IsIn x (nodes loop.graph)) where
  abbrev n : ℕ
  n = loop.outer

  abbrev t : ℕ
  t = i.iterator

  abbrev outer : Expr → Bool
  outer = is_outer n i body

  abbrev first_part : Expr
  first_part = chosen outer test

  abbrev rest : Expr
  rest = left outer test

  abbrev it0 : Iteration
  it0 = begun (start loop k s x)

  abbrev w0 : View
  w0 = seen loop k s x

  less : x < node_count loop.graph
  less = nodes-below loop.graph x among

  stays : Stays n i body mask
  stays = stays-from n i body mask a.stays

  -- an iteration at an edge
  abbrev at_edge : Step → Iteration
  at_edge e = begun (write it0.store (Scalar t) (At (Some e.node)))

  abbrev w : Step → View
  w e = view_in loop (AtEdge e.edge) (at_edge e) j

  holds : (e : Step) → (at_edge e).store.scalar n ≡ At (Some x)
  holds e = ap (λ b. cond b (At (Some e.node)) (it0.store.scalar n)) a.apart ∙ start-held loop k s x

  inner-holds : (e : Step) → (at_edge e).store.scalar t ≡ At (Some e.node)
  inner-holds e = ap (λ b. cond b (At (Some e.node)) (it0.store.scalar t)) (eq-eqb t t refl)

  scalars : (e : Step) (y : ℕ) → nat_eq n y ≡ false → nat_eq t y ≡ false → (at_edge e).store.scalar y ≡ s.scalar y
  scalars e y p q = ap (λ b. cond b (At (Some e.node)) (it0.store.scalar y)) q ∙ ap (λ b. cond b (At (Some x)) (s.scalar y)) p

  -- an outer condition has one value at the node and at each of its edges
  abbrev worth : Expr → Value
  worth c = mask_value loop k c s x

  mask-at-edge : (c : Expr) → is_mask n c ≡ true → is_in (told_in c) t ≡ false → (e : Step) → P (w e) c ≡ Ok (is_true (worth c))
  mask-at-edge c m o e = ap (λ v. passed (settled v)) (mask-held loop k t c s m o x among (AtEdge e.edge) (at_edge e) j (holds e) refl (scalars e))

  mask-at-node : (c : Expr) → is_mask n c ≡ true → is_in (told_in c) t ≡ false → evaluated c w0 ≡ plain (Ok (worth c))
  mask-at-node c m o = mask-held loop k t c s m o x among Outermost it0 k (start-held loop k s x) refl (λ y p q. ap (λ b. cond b (At (Some x)) (s.scalar y)) p)

  -- both iterators hold nodes
  knows : (e : Step) → e.node < node_count loop.graph → (y : ℕ) → is_in (n ∷ t ∷ []) y ≡ true → Holds loop (at_edge e) y
  knows e l y h = by (nat_eq y n) (nat_eq y t) refl refl h
    where
      by : (b c : Bool) → nat_eq y n ≡ b → nat_eq y t ≡ c → b || (c || false) ≡ true → Holds loop (at_edge e) y
      by true c p q r = (x, less, ap (at_edge e).store.scalar (eqb-true y n p) ∙ holds e)
      by false true p q r = (e.node, l, ap (at_edge e).store.scalar (eqb-true y t q) ∙ inner-holds e)
      by false false p q r = absurd (both_ways false refl r)

  -- the filter at an edge is what both parts of it are
  at-edge : (e : Step) → e.node < node_count loop.graph → Parted (w e) outer test
  at-edge e l =
      parted (w e) outer (λ c. is_flat (n ∷ t ∷ []) true c ≡ true) (λ c d h. both-true (is_flat (n ∷ t ∷ []) true c) (is_flat (n ∷ t ∷ []) true d) h)
      (λ c h. hoists-nothing loop (AtEdge e.edge) (at_edge e) j c (flat (n ∷ t ∷ []) true c h))
      (λ c h q. let r = certain-by loop (AtEdge e.edge) (at_edge e) j (n ∷ t ∷ []) (knows e l) c (certain-of (n ∷ t ∷ []) true c q h) in (is_true r.0, ap (λ v. passed (settled v)) r.1))
      (λ c h q. (is_true (worth c), mask-at-edge c (both-true (is_mask n c) (spares (t ∷ touched body) c) q).0 (stays-outer n i body mask stays c q).out e))
      test a.test_flat

  -- what is chosen of it is worth the same at the node
  chosen-mask : is_mask n first_part ≡ true
  chosen-mask = mask-chosen n i body test

  chosen-out : is_in (told_in first_part) t ≡ false
  chosen-out = (stays-chosen n i body mask stays test).out

  -- the inner loop under a filter
  abbrev inner : Expr → Stmt
  inner f = Foreach j here i f body

  abbrev turn : Expr → Step → Iteration
  turn f e = turn_at loop (AtEdge e.edge) j f (does body (AtEdge e.edge) loop) t e.node it0.store

  abbrev steps : List Step
  steps = steps_in (view_in loop Outermost it0 j) i

  steps-within : (e : Step) → IsIn e steps → e.node < node_count loop.graph
  steps-within e q = step-within (view_in loop Outermost it0 j) is i.domain (node_in loop.graph (it0.store.scalar i.owner)) e q

  turn-is : (f : Expr) (e : Step) → turn f e ≡ follows (at_edge e) (P (w e) f) (does body (AtEdge e.edge) loop)
  turn-is f e = follows-by (at_edge e) (value f (w e)) (does body (AtEdge e.edge) loop)

  -- each turn where the outer conditions hold, and where they do not
  turn-under : (e : Step) → IsIn e steps → (b : Bool) → is_true (worth first_part) ≡ b → turn test e ≡ follows (at_edge e) (also (Ok b) (P (w e) rest)) (does body (AtEdge e.edge) loop)
  turn-under e q b h =
      let p = at-edge e (steps-within e q) in
      turn-is test e ∙ ap (λ z. follows (at_edge e) z (does body (AtEdge e.edge) loop))
      (p.both ∙ ap (λ z. also z (P (w e) rest)) (mask-at-edge first_part chosen-mask chosen-out e) ∙ ap (λ c. also (Ok c) (P (w e) rest)) h)

  holds-all : is_true (worth first_part) ≡ true → does (inner rest) Outermost loop it0 ≡ does (inner test) Outermost loop it0
  holds-all h = ap (inner_done it0) (map-each (turn rest) (turn test) steps (λ e q. turn-is rest e ∙ sym (turn-under e q true h)))

  holds-none : is_true (worth first_part) ≡ false → does (inner test) Outermost loop it0 ≡ it0
  holds-none h = ap (inner_done it0) (map-each (turn test) (λ e. at_edge e) steps (λ e q. turn-under e q false h)) ∙ idle it0.store (λ e. (at_edge e).store) steps

  pub iteration-same : iteration loop k (together mask first_part) (inner rest) s x ≡ iteration loop k mask (inner test) s x
  iteration-same =
      follows-by it0 (value (together mask first_part) w0) (does (inner rest) Outermost loop)
      ∙ ap (λ p. follows it0 p (does (inner rest) Outermost loop))
      (together-is w0 mask first_part (ap (λ v. v.hoisted) chosen-worth) ∙ ap (λ z. also z (P w0 first_part)) (ap (λ v. passed (settled v)) mask-worth) ∙ ap (λ z. also (Ok (is_true (worth mask))) z) (ap (λ v. passed (settled v)) chosen-worth))
      ∙ by (is_true (worth mask)) (is_true (worth first_part)) refl
      ∙ sym (ap (λ p. follows it0 p (does (inner test) Outermost loop)) (ap (λ v. passed (settled v)) mask-worth))
      ∙ sym (follows-by it0 (value mask w0) (does (inner test) Outermost loop))
    where
      mask-worth : evaluated mask w0 ≡ plain (Ok (worth mask))
      mask-worth = mask-at-node mask a.mask_is stays.out

      chosen-worth : evaluated first_part w0 ≡ plain (Ok (worth first_part))
      chosen-worth = mask-at-node first_part chosen-mask chosen-out

      by : (b c : Bool) → is_true (worth first_part) ≡ c → follows it0 (also (Ok b) (Ok c)) (does (inner rest) Outermost loop) ≡ follows it0 (Ok b) (does (inner test) Outermost loop)
      by true true h = holds-all h
      by true false h = sym (holds-none h)
      by false c h = refl

-- the loop runs as it did
module _ (run : Run) (k j : Key) (at here : Place) (h i : Head) (test : Expr) (body : Stmt) (is : IsGraph run.graph) where
  pub asked-same : (mask : Expr) (u : State) → Askable run.declarations h.iterator mask i test body → sequential (Foreach k at h (asked_mask h.iterator mask (Foreach j here i test body)) (asked_body h.iterator (Foreach j here i test body))) run u ≡ sequential (Foreach k at h mask (Foreach j here i test body)) run u
  asked-same mask u a =
      let loop = loop_of run no_levels h.iterator (Foreach j here i test body) in
      ap (λ l. with_value (loop_done u.store (nodes run.graph) l) (with_store u))
      (map-each _ _ (nodes run.graph) (λ x among. iteration-same run.declarations loop k j here i test body is mask a u.store x among))
