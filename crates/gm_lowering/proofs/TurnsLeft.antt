-- The turn of an inner loop that is evaluated at its receiver: its fault has a spot, and what it gives is good.
use Rattle.std.proofs.Common.{◌≡◌, ◌<◌, ◌⊎◌, inl, inr, ℕ, Bool, true, false, Option, Some, None, Result, Ok, Err, List, [], ◌∷◌, ◌++◌, refl, ap, ◌∙◌, sym, subst, ⊎_elim}
use Rattle.std.specs.Prelude.{◌||◌, nat_eq, if◌then◌else◌}
use Rattle.std.proofs.lemmas.Bool.{both_ways, eq-eqb, eqb-true}
use Rattle.gm_value.specs.declared.values.Value.{Value}
use Rattle.gm_value.specs.declared.values.Value.TheVariants.{At}
use Rattle.gm_value.specs.declared.reductions.Reduce.{Reduce}
use Rattle.gm_value.specs.Operations.{is_true}
use Rattle.gm_model.specs.Graphs.{NumberedGraph, Step, node_count}
use Rattle.gm_ast.specs.declared.tree.Key.{Key}
use Rattle.gm_ast.specs.declared.tree.Target.{Target}
use Rattle.gm_ast.specs.declared.tree.TotalKey.{TotalKey}
use Rattle.gm_ast.specs.Program as P
use Rattle.gm_ast.specs.Program.{Expr, Stmt}
use Rattle.gm_ast.specs.Ways.{is_in}
use Rattle.gm_semantics.specs.declared.faults.Fault.{Fault}
use Rattle.gm_semantics.specs.declared.slots.Slot.TheVariants as slots
use Rattle.gm_semantics.specs.Contributions.{Contribution}
use Rattle.gm_semantics.specs.Expressions.{value}
use Rattle.gm_semantics.specs.Iterations.{Loop, Mode, AtEdge, Iteration, begun, view_in, with_ok, one_way, as_it_is, does}
use Rattle.gm_semantics.specs.Levels.{node_in}
use Rattle.gm_semantics.specs.Statements.{variable_at}
use Rattle.gm_semantics.specs.Stores.{Store, write}
use Rattle.gm_lowering.specs.Layouts.{Layout, is_register}
use Rattle.gm_lowering.specs.Places.{Spot, spots_in, spots_in_all}
use Rattle.gm_lowering.specs.Plans.{way_of}
use Rattle.gm_lowering.specs.Bodies.{spots_of, reduce_spots}
use Rattle.gm_lowering.specs.Sites.{finds, is_body}
use Rattle.gm_lowering.specs.MessageLoops.{sets_nothing}
use Rattle.gm_lowering.specs.Receiving.{turn_of, inner_spots}
use Rattle.gm_lowering.specs.Settles.{HasSpot, spot_of_fault}
use Rattle.gm_lowering.proofs.Givens.{node-in}
use Rattle.gm_lowering.proofs.Kept.{Gives, body-gives}
use Rattle.gm_lowering.proofs.Spots.{Has, HoldNodes, Left, PartsReady, Within, spot-left, spot-right, has-right, reads, value-within, body-left}

-- the two iterators, and where each stands
abbrev pub both : Loop → ℕ → List ℕ
both loop i = loop.outer ∷ i ∷ []

abbrev pub home_at : ℕ → ℕ → ℕ → ℕ → ℕ
home_at i j k y = if nat_eq i y then j else k

module _ (c : Layout) (loop : Loop) (i : ℕ)
    (outer : is_register (variable_at c.declarations loop.outer) ≡ false)
    (inner : is_register (variable_at c.declarations i) ≡ false)
    (two : nat_eq i loop.outer ≡ false) where
  abbrev n : ℕ
  n = loop.outer

  abbrev its : List ℕ
  its = both loop i

  abbrev g : NumberedGraph
  g = loop.graph

  in-two : (x : ℕ) → is_in its x ≡ true → (x ≡ n) ⊎ (x ≡ i)
  in-two x o = by (nat_eq x n) (nat_eq x i) refl refl o where
    by : (a b : Bool) → nat_eq x n ≡ a → nat_eq x i ≡ b → a || (b || false) ≡ true → (x ≡ n) ⊎ (x ≡ i)
    by true b e f o = inl (eqb-true x n e)
    by false true e f o = inr (eqb-true x i f)
    by false false e f o = absurd (both_ways false refl o)

  pub no-locals : (x : ℕ) → is_in its x ≡ true → is_register (variable_at c.declarations x) ≡ false
  no-locals x o = ⊎_elim (λ (e : x ≡ n). ap (λ y. is_register (variable_at c.declarations y)) e ∙ outer) (λ (e : x ≡ i). ap (λ y. is_register (variable_at c.declarations y)) e ∙ inner) (in-two x o)

  pub outer-in : is_in its n ≡ true
  outer-in = ap (λ b. b || (nat_eq n i || false)) (eq-eqb n n refl)

  in-i : is_in its i ≡ true
  in-i = ap (λ b. b || (nat_eq i i || false)) two ∙ ap (λ b. b || false) (eq-eqb i i refl)

  pub at-receiver : (j k : ℕ) → j < node_count g → (it : Iteration) → HoldNodes g its (home_at i j k) it → node_in g (it.store.scalar i) ≡ Some j
  at-receiver j k lt it h = ap (node_in g) ((h i in-i).0 ∙ ap (λ b. At (Some (if b then j else k))) (eq-eqb i i refl)) ∙ node-in g j lt

  abbrev from : Store → ℕ → Store
  from r k = write r (slots.Scalar n) (At (Some k))

  abbrev pub starting : Store → ℕ → ℕ → Iteration
  starting r k j = begun (write (from r k) (slots.Scalar i) (At (Some j)))

  holds : (r : Store) (k j : ℕ) → k < node_count g → j < node_count g → HoldNodes g its (home_at i j k) (starting r k j)
  holds r k j from_inside inside y o = ⊎_elim at_outer at_inner (in-two y o) where
    at_inner : y ≡ i → ((starting r k j).store.scalar y ≡ At (Some (home_at i j k y))) × (home_at i j k y < node_count g)
    at_inner e =
        let same : nat_eq i y ≡ true = eq-eqb i y (sym e) in (
          ap (λ b. if b then At (Some j) else (from r k).scalar y) same ∙ ap (λ z. At (Some z)) (sym (ap (λ b. if b then j else k) same)),
          subst (λ z. z < node_count g) (sym (ap (λ b. if b then j else k) same)) inside,
        )

    at_outer : y ≡ n → ((starting r k j).store.scalar y ≡ At (Some (home_at i j k y))) × (home_at i j k y < node_count g)
    at_outer e =
        let apart : nat_eq i y ≡ false = ap (nat_eq i) e ∙ two in (
          ap (λ b. if b then At (Some j) else (from r k).scalar y) apart ∙ ap (λ b. if b then At (Some k) else r.scalar y) (eq-eqb n y (sym e)) ∙ ap (λ z. At (Some z)) (sym (ap (λ b. if b then j else k) apart)),
          subst (λ z. z < node_count g) (sym (ap (λ b. if b then j else k) apart)) from_inside,
        )

  module _ (all : List Spot) (key : Key) (test : Expr) (body : Stmt) (r : Store) (gives : Reduce → List Target → List Expr → Bool) (Ready : P.Stmt → Iteration → Type 0) (Good : Contribution → Type 0)
      (incl : (f : Spot) → HasSpot f (inner_spots c loop.outer i key test body) → HasSpot f all)
      (found : finds c (both loop i) true test ≡ true)
      (fits : is_body c (finds c (both loop i) true) sets_nothing gives body ≡ true)
      (x : ℕ × Step) (from_inside : x.0 < node_count loop.graph) (inside : x.1.node < node_count loop.graph)
      (parts : PartsReady loop (AtEdge x.1.edge) Ready)
      (typed : Ready body (starting r x.0 x.1.node))
      (reductions-left : (k : Key) (total : TotalKey) (r' : Reduce) (ts : List Target) (es : List Expr) (it : Iteration) → gives r' ts es ≡ true → Ready (P.Combine k total r' ts es) it → it.fault ≡ None
      → HoldNodes loop.graph (both loop i) (home_at i x.1.node x.0) it
      → Left c (both loop i) true loop (AtEdge x.1.edge) (home_at i x.1.node x.0) (does (P.Combine k total r' ts es) (AtEdge x.1.edge) loop it) (spots_in_all es k ++ reduce_spots false (both loop i) (way_of c.declarations i ts) k total ts))
      (reductions-give : (k : Key) (total : TotalKey) (r' : Reduce) (ts : List Target) (es : List Expr) (it : Iteration) → gives r' ts es ≡ true → Ready (P.Combine k total r' ts es) it
      → HoldNodes loop.graph (both loop i) (home_at i x.1.node x.0) it
      → ((f : Spot) → HasSpot f (reduce_spots false (both loop i) (way_of c.declarations i ts) k total ts) → HasSpot f all)
      → Gives Good it → Gives Good (does (P.Combine k total r' ts es) (AtEdge x.1.edge) loop it)) where
    abbrev m : Mode
    m = AtEdge x.1.edge

    abbrev j : ℕ
    j = x.1.node

    abbrev loose : Expr → Bool
    loose = finds c its true

    abbrev start : Iteration
    start = starting r x.0 j

    abbrev home : ℕ → ℕ
    home = home_at i j x.0

    abbrev turn : Iteration
    turn = turn_of loop i key test body r x

    abbrev body_spots : List Spot
    body_spots = spots_of c i its false body

    held : HoldNodes g its home start
    held = holds r x.0 j from_inside inside

    left-body : (st : Stmt) → is_body c loose sets_nothing gives st ≡ true → (it : Iteration) → Ready st it → it.fault ≡ None → HoldNodes g its home it
        → Left c its true loop m home (does st m loop it) (spots_of c i its false st)
    left-body st o it y e h =
        body-left c its true loop m home i false sets_nothing gives Ready parts no-locals (λ y q f. absurd (both_ways false refl f))
        (λ j' total r' ts es it' o' y' f' q'. reductions-left j' total r' ts es it' o' y' f' q') st o it y e h

    give-body : (it : Iteration) → Ready body it → it.fault ≡ None → HoldNodes g its home it → Gives Good it → Gives Good (does body m loop it)
    give-body it y e h q =
        body-gives c i its false loop m loose sets_nothing gives Good all (HoldNodes g its home) Ready parts
        (λ st o it' y' e' h'. (left-body st o it' y' e' h').1)
        (λ k total r' ts es it' o y' h' e' q'. reductions-give k total r' ts es it' o y' h' e' q')
        body fits (λ f z. incl f (spot-right f (spots_in test key) body_spots z)) it y e h q

    has-all : (o : Option Fault) → Has o (inner_spots c n i key test body) → Has o all
    has-all None h = tt
    has-all (Some f) h = incl (spot_of_fault f) h

    pub turn-left : Has turn.fault all × Gives Good turn
    turn-left = by (value test (view_in loop m start key)) (value-within (view_in loop m start key) test refl (reads c its true loop m home start key test found held)) where
      nothing : Gives Good start
      nothing = record { outermost = λ y z. absurd z; inner = λ y z. absurd z }

      way : (b : Bool) → Has (one_way b (does body m loop) as_it_is start).fault all × Gives Good (one_way b (does body m loop) as_it_is start)
      way true =
          (has-all (does body m loop start).fault (has-right (does body m loop start).fault (spots_in test key) body_spots (left-body body fits start typed refl held).0), give-body start typed refl held nothing)
      way false = (tt, nothing)

      by : (a : Result Value Fault) → Within a (spots_in test key)
          → Has (with_ok start a (λ z. one_way (is_true z) (does body m loop) as_it_is start)).fault all × Gives Good (with_ok start a (λ z. one_way (is_true z) (does body m loop) as_it_is start))
      by (Ok z) w = way (is_true z)
      by (Err f) w = (incl (spot_of_fault f) (spot-left (spot_of_fault f) (spots_in test key) body_spots w), record { outermost = λ y z. absurd z; inner = λ y z. absurd z })
