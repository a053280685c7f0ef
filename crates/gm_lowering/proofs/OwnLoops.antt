-- One superstep of all vertices with an own loop's block is the loop.
use Rattle.std.proofs.Common.{◌≡◌, ◌<◌, ℕ, Bool, true, false, Some, None, Result, Ok, Err, List, [], ◌∷◌, length, refl, ap, ◌∙◌, sym, Option}
use Rattle.std.specs.Prelude.{◌||◌, nat_eq, if◌then◌else◌, slice_index_or}
use Rattle.std.proofs.lemmas.Bool.{eq-eqb, eqb-true}
use Rattle.gm_value.specs.declared.values.Value.{Value}
use Rattle.gm_value.specs.declared.values.Value.TheVariants.{At}
use Rattle.gm_value.specs.Operations.{is_true}
use Rattle.gm_model.specs.Graphs.{NumberedGraph, node_count}
use Rattle.gm_ast.specs.declared.tree.Key.{Key}
use Rattle.gm_ast.specs.Names.{is}
use Rattle.gm_ast.specs.Program.{Expr, Stmt}
use Rattle.gm_ast.specs.Ways.{is_in}
use Rattle.gm_forms.proofs.Named.{both-true}
use Rattle.gm_semantics.specs.declared.faults.Fault.{Fault}
use Rattle.gm_semantics.specs.declared.slots.Slot.TheVariants as slots
use Rattle.gm_semantics.specs.Expressions.{value}
use Rattle.gm_semantics.specs.Iterations.{Loop, Outermost, Iteration, begun, view_in, with_ok, one_way, as_it_is, does}
use Rattle.gm_semantics.specs.Levels.{nodes}
use Rattle.gm_semantics.specs.Loops.{iteration, parallel}
use Rattle.gm_semantics.specs.Statements.{variable_at}
use Rattle.gm_semantics.specs.Stores.{Store, write}
use Rattle.gm_image.specs.Program as image
use Rattle.gm_machine.specs.Machine.{Nodes, context_at, block_at, superstep}
use Rattle.gm_machine.specs.Vertex.{After, vertex_after}
use Rattle.gm_lowering.specs.Layouts.{Layout, is_register}
use Rattle.gm_lowering.specs.Places.{Spot, Segment, segment, spots_in}
use Rattle.gm_lowering.specs.Terms.{Env, own_env}
use Rattle.gm_lowering.specs.Bodies.{spots_of}
use Rattle.gm_lowering.specs.OwnLoops.{own_finds, own_sets, own_gives, fold_spots, HaveIndices, own_block, IsOwnLoop, NodeShows, StepEnds, PicksTyped}
use Rattle.gm_lowering.specs.Phases.{GlobalsApart, NodesInGraph, Shown, StepIs, GivesApart, given_in, own_spots, OwnLoopsAreSupersteps}
use Rattle.gm_lowering.specs.Settles.{spot_of_fault, HaveRoom}
use Rattle.gm_lowering.proofs.Kept.{Gives, body-gives}
use Rattle.gm_lowering.proofs.OwnSteps.{own-steps}
use Rattle.gm_lowering.proofs.OwnFacts.{own-left, own-puts, folds-spotted}
use Rattle.gm_lowering.proofs.PutFacts.{IsPut}
use Rattle.gm_lowering.proofs.Spots.{Has, HoldNodes, Left, Within, spot-left, spot-right, has-right, reads, value-within, body-left}
use Rattle.gm_lowering.proofs.Supersteps.{loop-of-steps}
use Rattle.gm_lowering.proofs.Orders.{index-within}
use Rattle.gm_value.specs.declared.values.VType.{VType}
use Rattle.gm_typed_stores.specs.Tells.{TypeTable}
use Rattle.gm_lowering.proofs.Picks.{Typed, parts-typed}

module _ (c : Layout) (p : image.Program) (fields base q kind : ℕ) (loop : Loop) (key : Key) (test : Expr) (body : Stmt) (globals : List Value) (s : Nodes) (r : Store) (table : TypeTable) (around : List ℕ) (result : Option VType)
    (able : IsOwnLoop c p.registers fields loop test body)
    (typed : (k : ℕ) → k < node_count loop.graph → PicksTyped c table around result loop body (begun (write r (slots.Scalar loop.outer) (At (Some k)))))
    (gs : GlobalsApart c (length globals))
    (fit : HaveRoom base (own_spots c loop.outer key test body) (length p.places))
    (block : block_at p q ≡ own_block c (segment base (own_spots c loop.outer key test body)) loop.outer kind key test body)
    (shown : Shown c p.registers fields loop.graph globals s r)
    (in_graph : NodesInGraph c loop.graph r)
    (apart : GivesApart (given_in loop key test body r)) where
  abbrev n : ℕ
  n = loop.outer

  abbrev g : NumberedGraph
  g = loop.graph

  abbrev all : List Spot
  all = own_spots c n key test body

  abbrev seg : Segment
  seg = segment base all

  abbrev v : Env
  v = own_env c seg n

  abbrev it : ℕ → Iteration
  it k = iteration loop key test body r k

  -- each node begins as it should
  node-shows : (k : ℕ) → k < node_count g → NodeShows c g p.registers fields globals (slice_index_or s.fields k []) k r
  node-shows k lt = record {
    phase = record { scalar = shown.scalars; in_graph = in_graph };
    locals = shown.locals;
    properties = shown.properties k lt;
    field_count = shown.widths k lt;
    inside = lt;
  }

  -- the places of the body's folds have indices
  indexed : HaveIndices seg (length p.places) (fold_spots c n body)
  indexed z h = index-within base all (length p.places) fit z (spot-right z (spots_in test key) (spots_of c n (n ∷ []) true body) (folds-spotted c n body able.fits z h))

  abbrev Ends : ℕ → After → Type 0
  Ends k a = StepEnds c v fields k (it k) a (it k).fault

  abbrev one_step : ℕ × List Value → After
  one_step x = vertex_after p (own_block c seg n kind key test body) (context_at g globals x.0) [] x.1

  ends : (k : ℕ) → k < node_count g → Ends k (one_step (k, slice_index_or s.fields k []))
  ends k lt = own-steps c seg p fields loop kind key test body globals (slice_index_or s.fields k []) k r table around result able indexed (typed k lt) (node-shows k lt)

  -- the iterations' faults and contributions
  starts : (k : ℕ) → k < node_count g → HoldNodes g (n ∷ []) (λ x. k) (begun (write r (slots.Scalar n) (At (Some k))))
  starts k lt x o = (ap (λ b. if b then At (Some k) else r.scalar x) (eq-eqb n x (sym (eqb-one x o))), lt) where
    eqb-one : (x : ℕ) → is_in (n ∷ []) x ≡ true → x ≡ n
    eqb-one x o = eqb-true x n (or-none (nat_eq x n) o) where
      or-none : (b : Bool) → b || false ≡ true → b ≡ true
      or-none true h = refl
      or-none false h = h

  no_locals : (x : ℕ) → is_in (n ∷ []) x ≡ true → is_register (variable_at c.declarations x) ≡ false
  no_locals x o = ap (λ y. is_register (variable_at c.declarations y)) (eqb-true x n (or-none (nat_eq x n) o)) ∙ able.iterator where
    or-none : (b : Bool) → b || false ≡ true → b ≡ true
    or-none true h = refl
    or-none false h = h

  set_at_node : (x y : ℕ) → own_sets c n x y ≡ true → is_in (n ∷ []) x ≡ true
  set_at_node x y o = ap (λ b. b || false) (both-true (nat_eq x n) (c.is_kept y) o).0

  abbrev body_spots : List Spot
  body_spots = spots_of c n (n ∷ []) true body

  body-leaves : (home : ℕ → ℕ) (i : Iteration) → Typed c table around result loop body i → i.fault ≡ None → HoldNodes g (n ∷ []) home i → Left c (n ∷ []) false loop Outermost home (does body Outermost loop i) body_spots
  body-leaves home i y e h =
      body-left c (n ∷ []) false loop Outermost home n true (own_sets c n) (own_gives c n (own_finds c n)) (Typed c table around result loop) (parts-typed c table around result loop Outermost) no_locals set_at_node
      (λ k total r' ts es j o y' e' h'. own-left c loop home able.depths table around result able.iterator k total r' ts es j o y' e' h')
      body able.fits i y e h

  body-puts : (home : ℕ → ℕ) (i : Iteration) → Typed c table around result loop body i → i.fault ≡ None → HoldNodes g (n ∷ []) home i → Gives (IsPut c all) i → Gives (IsPut c all) (does body Outermost loop i)
  body-puts home i y e h o =
      body-gives c n (n ∷ []) true loop Outermost (own_finds c n) (own_sets c n) (own_gives c n (own_finds c n)) (IsPut c all) all (HoldNodes g (n ∷ []) home) (Typed c table around result loop) (parts-typed c table around result loop Outermost)
      (λ st fits j y' e' h'.
      (body-left c (n ∷ []) false loop Outermost home n true (own_sets c n) (own_gives c n (own_finds c n)) (Typed c table around result loop) (parts-typed c table around result loop Outermost) no_locals set_at_node
      (λ k total r' ts es j o y' e' h'. own-left c loop home able.depths table around result able.iterator k total r' ts es j o y' e' h') st fits j y' e' h').1)
      (λ k total r' ts es j o' y' h' i' g'. own-puts c loop home able.depths table around result able.iterator all k total r' ts es j o' y' h' i' g')
      body able.fits (λ f j. spot-right f (spots_in test key) body_spots j) i y e h o

  -- an iteration's fault has a spot, and it gives to scalars of the procedure
  iteration-left : (k : ℕ) → k < node_count g → Has (it k).fault all × Gives (IsPut c all) (it k)
  iteration-left k lt = by (value test (view_in loop Outermost start key)) (value-within (view_in loop Outermost start key) test refl (reads c (n ∷ []) false loop Outermost (λ x. k) start key test able.found (starts k lt))) where
    start : Iteration
    start = begun (write r (slots.Scalar n) (At (Some k)))

    nothing : Gives (IsPut c all) start
    nothing = record { outermost = λ x i. absurd i; inner = λ x i. absurd i }

    way : (b : Bool) → Has (one_way b (does body Outermost loop) as_it_is start).fault all × Gives (IsPut c all) (one_way b (does body Outermost loop) as_it_is start)
    way true = (has-right (does body Outermost loop start).fault (spots_in test key) body_spots (body-leaves (λ x. k) start (typed k lt) refl (starts k lt)).0, body-puts (λ x. k) start (typed k lt) refl (starts k lt) nothing)
    way false = (tt, nothing)

    by : (a : Result Value Fault) → Within a (spots_in test key)
        → Has (with_ok start a (λ z. one_way (is_true z) (does body Outermost loop) as_it_is start)).fault all × Gives (IsPut c all) (with_ok start a (λ z. one_way (is_true z) (does body Outermost loop) as_it_is start))
    by (Ok z) w = way (is_true z)
    by (Err f) w = (spot-left (spot_of_fault f) (spots_in test key) body_spots w, record { outermost = λ x i. absurd i; inner = λ x i. absurd i })

  pub own-loop : StepIs c v all p.registers fields g globals (parallel loop key test body (nodes g) r) (superstep p g q globals s)
  own-loop =
      loop-of-steps c p fields base q loop all (own_block c seg n kind key test body) key test body globals s r gs fit block shown apart ends
      (λ k lt. let t = iteration-left k lt in (t.0, t.1.outermost))

pub own-loops : OwnLoopsAreSupersteps
own-loops c p fields base q kind loop key test body globals s r table around result is typed gs fit block shown in_graph apart = own-loop c p fields base q kind loop key test body globals s r table around result is typed gs fit block shown in_graph apart
